-- Reading at the changed place gives the new value, and elsewhere the old one, array by array.
-- Assumes nothing.
use Rattle.std.proofs.Common.{◌≡◌, ℕ, refl, ◌∙◌, arith, length-set, get_or-set_other, get_or-set_same, None}
use Rattle.std.proofs.lemmas.List.FromFn.{get_or-range_with_len}
use Rattle.std.proofs.lemmas.List.{get_or-replicate}
use Rattle.signs.specs.Signs.{Wait}
use Rattle.signs.specs.declared.Engine.{Engine}
use Rattle.signs.specs.Table.{FreshSigns, PutOne}

same_engine :
    {w v : Wait} {c d s t o p : ℕ} → w ≡ v → c ≡ d → s ≡ t → o ≡ p →
    ◌≡◌ {A = Engine} (record { wait = w; count = c; shown = s; own = o }) (record { wait = v; count = d; shown = t; own = p })
same_engine waits counts shown own = cc

pub fresh_signs : FreshSigns
fresh_signs = (
  record { waits = refl; counts = refl; shown = refl; own = refl },
  λ e h.
      same_engine
      (get_or-replicate 64 e None None h) (get_or-replicate 64 e 0 0 h) (omega (arith, get_or-range_with_len 0 64 e 0 h)) (omega (arith, get_or-range_with_len 0 64 e 0 h)),
)

pub put_one : PutOne
put_one t s e x h = (
  record {
    waits = length-set t.waits e x.wait ∙ s.waits;
    counts = length-set t.counts e x.count ∙ s.counts;
    shown = length-set t.shown e x.shown ∙ s.shown;
    own = length-set t.own e x.own ∙ s.own;
  },
  same_engine
      (get_or-set_same t.waits e x.wait None (omega arith))
      (get_or-set_same t.counts e x.count 0 (omega arith))
      (get_or-set_same t.shown e x.shown 0 (omega arith))
      (get_or-set_same t.own e x.own 0 (omega arith)),
  λ k ne.
      same_engine
      (get_or-set_other t.waits e k x.wait None ne)
      (get_or-set_other t.counts e k x.count 0 ne)
      (get_or-set_other t.shown e k x.shown 0 ne)
      (get_or-set_other t.own e k x.own 0 ne),
)
