-- Boxes of which there is no record yet are the model's start.
use Rattle.std.specs.Prelude.{None, Some}
use Rattle.std.proofs.Common.{◌≡◌, ℕ, zero, suc, ◌+◌, ◌*◌, ◌%◌, ◌^◌, ◌<◌, ◌≤◌, Bool, true, false, cond, ltb, get_or, replicate, sym, refl, ap, ◌∙◌, subst, inl, inr, arith}
use native.Mathlib.Nat.{zero-div}
use lib.ListN.{get_or-replicate}
use Rattle.std.proofs.lemmas.Bool.{cases_lt}
use Rattle.messages.specs.declared.yard.BoxNumber.{BoxNumber}
use Rattle.messages.specs.declared.yard.Section.{Section}
use Rattle.messages.specs.declared.yard.Yard as sizes
use Rattle.signs.proofs.Places.{fresh_signs}
use Rattle.signs.specs.declared.Engine as sign
use Rattle.engine_state.specs.declared.state.Known.{Known}
use Rattle.engine_state.specs.declared.state.Known.TheVariants as known
use Rattle.engine_state.specs.declared.state.State.{State}
use Rattle.engine_state.specs.declared.state.Stored.{Stored}
use Rattle.engine_state.specs.Places.{has_of, no_place, fits, marked}
use Rattle.engine_state.specs.State.{blank, unread}
use Rattle.keeper.specs.declared.LastCall.{LastCall}
use Rattle.keeper.specs.Model.{never}
use Rattle.sections.specs.Table as table
use Rattle.boxes.specs.Model.{fresh}
use Rattle.home.specs.Noted.{Noted}
use Rattle.home.specs.Home.{at}
use Rattle.home.specs.Queries.{engine, note_at}
use Rattle.yard.specs.Yard as model
use Rattle.yard.specs.Yard.{HasBegun}
use Rattle.refinement.proofs.View.{As, Boxes, EngineAs, SectionAs, last_at}

-- the same everywhere: read at any place, with the same past the end
pub all_same : {A : Type 0} (n : ℕ) (a : A) (i : ℕ) → get_or (replicate n a) i a ≡ a
all_same n a i = elim (cases_lt i n) [ inl h ↦ get_or-replicate n i a a h | inr h ↦ past n i h ]
  where
    past : (n i : ℕ) → n ≤ i → get_or (replicate n a) i a ≡ a
    past zero i h = refl
    past (suc n) zero h = refl
    past (suc n) (suc i) h = past n i (omega arith)

-- no section is in the empty set
none_had : (s : Section) → has_of no_place s ≡ false
none_had s = go (fits s)
  where
    go : (t : Bool) → cond t (marked (get_or (replicate 16 0) s.keeper.0 0) s.place) false ≡ false
    go true = rw (all_same {A = ℕ} 16 0 s.keeper.0) (rw (zero-div (2 ^ s.place)) refl)
    go false = refl

-- an engine of which there is no record yet
fresh_engine : ℕ → State
fresh_engine e = record { stored = blank; known = known.Pending; signs = record { wait = None; count = 0; shown = e; own = e } }

fresh_state : (y : sizes.Yard) (b : BoxNumber) (e : ℕ) → e < 64 → fresh_engine e ≡ at (fresh y b).home (engine e)
unfolding fresh_engine
fresh_state y b e h =
    let s : blank ≡ get_or (replicate 64 blank) e unread = sym (get_or-replicate 64 e blank unread h) in
    let k : known.Pending ≡ get_or (replicate 64 known.Pending) e known.Pending = sym (all_same 64 known.Pending e) in
    let g = sym (fresh_signs.1 e h) in
    ap (λ (x : Stored). record { stored = x; known = known.Pending; signs = record { wait = None; count = 0; shown = e; own = e } }) s ∙
    ap (λ (x : Known). record { stored = get_or (replicate 64 blank) e unread; known = x; signs = record { wait = None; count = 0; shown = e; own = e } }) k ∙
    ap (λ (x : sign.Engine). record { stored = get_or (replicate 64 blank) e unread; known = get_or (replicate 64 known.Pending) e known.Pending; signs = x }) g

abbrev pub fresh_boxes : sizes.Yard → Boxes
fresh_boxes y b = fresh y (record { 0 = b })

fresh_as_engine : (y : sizes.Yard) (e : ℕ) → EngineAs y (λ b. last_at (fresh_boxes y) b e) (fresh_engine e) model.start e
unfolding fresh_engine
fresh_as_engine y e =
    record {
      same = refl;
      within = tt;
      used = refl;
      words = refl;
      kept = λ s h. elim (absurd-bool (none_had s) h) [ ];
      has = λ s i h. elim (free-by h) [ ];
      ended = tt;
      counted = λ b i. all_same {A = ℕ} 16 0 b ∙ ap (λ (l : LastCall). l.number) (sym (all_same 64 never e));
      since = λ j s m h. elim (none-waits h) [ ];
    }
  where
    absurd-bool : {t : Bool} → t ≡ false → t ≡ true → ⊥
    absurd-bool p q = let z : ◌≡◌ {A = ℕ} 0 1 = cc in omega arith

    free-by : {i : ℕ} → model.free ≡ model.by i → ⊥
    free-by p = let z : ◌≡◌ {A = ℕ} 0 1 = cc in omega arith

    none-waits : {j s m : ℕ} → model.none ≡ model.waiting j s m → ⊥
    none-waits p = let z : ◌≡◌ {A = ℕ} 0 1 = cc in omega arith

fresh_note : (y : sizes.Yard) (b e : ℕ) → note_at (fresh_boxes y b).home (engine e) ≡ None
fresh_note y b e = go (ltb e 64)
  where
    nothing : Noted
    nothing = None

    go : (t : Bool) → cond t (get_or (replicate 64 nothing) e nothing) nothing ≡ nothing
    go true = all_same 64 nothing e
    go false = refl

pub fresh_as : (y : sizes.Yard) → y.engines ≤ 64 → As y (fresh_boxes y) model.start
fresh_as y few =
    record {
      sections = λ b p i h. subst (λ (s : table.Section). SectionAs s ((model.start).section (b * 64 + p))) (sym (all_same 64 table.idle p)) (record { holder = refl; queue = refl; change = refl });
      engines = λ e i. subst (λ (x : State). EngineAs y (λ b. last_at (fresh_boxes y) b e) x model.start e) (fresh_state y (record { 0 = e % y.boxes }) e (omega arith)) (fresh_as_engine y e);
      notes = λ b e s c i q. elim (nothing-waits (fresh_note y b e) q) [ ];
    }
  where
    nothing-waits : {x : Noted} {s : Section} {m : ℕ} → x ≡ None → x ≡ Some (record { section = s; count = m }) → ⊥
    nothing-waits p q = let z : ◌≡◌ {A = ℕ} 0 1 = cc in omega arith
