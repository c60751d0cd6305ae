-- An input that changes nothing, one that ends a business, and one by which an engine begins to wait: each is no act of the model, or the act of beginning.
use Rattle.std.proofs.Common.{◌≡◌, ℕ, suc, ◌+◌, ◌%◌, ◌<◌, ◌≤◌, eqb, ◌⊎◌, [], ◌∷◌, Result, sym, refl, ap, ◌∙◌, inl, inr, arith}
use mathlib.Core.List.Memᴰ
use Rattle.std.proofs.lemmas.Bool.{cond_both}
use Rattle.std.proofs.lemmas.Bool.Decides.{nat_tests}
use Rattle.messages.specs.declared.yard.Section.{Section}
use Rattle.messages.specs.declared.yard.Yard as sizes
use Rattle.messages.specs.Range.{SectionIn}
use Rattle.signs.specs.declared.Engine as signs
use Rattle.signs.specs.declared.Refusal as sign_refusal
use Rattle.signs.specs.Signs.{next_own, out_of_range, has_room}
use Rattle.signs.proofs.Lowest.{own_is_lowest}
use Rattle.engine_state.specs.declared.state.Event.{Event}
use Rattle.engine_state.specs.declared.state.Event.TheVariants as event
use Rattle.engine_state.specs.declared.state.Known.{Known}
use Rattle.engine_state.specs.declared.state.State.{State}
use Rattle.engine_state.specs.State.{begun, knowing}
use Rattle.engine_state.specs.Inputs.{begun_with, begin_at}
use Rattle.keeper.specs.declared.LastCall.{LastCall}
use Rattle.home.specs.Queries.{engine}
use Rattle.yard.specs.Yard as model
use Rattle.yard.specs.Yard.{put, by, Queued, Unheard, still, then, begins, after}
use Rattle.yard.proofs.Queues.{at_put, put_other}
use Rattle.refinement.specs.Placed.{number_of}
use Rattle.refinement.proofs.View.{used_by, Ended, About, EngineAs, EventTrue, OwnStep}

-- a written place reads what was written
pub at_self : {A : Type 0} (i : ℕ) (a : A) (f : ℕ → A) → put i a f i ≡ a
at_self i a f = at_put (λ v. v ≡ a) i a f i (λ e. refl) (λ ne. absurd (ne refl))

module _ {y : sizes.Yard} {last : ℕ → LastCall} {x : State} {z : model.Yard} {e : ℕ} (h : EngineAs y last x z e) where
  -- nothing changes
  pub own_still : (ev : Event) → EventTrue y z (λ k. x) z ev → OwnStep y last z e x (x, ev)
  own_still ev t =
      record { acts = []; now = z; run = still; engine = h; others = λ k ne. refl; sections = refl; calls = λ c l w. w; event = t }

  -- it is known now how the mode's business ended
  pub own_known : (k : Known) (ev : Event) → Ended z e (λ b. (last b).number) k x.stored.mode → EventTrue y z (λ i. knowing x k) z ev → OwnStep y last z e x (knowing x k, ev)
  own_known k ev d t =
      record {
        acts = [];
        now = z;
        run = still;
        engine =
            record {
              same = h.same;
              within = h.within;
              used = h.used;
              words = h.words;
              kept = h.kept;
              has = h.has;
              ended = d;
              counted = h.counted;
              since = h.since;
            };
        others = λ k ne. refl;
        sections = refl;
        calls = λ c l w. w;
        event = t;
      }

-- that an engine may begin to wait for j in s as of change m, and that its last call was answered
pub record MayBegin (y : sizes.Yard) (last : ℕ → LastCall) (x : State) (z : model.Yard) (e : ℕ) (s : Section) (m j : ℕ) : Type 0 where
  pub section : SectionIn y s
  pub unheard : Unheard (number_of s) m (model.mode z e)
  pub place : Queued z e (number_of s) ⊎ (model.holder z (number_of s) ≡ by e)
  pub since : (z.section (number_of s)).came e ≤ m
  pub until : m ≤ (z.section (number_of s)).change
  pub past : (z.section (number_of s)).past m ≡ by j
  pub other : e ≡ j → ⊥
  pub counted : (b : ℕ) → b < y.boxes → used_by x b ≡ (last b).number
  pub about : (t : Section) → About t x.stored.mode → s ≡ t

same_waiting : {o : model.Mode} {j s m k t n : ℕ} → o ≡ model.waiting j s m → o ≡ model.waiting k t n → (j ≡ k) × (s ≡ t) × (m ≡ n)
same_waiting p q = (cc, cc, cc)

waiting≢freeing : {j s m t : ℕ} → model.waiting j s m ≡ model.freeing t → ⊥
waiting≢freeing p = let z : ◌≡◌ {A = ℕ} 0 1 = cc in omega arith

module _ {y : sizes.Yard} {last : ℕ → LastCall} {x : State} {z : model.Yard} {e : ℕ} (h : EngineAs y last x z e) (l : e < y.engines) where
  -- it begins, with any higher sign of its own
  begin_by :
      (s : Section) (m : ℕ) (j u : ℕ) → MayBegin y last x z e s m j → j < y.engines → x.signs.shown < u → u % y.engines ≡ e →
      OwnStep y last z e x (begun x s m (engine j) (x.signs.count + 1) u, event.Began (record { engine = engine e; section = s; change = m; holder = engine j; count = x.signs.count + 1; own = u }))
  begin_by s m j u g r above leaves =
      record {
        acts = begins e (number_of s) j m u ∷ [];
        now = now;
        run = then still (begins e (number_of s) j m u) (g.unheard, g.place, (g.since, g.until, g.past, g.other), (rw (ap (λ (i : model.Engine). i.shown) h.same) above, leaves));
        engine =
            record {
              same = rw here (ap (λ (c : ℕ). record { mode = model.waiting j (number_of s) m; count = c; shown = u; own = u }) one_more);
              within = (g.section, (j, refl, r));
              used = h.used;
              words = h.words;
              kept = λ t k. ((h.kept t k).0, λ f. waiting≢freeing (sym mode-now ∙ f));
              has = λ t o k. elim (h.has t o k) [ inl p ↦ inl p | inr p ↦ inr (g.about t p) ];
              ended = tt;
              counted = g.counted;
              since = λ i t n f. let q = same_waiting mode-now f in rw (← q.1, ← q.2) g.since;
            };
        others = λ k ne. put_other e _ z.engine k ne;
        sections = refl;
        calls = λ c b w. (w.0, tt);
        event = (l, Memᴰ.head (ap (λ (c : ℕ). record { engine = e; count = c; section = number_of s }) (sym one_more)), refl);
      }
    where
      now : model.Yard
      now = after z (begins e (number_of s) j m u)

      here : now.engine e ≡ model.beginning (model.waiting j (number_of s) m) u (z.engine e)
      here = at_self e _ z.engine

      mode-now : model.mode now e ≡ model.waiting j (number_of s) m
      mode-now = ap (λ (i : model.Engine). i.mode) here

      one_more : suc (model.count z e) ≡ x.signs.count + 1
      one_more = let c : model.count z e ≡ x.signs.count = ap (λ (i : model.Engine). i.count) h.same in omega arith

  -- it begins, or is refused
  pub own_begin : (s : Section) (m j : ℕ) → MayBegin y last x z e s m j → OwnStep y last z e x (begin_at x (engine e) y.engines s m (engine j))
  own_begin s m j g =
      cond_both (out_of_range e y.engines j) _ _ Turns
      (λ t. own_still h (event.Refused _) tt)
      (λ known.
      cond_both (eqb j e) _ _ Turns
      (λ t. own_still h (event.Refused _) tt)
      (λ other.
      cond_both (has_room x.signs u) _ _ Turns
      (λ t. begin_by s m j u g (grind (arith, nat_tests)) (own_is_lowest x.signs.shown e y.engines l).above (own_is_lowest x.signs.shown e y.engines l).leaves)
      (λ t. own_still h (event.Refused _) tt)))
    where
      u : ℕ
      u = next_own x.signs.shown e y.engines

      Turns : Result signs.Engine sign_refusal.Refusal → Type 0
      Turns r = OwnStep y last z e x (begun_with x (engine e) s m (engine j) r)
