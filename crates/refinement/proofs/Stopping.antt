-- A box that stops and comes up with what it had stored is as the model has it: a stop is no act of the model. And boxes that nobody called are the model's start.
use Rattle.std.specs.Prelude.{None, Some}
use Rattle.std.proofs.Common.{◌≡◌, ℕ, ◌+◌, ◌*◌, ◌%◌, ◌<◌, Bool, cond, ◌⊎◌, get_or, sym, ap, subst, inl, inr, arith}
use mathlib.Core.Path.{fun_ext}
use Rattle.std.proofs.lemmas.Bool.{cases_eq, eq-eqb, ne_eqb}
use Rattle.messages.specs.declared.yard.Section.{Section}
use Rattle.messages.specs.declared.yard.Yard as sizes
use Rattle.messages.specs.declared.message.Call.{Call}
use Rattle.messages.specs.declared.message.Message.TheVariants as message
use Rattle.engine_state.specs.declared.state.Known.{Known}
use Rattle.engine_state.specs.declared.state.Known.TheVariants as known
use Rattle.engine_state.specs.declared.state.State.{State}
use Rattle.engine_state.specs.State.{knowing}
use Rattle.keeper.specs.declared.LastCall.{LastCall}
use Rattle.keeper.specs.Model.{last_of}
use Rattle.sections.specs.Table.{place_at}
use Rattle.boxes.specs.Model.{State as Box}
use Rattle.home.specs.Noted.{Noted}
use Rattle.home.specs.Home.{at}
use Rattle.home.specs.Queries.{engine, note_at}
use Rattle.yard.specs.Yard as model
use Rattle.yard.specs.Yard.{put, HasBegun}
use Rattle.refinement.specs.Placed.{number_of}
use Rattle.refinement.proofs.View.{AnswerStands, As, Boxes, EngineAs, SectionAs, WasCalled, last_at, state_in}
use Rattle.refinement.proofs.Telling.{Stays}

-- a box that came up: what was stored is as it was, and nothing is known besides
pub record Reopened (b c : Box) : Type 0 where
  pub keeper : c.keeper ≡ b.keeper
  pub signs : c.home.signs ≡ b.home.signs
  pub stored : c.home.stored ≡ b.home.stored
  pub known : (e : ℕ) → get_or c.home.known e known.Pending ≡ known.Pending
  pub notes : (e : ℕ) → note_at c.home (engine e) ≡ None

forgets : (y : sizes.Yard) (l : ℕ → LastCall) (x : State) (z : model.Yard) (e : ℕ) → EngineAs y l x z e → EngineAs y l (knowing x known.Pending) z e
forgets y l x z e h =
    record { same = h.same; within = h.within; used = h.used; words = h.words; kept = h.kept; has = h.has; ended = tt; counted = h.counted; since = h.since }

same_state : (b c : Box) → Reopened b c → (e : ℕ) → knowing (at b.home (engine e)) known.Pending ≡ at c.home (engine e)
same_state b c r e = rw (← r.signs, ← r.stored) (ap (λ (k : Known). knowing (at c.home (engine e)) k) (sym (r.known e)))

clash : {x : Noted} {s : Section} {m : ℕ} → x ≡ None → x ≡ Some (record { section = s; count = m }) → ◌≡◌ {A = ℕ} 0 1
clash p q = cc

omega_false : ◌≡◌ {A = ℕ} 0 1 → ⊥
omega_false q = omega arith

module _ (y : sizes.Yard) (bs : Boxes) (z : model.Yard) (n : ℕ) (c : Box) (r : Reopened (bs n) c) where
  state_after : (e : ℕ) → (state_in y (put n c bs) e ≡ state_in y bs e) ⊎ (knowing (state_in y bs e) known.Pending ≡ state_in y (put n c bs) e)
  state_after e =
      elim (cases_eq (e % y.boxes) n) [
        | inl q ↦ inr (rw (eq-eqb (e % y.boxes) n q, q) (same_state (bs n) c r e))
        | inr q ↦ inl (rw (ne_eqb (e % y.boxes) n q))
      ]

  keeper_after : (b : ℕ) → (put n c bs b).keeper ≡ (bs b).keeper
  keeper_after b =
      elim (cases_eq b n) [ inl q ↦ rw (eq-eqb b n q, q) r.keeper | inr q ↦ rw (ne_eqb b n q) ]

  engine_after : (e : ℕ) → EngineAs y (λ b. last_at bs b e) (state_in y bs e) z e → EngineAs y (λ b. last_at (put n c bs) b e) (state_in y (put n c bs) e) z e
  engine_after e h =
      let l : (λ b. last_at bs b e) ≡ (λ b. last_at (put n c bs) b e) = fun_ext (λ b. ap (λ k. last_of k e) (sym (keeper_after b))) in
      subst (λ (f : ℕ → LastCall). EngineAs y f (state_in y (put n c bs) e) z e) l
      (elim (state_after e) [
        | inl q ↦ subst (λ (x : State). EngineAs y (λ b. last_at bs b e) x z e) (sym q) h
        | inr q ↦ subst (λ (x : State). EngineAs y (λ b. last_at bs b e) x z e) q (forgets y _ (state_in y bs e) z e h)
      ])

  -- a stop is no act of the model
  pub stop_as : As y bs z → As y (put n c bs) z
  stop_as a =
      record {
        sections = λ b p i k. subst (λ x. SectionAs (place_at x.table p) (z.section (b * 64 + p))) (sym (keeper_after b)) (a.sections b p i k);
        engines = λ e i. engine_after e (a.engines e i);
        notes = λ b e s m i q. noted b e s m i (cases_eq b n) q;
      }
    where
      noted : (b e : ℕ) (s : Section) (m : ℕ) → b < y.boxes → (b ≡ n) ⊎ (b ≡ n → ⊥) → note_at (put n c bs b).home (engine e) ≡ Some (record { section = s; count = m }) → HasBegun z e m (number_of s)
      noted b e s m i (inl p) q =
          let k : note_at c.home (engine e) ≡ Some (record { section = s; count = m }) = subst (λ (t : Bool). note_at (cond t c (bs b)).home (engine e) ≡ Some (record { section = s; count = m })) (eq-eqb b n p) q in
          let w : ◌≡◌ {A = ℕ} 0 1 = clash (r.notes e) k in
          elim (omega_false w) [ ]
      noted b e s m i (inr p) q = a.notes b e s m i (subst (λ (t : Bool). note_at (cond t c (bs b)).home (engine e) ≡ Some (record { section = s; count = m })) (ne_eqb b n p) q)

  called_after : (e : ℕ) (d : Call) → WasCalled (state_in y bs e) d → WasCalled (state_in y (put n c bs) e) d
  called_after e d h = elim (state_after e) [ inl q ↦ subst (λ (x : State). WasCalled x d) (sym q) h | inr q ↦ subst (λ (x : State). WasCalled x d) q h ]

  pub stop_stays : Stays y bs z (put n c bs) z
  stop_stays from (message.Call d) t h = called_after d.engine.0 d h
  stop_stays from (message.Answer e m answer) t h = subst (λ x. AnswerStands (last_of x e.0) m answer) (sym (keeper_after from.0)) h
  stop_stays from (message.Change news) t h = h
  stop_stays from (message.WhichChange e s) t h = h
  stop_stays from (message.Sign telling) t h = h
  stop_stays from (message.Waits waiting) t h = h
