-- A second: all that is said again is true, and every sign told is an act of the model.
use Rattle.std.specs.Prelude.{None, Some}
use Rattle.std.proofs.Common.{◌≡◌, ℕ, ◌%◌, ◌<◌, ◌≤◌, Bool, true, false, cond, Some, None, sym, refl, ap, ◌∙◌, subst, le_refl}
use Rattle.std.proofs.lemmas.Bool.{eqb-true, ltb-true, and_parts, eq-eqb}
use Rattle.messages.specs.declared.yard.Engine.{Engine}
use Rattle.messages.specs.declared.yard.Section.{Section}
use Rattle.messages.specs.declared.yard.Yard as sizes
use Rattle.messages.specs.declared.message.Act.{Act}
use Rattle.messages.specs.declared.message.Message.TheVariants as message
use Rattle.signs.specs.Signs as whom
use Rattle.engine_state.specs.declared.state.Known.{Known}
use Rattle.engine_state.specs.declared.state.Known.TheVariants as known
use Rattle.engine_state.specs.declared.state.Mode.{Mode}
use Rattle.engine_state.specs.declared.state.Mode.TheVariants as mode
use Rattle.engine_state.specs.declared.state.State.{State}
use Rattle.engine_state.specs.Calls.{if_pending, call_of_mode, open_of, wait_of_mode, wait_of}
use Rattle.keeper.specs.declared.LastCall.{LastCall}
use Rattle.journal.specs.declared.output.Output.TheVariants as output
use Rattle.boxes.specs.Log.{Log, none, sent}
use Rattle.boxes.specs.Model.{State as Box}
use Rattle.boxes.specs.Handle.{open_again, wait_again, tell_again, second_for, second_of}
use Rattle.home.specs.Home.{is_ours, at}
use Rattle.home.specs.Queries.{engine}
use Rattle.yard.specs.Yard as model
use Rattle.yard.specs.Yard.{put, by, HasBegun, Reach}
use Rattle.yard.proofs.Sound.{reach_on, sound}
use Rattle.refinement.specs.Placed.{number_of, mode_by}
use Rattle.refinement.proofs.View.{As, Boxes, Counted, EngineAs, ModeIn, SameCall, Sized, WasCalled, last_at, state_in, used_by}
use Rattle.refinement.proofs.Telling.{Going, each_going, going_said, tells_going}
use Rattle.refinement.proofs.Handling.{HeldLaw, Handled, going_start, handled}

-- an engine's last call, if it is open, was made
call_said : (y : sizes.Yard) (last : ℕ → LastCall) (x : State) (z : model.Yard) (e : ℕ) → EngineAs y last x z e → (a : Act) (s : Section) (n : ℕ) → x.stored.mode ≡ mode.Called a s n →
    (s.keeper.0 < y.boxes) × WasCalled x (record { act = a; engine = engine e; section = s; number = n })
call_said y last x z e k a s n q =
    let i : s.keeper.0 < y.boxes = (subst (λ (m : Mode). ModeIn y m x.signs.wait) q k.within).0 in
    let c : Counted z e s.keeper.0 (last s.keeper.0) (used_by x s.keeper.0) (mode.Called a s n) = subst (λ (m : Mode). Counted z e s.keeper.0 (last s.keeper.0) (used_by x s.keeper.0) m) q (k.counted s.keeper.0 i) in
    (i, (subst (λ (m : ℕ). n ≤ m) (c.0 refl).0 (le_refl n), subst (λ (m : Mode). SameCall (record { act = a; engine = engine e; section = s; number = n }) m) (sym q) (λ u v. (refl, refl))))

-- an engine of ours is at this box
pub state_here : (y : sizes.Yard) (bs : Boxes) (n : ℕ) (b : Box) (e : ℕ) → e % y.boxes ≡ n → state_in y (put n b bs) e ≡ at b.home (engine e)
state_here y bs n b e q = rw (eq-eqb (e % y.boxes) n q)

-- who is ours
pub ours : (y : sizes.Yard) (n : ℕ) (b : Box) → Sized y n b → (e : Engine) → is_ours b.home e ≡ true → (e.0 < y.engines) × (e.0 % y.boxes ≡ n)
ours y n b k e q =
    let p = and_parts _ _ q in
    (subst (λ (w : sizes.Yard). e.0 < w.engines) k.yard (ltb-true _ _ p.0), ap (λ (w : sizes.Yard). e.0 % w.boxes) (sym k.yard) ∙ eqb-true _ _ p.1 ∙ k.number)

module _ (y : sizes.Yard) (held : HeldLaw y) (bs : Boxes) (z : model.Yard) (n : ℕ) (reach : Reach y.engines z) (in-yard : n < y.boxes) (a : As y bs z) (k : Sized y n (bs n)) where
  engine_now : (l : Log) (g : Going y bs z n (bs n) l) (e : ℕ) → is_ours (bs n).home (engine e) ≡ true → EngineAs y (λ b. last_at (put n (bs n) bs) b e) (at (bs n).home (engine e)) g.now e
  engine_now l g e q =
      let o = ours y n (bs n) k (engine e) q in
      subst (λ (x : State). EngineAs y (λ b. last_at (put n (bs n) bs) b e) x g.now e) (state_here y bs n (bs n) e o.1) (g.holds.engines e o.0)

  open_mode : (l : Log) (g : Going y bs z n (bs n) l) (e : ℕ) → is_ours (bs n).home (engine e) ≡ true → (i : Known) (m : Mode) → (at (bs n).home (engine e)).stored.mode ≡ m →
      Going y bs z n (bs n) (open_again (if_pending i (call_of_mode m (engine e))) l)
  open_mode l g e q known.Had m p = g
  open_mode l g e q known.Closed m p = g
  open_mode l g e q known.Pending mode.Idle p = g
  open_mode l g e q known.Pending (mode.Waiting s c) p = g
  open_mode l g e q known.Pending (mode.Called b s m) p =
      let o = ours y n (bs n) k (engine e) q in
      let h = call_said y _ (at (bs n).home (engine e)) g.now e (engine_now l g e q) b s m p in
      going_said y bs z n (bs n) l (output.Send s.keeper (message.Call (record { act = b; engine = engine e; section = s; number = m }))) g
      (h.0, subst (λ (x : State). WasCalled x (record { act = b; engine = engine e; section = s; number = m })) (sym (state_here y bs n (bs n) e o.1)) h.1)

  open_going : (l : Log) (g : Going y bs z n (bs n) l) (e : ℕ) (t : Bool) → is_ours (bs n).home (engine e) ≡ t →
      Going y bs z n (bs n) (open_again (cond t (open_of (at (bs n).home (engine e)) (engine e)) None) l)
  open_going l g e true q = open_mode l g e q (at (bs n).home (engine e)).known (at (bs n).home (engine e)).stored.mode refl
  open_going l g e false q = g

  wait_mode : (l : Log) (g : Going y bs z n (bs n) l) (e : ℕ) → is_ours (bs n).home (engine e) ≡ true → (i : Known) (m : Mode) (w : whom.Wait) →
      (at (bs n).home (engine e)).stored.mode ≡ m → (at (bs n).home (engine e)).signs.wait ≡ w →
      Going y bs z n (bs n) (wait_again (engine e) (if_pending i (wait_of_mode m w (at (bs n).home (engine e)).signs.count)) l)
  wait_mode l g e q known.Had m w p r = g
  wait_mode l g e q known.Closed m w p r = g
  wait_mode l g e q known.Pending mode.Idle w p r = g
  wait_mode l g e q known.Pending (mode.Called b s c) w p r = g
  wait_mode l g e q known.Pending (mode.Waiting s c) None p r = g
  wait_mode l g e q known.Pending (mode.Waiting s c) (Some j) p r =
      let x : State = at (bs n).home (engine e) in
      let f = engine_now l g e q in
      let m : model.mode g.now e ≡ model.waiting j (number_of s) c =
      ap (λ (v : model.Engine). v.mode) f.same ∙ ap (λ (v : Mode). mode_by v x.signs.wait) p ∙ ap (λ (v : whom.Wait). mode_by (mode.Waiting s c) v) r in
      let h : HasBegun g.now e x.signs.count (number_of s) =
      subst (λ (v : ℕ). HasBegun g.now e v (number_of s)) (ap (λ (v : model.Engine). v.count) f.same) ((sound (reach_on reach g.run)).signs.begun_now e j (number_of s) c m) in
      going_said y bs z n (bs n) (sent l s.keeper (message.Waits (record { engine = engine e; section = s; count = x.signs.count; change = c }))) (output.Send s.keeper (message.WhichChange (engine e) s))
      (going_said y bs z n (bs n) l (output.Send s.keeper (message.Waits (record { engine = engine e; section = s; count = x.signs.count; change = c }))) g (tt, h)) (tt, tt)

  wait_going : (l : Log) (g : Going y bs z n (bs n) l) (e : ℕ) (t : Bool) → is_ours (bs n).home (engine e) ≡ t →
      Going y bs z n (bs n) (wait_again (engine e) (cond t (wait_of (at (bs n).home (engine e))) None) l)
  wait_going l g e true q = wait_mode l g e q (at (bs n).home (engine e)).known (at (bs n).home (engine e)).stored.mode (at (bs n).home (engine e)).signs.wait refl refl
  wait_going l g e false q = g

  tell_going : (l : Log) (g : Going y bs z n (bs n) l) (e : ℕ) (t : Bool) → is_ours (bs n).home (engine e) ≡ t →
      Going y bs z n (bs n) (tell_again (bs n).home (engine e) (cond t (Some (at (bs n).home (engine e)).signs) None) l)
  tell_going l g e true q =
      let o = ours y n (bs n) k (engine e) q in
      tells_going y bs z n (bs n) in-yard (engine e) (at (bs n).home (engine e)).signs.shown o.0 (ap (λ (x : State). x.signs.shown) (state_here y bs n (bs n) e o.1))
      (held bs z n in-yard k a (engine e)) l g
  tell_going l g e false q = g

  second_going : (e : ℕ) (l : Log) → Going y bs z n (bs n) l → Going y bs z n (bs n) (second_for (bs n).home (engine e) l)
  second_going e l g =
      tell_going _ (wait_going _ (open_going l g e (is_ours (bs n).home (engine e)) refl) e (is_ours (bs n).home (engine e)) refl) e (is_ours (bs n).home (engine e)) refl

  pub second_handled : Handled y bs z n (bs n, second_of (bs n).home none)
  second_handled =
      handled y bs z n _ _ (each_going y bs z n (bs n) (λ e. second_for (bs n).home (engine e)) (λ e l g. second_going e l g) (bs n).home.yard.engines none (going_start y bs z n a))
