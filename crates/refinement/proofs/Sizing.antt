-- Whatever comes to a box its tables keep their sizes.
use Rattle.std.specs.Prelude.{None, Some}
use Rattle.std.proofs.Common.{◌≡◌, ℕ, Bool, true, false, cond, not, ◌||◌, leb, List, map, length, set, Some, None, Ok, Err, Option, Result, ◌∙◌, length-set}
use lib.ListN.{length-map}
use Rattle.messages.specs.declared.yard.Engine.{Engine}
use Rattle.messages.specs.declared.yard.Section.{Section}
use Rattle.messages.specs.declared.yard.Yard as sizes
use Rattle.messages.specs.declared.message.Call.{Call}
use Rattle.messages.specs.declared.message.Refusal.{Refusal}
use Rattle.messages.specs.declared.message.Refusal.TheVariants as refusal
use Rattle.engine_state.specs.declared.state.Event.{Event}
use Rattle.engine_state.specs.declared.state.Event.TheVariants as event
use Rattle.engine_state.specs.Inputs.{answer_at, change_at, sign_at}
use Rattle.engine_state.specs.declared.state.State.{State}
use Rattle.home.specs.declared.home.Home.{Home}
use Rattle.home.specs.Noted.{Noted}
use Rattle.home.specs.Home.{is_home, is_ours, at, with, made_of}
use Rattle.home.specs.Inputs.{taken, freed, taking, freeing, unless_for, with_notes, put_in, noted_for, is_older, has_section}
use Rattle.home.specs.Queries.{holder_of, note_at}
use Rattle.home_laws.specs.Steps as homes
use Rattle.boxes.specs.Model.{State as Box, with_home}
use Rattle.refinement.proofs.View.{Sized}

module _ (y : sizes.Yard) (n : ℕ) (b : Box) where
  put_sized : (h : Home) → Sized y n (with_home b h) → (e : Engine) (x : State) → Sized y n (with_home b (with h e x))
  put_sized h s e x =
      record {
        yard = s.yard;
        number = s.number;
        signs = record {
          waits = length-set _ _ _ ∙ s.signs.waits;
          counts = length-set _ _ _ ∙ s.signs.counts;
          shown = length-set _ _ _ ∙ s.signs.shown;
          own = length-set _ _ _ ∙ s.signs.own;
        };
        stored = length-set _ _ _ ∙ s.stored;
        known = length-set _ _ _ ∙ s.known;
        notes = s.notes;
        table = s.table;
        calls = s.calls;
      }

  if_sized : (h : Home) (t : Bool) (e : Engine) (x : State) → Sized y n (with_home b h) → Sized y n (with_home b (cond t (with h e x) h))
  if_sized h true e x s = put_sized h s e x
  if_sized h false e x s = s

  noted_sized : (h : Home) (xs : List _) → length xs ≡ length h.notes → Sized y n (with_home b h) → Sized y n (with_home b (with_notes h xs))
  noted_sized h xs q s =
      record {
        yard = s.yard;
        number = s.number;
        signs = s.signs;
        stored = s.stored;
        known = s.known;
        notes = q ∙ s.notes;
        table = s.table;
        calls = s.calls;
      }

  taken_sized : (h : Home) (r : Result Call Refusal) → Sized y n (with_home b h) → Sized y n (with_home b (taken h r).0)
  taken_sized h (Ok c) s = if_sized h (is_ours h c.engine) c.engine _ s
  taken_sized h (Err r) s = s

  freed_sized : (h : Home) (p : Section) (r : Result Call Refusal) → Sized y n (with_home b h) → Sized y n (with_home b (freed h p r).0)
  freed_sized h p (Ok c) s =
      noted_sized (made_of h c) (map (unless_for p) (made_of h c).notes) (length-map (made_of h c).notes (unless_for p)) (if_sized h (is_ours h c.engine) c.engine _ s)
  freed_sized h p (Err r) s = s

  ours_sized : (h : Home) (t : Bool) (e : Engine) (f : State → State × Event) (v : Event) → Sized y n (with_home b h) → Sized y n (with_home b (cond t (put_in h e (f (at h e))) (h, v)).0)
  ours_sized h true e f v s = put_sized h s e (f (at h e)).0
  ours_sized h false e f v s = s

  sign_sized : (h : Home) (t u : Bool) (e : Engine) (f : State → State × Event) (v w : Event) → Sized y n (with_home b h) →
      Sized y n (with_home b (cond {A = Home × Event} u (cond t (put_in h e (f (at h e))) (h, v)) (h, w)).0)
  sign_sized h t true e f v w s = ours_sized h t e f v s
  sign_sized h t false e f v w s = s

  note_sized : (h : Home) (t u : Bool) (xs : List Noted) (v w a : Event) → length xs ≡ length h.notes → Sized y n (with_home b h) →
      Sized y n (with_home b (cond {A = Home × Event} t (h, v) (cond u (with_notes h xs, w) (h, a))).0)
  note_sized h true u xs v w a q s = s
  note_sized h false true xs v w a q s = noted_sized h xs q s
  note_sized h false false xs v w a q s = s

  waits_sized : (h : Home) (e : Engine) (p : Section) (c : ℕ) (t : Bool) (v : Event) (o : Option Engine) → Sized y n (with_home b h) →
      Sized y n (with_home b (cond {A = Home × Event} t (h, v) (noted_for h e p c o)).0)
  waits_sized h e p c true v o s = s
  waits_sized h e p c false v None s = s
  waits_sized h e p c false v (Some k) s =
      note_sized h (leb 64 e.0 || is_older c (note_at h e)) (is_ours h k) (set h.notes e.0 (Some (record { section = p; count = c }))) event.PassedOver (event.Noted (record { to = e; count = c; by = k; sign = (at h k).signs.shown })) event.PassedOver (length-set h.notes e.0 (Some (record { section = p; count = c }))) s

pub home_sized : (y : sizes.Yard) (n : ℕ) (b : Box) → Sized y n b → (i : homes.Input) → Sized y n (with_home b (homes.step_of b.home i).0)
home_sized y n b s (homes.take e p) = taken_sized y n b b.home (taking b.home e p) s
home_sized y n b s (homes.free e p) = freed_sized y n b b.home p (freeing b.home e p) s
home_sized y n b s (homes.answer from e m r h c) = ours_sized y n b b.home (is_ours b.home e) e (λ x. answer_at x from e b.home.yard.engines m r h c) (event.Refused refusal.Malformed) s
home_sized y n b s (homes.change e p h c) = ours_sized y n b b.home (is_ours b.home e) e (λ x. change_at x e b.home.yard.engines p h c) (event.Refused refusal.Malformed) s
home_sized y n b s (homes.sign from e m k v) =
    sign_sized y n b b.home (is_ours b.home e) (is_home b.home.yard from k) e (λ x. sign_at x e m k v) (event.Refused refusal.Malformed) (event.Refused refusal.Malformed) s
home_sized y n b s (homes.waits e p m) =
    waits_sized y n b b.home e p m (leb b.home.yard.engines e.0 || not (has_section b.home p)) (event.Refused refusal.Malformed) (holder_of b.home p) s
