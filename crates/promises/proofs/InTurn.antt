-- In every world the sections of each box are sound, and each step makes at most one call to them.
use Rattle.std.proofs.Common.{◌≡◌, ℕ, ◌<◌, Bool, true, false, ltb, List, length, take, sym, refl, ap, ◌∙◌, subst, inl, inr, arith}
use Rattle.std.proofs.lemmas.List.{get_or_past, get_or-set_other}
use Rattle.std.proofs.lemmas.Bool.{cases_eq, cases_lt, cond_both}
use Rattle.messages.specs.declared.yard.BoxNumber.{BoxNumber}
use Rattle.messages.specs.declared.yard.Yard.{Yard}
use Rattle.messages.specs.declared.message.Call.{Call}
use Rattle.sections.specs.Table.{Table}
use Rattle.sections.proofs.Sound.{Sound, empty_sound}
use Rattle.keeper.specs.Calls.{call_of}
use Rattle.keeper.specs.Model as keeper
use Rattle.journal.specs.declared.output.Output.{Output}
use Rattle.boxes.specs.declared.signal_box.Input.{Input}
use Rattle.boxes.specs.declared.signal_box.Input.TheVariants as input
use Rattle.messages.specs.Homes.{home_of}
use Rattle.boxes.specs.Log.{none}
use Rattle.box_laws.proofs.Keepers.{call_table}
use Rattle.box_laws.proofs.Runs.{delivered_keeps, handled_keeps}
use Rattle.world.specs.declared.step.Step.{Step}
use Rattle.world.specs.declared.step.Step.TheVariants as step
use Rattle.world.specs.Station.{Restarts, Station, delivered_at, fresh_station, handled_at, opened_as}
use Rattle.world.specs.World.{Answer, Either, Envelope, Makes, World, at_box, box_at, carried, carried_cut, empty, is_box, is_sent, message_at, said, station_at, turned_away, with_message}
use Rattle.world.specs.Runs.{Reached, Run, Taken, nothing, table_in, then}
use Rattle.promises.specs.Steps.{AlwaysInTurn}
use Rattle.promises.proofs.Shapes.{WorldIn, empty_in, fresh_at, is_box_lem, makes_in, reached_in, restart_is}
use Rattle.promises.proofs.Stops.{station_said}
use Rattle.promises.proofs.Turns.{OneCall, call_sound, next_was_first, still_before}

abbrev table_of : Station → Table
table_of s = s.state.keeper.table

-- one input at a box makes at most one call to its sections
one_call : (k : keeper.State) (c : Call) → OneCall k.table (call_of k c).0.table
one_call k c = elim (call_table k c) [ inl q ↦ inl q | inr q ↦ inr (c, q) ]

handled_call : (j : Input) (s : Station) → OneCall (table_of s) (table_of (handled_at j s).0)
handled_call j s = handled_keeps (λ (k : keeper.State). OneCall (table_of s) k.table) s.state j none (inl refl) (one_call s.state.keeper)

delivered_call : (from : BoxNumber) (bytes : List ℕ) (s : Station) → OneCall (table_of s) (table_of (delivered_at from bytes s).0)
delivered_call from bytes s = delivered_keeps (λ (k : keeper.State). OneCall (table_of s) k.table) s.state from bytes none (inl refl) (one_call s.state.keeper)

-- each box's sections, before and after a step
abbrev Calls : World → World × Answer → Type 0
Calls w r = (n : BoxNumber) → OneCall (table_in w n) (table_in r.0 n)

said_calls : (w : World) (to : BoxNumber) (p : Station × List Output) → WorldIn w → to.0 < w.yard.boxes → OneCall (table_in w to) (table_of p.0) → Calls w (said w to p)
said_calls w to p i lt call n =
    elim (cases_eq n.0 to.0) [
      | inl q ↦
          subst (λ (k : ℕ). OneCall (table_in w (box_at k)) (table_in (said w to p).0 (box_at k))) (sym q)
          (subst (λ (s : Station). OneCall (table_in w to) (table_of s)) (sym (station_said w to p i lt)) call)
      | inr q ↦ inl (ap table_of (get_or-set_other w.stations to.0 n.0 p.0 (fresh_station w.yard n) q))
    ]

at_box_calls : (w : World) (n : BoxNumber) (f : Station → Station × List Output) → WorldIn w → ((s : Station) → OneCall (table_of s) (table_of (f s).0)) → Calls w (at_box w n f)
unfolding at_box
at_box_calls w n f i calls = cond_both (is_box w n) _ _ (Calls w) (λ is. said_calls w n (f (station_at w n)) i (is_box_lem w n i is) (calls (station_at w n))) (λ _ k. inl refl)

message_calls : (w : World) (m : ℕ) (f : Envelope → World × Answer) → Calls w (f (message_at w m)) → Calls w (with_message w m f)
unfolding with_message
message_calls w m f calls = cond_both (is_sent w m) _ _ (Calls w) (λ _. calls) (λ _ k. inl refl)

stop_calls : (w : World) (n : BoxNumber) (r : World × Answer) → WorldIn w → (t : Bool) → is_box w n ≡ t →
    Either t ((p : Station × List Output) × Restarts w.yard n (station_at w n) p × (r ≡ said w n p)) (r ≡ turned_away w) → Calls w r
stop_calls w n r i true is (p, restarts, q) =
    let lt = is_box_lem w n i is in
    let st = i.stations n lt in
    subst (Calls w) (sym (q ∙ ap (said w n) (restart_is w.yard n (station_at w n) st p restarts)))
    (said_calls w n (opened_as st.kept.records st.kept.opened) i lt (inl (ap (λ (k : keeper.State). k.table) st.kept.same.keeper)))
stop_calls w n r i false is q = subst (Calls w) (sym q) (λ k. inl refl)

pub makes_calls : (w : World) (s : Step) (r : World × Answer) → WorldIn w → Makes w s r → Calls w r
makes_calls w (step.Take e s) r i q = subst (Calls w) (sym q) (at_box_calls w (home_of w.yard e) (handled_at (input.Take e s)) i (handled_call (input.Take e s)))
makes_calls w (step.Free e s) r i q = subst (Calls w) (sym q) (at_box_calls w (home_of w.yard e) (handled_at (input.Free e s)) i (handled_call (input.Free e s)))
makes_calls w (step.Deliver m) r i q =
    subst (Calls w) (sym q) (message_calls w m (carried w) (at_box_calls w (message_at w m).to (delivered_at (message_at w m).from (message_at w m).bytes) i (delivered_call (message_at w m).from (message_at w m).bytes)))
makes_calls w (step.Cut m k) r i q =
    subst (Calls w) (sym q)
    (message_calls w m (carried_cut w k)
    (cond_both (ltb k (length (message_at w m).bytes)) _ _ (Calls w)
    (λ _. at_box_calls w (message_at w m).to (delivered_at (message_at w m).from (take k (message_at w m).bytes)) i (delivered_call (message_at w m).from (take k (message_at w m).bytes)))
    (λ _ n. inl refl)))
makes_calls w (step.Second n) r i q = subst (Calls w) (sym q) (at_box_calls w n (handled_at input.Second) i (handled_call input.Second))
makes_calls w (step.Stop n) r i q = stop_calls w n r i (is_box w n) refl q

-- SOUND in every world
abbrev pub AllSound : World → Type 0
AllSound w = (n : BoxNumber) → Sound (table_in w n)

empty_all : (y : Yard) → AllSound (empty y)
empty_all y n =
    subst (λ (s : Station). Sound (table_of s)) (sym fresh) empty_sound
  where
    fresh : station_at (empty y) n ≡ fresh_station y n
    fresh =
        elim (cases_lt n.0 y.boxes) [
          | inl lt ↦ fresh_at y y.boxes n.0 (fresh_station y n) lt
          | inr ge ↦ get_or_past (empty y).stations n.0 (fresh_station y n) (let c = (empty_in y).count in omega arith)
        ]

run_sound : {w u : World} {steps : List Taken} → Run w steps u → WorldIn w → AllSound w → AllSound u
run_sound nothing i all = all
run_sound (then {w = w} {u = u} {s = s} {a = a} made more) i all =
    run_sound more (makes_in w s (u, a) i made) (λ n. call_sound (table_in w n) (table_in u n) (makes_calls w s (u, a) i made n) (all n))

pub reached_sound : (w : World) → Reached w → AllSound w
reached_sound w (y, steps, run) = run_sound run (empty_in y) (empty_all y)

pub each_in_turn : AlwaysInTurn
each_in_turn w u s a place reached makes =
    let call = makes_calls w s (u, a) (reached_in w reached) makes place.keeper in (
      next_was_first (table_in w place.keeper) (table_in u place.keeper) place.place call,
      still_before (table_in w place.keeper) (table_in u place.keeper) place.place call (reached_sound w reached place.keeper),
    )
