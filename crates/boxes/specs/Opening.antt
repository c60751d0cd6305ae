-- What the records of a file make of a box, one after another. Assumes nothing.
use Rattle.std.specs.Prelude.{ℕ, ◌+◌, ◌%◌, Bool, true, false, cond, ◌&&◌, List, [], ◌∷◌, Ok, Err, Result, ◌==◌}
use Rattle.messages.specs.declared.yard.Engine.{Engine}
use Rattle.messages.specs.declared.message.Call.{Call}
use Rattle.messages.specs.declared.message.Record.{Record}
use Rattle.messages.specs.declared.message.Record.TheVariants as journal
use Rattle.keeper.specs.Model as keeper
use Rattle.keeper.specs.Calls.{call_of}
use Rattle.keeper.specs.declared.Verdict.{Verdict}
use Rattle.keeper.specs.declared.Verdict.TheVariants as verdict
use Rattle.home.specs.declared.home.Home.{Home}
use Rattle.home.specs.Home.{is_ours, apply_of}
use Rattle.home.specs.Queries.{is_next}
use Rattle.boxes.specs.declared.opening.Unwritten.{Unwritten}
use Rattle.boxes.specs.declared.signal_box.SignalBox.{SignalBox}
use Rattle.boxes.specs.Model.{State, state_of, with_keeper, with_home}

-- a call that used up its number, as every recorded one did
abbrev pub used_up : Verdict → Bool
used_up verdict.Malformed = false
used_up verdict.PassedOver = false
used_up (verdict.Again a) = false
used_up (verdict.AtLimit a) = false
used_up (verdict.Refused r a) = true
used_up (verdict.Done a) = true
used_up (verdict.PassedOn a) = true

-- an own sign leaves its engine's number when divided by the number of engines
abbrev pub leaves : Home → Engine → ℕ → Bool
leaves h e own = own % h.yard.engines == e.0

-- a record of one of ours that could have been written: the call's number is the next, the own sign is of the engine
abbrev pub is_sound : Home → Record → Bool
is_sound h (journal.Kept c) = false
is_sound h (journal.Made c) = is_next h c
is_sound h (journal.Beginning holder waits own) = is_ours h waits.engine && leaves h waits.engine own
is_sound h (journal.Heard e sign) = is_ours h e

abbrev pub kept_again : State → keeper.State × Verdict → State × Bool
kept_again b p = (with_keeper b p.0, used_up p.1)

abbrev pub kept_here : State → Call → State × Bool
kept_here b c = cond (c.section.keeper.0 == b.home.number.0) (kept_again b (call_of b.keeper c)) (b, false)

abbrev pub home_again : State → Record → State × Bool
home_again b r = cond (is_sound b.home r) (with_home b (apply_of b.home r), true) (b, false)

-- what a record makes of a box, and whether it could have been written
abbrev pub replay_of : State → Record → State × Bool
replay_of b (journal.Kept c) = kept_here b c
replay_of b (journal.Made c) = home_again b (journal.Made c)
replay_of b (journal.Beginning holder waits own) = home_again b (journal.Beginning holder waits own)
replay_of b (journal.Heard e sign) = home_again b (journal.Heard e sign)

-- the box that a list of records stands for, or which of them couldn't have been written; i: how many went before
unfoldable pub open_from : ℕ → List Record → State → Result State ℕ
open_from i [] b = Ok b
open_from i (r ∷ rs) b = cond (replay_of b r).1 (open_from (i + 1) rs (replay_of b r).0) (Err i)

abbrev pub opened : Result SignalBox Unwritten → Result State ℕ
opened (Ok b) = Ok (state_of b)
opened (Err e) = Err e.index
