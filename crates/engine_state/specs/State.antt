-- One engine of a home: what its records make of it, one after another. Assumes nothing.
use Rattle.std.specs.Prelude.{ℕ, ◌+◌, ◌^◌, cond, List, [], replicate, Some, None, Option, nat_lt, slice_index, slice_set}
use Rattle.messages.specs.declared.yard.BoxNumber.{BoxNumber}
use Rattle.messages.specs.declared.yard.Engine.{Engine}
use Rattle.messages.specs.declared.yard.Section.{Section}
use Rattle.messages.specs.declared.message.Act.{Act}
use Rattle.messages.specs.declared.message.Act.TheVariants as act
use Rattle.messages.specs.declared.message.Call.{Call}
use Rattle.signs.specs.Signs.{idle, showing}
use Rattle.engine_state.specs.declared.places.Places.{Places}
use Rattle.engine_state.specs.declared.state.Mode.{Mode}
use Rattle.engine_state.specs.declared.state.Mode.TheVariants as mode
use Rattle.engine_state.specs.declared.state.Known.{Known}
use Rattle.engine_state.specs.declared.state.Known.TheVariants as known
use Rattle.engine_state.specs.declared.state.Asked.{Asked}
use Rattle.engine_state.specs.declared.state.Asked.TheVariants as asked
use Rattle.engine_state.specs.declared.state.Stored.{Stored}
use Rattle.engine_state.specs.declared.state.State.{State}
use Rattle.engine_state.specs.Places.{same_section, no_place, with_of, without_of}

-- the section that a mode is about
abbrev pub mode_section : Mode → Option Section
mode_section mode.Idle = None
mode_section (mode.Called a s n) = Some s
mode_section (mode.Waiting s c) = Some s

abbrev pub takes : Act → Section → Option Section
takes act.Take s = Some s
takes act.Free s = None
takes act.GiveUp s = None

-- the section that a mode asks for or waits for
abbrev pub wanted : Mode → Option Section
wanted mode.Idle = None
wanted (mode.Called a s n) = takes a s
wanted (mode.Waiting s c) = Some s

abbrev pub next_of : ℕ → Option ℕ
next_of n = cond (nat_lt (n + 1) (2 ^ 32)) (Some (n + 1)) None

-- the number of the next call to a box, while there is one of four bytes
abbrev pub next_number : Stored → BoxNumber → Option ℕ
next_number x b = cond (nat_lt b.0 16) (next_of (slice_index x.used b.0)) None

abbrev pub numbered : List ℕ → BoxNumber → ℕ → List ℕ
numbered used b n = cond (nat_lt b.0 16) (slice_set used b.0 n) used

-- the last call that isn't a free, after one more call
abbrev pub asked_after : Option Asked → Act → Option Asked
asked_after x act.Take = Some asked.Took
asked_after x act.Free = x
asked_after x act.GiveUp = Some asked.GaveUp

-- what was wanted is kept, unless it is given up: the engine must have got it
abbrev pub got_by : Places → Call → Section → Act → Places
got_by x c s act.Take = with_of x s
got_by x c s act.Free = with_of x s
got_by x c s act.GiveUp = cond (same_section c.section s) x (with_of x s)

abbrev pub got_wanted : Places → Call → Option Section → Places
got_wanted x c None = x
got_wanted x c (Some s) = got_by x c s c.act

-- what is freed is kept no more
abbrev pub freed_by : Places → Section → Act → Places
freed_by x s act.Take = x
freed_by x s act.Free = without_of x s
freed_by x s act.GiveUp = x

abbrev pub kept_after : Stored → Call → Places
kept_after x c = freed_by (got_wanted x.kept c (wanted x.mode)) c.section c.act

abbrev pub stored_after : Stored → Call → Stored
stored_after x c = record {
  mode = mode.Called c.act c.section c.number;
  used = numbered x.used c.section.keeper c.number;
  kept = kept_after x c;
  asked = asked_after x.asked c.act;
}

-- a call, made: it is the mode, and pending
abbrev pub made : State → Call → State
made x c = record { stored = stored_after x.stored c; known = known.Pending; signs = idle x.signs }

-- a beginning to wait for an engine, by a count and with an own sign: it is the mode, and pending
abbrev pub begun : State → Section → ℕ → Engine → ℕ → ℕ → State
begun x s change whom count own = record {
  stored = record { mode = mode.Waiting s change; used = x.stored.used; kept = x.stored.kept; asked = x.stored.asked };
  known = known.Pending;
  signs = record { wait = Some whom.0; count = count; shown = own; own = own };
}

-- a sign, heard: it is shown
abbrev pub heard : State → ℕ → State
heard x sign = record { stored = x.stored; known = x.known; signs = showing x.signs sign }

-- how the mode's business ended
abbrev pub knowing : State → Known → State
knowing x k = record { stored = x.stored; known = k; signs = x.signs }

-- an engine of which there is no record yet
abbrev pub blank : Stored
blank = record { mode = mode.Idle; used = replicate 16 0; kept = no_place; asked = None }

-- what is read past the end of the table: nothing does
abbrev pub unread : Stored
unread = record { mode = mode.Idle; used = []; kept = record { words = [] }; asked = None }
