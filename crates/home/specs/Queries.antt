-- What is asked of a home, by one of its engines. Assumes nothing.
use Rattle.std.specs.Prelude.{ℕ, ◌+◌, Bool, false, cond, ◌&&◌, map, Some, None, Option, ◌==◌, nat_lt, slice_index, slice_index_or}
use Rattle.std.specs.List.{find, range_with_len}
use Rattle.messages.specs.declared.yard.Engine.{Engine}
use Rattle.messages.specs.declared.yard.Section.{Section}
use Rattle.messages.specs.declared.message.Call.{Call}
use Rattle.signs.specs.declared.Engine as signs
use Rattle.engine_state.specs.declared.state.Wait.{Wait}
use Rattle.engine_state.specs.Calls.{open_of, wait_of, holds_of, giving_back}
use Rattle.home.specs.declared.home.Home.{Home}
use Rattle.home.specs.Noted.{Noted}
use Rattle.home.specs.Home.{is_ours, at}

-- the call of an engine of ours that is open
abbrev pub open_at : Home → Engine → Option Call
open_at h e = cond (is_ours h e) (open_of (at h e) e) None

-- the wait of an engine of ours that stands
abbrev pub wait_at : Home → Engine → Option Wait
wait_at h e = cond (is_ours h e) (wait_of (at h e)) None

-- an engine of ours holds a section
abbrev pub holds_at : Home → Engine → Section → Bool
holds_at h e s = cond (is_ours h e) (holds_of (at h e) s) false

abbrev pub giving_back_at : Home → Engine → Bool
giving_back_at h e = cond (is_ours h e) (giving_back (at h e)) false

abbrev pub signs_at : Home → Engine → Option signs.Engine
signs_at h e = cond (is_ours h e) (Some (at h e).signs) None

-- what is noted of an engine of the yard
abbrev pub note_at : Home → Engine → Noted
note_at h e = cond (nat_lt e.0 64) (slice_index_or h.notes e.0 None) None

-- the engine of a number
abbrev pub engine : ℕ → Engine
engine n = record { 0 = n }

-- the lowest of a yard's engines that passes a test
unfoldable pub lowest : (Engine → Bool) → Option Engine
lowest passes = find passes (map engine (range_with_len 0 64))

-- the lowest of ours that holds a section
abbrev pub holder_of : Home → Section → Option Engine
holder_of h s = lowest (λ e. holds_at h e s)

-- a call of one of ours has the number after the last one used with that box
abbrev pub is_next : Home → Call → Bool
is_next h c =
    cond (is_ours h c.engine)
    (nat_lt c.section.keeper.0 16 && slice_index (at h c.engine).stored.used c.section.keeper.0 + 1 == c.number)
    false
