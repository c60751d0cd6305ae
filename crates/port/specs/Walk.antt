-- WHOM AN ENGINE WAITS FOR BY THE QUEUES OF ALL BOXES, AND THE WAY ALONG WAITS BACK TO IT. Assumes nothing.
use Rattle.std.specs.Prelude.{ℕ, zero, suc, ◌+◌, Bool, cond, List, [], Some, None, Option, ◌==◌}
use Rattle.messages.specs.declared.yard.Engine.{Engine}
use Rattle.messages.specs.Holder.{Holder}
use Rattle.keeper.specs.Words.{holder_of}
use Rattle.sections.specs.Table.{Table, holder_at, is_in, queue_at}
use Rattle.boxes.specs.Model.{State}
use Rattle.world.specs.World.{World, box_at, state_at}
use Rattle.ring_search.specs.Chase.{chase}

-- the one, or else the other
abbrev pub or_else : {A : Type 0} → Option A → Option A → Option A
or_else (Some x) other = Some x
or_else None other = other

-- the first that there is under so many numbers from n on
unfoldable pub first_from : {A : Type 0} → (ℕ → Option A) → ℕ → ℕ → Option A
first_from f zero n = None
first_from f (suc left) n = or_else (f n) (first_from f left (n + 1))

-- who has the section at a place, if the engine stands in its queue
abbrev pub whom_at : Table → ℕ → ℕ → Option Holder
whom_at t e place = cond (is_in e (queue_at t place)) (Some (holder_of (holder_at t place))) None

-- the same of the first such place of 64
abbrev pub whom_in : Table → ℕ → Option Holder
whom_in t e = first_from (whom_at t e) 64 0

abbrev pub whom_by : ℕ → Option State → Option Holder
whom_by e None = None
whom_by e (Some s) = whom_in s.keeper.table e

-- whom an engine waits for: by the first box that has it in a queue
abbrev pub whom_of : World → Engine → Option Holder
whom_of w e = first_from (λ b. whom_by e.0 (state_at w (box_at b))) w.yard.boxes 0

-- on from an engine by whom it waits for: the waits end where nobody has the section
abbrev pub after_of : Option Holder → Option Engine
after_of None = None
after_of (Some None) = None
after_of (Some (Some next)) = Some next

abbrev pub same : Engine → Engine → Bool
same a b = a.0 == b.0

-- along waits from one engine, at most so many, until they come back to the first: the engines passed
abbrev pub walk : (Engine → Option Holder) → Engine → ℕ → Engine → List Engine → Option (List Engine)
walk whom = chase same (λ e. after_of (whom e))

-- the ring that an engine stands in, from it on, if the waits come back to it
abbrev pub ring_from : World → Engine → Option (List Engine)
ring_from w e = walk (whom_of w) e 64 e []
