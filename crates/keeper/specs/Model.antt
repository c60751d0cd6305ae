-- What a keeper stands for: its sections, and by engine the last call. Assumes nothing.
use Rattle.std.specs.Prelude.{ℕ, List, replicate, slice_index_or, None}
use Rattle.messages.specs.declared.message.Reply.TheVariants as reply
use Rattle.sections.specs.Table.{Table, empty}
use Rattle.sections.specs.Model.{table_of}
use Rattle.keeper.specs.declared.Keeper.{Keeper}
use Rattle.keeper.specs.declared.LastCall.{LastCall}

-- a box's sections by place, and the last calls by engine
pub record State : Type 0 where
  pub table : Table
  pub calls : List LastCall

-- what a keeper in memory stands for
abbrev pub model_of : Keeper → State
model_of k = record { table = table_of k.sections; calls = k.calls }

-- what stands for an engine that never called
abbrev pub never : LastCall
never = record { number = 0; answer = record { reply = reply.Done; holder = None; change = 0 } }

-- a keeper that nobody called
abbrev pub fresh : State
fresh = record { table = empty; calls = replicate 64 never }

-- the last call of an engine that used up its number
abbrev pub last_of : State → ℕ → LastCall
last_of k e = slice_index_or k.calls e never
