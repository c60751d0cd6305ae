-- How what boxes have is read in the model of the yard: sections by number, holders and modes. Assumes nothing.
use Rattle.std.specs.Prelude.{ℕ, ◌+◌, ◌*◌, None, Some}
use Rattle.messages.specs.declared.yard.Section.{Section}
use Rattle.messages.specs.declared.message.Act.{Act}
use Rattle.messages.specs.declared.message.Act.TheVariants as act
use Rattle.messages.specs.Holder.{Holder}
use Rattle.sections.specs.Table.{Holder as SectionHolder}
use Rattle.signs.specs.Signs.{Wait}
use Rattle.engine_state.specs.declared.state.Mode.{Mode}
use Rattle.engine_state.specs.declared.state.Mode.TheVariants as mode
use Rattle.engine_state.specs.declared.state.State.{State}
use Rattle.yard.specs.Yard as model

-- a section by one number: its box and its place there
abbrev pub number_of : Section → ℕ
number_of s = s.keeper.0 * 64 + s.place

-- who has a section, by its box
abbrev pub holder_by : SectionHolder → model.Holder
holder_by None = model.free
holder_by (Some e) = model.by e

-- who has a section, by a message
abbrev pub holder_told : Holder → model.Holder
holder_told None = model.free
holder_told (Some e) = model.by e.0

abbrev pub called_mode : Act → ℕ → model.Mode
called_mode act.Take s = model.asking s
called_mode act.Free s = model.freeing s
called_mode act.GiveUp s = model.leaving s

abbrev pub waiting_mode : Wait → ℕ → ℕ → model.Mode
waiting_mode None s change = model.none
waiting_mode (Some j) s change = model.waiting j s change

-- the last of an engine's own records, as the model has it
abbrev pub mode_by : Mode → Wait → model.Mode
mode_by mode.Idle w = model.none
mode_by (mode.Called a s n) w = called_mode a (number_of s)
mode_by (mode.Waiting s change) w = waiting_mode w (number_of s) change

-- an engine, as the model has it
abbrev pub engine_by : State → model.Engine
engine_by x = record { mode = mode_by x.stored.mode x.signs.wait; count = x.signs.count; shown = x.signs.shown; own = x.signs.own }
