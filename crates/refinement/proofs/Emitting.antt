-- What a home's event gives to be said is true.
use Rattle.std.proofs.Common.{◌≡◌, ℕ, ◌<◌, true}
use Rattle.messages.specs.declared.yard.Engine.{Engine}
use Rattle.messages.specs.declared.yard.Section.{Section}
use Rattle.messages.specs.declared.yard.Yard as sizes
use Rattle.messages.specs.declared.message.Message.TheVariants as message
use Rattle.messages.specs.declared.message.Record.TheVariants as journal
use Rattle.engine_state.specs.declared.state.Event.{Event}
use Rattle.engine_state.specs.declared.state.Event.TheVariants as event
use Rattle.journal.specs.declared.output.Output.TheVariants as output
use Rattle.boxes.specs.Log.{Log, recorded, said}
use Rattle.boxes.specs.Emit.{emit_of}
use Rattle.boxes.specs.Model.{State as Box}
use Rattle.home.specs.Queries.{holds_at}
use Rattle.yard.specs.Yard as model
use Rattle.yard.specs.Yard.{put, by}
use Rattle.refinement.specs.Placed.{number_of}
use Rattle.refinement.proofs.View.{Boxes, EventTrue, state_in}
use Rattle.refinement.proofs.Telling.{Going, going-recorded, going_said, going_told, tells_going}

-- what a home counts as held by one of its engines is had by it
abbrev pub HeldIsHad : Box → model.Yard → Type 0
HeldIsHad b z = (j : Engine) (s : Section) → holds_at b.home j s ≡ true → model.holder z (number_of s) ≡ by j.0

module _ (y : sizes.Yard) (bs : Boxes) (z : model.Yard) (n : ℕ) (b : Box) (in-yard : n < y.boxes) (held : HeldIsHad b z) where
  pub emit_going : (l : Log) (e : Event) (g : Going y bs z n b l) → EventTrue y z (state_in y (put n b bs)) g.now e → Going y bs z n b (emit_of b.home e l)
  emit_going l event.PassedOver g h = g
  emit_going l (event.Refused r) g h = going_said y bs z n b l (output.Refused r) g tt
  emit_going l (event.RefusedBy r) g h = going_said y bs z n b l (output.Refused r) g tt
  emit_going l (event.Had e s) g h = going_said y bs z n b l (output.Had e s) g h
  emit_going l event.Closed g h = g
  emit_going l (event.Called c) g h =
      going_said y bs z n b (recorded l (journal.Made c)) (output.Send c.section.keeper (message.Call c)) (going-recorded y bs z n b l (journal.Made c) g) (h.1.0, h.2)
  emit_going l (event.Found c) g h =
      going_said y bs z n b (said (recorded l (journal.Made c)) (output.GiveBack c.engine)) (output.Send c.section.keeper (message.Call c))
      (going_said y bs z n b (recorded l (journal.Made c)) (output.GiveBack c.engine) (going-recorded y bs z n b l (journal.Made c) g) (h.3.0, number_of c.section, h.3.1))
      (h.1.0, h.2)
  emit_going l (event.Began start) g h =
      tells_going y bs z n b in-yard start.engine start.own h.0 h.2 (held start.engine) _
      (going_said y bs z n b (recorded l (journal.Beginning start.holder (record { engine = start.engine; section = start.section; count = start.count; change = start.change }) start.own)) (output.Send start.section.keeper (message.Waits (record { engine = start.engine; section = start.section; count = start.count; change = start.change })))
      (going-recorded y bs z n b l (journal.Beginning start.holder (record { engine = start.engine; section = start.section; count = start.count; change = start.change }) start.own) g) (tt, h.1))
  emit_going l (event.Heard e sign) g h = tells_going y bs z n b in-yard e sign h.0 h.1 (held e) _ (going-recorded y bs z n b l (journal.Heard e sign) g)
  emit_going l (event.Noted telling) g h = going_told y bs z n b l _ telling.to telling.count telling.by telling.sign (number_of h.0) g h.1 h.2 h.3
