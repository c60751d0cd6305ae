-- What is turned away by a box: a refusal is the first that it says. Assumes nothing.
use Rattle.std.specs.Prelude.{◌≡◌, List, ◌∷◌}
use Rattle.messages.specs.declared.yard.BoxNumber.{BoxNumber}
use Rattle.messages.specs.declared.yard.Engine.{Engine}
use Rattle.messages.specs.declared.yard.Section.{Section}
use Rattle.messages.specs.declared.yard.Yard.{Yard}
use Rattle.messages.specs.declared.message.Message.{Message}
use Rattle.messages.specs.declared.message.Message.TheVariants as message
use Rattle.messages.specs.declared.message.Refusal.{Refusal}
use Rattle.messages.specs.declared.message.Reply.{Reply}
use Rattle.messages.specs.declared.message.Reply.TheVariants as reply
use Rattle.journal.specs.declared.output.Output.{Output}
use Rattle.journal.specs.declared.output.Output.TheVariants as output
use Rattle.boxes.specs.declared.signal_box.Input.{Input}
use Rattle.boxes.specs.declared.signal_box.Input.TheVariants as input
use Rattle.boxes.specs.Log.{Log, none, said}
use Rattle.boxes.specs.Model.{State}
use Rattle.boxes.specs.Handle.{handle_of, received_of}
use Rattle.box_laws.specs.Runs.{Coming, after}

-- what reports of a refusal elsewhere, or is heard engine by engine, is done even where a refusal is said of it
abbrev pub IsReply : Reply → Type 0
IsReply reply.Done = ⊥
IsReply reply.Waits = ⊥
IsReply (reply.Refused r) = Unit {0}

abbrev pub IsReport : Message → Type 0
IsReport (message.Call c) = ⊥
IsReport (message.Answer e n answer) = IsReply answer.reply
IsReport (message.Change news) = Unit {0}
IsReport (message.WhichChange e s) = ⊥
IsReport (message.Sign telling) = ⊥
IsReport (message.Waits waiting) = ⊥

-- a refusal is said first
abbrev pub RefusedFirst : Log → Type 0
RefusedFirst l = (q : Refusal) × (rest : List Output) × (l.outputs ≡ output.Refused q ∷ rest)

-- a driver's line that is turned away changes nothing, and nothing else is said of it
abbrev pub LineAway : State → Input → Type 0
LineAway b i = RefusedFirst (handle_of b i none).1 → (q : Refusal) × (handle_of b i none ≡ (b, said none (output.Refused q)))

-- a message that is turned away changes no section and no engine: a refused call uses up its number, and nothing else
abbrev pub MessageAway : State → BoxNumber → Message → Type 0
MessageAway b from m =
    (IsReport m → ⊥) → RefusedFirst (received_of b from m none).1 →
    ((received_of b from m none).0.keeper.table ≡ b.keeper.table) × ((received_of b from m none).0.home ≡ b.home)

-- What is turned away changes nothing, whatever came before.
abbrev pub TurnedAwayByABox : Type 0
TurnedAwayByABox =
    (y : Yard) (n : BoxNumber) (cs : List Coming) →
    ((e : Engine) (s : Section) → LineAway (after y n cs).state (input.Take e s)) × ((e : Engine) (s : Section) → LineAway (after y n cs).state (input.Free e s)) ×
    ((from : BoxNumber) (m : Message) → MessageAway (after y n cs).state from m)
