-- What effects hold. Assumes nothing.
use Rattle.std.specs.Prelude.{ℕ, cond, List, [], ◌∷◌, drop, Some, None, vec_items, Option, ◌==◌}
use Rattle.messages.specs.declared.message.Record.{Record}
use Rattle.messages.specs.declared.message.Message.{Message}
use Rattle.messages.specs.declared.yard.BoxNumber.{BoxNumber}
use Rattle.journal.specs.declared.output.Output.{Output}
use Rattle.journal.specs.declared.output.Output.TheVariants as output
use Rattle.journal.specs.declared.effects.Effects.{Effects}
use Rattle.journal.specs.declared.effects.Said.{Said}

-- the records to be stored, in their order
abbrev pub records_of : Effects → List Record
records_of e = vec_items e.records

-- what may be said once they are, in its order
abbrev pub outputs_of : Effects → List Output
outputs_of e = vec_items e.outputs

-- what was handed out to be said
abbrev pub said_of : Said → List Output
said_of s = vec_items s.outputs

-- the message that an output sends, and the box that it is for
abbrev pub sending_of : Output → Option (BoxNumber × Message)
sending_of (output.Send to m) = Some (to, m)
sending_of (output.Had e s) = None
sending_of (output.GiveBack e) = None
sending_of (output.GivingBack e) = None
sending_of (output.Refused r) = None

-- the message that an output sends to a box
abbrev pub message_to : BoxNumber → Output → Option Message
message_to own (output.Send to m) = cond (to.0 == own.0) (Some m) None
message_to own (output.Had e s) = None
message_to own (output.GiveBack e) = None
message_to own (output.GivingBack e) = None
message_to own (output.Refused r) = None

-- the first of a list
abbrev pub first_to : BoxNumber → List Output → Option Message
first_to own [] = None
first_to own (o ∷ os) = message_to own o

-- the one at a place of a list
abbrev pub own_at : BoxNumber → ℕ → List Output → Option Message
own_at own n os = first_to own (drop n os)
