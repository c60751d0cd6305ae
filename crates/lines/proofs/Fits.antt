-- The bytes of each kind of message are counted.
use Rattle.std.proofs.Common.{◌≤◌, Bool, length, Some, ap, arith}
use Rattle.std.proofs.lemmas.Bool.{and_from, le-leb}
use Rattle.messages.specs.declared.message.Message.{Message}
use Rattle.messages.specs.declared.message.Message.TheVariants as message
use Rattle.messages.specs.declared.message.Reply.{Reply}
use Rattle.messages.specs.declared.message.Reply.TheVariants as reply
use Rattle.messages.specs.Reading.{unless}
use Rattle.messages.specs.Table.{bytes_of, reply_end}
use Rattle.lines.specs.Lines.{EveryMessage, message_line}

-- what ends an answer is one byte at most
end_short : (r : Reply) → length (reply_end r) ≤ 1
end_short reply.Done = omega arith
end_short reply.Waits = omega arith
end_short (reply.Refused q) = omega arith

pub short : (m : Message) → length (bytes_of m) ≤ 21
short (message.Call c) = omega arith
short (message.Answer e n a) = omega (arith, end_short a.reply)
short (message.Change c) = omega arith
short (message.WhichChange e s) = omega arith
short (message.Sign s) = omega arith
short (message.Waits w) = omega arith

pub every_message : EveryMessage
every_message b m h =
    ap (λ (t : Bool). unless t (Some (message_line b (bytes_of m)))) (and_from _ _ (le-leb b.0 99 h) (le-leb (length (bytes_of m)) 21 (short m)))
