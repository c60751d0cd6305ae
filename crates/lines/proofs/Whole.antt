-- A message's bytes are bytes, so its line is read back, and then its bytes are.
use Rattle.std.proofs.Common.{ℕ, ◌≤◌, List, Some, Option, ap, ◌∙◌, arith}
use Rattle.messages.specs.declared.message.Message.{Message}
use Rattle.messages.specs.Reading.{and_then}
use Rattle.messages.specs.Table.{bytes_of}
use Rattle.messages.proofs.Back as wire
use Rattle.messages.proofs.Cuts.{bytes_from, message_all}
use Rattle.lines.proofs.Back.{reads_back}
use Rattle.lines.proofs.Fits.{every_message, short}
use Rattle.lines.specs.Lines.{LineToMessage, Said, carried, line_of}

pub line_to_message : LineToMessage
line_to_message y b m h i =
    let w : b.0 ≤ 99 = omega arith in
    ap (λ (o : Option (List ℕ)). and_then o (λ text. and_then (line_of y text) (carried y))) (every_message b m w)
    ∙ (ap (λ (o : Option Said). and_then o (carried y)) (reads_back y b (bytes_of m) h (bytes_from (bytes_of m) (message_all y m i)) (short m))
    ∙ ap (λ (o : Option Message). and_then o (λ n. Some (b, n))) (wire.reads_back y m i))
