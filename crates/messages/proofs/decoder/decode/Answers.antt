use Rattle.std.proofs.Common.{Option, ap, ◌∙◌, arith}
use Rattle.std.specs.Option.{ok_or}
use Rattle.messages.specs.declared.message.Message.{Message}
use Rattle.messages.specs.declared.message.Refusal.TheVariants as refusal
use Rattle.messages.proofs.Decided.{decided}
use Rattle.messages.proofs.decoder.decode.Goals as goal

pub returns-clause-exact : goal.returns-clause-exact
returns-clause-exact c =
    decided c.args.yard c.args.bytes.now c.ok_or.result (λ i. omega (arith, c.type_inv.bytes i))
    (c.ok_or.ensures.value ∙ ap (λ (o : Option Message). ok_or o refusal.Malformed) c.whole.ensures)
