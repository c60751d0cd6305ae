-- The decoder's answer is the one message that is written so, or there is none.
use Rattle.std.proofs.Common.{◌≡◌, ℕ, List, Some, None, Option, Result, sym, refl, ap, ◌∙◌, subst}
use Rattle.std.specs.Option.{ok_or}
use Rattle.std.proofs.lemmas.Option.{none-some}
use Rattle.messages.specs.declared.yard.Yard.{Yard}
use Rattle.messages.specs.declared.message.Message.{Message}
use Rattle.messages.specs.declared.message.Refusal.{Refusal}
use Rattle.messages.specs.declared.message.Refusal.TheVariants as refusal
use Rattle.messages.specs.Promises.{Bytes, Decoded}
use Rattle.messages.specs.Reading.{message_of}
use Rattle.messages.proofs.Back.{reads_back}
use Rattle.messages.proofs.Forms.{one_form}

decided_by : (y : Yard) (xs : List ℕ) → Bytes xs → (o : Option Message) → message_of y xs ≡ o → Decoded y xs (ok_or o refusal.Malformed)
decided_by y xs b None p =
    (refl, λ m i is. none-some m (sym p ∙ (ap (λ (l : List ℕ). message_of y l) (sym is) ∙ reads_back y m i)))
decided_by y xs b (Some m) p = one_form y xs m b p

pub decided : (y : Yard) (xs : List ℕ) (r : Result Message Refusal) → Bytes xs → r ≡ ok_or (message_of y xs) refusal.Malformed → Decoded y xs r
decided y xs r b is =
    let P : Result Message Refusal → Type 0 = Decoded y xs in subst P (sym is) (decided_by y xs b (message_of y xs) refl)
