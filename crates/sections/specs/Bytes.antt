-- The numbers and byte values by which messages speak of refusals, answers and holders.
use Rattle.std.specs.Prelude.{ℕ, Some, None, Ok, Err, Result}
use Rattle.sections.specs.Table.{Holder}
use Rattle.sections.specs.declared.Done.{Done}
use Rattle.sections.specs.declared.Done.TheVariants.{Had, Waits, LetGo, Left}
use Rattle.sections.specs.declared.Refusal.{Refusal}
use Rattle.sections.specs.declared.Refusal.TheVariants.{OutOfRange, Waiting, Mismatch, AtLimit}

-- a refusal's number
abbrev pub number_of : Refusal → ℕ
number_of OutOfRange = 1
number_of Waiting = 3
number_of Mismatch = 4
number_of AtLimit = 7

-- what a call that was done answers: 1 done, 2 waits
abbrev pub done_byte : Done → ℕ
done_byte Had = 1
done_byte (Waits _) = 2
done_byte (LetGo _) = 1
done_byte Left = 1

-- what a call answers: 0 where it was refused
abbrev pub answer_byte : Result Done Refusal → ℕ
answer_byte (Ok done) = done_byte done
answer_byte (Err _) = 0

-- who has a section: the engine's number, or 255 for nobody
abbrev pub who_byte : Holder → ℕ
who_byte None = 255
who_byte (Some engine) = engine
