-- What a log may hold in a yard: records that can be written, and messages that can be, to boxes that there are.
use Rattle.std.proofs.Common.{ℕ, zero, suc, ◌<◌, List, [], ◌∷◌, ◌++◌, arith}
use Rattle.messages.specs.declared.yard.BoxNumber.{BoxNumber}
use Rattle.messages.specs.declared.yard.Yard.{Yard}
use Rattle.messages.specs.declared.message.Message.{Message}
use Rattle.messages.specs.declared.message.Record.{Record}
use Rattle.messages.specs.Range.{MessageIn, RecordIn}
use Rattle.messages.specs.Journal.{AllIn}
use Rattle.journal.specs.declared.output.Output.{Output}
use Rattle.journal.specs.declared.output.Output.TheVariants as output
use Rattle.boxes.specs.Log.{Log, recorded, said, sent, each}

-- a message that is said is in range, and so is the box that it is for
abbrev pub SaysIn : Yard → Output → Type 0
SaysIn y (output.Send to m) = (to.0 < y.boxes) × MessageIn y m
SaysIn y (output.Had e s) = Unit {0}
SaysIn y (output.GiveBack e) = Unit {0}
SaysIn y (output.GivingBack e) = Unit {0}
SaysIn y (output.Refused r) = Unit {0}

abbrev pub AllSaid : Yard → List Output → Type 0
AllSaid y [] = Unit {0}
AllSaid y (o ∷ os) = SaysIn y o × AllSaid y os

abbrev pub LogIn : Yard → Log → Type 0
LogIn y l = AllIn y l.records × AllSaid y l.outputs

pub records_push : (y : Yard) (rs : List Record) (r : Record) → AllIn y rs → RecordIn y r → AllIn y (rs ++ r ∷ [])
records_push y [] r all one = (one, tt)
records_push y (x ∷ rs) r all one = (all.0, records_push y rs r all.1 one)

pub records_append : (y : Yard) (rs qs : List Record) → AllIn y rs → AllIn y qs → AllIn y (rs ++ qs)
records_append y [] qs a b = b
records_append y (r ∷ rs) qs a b = (a.0, records_append y rs qs a.1 b)

pub said_push : (y : Yard) (os : List Output) (o : Output) → AllSaid y os → SaysIn y o → AllSaid y (os ++ o ∷ [])
said_push y [] o all one = (one, tt)
said_push y (x ∷ os) o all one = (all.0, said_push y os o all.1 one)

pub recorded_in : (y : Yard) (l : Log) (r : Record) → LogIn y l → RecordIn y r → LogIn y (recorded l r)
recorded_in y l r fine one = (records_push y l.records r fine.0 one, fine.1)

pub said_in : (y : Yard) (l : Log) (o : Output) → LogIn y l → SaysIn y o → LogIn y (said l o)
said_in y l o fine one = (fine.0, said_push y l.outputs o fine.1 one)

pub sent_in : (y : Yard) (l : Log) (to : BoxNumber) (m : Message) → LogIn y l → to.0 < y.boxes → MessageIn y m → LogIn y (sent l to m)
sent_in y l to m fine there one = said_in y l (output.Send to m) fine (there, one)

-- what each step keeps holds after all of them
pub each_keeps : {A : Type 0} (P : A → Type 0) (f : ℕ → A → A) (N : ℕ) → ((n : ℕ) (x : A) → n < N → P x → P (f n x)) → (x : A) → P x → P (each f N x)
unfolding each
each_keeps P f zero keeps x p = p
each_keeps P f (suc N) keeps x p = keeps N (each f N x) (omega arith) (each_keeps P f N (λ n z below. keeps n z (omega arith)) x p)
