-- What inputs have given so far: the records to be stored, and what may be said once they are. Assumes nothing.
use Rattle.std.specs.Prelude.{ℕ, zero, suc, List, [], ◌∷◌, ◌++◌}
use Rattle.messages.specs.declared.yard.BoxNumber.{BoxNumber}
use Rattle.messages.specs.declared.message.Message.{Message}
use Rattle.messages.specs.declared.message.Record.{Record}
use Rattle.journal.specs.declared.output.Output.{Output}
use Rattle.journal.specs.declared.output.Output.TheVariants as output
use Rattle.journal.specs.declared.effects.Effects.{Effects}
use Rattle.journal.specs.Effect.{records_of, outputs_of}

pub record Log : Type 0 where
  pub records : List Record
  pub outputs : List Output

abbrev pub none : Log
none = record { records = []; outputs = [] }

abbrev pub log_of : Effects → Log
log_of e = record { records = records_of e; outputs = outputs_of e }

-- one record more
abbrev pub recorded : Log → Record → Log
recorded l r = record { records = l.records ++ r ∷ []; outputs = l.outputs }

-- one output more
abbrev pub said : Log → Output → Log
said l o = record { records = l.records; outputs = l.outputs ++ o ∷ [] }

abbrev pub sent : Log → BoxNumber → Message → Log
sent l to m = said l (output.Send to m)

-- a step for each number below n, from 0 on
unfoldable pub each : {A : Type 0} → (ℕ → A → A) → ℕ → A → A
each f zero x = x
each f (suc n) x = f n (each f n x)
