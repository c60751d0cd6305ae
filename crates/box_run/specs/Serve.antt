-- A BOX AS A PROCESS: what lines make of it. Assumes nothing.
use Rattle.std.specs.Prelude.{◌≡◌, ℕ, List, [], ◌∷◌, ◌++◌, length, Ok, Err, Result}
use Rattle.std.specs.Option.{ok_or}
use Rattle.messages.specs.declared.message.Record.{Record}
use Rattle.messages.specs.declared.message.Refusal.{Refusal}
use Rattle.messages.specs.declared.message.Refusal.TheVariants as refusal
use Rattle.messages.specs.Journal.{written}
use Rattle.lines.specs.Lines as line
use Rattle.journal.specs.declared.fault.Fault.{Fault}
use Rattle.journal.specs.declared.effects.Said.{Said}
use Rattle.journal.specs.declared.output.Output.TheVariants as output
use Rattle.journal.specs.Effect.{said_of}
use Rattle.journal.specs.Storage.{Remains}
use Rattle.boxes.specs.declared.signal_box.Input.TheVariants as input
use Rattle.boxes.specs.Handle.{delivered_of, handle_of}
use Rattle.boxes.specs.Log.{Log, none, said}
use Rattle.boxes.specs.Model.{State}
use Rattle.box_run.specs.Own.{Settles}

-- what a line says, done; what says nothing is refused
abbrev pub done : State → Result line.Said Refusal → Log → State × Log
done b (Ok (line.message from bytes)) l = delivered_of b from bytes l
done b (Ok (line.take e s)) l = handle_of b (input.Take e s) l
done b (Ok (line.free e s)) l = handle_of b (input.Free e s) l
done b (Ok line.second) l = handle_of b input.Second l
done b (Err r) l = (b, said l (output.Refused r))

abbrev pub heard : List ℕ → State × Log → State × Log
heard text p = done p.0 (ok_or (line.line_of p.0.home.yard text) refusal.Malformed) p.1

-- the box deals with all that it sends to itself, from the n-th output on
abbrev pub Settled : ℕ → State × Log → State × Log → Type 0
Settled n p q = Settles p.0.home.number n p q

-- one line, and then all that the box sends to itself because of it
abbrev pub Fed : List ℕ → State × Log → State × Log → Type 0
Fed text p q = Settled (length p.1.outputs) (heard text p) q

-- lines, one after another
abbrev pub FedEach : List (List ℕ) → State × Log → State × Log → Type 0
FedEach [] p q = p ≡ q
FedEach (l ∷ ls) p q = (m : State × Log) × Fed l p m × FedEach ls m q

-- a file that has bytes, all synced, has these records after them, all synced
abbrev pub Stores : (List ℕ → ℕ → Type 0) → (List ℕ → ℕ → Type 0) → List Record → Type 0
Stores before after rs = (xs : List ℕ) → before xs (length xs) → after (xs ++ written rs) (length (xs ++ written rs))

-- a file that has bytes, all synced, has them still, and some first part of records after them
abbrev pub Keeps : (List ℕ → ℕ → Type 0) → (List ℕ → ℕ → Type 0) → Type 0
Keeps before after = (xs : List ℕ) → before xs (length xs) → (rs : List Record) × Remains after (xs ++ written rs) (length xs)

-- what lines make of a box b: it is c, what they recorded is synced, and only then is anything said; on a fault nothing is said, and all that was synced is there
abbrev pub Serves : List (List ℕ) → State → State → (List ℕ → ℕ → Type 0) → (List ℕ → ℕ → Type 0) → Result Said Fault → Type 0
Serves ls b c before after (Ok s) = (l : Log) × FedEach ls (b, none) (c, l) × (said_of s ≡ l.outputs) × Stores before after l.records
Serves ls b c before after (Err f) = Keeps before after
