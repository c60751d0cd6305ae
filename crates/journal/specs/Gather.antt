-- What comes of a turn of some state. Assumes nothing.
use Rattle.std.specs.Prelude.{◌≡◌, [], Ok, Err, Result}
use Rattle.std.specs.Borrow.{MutBor}
use Rattle.std.specs.Fn.{Once}
use Rattle.journal.specs.declared.effects.Effects.{Effects}
use Rattle.journal.specs.declared.fault.Fault.{Fault}
use Rattle.journal.specs.Effect.{outputs_of, records_of}

-- a function that is called with a `&mut` to a state and one to effects
abbrev pub Turn : Type 0 → Type 0 → Type 1
Turn F S = Once F (MutBor S × (MutBor Effects × Unit {0})) (Result (Unit {0}) Fault × (MutBor S × (MutBor Effects × Unit {0})))

-- called at this state and at effects that hold nothing, it may answer r, and leave that state and those effects
pub record TurnsTo {F S : Type 0} (g : Turn F S) (turn : F) (before : S) (r : Result (Unit {0}) Fault) (after : S) (effects : Effects) : Type 0 where
  pub state : MutBor S
  pub shows : state.now ≡ before
  pub begun : MutBor Effects
  pub no_records : records_of begun.now ≡ []
  pub no_outputs : outputs_of begun.now ≡ []
  pub left : MutBor S × (MutBor Effects × Unit {0})
  pub met : g.post turn (state, (begun, tt)) (r, left)
  pub leaves_state : left.0.now ≡ after
  pub leaves_effects : left.1.0.now ≡ effects

-- the effects of a turn that could be gone through; or its fault, whatever was gathered before it
abbrev pub Gathers : {F S : Type 0} → Turn F S → F → S → S → Result Effects Fault → Type 0
Gathers g turn before after (Ok effects) = TurnsTo g turn before (Ok tt) after effects
Gathers g turn before after (Err fault) = (effects : Effects) × TurnsTo g turn before (Err fault) after effects
