-- What is promised of the net. Each is a type; a proof of the type is the theorem.
-- Assumes nothing.
use Rattle.std.specs.Prelude.{◌≡◌, ℕ, ◌%◌, ◌<◌, ◌≤◌, ◌⊎◌, Ok, None}
use mathlib.Core.List.{Memᴰ}
use Rattle.signs.specs.declared.Engine.{Engine}
use Rattle.signs.specs.declared.Heard.TheVariants.{TellOn, Found}
use Rattle.signs.specs.Signs.{begin_of, hear_of, find_of}
use Rattle.rings.specs.Net.{Tell, Net, with, Finds, Step, Run, Reach, Along, long, InRing, Highest, Telling, FoundIn, underway, Carried}

-- whoever finds is in a ring at that very moment, however late what it heard was told
abbrev pub AlwaysReal : Type 0
AlwaysReal = (engines : ℕ) → (n : Net) → Reach engines n → (i j : ℕ) → Finds n i j → InRing n i

-- whoever finds has the highest own sign of its ring
abbrev pub OnlyHighest : Type 0
OnlyHighest = (engines : ℕ) → (n : Net) → Reach engines n → (i j : ℕ) → Finds n i j → Highest n i i

-- two who find in one ring are the same engine
abbrev pub OneFinder : Type 0
OneFinder = (engines : ℕ) → (n : Net) → Reach engines n → (i j k l : ℕ) → Finds n i j → Finds n k l → Along n i k → i ≡ k

-- a ring stays until one in it finds: no other step lets any of them go on
abbrev pub RingStays : Type 0
RingStays =
    (engines : ℕ) → (n m : Net) → Reach engines n → Step engines n m → (i : ℕ) → InRing n i →
    InRing m i ⊎ ((k j : ℕ) × Along n i k × Finds n k j × ((m.engine k).wait ≡ None))

-- an own sign leaves its engine's number, so no two engines have the same, and never passes what the engine shows
abbrev pub OwnSigns : Type 0
OwnSigns =
    (engines : ℕ) → (n : Net) → Reach engines n → (i : ℕ) → i < engines →
    ((n.engine i).own % engines ≡ i) × ((n.engine i).own ≤ (n.engine i).shown)

-- what is shown only rises
abbrev pub OnlyUp : Type 0
OnlyUp = (engines : ℕ) → (n m : Net) → Reach engines n → Step engines n m → (i : ℕ) → (n.engine i).shown ≤ (m.engine i).shown

-- every ring is found by the one with its highest own sign, by telling and hearing alone, with as many tellings as it has engines, and nobody's wait changes
abbrev pub AlwaysFound : Type 0
AlwaysFound =
    (engines : ℕ) → (n : Net) → Reach engines n → (i : ℕ) (ring : InRing n i) →
    (k j : ℕ) × (m : Net) × Along n i k × Highest n i k × Telling n (long ring) m × Finds m k j ×
    ((l : ℕ) → ((m.engine l).wait ≡ (n.engine l).wait) × ((m.engine l).count ≡ (n.engine l).count) × ((m.engine l).own ≡ (n.engine l).own))

-- in any run in which the highest own sign of a ring was told back round to its engine, whatever happened between, that engine has found or finds now
abbrev pub FoundInAnyRun : Type 0
FoundInAnyRun =
    (engines : ℕ) → (n : Net) → Reach engines n → (k : ℕ) → InRing n k → Highest n k k →
    (m : Net) (r : Run engines n m) (j s : ℕ) → Carried engines n k m r (underway k j s) → FoundIn r k ⊎ Finds m k j

-- what the code does is a step of the net: to begin where it doesn't wait, to hear and to find what was told
pub record CodeSteps (engines : ℕ) (n : Net) (e : Engine) : Type 0 where
  pub begins : (i j : ℕ) → (n.engine i).wait ≡ None → begin_of (n.engine i) i engines j ≡ Ok e → Step engines n (with i e n)
  pub hears :
      (t : Tell) (s : ℕ) → Memᴰ t n.sent → hear_of (n.engine t.to) t.by t.count t.sign ≡ Ok (e, TellOn s) →
      Step engines n (with t.to e n)
  pub finds :
      (t : Tell) → Memᴰ t n.sent → find_of (n.engine t.to) t.by t.count t.sign ≡ Ok (e, Found) →
      Step engines n (with t.to e n)

abbrev pub AlwaysCodeSteps : Type 0
AlwaysCodeSteps = (engines : ℕ) (n : Net) (e : Engine) → CodeSteps engines n e
