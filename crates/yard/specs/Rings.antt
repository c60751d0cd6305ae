-- What is promised of rings: who finds is in one, alone and the highest; a ring stays until one of it finds.
-- Assumes nothing.
use Rattle.std.specs.Prelude.{◌≡◌, ℕ, ◌<◌, ◌⊎◌, List, ◌∷◌, ◌≢◌}
use mathlib.Core.List.{Memᴰ}
use Rattle.yard.specs.Yard.{Yard, leaving, mode, own, Queued, Told, WaitsOn, Finds, Act, finds, May, after, Run, Reach, Ring}

-- Whoever finds is at that moment in the queue of a section that the one has from which it heard, and so on round to itself, however late what it
-- heard was told.
abbrev pub Real : Type 0
Real = (engines : ℕ) (y : Yard) → Reach engines y → (i j s : ℕ) → Finds y i j s → (is : List ℕ) × Ring y i (j ∷ is)

-- Every other of that ring has a lower own sign.
abbrev pub Highest : Type 0
Highest = (engines : ℕ) (y : Yard) → Reach engines y → (i j s : ℕ) → Finds y i j s → (is : List ℕ) → Ring y i is → (l : ℕ) → Memᴰ l is → own y l < own y i

-- Nobody else of that ring has been told to give up, and nobody else of it can find.
abbrev pub Alone : Type 0
Alone =
    (engines : ℕ) (y : Yard) → Reach engines y → (i j s : ℕ) → Finds y i j s → (is : List ℕ) → Ring y i is → (l : ℕ) → Memᴰ l is →
    ((t : ℕ) → mode y l ≢ leaving t) × ((k t : ℕ) → Finds y l k t → ⊥)

-- An engine of the list has been told to give up, and has called for nothing since.
abbrev pub OneLeaves : Yard → List ℕ → Type 0
OneLeaves y is = (k t : ℕ) × Memᴰ k is × (mode y k ≡ leaving t)

-- From step to step a ring is still there, the same one, unless one of it had been told to give up.
abbrev pub Stays : Type 0
Stays =
    (engines : ℕ) (y : Yard) → Reach engines y → (a : Act) → May engines y a → (i : ℕ) (is : List ℕ) → Ring y i is →
    Ring (after y a) i is ⊎ OneLeaves y (i ∷ is)

-- Through any run a ring of which none has been told is still there, and none of it told, until one of it finds.
abbrev pub StaysUntilFound : Type 0
StaysUntilFound =
    (engines : ℕ) (y z : Yard) (acts : List Act) → Reach engines y → Run engines y acts z → (i : ℕ) (is : List ℕ) → Ring y i is → (OneLeaves y (i ∷ is) → ⊥) →
    (Ring z i is × (OneLeaves z (i ∷ is) → ⊥)) ⊎ ((k j s : ℕ) × Memᴰ k (i ∷ is) × Memᴰ (finds k j s) acts)

-- Old words do no harm: what was ever told by one that now waits nowhere, as one that frees a section, is no own sign of anybody who waits.
abbrev pub OldWords : Type 0
OldWords =
    (engines : ℕ) (y : Yard) → Reach engines y → (x c j v : ℕ) → Told y x c j v → ((t : ℕ) → Queued y j t → ⊥) →
    (z k s : ℕ) → WaitsOn y z k s → Queued y z s → v ≢ own y z
