-- What is promised of sections, one at a time and in turn, and of signs.
-- Assumes nothing.
use Rattle.std.specs.Prelude.{◌≡◌, ℕ, ◌%◌, ◌<◌, ◌≤◌, ◌⊎◌, List, [], ◌∷◌, ◌≢◌}
use mathlib.Core.List.{Memᴰ}
use Rattle.yard.specs.Yard.{free, by, asking, waiting, freeing, Yard, start, holder, mode, shown, own, Queued, Told, Act, begins, May, after, Run, Reach, Distinct}

-- One at a time: who has a section has it until it has sent that it frees it.
abbrev pub OneAtATime : Type 0
OneAtATime = (engines : ℕ) (y : Yard) → Reach engines y → (a : Act) → May engines y a → (i s : ℕ) → holder y s ≡ by i → (holder (after y a) s ≡ by i) ⊎ (mode y i ≡ freeing s)

-- Nobody waits in two places of the yard, or twice in one.
abbrev pub OnePlace : Type 0
OnePlace = (engines : ℕ) (y : Yard) → Reach engines y → ((i s t : ℕ) → Queued y i s → Queued y i t → s ≡ t) × ((s : ℕ) → Distinct (y.section s).queue)

-- Whoever waits, somebody else has the section.
abbrev pub SomebodyHas : Type 0
SomebodyHas = (engines : ℕ) (y : Yard) → Reach engines y → (i s : ℕ) → Queued y i s → (j : ℕ) × (holder y s ≡ by j) × (i ≢ j)

-- Who gets a section was first in its queue; or it was free, nobody waited, and it had asked for it.
abbrev pub FirstGets : Type 0
FirstGets =
    (engines : ℕ) (y : Yard) → Reach engines y → (a : Act) → May engines y a → (i s : ℕ) → (holder y s ≢ by i) → holder (after y a) s ≡ by i →
    ((y.section s).queue ≡ i ∷ ((after y a).section s).queue) ⊎ ((holder y s ≡ free) × ((y.section s).queue ≡ []) × (mode y i ≡ asking s))

-- k is i, or stands before it.
pub data Upto (k i : ℕ) : List ℕ → Type 0 where
  from : {x : ℕ} {q : List ℕ} → k ≡ x → Memᴰ i (x ∷ q) → Upto k i (x ∷ q)
  past : {x : ℕ} {q : List ℕ} → Upto k i q → Upto k i (x ∷ q)

-- Nobody overtakes: who stands before another that waits on stood before it.
abbrev pub NoOvertaking : Type 0
NoOvertaking =
    (engines : ℕ) (y : Yard) → Reach engines y → (a : Act) → May engines y a → (i k s : ℕ) → Queued y i s → Upto k i ((after y a).section s).queue → Upto k i (y.section s).queue

-- Who had a section at some change since i came into the queue, and lost it, has it no more and comes in again only behind i.
abbrev pub Behind : Type 0
Behind =
    (engines : ℕ) (y : Yard) → Reach engines y → (i s n h : ℕ) → Queued y i s → (y.section s).came i ≤ n → n < (y.section s).change → (y.section s).past n ≡ by h →
    (holder y s ≢ by h) × (Upto h i (y.section s).queue → ⊥)

-- Whose home counts it as waiting as of a change, and who had the section at a later one, has it now.
abbrev pub TurnHasCome : Type 0
TurnHasCome =
    (engines : ℕ) (y : Yard) → Reach engines y → (i j s m n : ℕ) → mode y i ≡ waiting j s m → m ≤ n → n ≤ (y.section s).change → (y.section s).past n ≡ by i → holder y s ≡ by i

-- Own signs differ: each leaves its engine's number when divided by the number of engines.
abbrev pub OwnDiffer : Type 0
OwnDiffer =
    (engines : ℕ) (y : Yard) → Reach engines y → ((i : ℕ) → i < engines → own y i % engines ≡ i) × ((i k : ℕ) → i < engines → k < engines → own y i ≡ own y k → i ≡ k)

-- What an engine shows only rises, and is never below its own.
abbrev pub ShownRises : Type 0
ShownRises = (engines : ℕ) (y z : Yard) (acts : List Act) → Reach engines y → Run engines y acts z → (i : ℕ) → (shown y i ≤ shown z i) × (own z i ≤ shown z i)

-- The engine whose number the sign leaves took it: as its first one, its number, or in one of these acts.
abbrev pub Taken : ℕ → List Act → ℕ → Type 0
Taken engines acts v = (v < engines) ⊎ ((i s j m : ℕ) × Memᴰ (begins i s j m v) acts × (v % engines ≡ i))

-- Nobody ever shows or is told a sign that its engine hasn't taken.
abbrev pub OnlyTaken : Type 0
OnlyTaken =
    (engines : ℕ) (y : Yard) (acts : List Act) → Run engines start acts y →
    ((i : ℕ) → i < engines → Taken engines acts (shown y i)) × ((x c j v : ℕ) → Told y x c j v → Taken engines acts v)
