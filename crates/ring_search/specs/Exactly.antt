-- What the rings of a table are, apart from any search for them.
-- Assumes nothing.
use Rattle.std.specs.Prelude.{◌≡◌, ℕ, ◌<◌, ◌≤◌, List, [], ◌∷◌, Some}
use mathlib.Core.List.{Memᴰ}
use Rattle.signs.specs.Signs.{Wait}
use Rattle.ring_search.specs.Search.{Judged}

-- each engine waits for the next, and the last for a given one
abbrev pub Links : (ℕ → Wait) → ℕ → List ℕ → ℕ → Type 0
Links w x [] z = w x ≡ Some z
Links w x (y ∷ ys) z = (w x ≡ Some y) × Links w y ys z

-- none stands twice
abbrev pub Apart : List ℕ → Type 0
Apart [] = Unit {0}
Apart (x ∷ xs) = (Memᴰ x xs → ⊥) × Apart xs

-- a ring: none stands twice, each waits for the next, and the last for the first
abbrev pub IsRing : (ℕ → Wait) → List ℕ → Type 0
IsRing w [] = ⊥
IsRing w (x ∷ xs) = Links w x xs x × Apart (x ∷ xs)

-- the first is the lowest
abbrev pub FromLowest : List ℕ → Type 0
FromLowest [] = ⊥
FromLowest (x ∷ xs) = (y : ℕ) → Memᴰ y xs → x < y

-- the finder has the highest own sign
abbrev pub HasHighest : (ℕ → ℕ) → Judged → Type 0
HasHighest own r = Memᴰ r.finder r.engines × ((y : ℕ) → Memᴰ y r.engines → own y ≤ own r.finder)

abbrev pub first_of : List ℕ → ℕ
first_of [] = 0
first_of (x ∷ xs) = x

-- by their first engines
abbrev pub InOrder : List Judged → Type 0
InOrder [] = Unit {0}
InOrder (r ∷ rs) = ((q : Judged) → Memᴰ q rs → first_of r.engines < first_of q.engines) × InOrder rs

-- exactly the rings: each is one, from its lowest engine on, with the one that finds it; every engine in a ring is in one of them, and in one only
pub record Exactly (w : ℕ → Wait) (own : ℕ → ℕ) (rs : List Judged) : Type 0 where
  pub rings : (r : Judged) → Memᴰ r rs → IsRing w r.engines × FromLowest r.engines × HasHighest own r
  pub all : (xs : List ℕ) → IsRing w xs → (y : ℕ) → Memᴰ y xs → (r : Judged) × Memᴰ r rs × Memᴰ y r.engines
  pub once : (r q : Judged) → Memᴰ r rs → Memᴰ q rs → (y : ℕ) → Memᴰ y r.engines → Memᴰ y q.engines → r ≡ q
  pub ordered : InOrder rs
