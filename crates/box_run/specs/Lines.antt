-- Text and its lines. Assumes nothing.
use Rattle.std.specs.Prelude.{◌≡◌, ℕ, cond, List, [], ◌∷◌, ◌++◌, ◌==◌}

-- one byte more at the front of the first line
abbrev pub longer : ℕ → List (List ℕ) → List (List ℕ)
longer c [] = (c ∷ []) ∷ []
longer c (l ∷ ls) = (c ∷ l) ∷ ls

-- the lines of a text, each without the newline that ends it; the last need have none
abbrev pub lines_in : List ℕ → List (List ℕ)
lines_in [] = []
lines_in (c ∷ cs) = cond (c == 10) ([] ∷ lines_in cs) (longer c (lines_in cs))

-- a text that is cut behind a newline has the lines of both parts
abbrev pub CutAtANewline : Type 0
CutAtANewline = (a b : List ℕ) → lines_in ((a ++ 10 ∷ []) ++ b) ≡ lines_in (a ++ 10 ∷ []) ++ lines_in b
