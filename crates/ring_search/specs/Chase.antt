-- The way along waits from an engine until they come back to it.
-- Assumes nothing.
use Rattle.std.specs.Prelude.{ℕ, zero, suc, Bool, cond, List, [], ◌∷◌, ◌++◌, Some, None, Option}

-- what a way finds that has passed some engines, by for whom the last of them waits: the waits end, come back to the first, or go on
abbrev pub follow : {E : Type 0} → (E → E → Bool) → E → List E → (E → Option (List E)) → Option E → Option (List E)
follow same first done on None = None
follow same first done on (Some next) = cond (same next first) (Some done) (on next)

-- along waits from one engine, at most so many, until they come back to the first: the engines passed
unfoldable pub chase : {E : Type 0} → (E → E → Bool) → (E → Option E) → E → ℕ → E → List E → Option (List E)
chase same whom first zero at done = None
chase same whom first (suc left) at done =
    follow same first (done ++ at ∷ []) (λ next. chase same whom first left next (done ++ at ∷ [])) (whom at)
