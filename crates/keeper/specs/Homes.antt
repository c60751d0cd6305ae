-- Which homes are told of a change of a section. Assumes nothing.
use Rattle.std.specs.Prelude.{◌≡◌, ℕ, ◌%◌, Bool, true, false, ◌||◌, ◌⊎◌, List, ◌==◌, None, Some}
use Rattle.std.specs.List.{list_any}
use Rattle.messages.specs.declared.yard.Yard.{Yard}
use Rattle.sections.specs.Table.{Holder, Table, holder_at, is_in, queue_at}

-- the box that is an engine's home
abbrev pub home_of : Yard → ℕ → ℕ
home_of y e = e % y.boxes

-- is a box the home of the one that has a section
abbrev pub home_of_holder : Yard → ℕ → Holder → Bool
home_of_holder y b None = false
home_of_holder y b (Some e) = home_of y e == b

-- is a box the home of one in a queue
abbrev pub home_of_any : Yard → ℕ → List ℕ → Bool
home_of_any y b es = list_any (λ e. home_of y e == b) es

-- is a box told of a change of the section at a place
abbrev pub told_of : Yard → ℕ → Table → ℕ → Bool
told_of y b t place = home_of_holder y b (holder_at t place) || home_of_any y b (queue_at t place)

-- an engine has a section or waits for it, and its home is the box
abbrev pub Concerned : Yard → ℕ → Table → ℕ → Type 0
Concerned y b t place = (e : ℕ) × ((holder_at t place ≡ Some e) ⊎ (is_in e (queue_at t place) ≡ true)) × (home_of y e ≡ b)

-- a box is told exactly if it is the home of an engine concerned
abbrev pub Concerns : Yard → ℕ → Table → ℕ → Bool → Type 0
Concerns y b t place told = (told ≡ true → Concerned y b t place) × (Concerned y b t place → told ≡ true)
