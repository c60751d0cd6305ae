-- A script's lines: what each means. Assumes nothing.
use Rattle.std.specs.Prelude.{ℕ, Bool, true, cond, ◌&&◌, ◌||◌, List, [], ◌∷◌, Some, None, codes, Option, ◌==◌, nat_le}
use Rattle.std.specs.List.{list_all}
use Rattle.std.specs.Option.{option_map}
use Rattle.std.specs.Str.{bytes_eq}
use Rattle.words.specs.Words.{after_of, number_of, small_number, split_once}
use Rattle.messages.specs.declared.yard.Engine.{Engine}
use Rattle.messages.specs.declared.yard.Section.{Section}
use Rattle.messages.specs.declared.yard.Yard.{Yard}
use Rattle.messages.specs.Reading.{and_then, unless}
use Rattle.world.specs.declared.step.Step.{Step}
use Rattle.world.specs.declared.step.Step.TheVariants as step
use Rattle.rehearse.specs.declared.script.Line.{Line}
use Rattle.rehearse.specs.declared.script.Line.TheVariants as line

-- two texts with a byte between them, read one after the other
abbrev pub between_of : {A B C : Type 0} → ℕ → (List ℕ → Option A) → (List ℕ → Option B) → (A → B → C) → List ℕ → Option C
between_of b f g h xs = and_then (split_once b xs) (λ both. and_then (f both.0) (λ x. and_then (g both.1) (λ y. Some (h x y))))

-- two numbers with a blank between them
abbrev pub pair_of : List ℕ → Option (ℕ × ℕ)
pair_of xs = between_of 32 number_of number_of (λ x y. (x, y)) xs

-- a section, B:P
abbrev pub section_of : List ℕ → Option Section
section_of xs = between_of 58 small_number small_number (λ b p. record { keeper = record { 0 = b }; place = p }) xs

-- an engine and a section, E B:P
abbrev pub wish_of : List ℕ → Option (Engine × Section)
wish_of xs = between_of 32 small_number section_of (λ e s. (record { 0 = e }, s)) xs

abbrev pub take_of : List ℕ → Option Step
take_of xs = and_then (wish_of xs) (λ w. Some (step.Take w.0 w.1))

abbrev pub free_of : List ℕ → Option Step
free_of xs = and_then (wish_of xs) (λ w. Some (step.Free w.0 w.1))

abbrev pub deliver_of : List ℕ → Option Step
deliver_of xs = and_then (number_of xs) (λ m. Some (step.Deliver m))

abbrev pub cut_of : List ℕ → Option Step
cut_of xs = and_then (pair_of xs) (λ p. Some (step.Cut p.0 p.1))

abbrev pub second_of : List ℕ → Option Step
second_of xs = and_then (small_number xs) (λ b. Some (step.Second (record { 0 = b })))

abbrev pub stop_of : List ℕ → Option Step
stop_of xs = and_then (small_number xs) (λ b. Some (step.Stop (record { 0 = b })))

-- what stands behind a word is read, or the line is tried otherwise
abbrev pub worded : Option (List ℕ) → (List ℕ → Option Step) → Option Step → Option Step
worded None f otherwise = otherwise
worded (Some text) f otherwise = f text

-- the step that a line asks for
abbrev pub step_of : List ℕ → Option Step
step_of xs = worded (after_of (codes "take ") xs) take_of (worded (after_of (codes "free ") xs) free_of (worded (after_of (codes "deliver ") xs) deliver_of
    (worded (after_of (codes "cut ") xs) cut_of (worded (after_of (codes "second ") xs) second_of (worded (after_of (codes "stop ") xs) stop_of None)))))

-- the same, by the word in front of the first blank
abbrev pub named : List ℕ → List ℕ → Option Step
named word text = cond (bytes_eq word (codes "take")) (take_of text) (cond (bytes_eq word (codes "free")) (free_of text) (cond (bytes_eq word (codes "deliver")) (deliver_of text)
    (cond (bytes_eq word (codes "cut")) (cut_of text) (cond (bytes_eq word (codes "second")) (second_of text) (cond (bytes_eq word (codes "stop")) (stop_of text) None)))))

-- a blank, a tab, and what else parts words
abbrev pub is_space : ℕ → Bool
is_space c = (nat_le 9 c && nat_le c 13) || c == 32

abbrev pub is_blank : List ℕ → Bool
is_blank line = list_all is_space line

-- a line that is blank, or begins with #
abbrev pub is_passed : List ℕ → Bool
is_passed [] = true
is_passed (c ∷ cs) = cond (c == 35) true (is_blank (c ∷ cs))

-- what a line of the script says
abbrev pub line_of : List ℕ → Option Line
line_of xs = cond (is_passed xs) (Some line.Passed) (cond (bytes_eq xs (codes "show")) (Some line.Show) (option_map line.Step (step_of xs)))

-- one to eight boxes, one to eight engines
abbrev pub sizes_of : ℕ × ℕ → Option (ℕ × ℕ)
sizes_of p = unless ((nat_le 1 p.0 && nat_le p.0 8) && (nat_le 1 p.1 && nat_le p.1 8)) (Some p)

-- the yard of a line, `yard BOXES ENGINES`
abbrev pub yard_of : List ℕ → Option (ℕ × ℕ)
yard_of xs = and_then (after_of (codes "yard ") xs) (λ text. and_then (pair_of text) sizes_of)

abbrev pub sizes : Yard → ℕ × ℕ
sizes y = (y.boxes, y.engines)
