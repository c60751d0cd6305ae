-- A set of sections, box by box a word with a bit for each place. Assumes nothing.
use Rattle.std.specs.Prelude.{ℕ, ◌*◌, ◌/◌, ◌%◌, ◌^◌, Bool, false, cond, ◌&&◌, replicate, ◌==◌, bit_and, bit_or, bit_xor, nat_lt, slice_index, slice_set}
use Rattle.std.specs.List.{list_all}
use Rattle.messages.specs.declared.yard.Section.{Section}
use Rattle.engine_state.specs.declared.places.Places.{Places}

-- a section that a yard can have
abbrev pub fits : Section → Bool
fits s = nat_lt s.keeper.0 16 && nat_lt s.place 64

abbrev pub same_section : Section → Section → Bool
same_section s t = s.keeper.0 == t.keeper.0 && s.place == t.place

-- the word that has one place
abbrev pub bit : ℕ → ℕ
bit p = (1 * 2 ^ p) % 2 ^ 64

-- a word has a place
abbrev pub marked : ℕ → ℕ → Bool
marked word p = word / 2 ^ p % 2 == 1

abbrev pub no_place : Places
no_place = record { words = replicate 16 0 }

-- the word of a section's box
abbrev pub word_of : Places → Section → ℕ
word_of x s = slice_index x.words s.keeper.0

abbrev pub has_of : Places → Section → Bool
has_of x s = cond (fits s) (marked (word_of x s) s.place) false

abbrev pub with_word : Places → Section → ℕ → Places
with_word x s word = record { words = slice_set x.words s.keeper.0 word }

-- the set with a section more
abbrev pub with_of : Places → Section → Places
with_of x s = cond (fits s) (with_word x s (bit_or (word_of x s) (bit s.place))) x

-- the set with a section less
abbrev pub without_of : Places → Section → Places
without_of x s = cond (fits s) (with_word x s (bit_xor (word_of x s) (bit_and (word_of x s) (bit s.place)))) x

-- the set has no section
abbrev pub empty_of : Places → Bool
empty_of x = list_all (λ word. word == 0) x.words
