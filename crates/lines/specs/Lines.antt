-- The text of lines, and what a text is read as. Assumes nothing.
use Rattle.std.specs.Prelude.{◌≡◌, ℕ, ◌+◌, ◌<◌, ◌≤◌, Bool, cond, ◌&&◌, List, ◌∷◌, ◌++◌, length, drop, Some, None, Ok, Err, Option, Result, ◌==◌, nat_le, nat_lt, slice_index}
use Rattle.messages.specs.declared.message.Refusal.{Refusal}
use Rattle.messages.specs.declared.message.Message.{Message}
use Rattle.messages.specs.Table as wire
use Rattle.messages.specs.Promises.{Bytes}
use Rattle.messages.specs.Range.{EngineIn, MessageIn, SectionIn}
use Rattle.messages.specs.declared.yard.BoxNumber.{BoxNumber}
use Rattle.messages.specs.Reading.{and_then, box_of, engine_of, message_of, section_of, unless}
use Rattle.messages.specs.declared.yard.Engine.{Engine}
use Rattle.messages.specs.declared.yard.Section.{Section}
use Rattle.messages.specs.declared.yard.Yard.{Yard}
use Rattle.lines.specs.declared.line.Line.{Line}
use Rattle.lines.specs.declared.line.Line.TheVariants as line
use Rattle.lines.specs.declared.line.Wish.{Wish}
use Rattle.lines.specs.Digits.{bytes_in, capitals, decimal, hex_of, number_of}
use Rattle.lines.specs.Written.{bytes_of}

-- the line of a message to or from a box
abbrev pub message_line : BoxNumber → List ℕ → List ℕ
message_line b bs = decimal b.0 ++ (32 ∷ hex_of bs)

-- what is written: a message of at most 21 bytes for a box below a hundred
abbrev pub written : BoxNumber → List ℕ → Option (List ℕ)
written b bs = unless (nat_le b.0 99 && nat_le (length bs) 21) (Some (message_line b bs))

-- a message's bytes, of which there are at most 21
abbrev pub message_in : List ℕ → Option (List ℕ)
message_in xs = unless (nat_le (length xs) 42) (bytes_in xs)

-- a byte stands at a place
abbrev pub is_at : ℕ → ℕ → List ℕ → Bool
is_at c n xs = nat_lt n (length xs) && slice_index xs n == c

-- what follows the byte that has to stand at a place
abbrev pub past : ℕ → ℕ → List ℕ → Option (List ℕ)
past c n xs = unless (is_at c n xs) (Some (drop (n + 1) xs))

-- a section: the number of its box, a colon, and its place
abbrev pub place_of : Yard → List ℕ → Option Section
place_of y xs = and_then (number_of xs) (λ b. and_then (past 58 b.width xs) (λ t. and_then (number_of t) (λ p.
    unless (p.width == length t) (section_of y b.value p.value))))

-- an engine's number, a blank, and a section
abbrev pub wish_of : Yard → List ℕ → Option Wish
wish_of y xs = and_then (number_of xs) (λ e. and_then (past 32 e.width xs) (λ r. and_then (engine_of y e.value) (λ en.
    and_then (place_of y r) (λ s. Some (record { engine = en; section = s })))))

-- what a line says
pub data Said : Type 0 where
  message : BoxNumber → List ℕ → Said
  take : Engine → Section → Said
  free : Engine → Section → Said
  second : Said

abbrev pub said_of : Line → Said
said_of (line.Message b m) = message b (bytes_of m)
said_of (line.Take e s) = take e s
said_of (line.Free e s) = free e s
said_of line.Second = second

-- what a line says, if it says anything
abbrev pub shown : Option Line → Option Said
shown None = None
shown (Some l) = Some (said_of l)

-- a message: a box's number, a blank, and the bytes in hexadecimal
abbrev pub sent_of : Yard → List ℕ → Option Said
sent_of y xs = and_then (number_of xs) (λ b. and_then (past 32 b.width xs) (λ r. and_then (box_of y b.value) (λ from.
    and_then (message_in r) (λ bs. Some (message from bs)))))

-- the five bytes `take `, and what follows
abbrev pub is_take : List ℕ → Bool
is_take xs = nat_le 5 (length xs) && (slice_index xs 0 == 116 && (slice_index xs 1 == 97 && (slice_index xs 2 == 107 && (slice_index xs 3 == 101 && slice_index xs 4 == 32))))

-- the five bytes `free `, and what follows
abbrev pub is_free : List ℕ → Bool
is_free xs = nat_le 5 (length xs) && (slice_index xs 0 == 102 && (slice_index xs 1 == 114 && (slice_index xs 2 == 101 && (slice_index xs 3 == 101 && slice_index xs 4 == 32))))

-- the word `second` alone
abbrev pub is_second : List ℕ → Bool
is_second xs = length xs == 6 && (slice_index xs 0 == 115 && (slice_index xs 1 == 101 && (slice_index xs 2 == 99 && (slice_index xs 3 == 111 && (slice_index xs 4 == 110 && slice_index xs 5 == 100)))))

-- what a driver writes behind the word: an engine, a blank, a box, a colon and a place
abbrev pub wish_text : Engine → Section → List ℕ
wish_text e s = decimal e.0 ++ (32 ∷ (decimal s.keeper.0 ++ (58 ∷ decimal s.place)))

-- a driver's lines
abbrev pub take_line : Engine → Section → List ℕ
take_line e s = 116 ∷ 97 ∷ 107 ∷ 101 ∷ 32 ∷ wish_text e s

abbrev pub free_line : Engine → Section → List ℕ
free_line e s = 102 ∷ 114 ∷ 101 ∷ 101 ∷ 32 ∷ wish_text e s

-- what a line is read as: the whole of it
abbrev pub line_of : Yard → List ℕ → Option Said
line_of y xs = cond (is_take xs) (and_then (wish_of y (drop 5 xs)) (λ w. Some (take w.engine w.section)))
    (cond (is_free xs) (and_then (wish_of y (drop 5 xs)) (λ w. Some (free w.engine w.section)))
    (cond (is_second xs) (Some second) (sent_of y xs)))

-- what the reader answers, by what the line says
abbrev pub answered : Result Line Refusal → Result Said Refusal
answered (Ok l) = Ok (said_of l)
answered (Err e) = Err e

-- a message's line is read back as that message, from that box
abbrev pub ReadsBack : Type 0
ReadsBack = (y : Yard) (b : BoxNumber) (bs : List ℕ) → b.0 < y.boxes → Bytes bs → length bs ≤ 21 → line_of y (message_line b bs) ≡ Some (message b bs)

-- a driver's line for an engine and a section of the yard is read as what it asks for
abbrev pub DriverRead : Type 0
DriverRead = (y : Yard) (e : Engine) (s : Section) → EngineIn y e → SectionIn y s
    → (line_of y (take_line e s) ≡ Some (take e s)) × (line_of y (free_line e s) ≡ Some (free e s))

-- a message's digits are read alike in small and in capital letters
abbrev pub EitherCase : Type 0
EitherCase = (xs : List ℕ) → message_in (capitals xs) ≡ message_in xs

-- every message has a line, to any box that has one
abbrev pub EveryMessage : Type 0
EveryMessage = (b : BoxNumber) (m : Message) → b.0 ≤ 99 → written b (wire.bytes_of m) ≡ Some (message_line b (wire.bytes_of m))

-- the message that a line carries, and the box that it is from
abbrev pub carried : Yard → Said → Option (BoxNumber × Message)
carried y (message b bs) = and_then (message_of y bs) (λ m. Some (b, m))
carried y (take e s) = None
carried y (free e s) = None
carried y second = None

-- a message in range that is printed as a line, read as a line and decoded is that message again, from that box
abbrev pub LineToMessage : Type 0
LineToMessage = (y : Yard) (b : BoxNumber) (m : Message) → b.0 < y.boxes → MessageIn y m
    → and_then (written b (wire.bytes_of m)) (λ text. and_then (line_of y text) (carried y)) ≡ Some (b, m)
