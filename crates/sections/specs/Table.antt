-- One box's sections as plain values, and what each call makes of them: the machine that the code is held to.
use Rattle.std.specs.Prelude.{ℕ, ◌+◌, Bool, false, cond, not, ◌&&◌, ◌||◌, List, [], ◌∷◌, ◌++◌, replicate, Some, None, Ok, Err, filter, Option, Result, ◌==◌, nat_lt, slice_index_or, slice_set}
use Rattle.sections.specs.declared.Done.{Done}
use Rattle.sections.specs.declared.Done.TheVariants.{Had, Waits, LetGo, Left}
use Rattle.sections.specs.declared.Refusal.{Refusal}
use Rattle.sections.specs.declared.Refusal.TheVariants.{OutOfRange, Waiting, Mismatch, AtLimit}

-- who has a section: an engine by its number, or nobody
abbrev pub Holder : Type 0
Holder = Option ℕ

-- a section: who has it, who waits for it in the order of coming, and how often its holder changed
pub record Section : Type 0 where
  pub has : Holder
  pub queue : List ℕ
  pub change : ℕ

-- a section that nobody ever had
abbrev pub idle : Section
idle = record { has = None; queue = []; change = 0 }

-- a box's sections by place
abbrev pub Table : Type 0
Table = List Section

-- the table that a box begins with
abbrev pub empty : Table
empty = replicate 64 idle

-- the section at a place; where there is none, one that nobody ever had
abbrev pub place_at : Table → ℕ → Section
place_at t place = slice_index_or t place idle

abbrev pub holder_at : Table → ℕ → Holder
holder_at t place = (place_at t place).has

abbrev pub queue_at : Table → ℕ → List ℕ
queue_at t place = (place_at t place).queue

abbrev pub change_number_at : Table → ℕ → ℕ
change_number_at t place = (place_at t place).change

-- the table with another section at a place
abbrev pub put : Table → ℕ → Section → Table
put t place s = slice_set t place s

-- does an engine stand in a queue
abbrev pub is_in : ℕ → List ℕ → Bool
is_in engine [] = false
is_in engine (x ∷ xs) = x == engine || is_in engine xs

-- a queue that an engine has left, from wherever it stood
abbrev pub without : ℕ → List ℕ → List ℕ
without engine = filter (λ x. not (x == engine))

-- does an engine stand in some queue of the table
abbrev pub waits : ℕ → Table → Bool
waits engine [] = false
waits engine (s ∷ t) = is_in engine s.queue || waits engine t

-- engines and places are numbered from 0 to 63
abbrev pub known : ℕ → ℕ → Bool
known engine place = nat_lt engine 64 && nat_lt place 64

-- a change number below its limit has a next one
abbrev pub changeable : Section → Bool
changeable s = nat_lt s.change 4294967295

-- the change number of a section's next holder, while there is one
abbrev pub next_change : Section → Result ℕ Refusal
next_change s = cond (changeable s) (Ok (s.change + 1)) (Err AtLimit)

-- what a call makes of one section: the section afterwards and the answer, or the refusal
abbrev pub Outcome : Type 0
Outcome = Result (Section × Done) Refusal

abbrev pub take_by : Holder → Section → ℕ → Outcome
take_by None s engine = cond (changeable s) (Ok (record { has = Some engine; queue = s.queue; change = s.change + 1 }, Had)) (Err AtLimit)
take_by (Some holder) s engine = cond (holder == engine) (Err Mismatch) (Ok (record { has = s.has; queue = s.queue ++ engine ∷ []; change = s.change }, Waits holder))

-- take: a free section is had; one that another has is waited for, at the end of its queue
abbrev pub take_section : Section → ℕ → Outcome
take_section s engine = take_by s.has s engine

-- who gets a section that is let go: the first of its queue, or nobody
abbrev pub first_of : List ℕ → Holder
first_of [] = None
first_of (first ∷ _) = Some first

-- those behind the first
abbrev pub rest_of : List ℕ → List ℕ
rest_of [] = []
rest_of (_ ∷ rest) = rest

-- the section passes to the first of its queue, who waits no longer
abbrev pub pass_on : Section → Section
pass_on s = record { has = first_of s.queue; queue = rest_of s.queue; change = s.change + 1 }

abbrev pub free_by : Holder → Section → ℕ → Outcome
free_by None s engine = Err Mismatch
free_by (Some holder) s engine = cond (holder == engine) (cond (changeable s) (Ok (pass_on s, LetGo (first_of s.queue))) (Err AtLimit)) (Err Mismatch)

-- free: only by the engine that has the section
abbrev pub free_section : Section → ℕ → Outcome
free_section s engine = free_by s.has s engine

-- give up: only by an engine in the section's queue
abbrev pub give_up_section : Section → ℕ → Outcome
give_up_section s engine = cond (is_in engine s.queue) (Ok (record { has = s.has; queue = without engine s.queue; change = s.change }, Left)) (Err Mismatch)

-- what a call makes of one section, and its answer; refused, the section stays as it was
abbrev pub answered : Section → Outcome → Section × Result Done Refusal
answered s (Ok (after, done)) = (after, Ok done)
answered s (Err refusal) = (s, Err refusal)

-- why an engine may neither take nor free a section, whoever has it
abbrev pub refusal_of : Table → ℕ → ℕ → Option Refusal
refusal_of t engine place = cond (known engine place) (cond (waits engine t) (Some Waiting) None) (Some OutOfRange)

-- refused, or what comes of the section
abbrev pub unless : Option Refusal → Outcome → Outcome
unless (Some refusal) outcome = Err refusal
unless None outcome = outcome

-- what a call comes to. Of several refusals the one with the lowest number is given.
abbrev pub take_outcome : Table → ℕ → ℕ → Outcome
take_outcome t engine place = unless (refusal_of t engine place) (take_section (place_at t place) engine)

abbrev pub free_outcome : Table → ℕ → ℕ → Outcome
free_outcome t engine place = unless (refusal_of t engine place) (free_section (place_at t place) engine)

abbrev pub give_up_outcome : Table → ℕ → ℕ → Outcome
give_up_outcome t engine place = cond (known engine place) (give_up_section (place_at t place) engine) (Err OutOfRange)

-- a call changes the section at its place and no other; refused, it changes nothing
abbrev pub settle : Table → ℕ → Outcome → Table × Result Done Refusal
settle t place (Ok (s, done)) = (put t place s, Ok done)
settle t place (Err refusal) = (t, Err refusal)

-- THE CALLS: the table afterwards and the answer
abbrev pub take_of : Table → ℕ → ℕ → Table × Result Done Refusal
take_of t engine place = settle t place (take_outcome t engine place)

abbrev pub free_of : Table → ℕ → ℕ → Table × Result Done Refusal
free_of t engine place = settle t place (free_outcome t engine place)

abbrev pub give_up_of : Table → ℕ → ℕ → Table × Result Done Refusal
give_up_of t engine place = settle t place (give_up_outcome t engine place)
