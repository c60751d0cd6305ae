-- What always holds of a box's sections: every queue is in order, and nobody stands in two of them.
use Rattle.std.specs.Prelude.{◌≡◌, ℕ, ◌<◌, Bool, true, not, ◌&&◌, ◌⊎◌, List, [], ◌∷◌, Some, None, Ok, Err, ◌≢◌}
use Rattle.sections.specs.Table.{Holder, Outcome, Section, Table, is_in, queue_at}

-- does nobody stand in a queue twice
abbrev pub once : List ℕ → Bool
once [] = true
once (x ∷ xs) = not (is_in x xs) && once xs

-- an engine waits for the section at a place: it stands in its queue
abbrev pub WaitsAt : Table → ℕ → ℕ → Type 0
WaitsAt t engine place = is_in engine (queue_at t place) ≡ true

-- nobody waits twice for a section
abbrev pub NobodyTwice : List ℕ → Type 0
NobodyTwice queue = once queue ≡ true

-- whoever waits has a number below 64
abbrev pub WaitersKnown : List ℕ → Type 0
WaitersKnown queue = (engine : ℕ) → is_in engine queue ≡ true → engine < 64

-- nobody waits for a section that it has
abbrev pub NobodyItsOwn : Holder → List ℕ → Type 0
NobodyItsOwn has queue = (engine : ℕ) → is_in engine queue ≡ true → has ≢ Some engine

-- nobody waits for a section that is free
abbrev pub NobodyForFree : Holder → List ℕ → Type 0
NobodyForFree has queue = (engine : ℕ) → is_in engine queue ≡ true → has ≢ None

-- whoever has a section has a number below 64
abbrev pub HoldersKnown : Holder → Type 0
HoldersKnown has = (engine : ℕ) → has ≡ Some engine → engine < 64

-- a section in order: nobody waits for it twice, nor has it, nor waits where it is free, and all are engines
pub record InOrder (s : Section) : Type 0 where
  pub twice : NobodyTwice s.queue
  pub others : NobodyItsOwn s.has s.queue
  pub had : NobodyForFree s.has s.queue
  pub waiters : WaitersKnown s.queue
  pub holders : HoldersKnown s.has

-- nobody waits for two sections
abbrev pub OneQueue : Table → Type 0
OneQueue t = (engine p q : ℕ) → (WaitsAt t engine p × WaitsAt t engine q × (p ≢ q)) → ⊥

-- whoever waits for a section now waited for it before, or waited nowhere
abbrev pub FewNew : Table → ℕ → Section → Type 0
FewNew t p s = (e : ℕ) → is_in e s.queue ≡ true → WaitsAt t e p ⊎ ((q : ℕ) → WaitsAt t e q → ⊥)

-- what a call makes of a section keeps all this
abbrev pub Keeps : Table → ℕ → Outcome → Type 0
Keeps t p (Ok (s, done)) = InOrder s × FewNew t p s
Keeps t p (Err refusal) = Unit {0}
