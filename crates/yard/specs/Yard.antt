-- The yard without bytes, call numbers and stops: sections as they are, engines as the last record in their home's file has them, and all that was ever begun and told.
-- Assumes nothing.
use Rattle.std.specs.Prelude.{◌≡◌, ℕ, suc, ◌%◌, ◌<◌, ◌≤◌, cond, ◌⊎◌, List, [], ◌∷◌, ◌++◌, ◌==◌, ◌≢◌}
use mathlib.Core.List.{Memᴰ}

-- A section is free, or an engine has it.
pub data Holder : Type 0 where
  free : Holder
  by : ℕ → Holder

-- queue: who waits, in the order in which they came; change: how often the holder changed; past: who had it from each change on;
-- came: at which change an engine came into the queue
pub record Section : Type 0 where
  pub holder : Holder
  pub queue : List ℕ
  pub change : ℕ
  pub past : ℕ → Holder
  pub came : ℕ → ℕ

-- What an engine's home last wrote of it: nothing yet; that it asks for a section; that it began to wait for an engine, in a section, as of a
-- change; that it frees a section; that it leaves the queue of a section, having found a ring.
pub data Mode : Type 0 where
  none : Mode
  asking : ℕ → Mode
  waiting : ℕ → ℕ → ℕ → Mode
  freeing : ℕ → Mode
  leaving : ℕ → Mode

-- count: how often it has begun to wait; shown: the sign that it shows; own: the sign that it took when it last began
pub record Engine : Type 0 where
  pub mode : Mode
  pub count : ℕ
  pub shown : ℕ
  pub own : ℕ

-- an engine began its count-th wait in a section
pub record Begun : Type 0 where
  pub engine : ℕ
  pub count : ℕ
  pub section : ℕ

-- to an engine, for its count-th wait, by another that showed this sign then
pub record Telling : Type 0 where
  pub to : ℕ
  pub count : ℕ
  pub teller : ℕ
  pub sign : ℕ

pub record Yard : Type 0 where
  pub section : ℕ → Section
  pub engine : ℕ → Engine
  pub begun : List Begun
  pub told : List Telling

-- Every section is free, no engine has done anything, each shows its own number.
abbrev pub start : Yard
start =
    record {
      section = λ s. record { holder = free; queue = []; change = 0; past = λ n. free; came = λ i. 0 };
      engine = λ i. record { mode = none; count = 0; shown = i; own = i };
      begun = [];
      told = [];
    }

-- Reading a yard.
abbrev pub holder : Yard → ℕ → Holder
holder y s = (y.section s).holder

abbrev pub mode : Yard → ℕ → Mode
mode y i = (y.engine i).mode

abbrev pub count : Yard → ℕ → ℕ
count y i = (y.engine i).count

abbrev pub shown : Yard → ℕ → ℕ
shown y i = (y.engine i).shown

abbrev pub own : Yard → ℕ → ℕ
own y i = (y.engine i).own

abbrev pub Queued : Yard → ℕ → ℕ → Type 0
Queued y i s = Memᴰ i (y.section s).queue

abbrev pub HasBegun : Yard → ℕ → ℕ → ℕ → Type 0
HasBegun y i c s = Memᴰ (record { engine = i; count = c; section = s }) y.begun

abbrev pub Told : Yard → ℕ → ℕ → ℕ → ℕ → Type 0
Told y x c j v = Memᴰ (record { to = x; count = c; teller = j; sign = v }) y.told

-- What changes of one section.
abbrev pub put : {A : Type 0} → ℕ → A → (ℕ → A) → ℕ → A
put i a f j = cond (j == i) a (f j)

abbrev pub first : List ℕ → Holder
first [] = free
first (i ∷ is) = by i

abbrev pub rest : List ℕ → List ℕ
rest [] = []
rest (i ∷ is) = is

abbrev pub without : ℕ → List ℕ → List ℕ
without i [] = []
without i (x ∷ xs) = cond (x == i) (without i xs) (x ∷ without i xs)

-- another holder and queue, one change on
abbrev pub handed : Holder → List ℕ → Section → Section
handed h q x = record { holder = h; queue = q; change = suc x.change; past = put (suc x.change) h x.past; came = x.came }

abbrev pub joined : ℕ → Section → Section
joined i x = record { holder = x.holder; queue = x.queue ++ (i ∷ []); change = x.change; past = x.past; came = put i x.change x.came }

abbrev pub left : ℕ → Section → Section
left i x = record { holder = x.holder; queue = without i x.queue; change = x.change; past = x.past; came = x.came }

-- What changes of one engine.
abbrev pub turned : Mode → Engine → Engine
turned m e = record { mode = m; count = e.count; shown = e.shown; own = e.own }

abbrev pub beginning : Mode → ℕ → Engine → Engine
beginning m u e = record { mode = m; count = suc e.count; shown = u; own = u }

abbrev pub showing : ℕ → Engine → Engine
showing v e = record { mode = e.mode; count = e.count; shown = v; own = e.own }

abbrev pub at_section : ℕ → Section → Yard → Yard
at_section s x y = record { section = put s x y.section; engine = y.engine; begun = y.begun; told = y.told }

abbrev pub at_engine : ℕ → Engine → Yard → Yard
at_engine i e y = record { section = y.section; engine = put i e y.engine; begun = y.begun; told = y.told }

-- What can happen. i, x, j: engines; s: a section.
pub data Act : Type 0 where
  -- i's home sends that it asks for s; that it frees s
  asks frees : (i s : ℕ) → Act
  -- the section's box does what i asked: i has it, or stands at the end of the queue; what i freed goes to the first in the queue; i is out of the queue
  takes joins passes leaves : (i s : ℕ) → Act
  -- i hears that it is queued, or that s has passed to j, and begins to wait for j, as of change m, with the new sign u
  begins : (i s j m u : ℕ) → Act
  -- j tells x, for its c-th wait, which was in s, the sign that j shows
  tells : (x c s j : ℕ) → Act
  -- x hears from j the sign v, and shows it
  hears : (x j v : ℕ) → Act
  -- i, waiting for j in s, hears its own sign from j, and is told to give up
  finds : (i j s : ℕ) → Act

-- An engine's last call has been done.
abbrev pub Settled : Yard → ℕ → Mode → Type 0
Settled y i none = Unit {0}
Settled y i (asking s) = holder y s ≡ by i
Settled y i (waiting j s m) = holder y s ≡ by i
Settled y i (freeing s) = holder y s ≡ by i → ⊥
Settled y i (leaving s) = Queued y i s → ⊥

-- An engine's home has yet to hear of change m in section s: it asks for s, or began there as of an earlier change.
abbrev pub Unheard : ℕ → ℕ → Mode → Type 0
Unheard s m none = ⊥
Unheard s m (asking t) = t ≡ s
Unheard s m (waiting j t k) = (t ≡ s) × (k < m)
Unheard s m (freeing t) = ⊥
Unheard s m (leaving t) = ⊥

-- x waits for j as far as its home knows.
abbrev pub WaitsOn : Yard → ℕ → ℕ → ℕ → Type 0
WaitsOn y x j s = (m : ℕ) × (mode y x ≡ waiting j s m)

-- i has its own sign back from j, by the count of its present wait, and shows it.
abbrev pub Finds : Yard → ℕ → ℕ → ℕ → Type 0
Finds y i j s = Told y i (count y i) j (own y i) × WaitsOn y i j s × (shown y i ≡ own y i)

-- When each can happen; engines: how many there are.
abbrev pub May : ℕ → Yard → Act → Type 0
May engines y (asks i s) = (i < engines) × Settled y i (mode y i)
May engines y (frees i s) = (holder y s ≡ by i) × Settled y i (mode y i)
May engines y (takes i s) = (mode y i ≡ asking s) × (holder y s ≡ free)
May engines y (joins i s) = (mode y i ≡ asking s) × ((j : ℕ) × (holder y s ≡ by j) × (i ≢ j)) × (Queued y i s → ⊥)
May engines y (passes i s) = (mode y i ≡ freeing s) × (holder y s ≡ by i)
May engines y (leaves i s) = mode y i ≡ leaving s
-- the change is one since i came, and j had the section then; the sign is a higher one of i's own
May engines y (begins i s j m u) =
    Unheard s m (mode y i) × (Queued y i s ⊎ (holder y s ≡ by i)) ×
    (((y.section s).came i ≤ m) × (m ≤ (y.section s).change) × ((y.section s).past m ≡ by j) × (i ≢ j)) ×
    ((shown y i < u) × (u % engines ≡ i))
-- j has the section: its home, which can't know that any more once it has sent that j frees it, tells nobody there from then on
May engines y (tells x c s j) = HasBegun y x c s × (holder y s ≡ by j)
May engines y (hears x j v) = Told y x (count y x) j v × ((s : ℕ) × WaitsOn y x j s) × (shown y x < v)
May engines y (finds i j s) = Finds y i j s

-- What each does.
abbrev pub after : Yard → Act → Yard
after y (asks i s) = at_engine i (turned (asking s) (y.engine i)) y
after y (frees i s) = at_engine i (turned (freeing s) (y.engine i)) y
after y (takes i s) = at_section s (handed (by i) (y.section s).queue (y.section s)) y
after y (joins i s) = at_section s (joined i (y.section s)) y
after y (passes i s) = at_section s (handed (first (y.section s).queue) (rest (y.section s).queue) (y.section s)) y
after y (leaves i s) = at_section s (left i (y.section s)) y
after y (begins i s j m u) =
    record {
      section = y.section;
      engine = put i (beginning (waiting j s m) u (y.engine i)) y.engine;
      begun = record { engine = i; count = suc (count y i); section = s } ∷ y.begun;
      told = y.told;
    }
after y (tells x c s j) =
    record {
      section = y.section;
      engine = y.engine;
      begun = y.begun;
      told = record { to = x; count = c; teller = j; sign = shown y j } ∷ y.told;
    }
after y (hears x j v) = at_engine x (showing v (y.engine x)) y
after y (finds i j s) = at_engine i (turned (leaving s) (y.engine i)) y

-- A run: acts one after another, the last one first in the list, each of which could happen when it did.
pub data Run (engines : ℕ) (y : Yard) : List Act → Yard → Type 0 where
  still : Run engines y [] y
  then : {acts : List Act} {z : Yard} → Run engines y acts z → (a : Act) → May engines z a → Run engines y (a ∷ acts) (after z a)

-- A yard that some run leads to from the start.
abbrev pub Reach : ℕ → Yard → Type 0
Reach engines y = (acts : List Act) × Run engines start acts y

-- The truth about waits: i is in the queue of a section that j has.
abbrev pub WaitsFor : Yard → ℕ → ℕ → Type 0
WaitsFor y i j = (s : ℕ) × Queued y i s × (holder y s ≡ by j)

-- From i along waits, by way of the engines of the list, to k.
pub data Along (y : Yard) : ℕ → List ℕ → ℕ → Type 0 where
  one : {i k : ℕ} → WaitsFor y i k → Along y i [] k
  more : {i j k : ℕ} {js : List ℕ} → WaitsFor y i j → Along y j js k → Along y i (j ∷ js) k

-- No engine of the list is in it twice.
abbrev pub Distinct : List ℕ → Type 0
Distinct [] = Unit {0}
Distinct (i ∷ is) = (Memᴰ i is → ⊥) × Distinct is

-- A ring (a deadlock cycle): i and the engines of the list, all different, each waits for the next and the last for i.
abbrev pub Ring : Yard → ℕ → List ℕ → Type 0
Ring y i is = Along y i is i × Distinct (i ∷ is)
