-- Engines that wait for one another, each for one at a time, and signs that are told backwards along waits. What was told may come late, twice or never.
-- Assumes nothing.
use Rattle.std.specs.Prelude.{◌≡◌, ℕ, suc, ◌%◌, ◌<◌, ◌≤◌, cond, ◌⊎◌, List, [], ◌∷◌, ◌==◌, ◌≢◌, None, Some}
use mathlib.Core.List.{Memᴰ}
use Rattle.signs.specs.declared.Engine.{Engine}
use Rattle.signs.specs.Signs.{begun, showing, idle}

-- engine by, for which engine to waits since its count-th beginning, shows a sign
pub record Tell : Type 0 where
  pub to : ℕ
  pub count : ℕ
  pub by : ℕ
  pub sign : ℕ

-- every engine, and all that was ever told: nothing is taken out of it, so it may be heard late, twice or never
pub record Net : Type 0 where
  pub engine : ℕ → Engine
  pub sent : List Tell

-- nobody waits, nothing is told, and every engine shows its number
abbrev pub start : Net
start = record { engine = λ i. record { wait = None; count = 0; shown = i; own = i }; sent = [] }

-- the net with another engine in the place of one
abbrev pub with : ℕ → Engine → Net → Net
with i e n = record { engine = λ j. cond (j == i) e (n.engine j); sent = n.sent }

-- what j tells i, who waits for it
abbrev pub tell_of : Net → ℕ → ℕ → Tell
tell_of n i j = record { to = i; count = (n.engine i).count; by = j; sign = (n.engine j).shown }

-- the net after j has told i
abbrev pub told : Net → ℕ → ℕ → Net
told n i j = record { engine = n.engine; sent = tell_of n i j ∷ n.sent }

-- that sign was told to i by j, since the beginning that i still waits by
abbrev pub Came : Net → ℕ → ℕ → ℕ → Type 0
Came n i j s = Memᴰ (record { to = i; count = (n.engine i).count; by = j; sign = s }) n.sent

-- i finds: its own sign, which it shows, was told to it by j, for whom it waits
abbrev pub Finds : Net → ℕ → ℕ → Type 0
Finds n i j = Came n i j (n.engine i).own × ((n.engine i).wait ≡ Some j) × ((n.engine i).shown ≡ (n.engine i).own)

-- engines: how many there are
pub data Step (engines : ℕ) : Net → Net → Type 0 where
  -- the own sign is any number above the one shown that leaves the engine's number: the code takes the lowest
  begins : (n : Net) (i j u : ℕ) → i < engines → j < engines → (i ≢ j) → (n.engine i).wait ≡ None → (n.engine i).shown < u → u % engines ≡ i →
      Step engines n (with i (begun (n.engine i) j u) n)
  -- only one that doesn't wait itself lets others go on
  goes_on : (n : Net) (i j : ℕ) → (n.engine i).wait ≡ Some j → (n.engine j).wait ≡ None → Step engines n (with i (idle (n.engine i)) n)
  tells : (n : Net) (i j : ℕ) → (n.engine i).wait ≡ Some j → Step engines n (told n i j)
  hears : (n : Net) (i j s : ℕ) → Came n i j s → (n.engine i).wait ≡ Some j → (n.engine i).shown < s → Step engines n (with i (showing (n.engine i) s) n)
  -- it gives up
  finds : (n : Net) (i j : ℕ) → Finds n i j → Step engines n (with i (idle (n.engine i)) n)

-- a run: one step after another
pub data Run (engines : ℕ) (n : Net) : Net → Type 0 where
  still : Run engines n n
  onward : {m o : Net} → Run engines n m → Step engines m o → Run engines n o

-- what a run from the start leads to
abbrev pub Reach : ℕ → Net → Type 0
Reach engines n = Run engines start n

-- from one engine to another along waits, at least one
pub data Along (n : Net) : ℕ → ℕ → Type 0 where
  one : {i j : ℕ} → (n.engine i).wait ≡ Some j → Along n i j
  more : {i k : ℕ} (j : ℕ) → (n.engine i).wait ≡ Some j → Along n j k → Along n i k

-- how many waits those are
abbrev pub long : {n : Net} {i j : ℕ} → Along n i j → ℕ
long (one w) = 1
long (more j w a) = suc (long a)

-- an engine in a ring (a deadlock cycle): the waits lead back to it. Once round, there are as many as engines in the ring
abbrev pub InRing : Net → ℕ → Type 0
InRing n i = Along n i i

-- k has the highest own sign of those to whom waits lead from i
abbrev pub Highest : Net → ℕ → ℕ → Type 0
Highest n i k = (l : ℕ) → Along n i l → (n.engine l).own ≤ (n.engine k).own

-- a run of telling and hearing alone, with so many tellings
pub data Telling (n : Net) : ℕ → Net → Type 0 where
  none : Telling n 0 n
  tell : {c : ℕ} {m : Net} → Telling n c m → (i j : ℕ) → (m.engine i).wait ≡ Some j → Telling n (suc c) (told m i j)
  hear : {c : ℕ} {m : Net} → Telling n c m → (i j s : ℕ) → Came m i j s → (m.engine i).wait ≡ Some j → (m.engine i).shown < s →
      Telling n c (with i (showing (m.engine i) s) m)

-- at one of the run's steps k finds and gives up
abbrev pub FoundIn : {engines : ℕ} {n m : Net} → Run engines n m → ℕ → Type 0
FoundIn still k = ⊥
FoundIn (onward {m = m} {o = o} r s) k = FoundIn r k ⊎ ((j : ℕ) × Finds m k j × ((o.engine k).wait ≡ None))

-- how far a sign has come: an engine shows it, or it was told to an engine by another and is under way
pub data Stage : Type 0 where
  shows : ℕ → Stage
  underway : ℕ → ℕ → ℕ → Stage

-- a run in which the sign of k is told back along waits, one after another in order, with any other steps between
pub data Carried (engines : ℕ) (n : Net) (k : ℕ) : (m : Net) → Run engines n m → Stage → Type 0 where
  opens : Carried engines n k n still (shows k)
  meanwhile : {m o : Net} {r : Run engines n m} {g : Stage} → Carried engines n k m r g → (s : Step engines m o) → Carried engines n k o (onward r s) g
  tell_on : {m : Net} {r : Run engines n m} {j : ℕ} → Carried engines n k m r (shows j) → (i : ℕ) (w : (m.engine i).wait ≡ Some j) →
      Carried engines n k (told m i j) (onward r (tells m i j w)) (underway i j (m.engine j).shown)
  heard : {m : Net} {r : Run engines n m} {i j s : ℕ} → Carried engines n k m r (underway i j s) →
      (c : Came m i j s) (w : (m.engine i).wait ≡ Some j) (up : (m.engine i).shown < s) →
      Carried engines n k (with i (showing (m.engine i) s) m) (onward r (hears m i j s c w up)) (shows i)
  -- one that shows as high a sign already passes it over
  passed : {m : Net} {r : Run engines n m} {i j s : ℕ} → Carried engines n k m r (underway i j s) → s ≤ (m.engine i).shown → Carried engines n k m r (shows i)
