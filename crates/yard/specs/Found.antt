-- That every ring is found, by the one whose own sign is the highest, through telling and hearing alone.
-- Assumes nothing.
use Rattle.std.specs.Prelude.{◌≡◌, ℕ, suc, ◌<◌, ◌≤◌, List, [], ◌∷◌, ◌++◌, length, ◌≢◌}
use mathlib.Core.List.{Memᴰ}
use Rattle.yard.specs.Yard.{Yard, by, holder, own, count, shown, Queued, WaitsOn, Finds, Act, begins, tells, hears, finds, May, after, Run, Reach, Ring}
use Rattle.yard.specs.Rings.{OneLeaves}

-- The home of i has heard whom it waits for: the one that has the section now.
abbrev pub Heard : Yard → ℕ → Type 0
Heard y i = (j s : ℕ) × WaitsOn y i j s × Queued y i s × (holder y s ≡ by j)

-- These acts are beginnings, of engines of the list that in y haven't heard yet whom they wait for.
pub data BeginningsOf (y : Yard) (is : List ℕ) : List Act → Type 0 where
  no_beginning : BeginningsOf y is []
  a_beginning : {i s j m u : ℕ} {acts : List Act} → Memᴰ i is → (Heard y i → ⊥) → BeginningsOf y is acts → BeginningsOf y is (begins i s j m u ∷ acts)

-- These acts are tellings and hearings, so many of them tellings.
pub data Round : ℕ → List Act → Type 0 where
  no_telling : Round 0 []
  a_telling : {n x c s j : ℕ} {acts : List Act} → Round n acts → Round (suc n) (tells x c s j ∷ acts)
  a_hearing : {n x j v : ℕ} {acts : List Act} → Round n acts → Round n (hears x j v ∷ acts)

-- A way from a ring to its finding: those that haven't heard whom they wait for begin, at most as many beginnings as engines; then there are only
-- tellings and hearings, as many tellings as engines; then the one finds whose own sign is the highest.
pub record WayToFinding (engines : ℕ) (y : Yard) (ring : List ℕ) : Type 0 where
  pub beginnings : List Act
  pub all_heard : Yard
  pub begun : Run engines y beginnings all_heard
  pub only_beginnings : BeginningsOf y ring beginnings
  pub few_beginnings : length beginnings ≤ length ring
  pub round : List Act
  pub end : Yard
  pub told_round : Run engines all_heard round end
  pub as_many_tellings : Round (length ring) round
  pub finder : ℕ
  pub in_ring : Memᴰ finder ring
  pub highest : (l : ℕ) → Memᴰ l ring → own all_heard l ≤ own all_heard finder
  pub next : ℕ
  pub section : ℕ
  pub finds : Finds end finder next section

-- From every ring of which none has been told to give up there is such a way.
abbrev pub Found : Type 0
Found = (engines : ℕ) (y : Yard) → Reach engines y → (i : ℕ) (is : List ℕ) → Ring y i is → (OneLeaves y (i ∷ is) → ⊥) → WayToFinding engines y (i ∷ is)

-- What becomes of a telling that comes to x, for its c-th wait, by j, with the sign v.
pub data Delivered (engines : ℕ) (y : Yard) (x c j v : ℕ) : List Act → Yard → Type 0 where
  shows_it : count y x ≡ c → May engines y (hears x j v) → Delivered engines y x c j v (hears x j v ∷ []) (after y (hears x j v))
  finds_it : (s : ℕ) → count y x ≡ c → v ≡ own y x → May engines y (finds x j s) → Delivered engines y x c j v (finds x j s ∷ []) (after y (finds x j s))
  -- it waits for another or by another count; or the sign is not above the one it shows, and not its own shown
  passed_over : ((s : ℕ) → WaitsOn y x j s → count y x ≡ c → (shown y x < v → ⊥) × (v ≡ own y x → shown y x ≢ own y x)) → Delivered engines y x c j v [] y

-- j tells x the sign that it shows, for the wait that x is in, and that comes to x; whatever else happens before the telling and before it comes.
pub data Passed (engines : ℕ) (y : Yard) (j x : ℕ) : List Act → Yard → Type 0 where
  passed : {before between come : List Act} {y1 y2 y3 : Yard} → Run engines y before y1 → (s : ℕ) (g : May engines y1 (tells x (count y1 x) s j)) →
      Run engines (after y1 (tells x (count y1 x) s j)) between y2 → Delivered engines y2 x (count y1 x) j (shown y1 j) come y3 →
      Passed engines y j x (come ++ (between ++ (tells x (count y1 x) s j ∷ before))) y3

-- What k shows is told on from one to the next, in order, until it comes to x.
pub data ToldOn (engines : ℕ) (y : Yard) (k : ℕ) : ℕ → List Act → Yard → Type 0 where
  first : {x : ℕ} {acts : List Act} {z : Yard} → Passed engines y k x acts z → ToldOn engines y k x acts z
  next : {j x : ℕ} {acts more : List Act} {z w : Yard} → ToldOn engines y k j acts z → Passed engines z j x more w → ToldOn engines y k x (more ++ acts) w

-- In every run in which, once all of a ring have heard whom they wait for, the highest one's sign is told round once in order, that one finds, whatever else happens.
abbrev pub FoundInEveryRun : Type 0
FoundInEveryRun =
    (engines : ℕ) (y : Yard) → Reach engines y → (k : ℕ) (ks : List ℕ) → Ring y k ks → ((l : ℕ) → Memᴰ l (k ∷ ks) → Heard y l) → ((l : ℕ) → Memᴰ l ks → own y l ≤ own y k) →
    (acts : List Act) (z : Yard) → ToldOn engines y k k acts z → (j s : ℕ) × Memᴰ (finds k j s) acts
