-- What each rule is for: with one rule dropped, one slip leads from the start to a false finding, or to a ring that nobody finds.
-- Assumes nothing.
use Rattle.std.specs.Prelude.{◌≡◌, ℕ, suc, ◌%◌, ◌<◌, ◌≤◌, List, [], ◌∷◌, ◌≢◌}
use mathlib.Core.List.{Memᴰ}
use Rattle.yard.specs.Yard.{by, asking, waiting, Yard, start, mode, count, shown, own, Queued, HasBegun, Told, put, showing, at_engine, Unheard, Finds, Act, begins, tells, after, Run, Reach, Ring}
use Rattle.yard.specs.Found.{Heard, ToldOn}

-- The rules that are dropped, one at a time.
pub data Rule : Type 0 where
  -- who has sent that it frees a section tells nobody there any more
  silent_once_freed : Rule
  -- a sign is taken when the engine stands in the queue, and not when it asks
  sign_once_queued : Rule
  -- a telling counts only for the wait that it was told for
  by_this_count : Rule
  -- when the section passes to another, who waits on takes a new sign
  new_sign_each_time : Rule
  -- after a stop an engine shows what it showed
  shown_after_stop : Rule

-- What can happen where a rule is dropped.
pub data Slip (engines : ℕ) (y : Yard) : Rule → Yard → Type 0 where
  -- j tells one that waits for a section that j had at some change and may have freed
  tells_late : (x c s j m : ℕ) → HasBegun y x c s → m ≤ (y.section s).change → (y.section s).past m ≡ by j → Slip engines y silent_once_freed (after y (tells x c s j))
  -- i begins though it has only asked
  signs_early : (i s j m u : ℕ) → mode y i ≡ asking s → m ≤ (y.section s).change → (y.section s).past m ≡ by j → (i ≢ j) → shown y i < u → u % engines ≡ i →
      Slip engines y sign_once_queued (after y (begins i s j m u))
  -- i takes what was told for an earlier wait for something told for the present one
  takes_old_for_new : (i c j v : ℕ) → c < count y i → Told y i c j v →
      Slip engines y by_this_count
      (record { section = y.section; engine = y.engine; begun = y.begun; told = record { to = i; count = count y i; teller = j; sign = v } ∷ y.told })
  -- i begins to wait for the next holder and keeps its signs
  keeps_sign : (i s j m : ℕ) → Unheard s m (mode y i) → Queued y i s → (y.section s).came i ≤ m → m ≤ (y.section s).change → (y.section s).past m ≡ by j → (i ≢ j) →
      Slip engines y new_sign_each_time
      (record {
        section = y.section;
        engine = put i (record { mode = waiting j s m; count = suc (count y i); shown = shown y i; own = own y i }) y.engine;
        begun = record { engine = i; count = suc (count y i); section = s } ∷ y.begun;
        told = y.told;
      })
  -- i shows its own sign again
  shows_own_again : (i : ℕ) → Slip engines y shown_after_stop (at_engine i (showing (own y i) (y.engine i)) y)

-- A run from the start that keeps all rules but for one slip.
pub record WithOneSlip (engines : ℕ) (rule : Rule) (end : Yard) : Type 0 where
  pub before : List Act
  pub here : Yard
  pub come : Run engines start before here
  pub slipped : Yard
  pub slip : Slip engines here rule slipped
  pub later : List Act
  pub gone : Run engines slipped later end

-- With the rule dropped an engine finds that is in no ring.
abbrev pub FalseFinding : ℕ → Rule → Type 0
FalseFinding engines rule = (y : Yard) × WithOneSlip engines rule y × ((i j s : ℕ) × Finds y i j s × ((is : List ℕ) → Ring y i is → ⊥))

-- With the rule dropped there is a ring that nobody finds, even if all rules are kept from then on: all of it have heard whom they wait for, so that
-- none begins anew, and each shows a higher sign than its own, which it would have to show again.
abbrev pub LostRing : ℕ → Rule → Type 0
LostRing engines rule =
    (y : Yard) × WithOneSlip engines rule y ×
    ((i : ℕ) × (is : List ℕ) × Ring y i is × ((l : ℕ) → Memᴰ l (i ∷ is) → Heard y l × (own y l < shown y l)) ×
    ((acts : List Act) (z : Yard) → Run engines y acts z → Ring z i is × ((l j s : ℕ) → Memᴰ l (i ∷ is) → Finds z l j s → ⊥)))

-- Each of the five rules is needed.
abbrev pub TellingAfterFreeing : Type 0
TellingAfterFreeing = FalseFinding 3 silent_once_freed

abbrev pub SignBeforeQueue : Type 0
SignBeforeQueue = FalseFinding 2 sign_once_queued

abbrev pub EarlierCount : Type 0
EarlierCount = FalseFinding 3 by_this_count

abbrev pub KeptSign : Type 0
KeptSign = LostRing 3 new_sign_each_time

abbrev pub OwnSignAgain : Type 0
OwnSignAgain = LostRing 3 shown_after_stop

-- The promises are not empty: four engines, sections 0 and 1 of one box and 64, the first of the next; 2 waits for 0, 0 for 1, 1 for 2, with own
-- signs 6, 4 and 5; and 2 finds.
abbrev pub RingOfThree : Type 0
RingOfThree =
    (acts : List Act) × (y : Yard) × Run 4 start acts y × Ring y 2 (0 ∷ 1 ∷ []) × (own y 2 ≡ 6) × (own y 0 ≡ 4) × (own y 1 ≡ 5) × Finds y 2 0 0

-- Nor is the promise about every run: before the tellings all three have heard whom they wait for, 2 has the highest own sign, and it is told round.
abbrev pub RoundCanBeTold : Type 0
RoundCanBeTold =
    (y : Yard) × Reach 4 y × Ring y 2 (0 ∷ 1 ∷ []) × ((l : ℕ) → Memᴰ l (2 ∷ 0 ∷ 1 ∷ []) → Heard y l) × ((l : ℕ) → Memᴰ l (0 ∷ 1 ∷ []) → own y l ≤ own y 2) ×
    ((acts : List Act) × (z : Yard) × ToldOn 4 y 2 2 acts z)
