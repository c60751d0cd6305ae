-- Runs, act by act: one to a ring of three and its finding, and one for each rule that shows what comes of dropping it.
-- Assumes nothing.
use Rattle.std.proofs.Common.{◌≡◌, ℕ, suc, ◌<◌, ◌≤◌, Bool, true, false, cond, eqb, List, [], ◌∷◌, sym, refl, ◌∙◌, inl, arith}
use mathlib.Core.List.{Memᴰ}
use Rattle.std.proofs.lemmas.Bool.{false≢true, eq-eqb}
use Rattle.yard.specs.Yard.{free, by, Section, waiting, Yard, Begun, Telling, start, count, shown, own, Queued, put, showing, at_engine, Act, asks, frees, takes, joins, passes, begins, tells, hears, finds, after, Run, still, then, WaitsFor, Along, one, more, Ring}
use Rattle.yard.specs.Found.{Heard, Passed, passed, shows_it, finds_it, first, next}
use Rattle.yard.specs.Needed.{Slip, tells_late, signs_early, takes_old_for_new, keeps_sign, shows_own_again, silent_once_freed, TellingAfterFreeing, SignBeforeQueue, EarlierCount, KeptSign, OwnSignAgain, RingOfThree, RoundCanBeTold}
use Rattle.yard.proofs.Queues.{at_put}
use Rattle.yard.proofs.InTurn.{by≢free}
use Rattle.yard.proofs.Places.{Placed, placed_after, same_holder}
use Rattle.yard.proofs.Lost.{Above, never_found, placed_modes, put_mode, show_mode, placed_run}
use Rattle.yard.proofs.Rounds.{waits_one, along_queued}
use Rattle.yard.proofs.Sound.{sound}
use Rattle.yard.proofs.Standing.{along_map}

-- the yard after the acts, the last one first in the list
abbrev play : Yard → List Act → Yard
play y [] = y
play y (a ∷ acts) = after (play y acts) a

abbrev absent : ℕ → List ℕ → Bool
absent i [] = true
absent i (x ∷ xs) = cond (eqb i x) false (absent i xs)

cond_right : (b a : Bool) → cond b false a ≡ true → a ≡ true
cond_right true a e = absurd (false≢true e)
cond_right false a e = e

absent_not_in : (i : ℕ) (is : List ℕ) → absent i is ≡ true → Memᴰ i is → ⊥
absent_not_in i [] e m = elim m [ ]
absent_not_in i (x ∷ xs) e (Memᴰ.head p) = false≢true (rw (eq-eqb i x p) at e)
absent_not_in i (x ∷ xs) e (Memᴰ.tail m) = absent_not_in i xs (cond_right (eqb i x) (absent i xs) e) m

free_not_by : {i : ℕ} → free ≡ by i → ⊥
free_not_by {i} e = by≢free free i e refl

by_not_by : (j i : ℕ) → eqb j i ≡ false → by j ≡ by i → ⊥
by_not_by j i d e = false≢true (sym d ∙ eq-eqb j i (same_holder refl e))

-- who is in no queue that was written, and in none of the rest, is in none
nowhere : (i t : ℕ) (x : Section) (f : ℕ → Section) → absent i x.queue ≡ true → ((s : ℕ) → Memᴰ i (f s).queue → ⊥) → (s : ℕ) → Memᴰ i (put t x f s).queue → ⊥
nowhere i t x f e n s = at_put (λ (z : Section). Memᴰ i z.queue → ⊥) t x f s (λ p. absent_not_in i x.queue e) (λ p. n s)

placed_told : {engines : ℕ} {y : Yard} → Placed engines y → (b : List Begun) (t : List Telling) → Placed engines (record { section = y.section; engine = y.engine; begun = b; told = t })
placed_told p b t = record { kept = p.kept; about = p.about; stands = p.stands; view = p.view; numbered = p.numbered; holders = p.holders }

-- who waits for one that waits for nobody is in no ring
no_ring : {engines : ℕ} {y : Yard} → Placed engines y → (i k : ℕ) → WaitsFor y i k → ((s : ℕ) → Queued y k s → ⊥) → (is : List ℕ) → Ring y i is → ⊥
no_ring {y = y} p i k n out is r = go r.0
  where
    go : {js : List ℕ} → Along y i js i → ⊥
    go (one m) = out n.0 (rw (← (waits_one p {x = i} {j = i} {k = k} m n)) n.1)
    go (more {j = j} m t) = out (along_queued t).0 (rw (← (waits_one p {x = i} {j = j} {k = k} m n)) (along_queued t).1)

of_two : (y : Yard) (i k : ℕ) → Heard y i × (own y i < shown y i) → Heard y k × (own y k < shown y k) → (l : ℕ) → Memᴰ l (i ∷ k ∷ []) → Heard y l × (own y l < shown y l)
of_two y i k a b l (Memᴰ.head e) = rw e a
of_two y i k a b l (Memᴰ.tail (Memᴰ.head e)) = rw e b
of_two y i k a b l (Memᴰ.tail (Memᴰ.tail m)) = elim m [ ]

-- 0 has section 0, 1 has 64, 2 has 1; 0 waits for 1, 1 for 2, 2 for 0
abbrev ready_acts : List Act
ready_acts =
    begins 2 0 0 1 6 ∷ joins 2 0 ∷ asks 2 0 ∷ begins 1 1 2 1 5 ∷ joins 1 1 ∷ asks 1 1 ∷ begins 0 64 1 1 4 ∷ joins 0 64 ∷ asks 0 64 ∷ takes 2 1 ∷ asks 2 1 ∷ takes 1 64 ∷ asks 1 64 ∷ takes 0 0 ∷ asks 0 0 ∷ []

abbrev ready : Yard
ready = play start ready_acts

ready_run : Run 4 start ready_acts ready
ready_run =
    then (then (then (then (then (then (then (then (then (then (then (then (then (then (then still
    (asks 0 0) (omega arith, tt))
    (takes 0 0) (refl, refl))
    (asks 1 64) (omega arith, tt))
    (takes 1 64) (refl, refl))
    (asks 2 1) (omega arith, tt))
    (takes 2 1) (refl, refl))
    (asks 0 64) (omega arith, refl))
    (joins 0 64) (refl, (1, refl, λ e. omega arith), absent_not_in 0 _ refl))
    (begins 0 64 1 1 4) (refl, inl (Memᴰ.head refl), (omega arith, omega arith, refl, λ e. omega arith), (omega arith, refl)))
    (asks 1 1) (omega arith, refl))
    (joins 1 1) (refl, (2, refl, λ e. omega arith), absent_not_in 1 _ refl))
    (begins 1 1 2 1 5) (refl, inl (Memᴰ.head refl), (omega arith, omega arith, refl, λ e. omega arith), (omega arith, refl)))
    (asks 2 0) (omega arith, refl))
    (joins 2 0) (refl, (0, refl, λ e. omega arith), absent_not_in 2 _ refl))
    (begins 2 0 0 1 6) (refl, inl (Memᴰ.head refl), (omega arith, omega arith, refl, λ e. omega arith), (omega arith, refl))

abbrev three_acts : List Act
three_acts = tells 2 1 0 0 ∷ hears 0 1 6 ∷ tells 0 1 64 1 ∷ hears 1 2 6 ∷ tells 1 1 1 2 ∷ ready_acts

abbrev three_end : Yard
three_end = play start three_acts

three_run : Run 4 start three_acts three_end
three_run =
    then (then (then (then (then ready_run
    (tells 1 1 1 2) (Memᴰ.tail (Memᴰ.head refl), refl))
    (hears 1 2 6) (Memᴰ.head refl, (1, (1, refl)), omega arith))
    (tells 0 1 64 1) (Memᴰ.tail (Memᴰ.tail (Memᴰ.head refl)), refl))
    (hears 0 1 6) (Memᴰ.head refl, (64, (1, refl)), omega arith))
    (tells 2 1 0 0) (Memᴰ.head refl, refl)

-- the ring is there as soon as all wait, and tellings change no section
abbrev ThreeRing : Yard → Type 0
ThreeRing y = Ring y 2 (0 ∷ 1 ∷ [])

ready_ring : ThreeRing ready
ready_ring =
    (more (0, Memᴰ.head refl, refl) (more (64, Memᴰ.head refl, refl) (one (1, Memᴰ.head refl, refl))), (absent_not_in 2 _ refl, (absent_not_in 0 _ refl, (absent_not_in 1 _ refl, tt))))

three_ring : ThreeRing three_end
three_ring = (along_map (λ x j m n. n) ready_ring.0, ready_ring.1)

pub ring_of_three : RingOfThree
ring_of_three = (three_acts, three_end, three_run, three_ring, refl, refl, refl, (Memᴰ.head refl, (1, refl), refl))

ready_heard : (l : ℕ) → Memᴰ l (2 ∷ 0 ∷ 1 ∷ []) → Heard ready l
ready_heard l (Memᴰ.head e) = rw e (0, 0, (1, refl), Memᴰ.head refl, refl)
ready_heard l (Memᴰ.tail (Memᴰ.head e)) = rw e (1, 64, (1, refl), Memᴰ.head refl, refl)
ready_heard l (Memᴰ.tail (Memᴰ.tail (Memᴰ.head e))) = rw e (2, 1, (1, refl), Memᴰ.head refl, refl)
ready_heard l (Memᴰ.tail (Memᴰ.tail (Memᴰ.tail m))) = elim m [ ]

ready_high : (l : ℕ) → Memᴰ l (0 ∷ 1 ∷ []) → own ready l ≤ own ready 2
ready_high l (Memᴰ.head e) = rw e (omega arith)
ready_high l (Memᴰ.tail (Memᴰ.head e)) = rw e (omega arith)
ready_high l (Memᴰ.tail (Memᴰ.tail m)) = elim m [ ]

-- each telling comes to the next at once
abbrev once : Yard
once = after (after ready (tells 1 1 1 2)) (hears 1 2 6)

abbrev twice : Yard
twice = after (after once (tells 0 1 64 1)) (hears 0 1 6)

abbrev told : Yard
told = after twice (tells 2 1 0 0)

pass_one : Passed 4 ready 2 1 (hears 1 2 6 ∷ tells 1 1 1 2 ∷ []) once
pass_one = passed still 1 (Memᴰ.tail (Memᴰ.head refl), refl) still (shows_it refl (Memᴰ.head refl, (1, (1, refl)), omega arith))

pass_two : Passed 4 once 1 0 (hears 0 1 6 ∷ tells 0 1 64 1 ∷ []) twice
pass_two = passed still 64 (Memᴰ.tail (Memᴰ.tail (Memᴰ.head refl)), refl) still (shows_it refl (Memᴰ.head refl, (64, (1, refl)), omega arith))

pass_three : Passed 4 twice 0 2 (finds 2 0 0 ∷ tells 2 1 0 0 ∷ []) (after told (finds 2 0 0))
pass_three = passed still 0 (Memᴰ.head refl, refl) still (finds_it 0 refl refl (Memᴰ.head refl, (1, refl), refl))

pub round_can_be_told : RoundCanBeTold
round_can_be_told = (ready, (ready_acts, ready_run), ready_ring, ready_heard, ready_high, (_, _, next (next (first pass_one) pass_two) pass_three))

abbrev late_acts : List Act
late_acts = hears 0 1 4 ∷ tells 0 1 1 1 ∷ begins 0 1 1 1 3 ∷ joins 0 1 ∷ asks 0 1 ∷ passes 0 0 ∷ frees 0 0 ∷ begins 1 0 0 1 4 ∷ joins 1 0 ∷ asks 1 0 ∷ joins 2 0 ∷ asks 2 0 ∷ takes 1 1 ∷ asks 1 1 ∷ takes 0 0 ∷ asks 0 0 ∷ []

abbrev late_end : Yard
late_end = play start late_acts

late_run : Run 3 start late_acts late_end
late_run =
    then (then (then (then (then (then (then (then (then (then (then (then (then (then (then (then still
    (asks 0 0) (omega arith, tt))
    (takes 0 0) (refl, refl))
    (asks 1 1) (omega arith, tt))
    (takes 1 1) (refl, refl))
    (asks 2 0) (omega arith, tt))
    (joins 2 0) (refl, (0, refl, λ e. omega arith), absent_not_in 2 _ refl))
    (asks 1 0) (omega arith, refl))
    (joins 1 0) (refl, (0, refl, λ e. omega arith), absent_not_in 1 _ refl))
    (begins 1 0 0 1 4) (refl, inl (Memᴰ.tail (Memᴰ.head refl)), (omega arith, omega arith, refl, λ e. omega arith), (omega arith, refl)))
    (frees 0 0) (refl, refl))
    (passes 0 0) (refl, refl))
    (asks 0 1) (omega arith, (λ e. by_not_by 2 0 refl e)))
    (joins 0 1) (refl, (1, refl, λ e. omega arith), absent_not_in 0 _ refl))
    (begins 0 1 1 1 3) (refl, inl (Memᴰ.head refl), (omega arith, omega arith, refl, λ e. omega arith), (omega arith, refl)))
    (tells 0 1 1 1) (Memᴰ.head refl, refl))
    (hears 0 1 4) (Memᴰ.head refl, (1, (1, refl)), omega arith)

late_slip : Slip 3 late_end silent_once_freed (after late_end (tells 1 1 0 0))
late_slip = tells_late 1 1 0 0 1 (Memᴰ.tail (Memᴰ.head refl)) (omega arith) refl

late_placed : Placed 3 (after late_end (tells 1 1 0 0))
late_placed = placed_told (sound (late_acts, late_run)).places _ _

pub telling_after_freeing : TellingAfterFreeing
telling_after_freeing = (
  after late_end (tells 1 1 0 0),
  record { before = late_acts; here = late_end; come = late_run; slipped = after late_end (tells 1 1 0 0); slip = late_slip; later = []; gone = still },
  (
    1,
    0,
    0,
    (Memᴰ.head refl, (1, refl), refl),
    no_ring late_placed 1 2 (0, Memᴰ.head refl, refl) (λ s q. absent_not_in 2 (1 ∷ []) refl (rw (← (late_placed.about 2 s q)) at q)),
  ),
)

abbrev early_acts : List Act
early_acts = asks 1 0 ∷ takes 1 1 ∷ asks 1 1 ∷ takes 0 0 ∷ asks 0 0 ∷ []

abbrev early_end : Yard
early_end = play start early_acts

early_run : Run 2 start early_acts early_end
early_run =
    then (then (then (then (then still
    (asks 0 0) (omega arith, tt))
    (takes 0 0) (refl, refl))
    (asks 1 1) (omega arith, tt))
    (takes 1 1) (refl, refl))
    (asks 1 0) (omega arith, refl)

abbrev early_slipped : Yard
early_slipped = after early_end (begins 1 0 0 1 3)

abbrev after_early_acts : List Act
after_early_acts = tells 1 1 0 0 ∷ hears 0 1 3 ∷ tells 0 1 1 1 ∷ begins 0 1 1 1 2 ∷ joins 0 1 ∷ asks 0 1 ∷ []

abbrev after_early_end : Yard
after_early_end = play early_slipped after_early_acts

after_early_run : Run 2 early_slipped after_early_acts after_early_end
after_early_run =
    then (then (then (then (then (then still
    (asks 0 1) (omega arith, refl))
    (joins 0 1) (refl, (1, refl, λ e. omega arith), absent_not_in 0 _ refl))
    (begins 0 1 1 1 2) (refl, inl (Memᴰ.head refl), (omega arith, omega arith, refl, λ e. omega arith), (omega arith, refl)))
    (tells 0 1 1 1) (Memᴰ.head refl, refl))
    (hears 0 1 3) (Memᴰ.head refl, (1, (1, refl)), omega arith))
    (tells 1 1 0 0) (Memᴰ.tail (Memᴰ.head refl), refl)

early_nowhere : (s : ℕ) → Queued after_early_end 1 s → ⊥
early_nowhere = nowhere 1 _ _ _ refl (nowhere 1 _ _ _ refl (nowhere 1 _ _ _ refl (λ s m. elim m [ ])))

pub sign_before_queue : SignBeforeQueue
sign_before_queue = (
  after_early_end,
  record { before = early_acts; here = early_end; come = early_run; slipped = early_slipped; slip = signs_early 1 0 0 1 3 refl (omega arith) refl (λ e. omega arith) (omega arith) refl; later = after_early_acts; gone = after_early_run },
  (1, 0, 0, (Memᴰ.head refl, (1, refl), refl), λ is r. early_nowhere (along_queued r.0).0 (along_queued r.0).1),
)

abbrev old_acts : List Act
old_acts = tells 2 1 0 0 ∷ hears 0 2 8 ∷ tells 0 1 2 2 ∷ begins 0 2 2 1 3 ∷ joins 0 2 ∷ asks 0 2 ∷ passes 0 1 ∷ frees 0 1 ∷ begins 2 1 0 1 8 ∷ joins 2 1 ∷ asks 2 1 ∷ joins 1 1 ∷ asks 1 1 ∷ takes 0 1 ∷ asks 0 1 ∷ takes 2 2 ∷ asks 2 2 ∷ takes 0 0 ∷ asks 0 0 ∷ passes 2 0 ∷ frees 2 0 ∷ passes 0 0 ∷ frees 0 0 ∷ begins 2 0 0 1 5 ∷ joins 2 0 ∷ asks 2 0 ∷ takes 0 0 ∷ asks 0 0 ∷ []

abbrev old_end : Yard
old_end = play start old_acts

old_run : Run 3 start old_acts old_end
old_run =
    then (then (then (then (then (then (then (then (then (then (then (then (then (then (then (then (then (then (then (then (then (then (then (then (then (then (then (then still
    (asks 0 0) (omega arith, tt))
    (takes 0 0) (refl, refl))
    (asks 2 0) (omega arith, tt))
    (joins 2 0) (refl, (0, refl, λ e. omega arith), absent_not_in 2 _ refl))
    (begins 2 0 0 1 5) (refl, inl (Memᴰ.head refl), (omega arith, omega arith, refl, λ e. omega arith), (omega arith, refl)))
    (frees 0 0) (refl, refl))
    (passes 0 0) (refl, refl))
    (frees 2 0) (refl, refl))
    (passes 2 0) (refl, refl))
    (asks 0 0) (omega arith, free_not_by))
    (takes 0 0) (refl, refl))
    (asks 2 2) (omega arith, (λ e. by_not_by 0 2 refl e)))
    (takes 2 2) (refl, refl))
    (asks 0 1) (omega arith, refl))
    (takes 0 1) (refl, refl))
    (asks 1 1) (omega arith, tt))
    (joins 1 1) (refl, (0, refl, λ e. omega arith), absent_not_in 1 _ refl))
    (asks 2 1) (omega arith, refl))
    (joins 2 1) (refl, (0, refl, λ e. omega arith), absent_not_in 2 _ refl))
    (begins 2 1 0 1 8) (refl, inl (Memᴰ.tail (Memᴰ.head refl)), (omega arith, omega arith, refl, λ e. omega arith), (omega arith, refl)))
    (frees 0 1) (refl, refl))
    (passes 0 1) (refl, refl))
    (asks 0 2) (omega arith, (λ e. by_not_by 1 0 refl e)))
    (joins 0 2) (refl, (2, refl, λ e. omega arith), absent_not_in 0 _ refl))
    (begins 0 2 2 1 3) (refl, inl (Memᴰ.head refl), (omega arith, omega arith, refl, λ e. omega arith), (omega arith, refl)))
    (tells 0 1 2 2) (Memᴰ.head refl, refl))
    (hears 0 2 8) (Memᴰ.head refl, (2, (1, refl)), omega arith))
    (tells 2 1 0 0) (Memᴰ.tail (Memᴰ.tail (Memᴰ.head refl)), refl)

abbrev old_slipped : Yard
old_slipped = record { section = old_end.section; engine = old_end.engine; begun = old_end.begun; told = record { to = 2; count = count old_end 2; teller = 0; sign = 8 } ∷ old_end.told }

old_placed : Placed 3 old_slipped
old_placed = placed_told (sound (old_acts, old_run)).places _ _

pub earlier_count : EarlierCount
earlier_count = (
  old_slipped,
  record { before = old_acts; here = old_end; come = old_run; slipped = old_slipped; slip = takes_old_for_new 2 1 0 8 (omega arith) (Memᴰ.head refl); later = []; gone = still },
  (
    2,
    0,
    1,
    (Memᴰ.head refl, (1, refl), refl),
    no_ring old_placed 2 1 (1, Memᴰ.head refl, refl) (λ s q. absent_not_in 1 (2 ∷ []) refl (rw (← (old_placed.about 1 s q)) at q)),
  ),
)

abbrev keep_acts : List Act
keep_acts = passes 2 1 ∷ frees 2 1 ∷ hears 0 2 5 ∷ tells 0 1 1 2 ∷ begins 0 1 2 1 3 ∷ joins 0 1 ∷ asks 0 1 ∷ takes 0 2 ∷ asks 0 2 ∷ joins 1 1 ∷ asks 1 1 ∷ takes 2 1 ∷ asks 2 1 ∷ passes 1 0 ∷ frees 1 0 ∷ begins 2 0 1 1 5 ∷ joins 2 0 ∷ asks 2 0 ∷ takes 1 0 ∷ asks 1 0 ∷ []

abbrev keep_end : Yard
keep_end = play start keep_acts

keep_run : Run 3 start keep_acts keep_end
keep_run =
    then (then (then (then (then (then (then (then (then (then (then (then (then (then (then (then (then (then (then (then still
    (asks 1 0) (omega arith, tt))
    (takes 1 0) (refl, refl))
    (asks 2 0) (omega arith, tt))
    (joins 2 0) (refl, (1, refl, λ e. omega arith), absent_not_in 2 _ refl))
    (begins 2 0 1 1 5) (refl, inl (Memᴰ.head refl), (omega arith, omega arith, refl, λ e. omega arith), (omega arith, refl)))
    (frees 1 0) (refl, refl))
    (passes 1 0) (refl, refl))
    (asks 2 1) (omega arith, refl))
    (takes 2 1) (refl, refl))
    (asks 1 1) (omega arith, (λ e. by_not_by 2 1 refl e)))
    (joins 1 1) (refl, (2, refl, λ e. omega arith), absent_not_in 1 _ refl))
    (asks 0 2) (omega arith, tt))
    (takes 0 2) (refl, refl))
    (asks 0 1) (omega arith, refl))
    (joins 0 1) (refl, (2, refl, λ e. omega arith), absent_not_in 0 _ refl))
    (begins 0 1 2 1 3) (refl, inl (Memᴰ.tail (Memᴰ.head refl)), (omega arith, omega arith, refl, λ e. omega arith), (omega arith, refl)))
    (tells 0 1 1 2) (Memᴰ.head refl, refl))
    (hears 0 2 5) (Memᴰ.head refl, (1, (1, refl)), omega arith))
    (frees 2 1) (refl, refl))
    (passes 2 1) (refl, refl)

abbrev keep_slipped : Yard
keep_slipped =
    record {
      section = keep_end.section;
      engine = put 0 (record { mode = waiting 1 1 2; count = suc (count keep_end 0); shown = shown keep_end 0; own = own keep_end 0 }) keep_end.engine;
      begun = record { engine = 0; count = suc (count keep_end 0); section = 1 } ∷ keep_end.begun;
      told = keep_end.told;
    }

abbrev after_keep_acts : List Act
after_keep_acts = hears 1 0 5 ∷ tells 1 1 2 0 ∷ begins 1 2 0 1 4 ∷ joins 1 2 ∷ asks 1 2 ∷ []

abbrev after_keep_end : Yard
after_keep_end = play keep_slipped after_keep_acts

after_keep_run : Run 3 keep_slipped after_keep_acts after_keep_end
after_keep_run =
    then (then (then (then (then still
    (asks 1 2) (omega arith, refl))
    (joins 1 2) (refl, (0, refl, λ e. omega arith), absent_not_in 1 _ refl))
    (begins 1 2 0 1 4) (refl, inl (Memᴰ.head refl), (omega arith, omega arith, refl, λ e. omega arith), (omega arith, refl)))
    (tells 1 1 2 0) (Memᴰ.head refl, refl))
    (hears 1 0 5) (Memᴰ.head refl, (2, (1, refl)), omega arith)

keep_placed : Placed 3 after_keep_end
keep_placed =
    placed_run
    (placed_modes
    (placed_after (sound (keep_acts, keep_run)).places (begins 0 1 1 2 6) ((refl, omega arith), inl (Memᴰ.head refl), (omega arith, omega arith, refl, λ e. omega arith), (omega arith, refl)))
    _ _ _ (λ x. put_mode 0 _ _ keep_end.engine x refl))
    after_keep_run

keep_ring : Ring after_keep_end 0 (1 ∷ [])
keep_ring = (more (1, Memᴰ.head refl, refl) (one (2, Memᴰ.head refl, refl)), (absent_not_in 0 _ refl, (absent_not_in 1 _ refl, tt)))

keep_above : Above after_keep_end (0 ∷ 1 ∷ [])
keep_above = of_two after_keep_end 0 1 ((1, 1, (2, refl), Memᴰ.head refl, refl), omega arith) ((0, 2, (1, refl), Memᴰ.head refl, refl), omega arith)

pub kept_sign : KeptSign
kept_sign = (
  after_keep_end,
  record { before = keep_acts; here = keep_end; come = keep_run; slipped = keep_slipped; slip = keeps_sign 0 1 1 2 (refl, omega arith) (Memᴰ.head refl) (omega arith) (omega arith) refl (λ e. omega arith); later = after_keep_acts; gone = after_keep_run },
  (0, 1 ∷ [], keep_ring, keep_above, never_found keep_placed 0 (1 ∷ []) keep_ring keep_above),
)

abbrev again_acts : List Act
again_acts = passes 2 0 ∷ frees 2 0 ∷ hears 1 0 8 ∷ tells 1 1 1 0 ∷ begins 1 1 0 1 4 ∷ joins 1 1 ∷ asks 1 1 ∷ takes 1 2 ∷ asks 1 2 ∷ hears 0 2 8 ∷ tells 0 1 0 2 ∷ begins 0 0 2 3 3 ∷ joins 0 0 ∷ asks 0 0 ∷ takes 0 1 ∷ asks 0 1 ∷ passes 1 0 ∷ frees 1 0 ∷ begins 2 0 1 2 8 ∷ passes 0 0 ∷ frees 0 0 ∷ begins 2 0 0 1 5 ∷ joins 2 0 ∷ asks 2 0 ∷ joins 1 0 ∷ asks 1 0 ∷ takes 0 0 ∷ asks 0 0 ∷ []

abbrev again_end : Yard
again_end = play start again_acts

again_run : Run 3 start again_acts again_end
again_run =
    then (then (then (then (then (then (then (then (then (then (then (then (then (then (then (then (then (then (then (then (then (then (then (then (then (then (then (then still
    (asks 0 0) (omega arith, tt))
    (takes 0 0) (refl, refl))
    (asks 1 0) (omega arith, tt))
    (joins 1 0) (refl, (0, refl, λ e. omega arith), absent_not_in 1 _ refl))
    (asks 2 0) (omega arith, tt))
    (joins 2 0) (refl, (0, refl, λ e. omega arith), absent_not_in 2 _ refl))
    (begins 2 0 0 1 5) (refl, inl (Memᴰ.tail (Memᴰ.head refl)), (omega arith, omega arith, refl, λ e. omega arith), (omega arith, refl)))
    (frees 0 0) (refl, refl))
    (passes 0 0) (refl, refl))
    (begins 2 0 1 2 8) ((refl, omega arith), inl (Memᴰ.head refl), (omega arith, omega arith, refl, λ e. omega arith), (omega arith, refl)))
    (frees 1 0) (refl, refl))
    (passes 1 0) (refl, refl))
    (asks 0 1) (omega arith, (λ e. by_not_by 2 0 refl e)))
    (takes 0 1) (refl, refl))
    (asks 0 0) (omega arith, refl))
    (joins 0 0) (refl, (2, refl, λ e. omega arith), absent_not_in 0 _ refl))
    (begins 0 0 2 3 3) (refl, inl (Memᴰ.head refl), (omega arith, omega arith, refl, λ e. omega arith), (omega arith, refl)))
    (tells 0 1 0 2) (Memᴰ.head refl, refl))
    (hears 0 2 8) (Memᴰ.head refl, (0, (3, refl)), omega arith))
    (asks 1 2) (omega arith, (λ e. by_not_by 2 1 refl e)))
    (takes 1 2) (refl, refl))
    (asks 1 1) (omega arith, refl))
    (joins 1 1) (refl, (0, refl, λ e. omega arith), absent_not_in 1 _ refl))
    (begins 1 1 0 1 4) (refl, inl (Memᴰ.head refl), (omega arith, omega arith, refl, λ e. omega arith), (omega arith, refl)))
    (tells 1 1 1 0) (Memᴰ.head refl, refl))
    (hears 1 0 8) (Memᴰ.head refl, (1, (1, refl)), omega arith))
    (frees 2 0) (refl, refl))
    (passes 2 0) (refl, refl)

abbrev again_slipped : Yard
again_slipped = at_engine 0 (showing (own again_end 0) (again_end.engine 0)) again_end

abbrev after_again_acts : List Act
after_again_acts = hears 0 1 8 ∷ tells 0 2 2 1 ∷ begins 0 2 1 1 6 ∷ joins 0 2 ∷ asks 0 2 ∷ []

abbrev after_again_end : Yard
after_again_end = play again_slipped after_again_acts

after_again_run : Run 3 again_slipped after_again_acts after_again_end
after_again_run =
    then (then (then (then (then still
    (asks 0 2) (omega arith, refl))
    (joins 0 2) (refl, (1, refl, λ e. omega arith), absent_not_in 0 _ refl))
    (begins 0 2 1 1 6) (refl, inl (Memᴰ.head refl), (omega arith, omega arith, refl, λ e. omega arith), (omega arith, refl)))
    (tells 0 2 2 1) (Memᴰ.head refl, refl))
    (hears 0 1 8) (Memᴰ.head refl, (2, (1, refl)), omega arith)

again_placed : Placed 3 after_again_end
again_placed = placed_run (placed_modes (sound (again_acts, again_run)).places _ _ _ (show_mode 0 _ again_end.engine)) after_again_run

again_ring : Ring after_again_end 0 (1 ∷ [])
again_ring = (more (2, Memᴰ.head refl, refl) (one (1, Memᴰ.head refl, refl)), (absent_not_in 0 _ refl, (absent_not_in 1 _ refl, tt)))

again_above : Above after_again_end (0 ∷ 1 ∷ [])
again_above = of_two after_again_end 0 1 ((1, 2, (1, refl), Memᴰ.head refl, refl), omega arith) ((0, 1, (1, refl), Memᴰ.head refl, refl), omega arith)

pub own_sign_again : OwnSignAgain
own_sign_again = (
  after_again_end,
  record { before = again_acts; here = again_end; come = again_run; slipped = again_slipped; slip = shows_own_again 0; later = after_again_acts; gone = after_again_run },
  (0, 1 ∷ [], again_ring, again_above, never_found again_placed 0 (1 ∷ []) again_ring again_above),
)
