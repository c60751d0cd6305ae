-- A step seen from one engine: what it did, with one equation for each field, so that no update is ever unfolded again.
-- Assumes nothing.
use Rattle.std.proofs.Common.{◌≡◌, ℕ, ◌%◌, ◌<◌, eqb, ◌⊎◌, refl, inl, inr, None, Some}
use mathlib.Core.List.Memᴰ
use mathlib.Core.List.{Memᴰ}
use Rattle.std.proofs.lemmas.Bool.{cases_eq, cond-true, cond-false, eq-eqb, ne_eqb}
use Rattle.signs.specs.Signs.{Wait}
use Rattle.signs.specs.declared.Engine.{Engine}
use Rattle.signs.specs.Signs.{begun, showing, idle}
use Rattle.rings.specs.Net.{Tell, Net, with, Came, Finds, Step, begins, goes_on, tells, hears, finds}

-- who waits for one waits for no other
pub for_same : {w : Wait} {i j : ℕ} → w ≡ Some i → w ≡ Some j → i ≡ j
for_same p q = cc

pub data Did (engines : ℕ) (n m : Net) (x : ℕ) : Type 0 where
  same : m.engine x ≡ n.engine x → Did engines n m x
  began : (j u : ℕ) → x < engines → j < engines → (n.engine x).wait ≡ None → (n.engine x).shown < u → u % engines ≡ x →
      m.engine x ≡ begun (n.engine x) j u → Did engines n m x
  left : (j : ℕ) → (n.engine x).wait ≡ Some j → (n.engine j).wait ≡ None → m.engine x ≡ idle (n.engine x) → Did engines n m x
  heard : (j s : ℕ) → Came n x j s → (n.engine x).wait ≡ Some j → (n.engine x).shown < s → m.engine x ≡ showing (n.engine x) s → Did engines n m x
  found : (j : ℕ) → Finds n x j → m.engine x ≡ idle (n.engine x) → Did engines n m x

-- only the engine in the place that changed did anything
at_place : {engines : ℕ} (n : Net) (i : ℕ) (e : Engine) (x : ℕ) →
    ((with i e n).engine i ≡ e → Did engines n (with i e n) i) → Did engines n (with i e n) x
at_place n i e x f =
    elim (cases_eq x i) [
      | inl q ↦ rw q (f (cond-true (eqb i i) e (n.engine i) (eq-eqb i i refl)))
      | inr q ↦ same (cond-false (eqb x i) e (n.engine x) (ne_eqb x i q))
    ]

pub did : {engines : ℕ} {n m : Net} → Step engines n m → (x : ℕ) → Did engines n m x
did (begins n i j u low whom apart free up leaves) x =
    at_place n i (begun (n.engine i) j u) x (λ e. began j u low whom free up leaves e)
did (goes_on n i j w free) x = at_place n i (idle (n.engine i)) x (λ e. left j w free e)
did (tells n i j w) x = same refl
did (hears n i j s came w up) x = at_place n i (showing (n.engine i) s) x (λ e. heard j s came w up e)
did (finds n i j f) x = at_place n i (idle (n.engine i)) x (λ e. found j f e)

-- what was told before the step, or is told in it
abbrev pub Said : Net → Net → Tell → Type 0
Said n m t =
    Memᴰ t n.sent ⊎ ((t.sign ≡ (m.engine t.by).shown) × ((m.engine t.to).wait ≡ Some t.by))

pub said : {engines : ℕ} {n m : Net} → Step engines n m → (t : Tell) → Memᴰ t m.sent → Said n m t
said (begins n i j u low whom apart free up leaves) t h = inl h
said (goes_on n i j w free) t h = inl h
said (tells n i j w) t h = elim (Memᴰ.cases_cons h) [ inl q ↦ inr (rw q refl, rw q w) | inr old ↦ inl old ]
said (hears n i j s came w up) t h = inl h
said (finds n i j f) t h = inl h

-- what was told stays told
pub stays_told : {engines : ℕ} {n m : Net} → Step engines n m → (t : Tell) → Memᴰ t n.sent → Memᴰ t m.sent
stays_told (begins n i j u low whom apart free up leaves) t h = h
stays_told (goes_on n i j w free) t h = h
stays_told (tells n i j w) t h = Memᴰ.tail h
stays_told (hears n i j s came w up) t h = h
stays_told (finds n i j f) t h = h
