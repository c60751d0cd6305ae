-- Who is in a queue, and before whom, after one is put at its end, taken from its front or taken out.
-- Assumes nothing.
use Rattle.std.proofs.Common.{◌≡◌, ℕ, Bool, true, false, cond, eqb, ◌⊎◌, List, [], ◌∷◌, ◌++◌, sym, refl, ◌∙◌, inl, inr}
use mathlib.Core.List.{Memᴰ}
use Rattle.std.proofs.lemmas.Bool.{eqb-true, eqb-false, ne_eqb, cond_both}
use Rattle.yard.specs.Yard.{put, without, rest, Distinct}
use Rattle.yard.specs.Order.{Upto, from, past}

-- a written place reads the new value, any other the old one
pub at_put : {A : Type 0} (P : A → Type 0) (i : ℕ) (a : A) (f : ℕ → A) (j : ℕ) → (j ≡ i → P a) → ((j ≡ i → ⊥) → P (f j)) → P (put i a f j)
at_put P i a f j same other = cond_both (eqb j i) a (f j) P (λ e. same (eqb-true j i e)) (λ e. other (eqb-false j i e))

pub put_other : {A : Type 0} (i : ℕ) (a : A) (f : ℕ → A) (j : ℕ) → (j ≡ i → ⊥) → put i a f j ≡ f j
put_other i a f j ne = rw (ne_eqb j i ne)

pub in_end : {i j : ℕ} (q : List ℕ) → Memᴰ i (q ++ (j ∷ [])) → Memᴰ i q ⊎ (i ≡ j)
in_end [] (Memᴰ.head e) = inr e
in_end [] (Memᴰ.tail m) = elim m [ ]
in_end (x ∷ q) (Memᴰ.head e) = inl (Memᴰ.head e)
in_end (x ∷ q) (Memᴰ.tail m) = elim (in_end q m) [ inl k ↦ inl (Memᴰ.tail k) | inr e ↦ inr e ]

in_cut : {i x : ℕ} {q : List ℕ} (b : Bool) → Memᴰ i (cond b q (x ∷ q)) → (i ≡ x) ⊎ Memᴰ i q
in_cut true m = inr m
in_cut false (Memᴰ.head e) = inl e
in_cut false (Memᴰ.tail m) = inr m

pub in_without : {i : ℕ} (j : ℕ) (q : List ℕ) → Memᴰ i (without j q) → Memᴰ i q
in_without j [] m = m
in_without j (x ∷ q) m = elim (in_cut (eqb x j) m) [ inl e ↦ Memᴰ.head e | inr k ↦ Memᴰ.tail (in_without j q k) ]

stays_cut : {i x : ℕ} {q : List ℕ} (b : Bool) → (b ≡ true → i ≡ x → ⊥) → (i ≡ x) ⊎ Memᴰ i q → Memᴰ i (cond b q (x ∷ q))
stays_cut true h (inl e) = absurd (h refl e)
stays_cut true h (inr m) = m
stays_cut false h (inl e) = Memᴰ.head e
stays_cut false h (inr m) = Memᴰ.tail m

-- taking one out takes nobody else out
pub stays_without : {i : ℕ} (j : ℕ) (q : List ℕ) → (i ≡ j → ⊥) → Memᴰ i q → Memᴰ i (without j q)
stays_without j [] ne m = elim m [ ]
stays_without j (x ∷ q) ne (Memᴰ.head e) = stays_cut (eqb x j) (λ t p. ne (e ∙ eqb-true x j t)) (inl e)
stays_without j (x ∷ q) ne (Memᴰ.tail m) = stays_cut (eqb x j) (λ t p. ne (p ∙ eqb-true x j t)) (inr (stays_without j q ne m))

pub distinct_end : (j : ℕ) (q : List ℕ) → Distinct q → (Memᴰ j q → ⊥) → Distinct (q ++ (j ∷ []))
distinct_end j [] d f = ((λ m. elim m [ ]), tt)
distinct_end j (x ∷ q) d f =
    ((λ m. elim (in_end q m) [ inl k ↦ d.0 k | inr e ↦ f (Memᴰ.head (sym e)) ]), distinct_end j q d.1 (λ m. f (Memᴰ.tail m)))

distinct_cut : {x : ℕ} {q : List ℕ} (b : Bool) → (Memᴰ x q → ⊥) → Distinct q → Distinct (cond b q (x ∷ q))
distinct_cut true f d = d
distinct_cut false f d = (f, d)

pub distinct_without : (j : ℕ) (q : List ℕ) → Distinct q → Distinct (without j q)
distinct_without j [] d = d
distinct_without j (x ∷ q) d = distinct_cut (eqb x j) (λ m. d.0 (in_without j q m)) (distinct_without j q d.1)

pub distinct_rest : (q : List ℕ) → Distinct q → Distinct (rest q)
distinct_rest [] d = d
distinct_rest (x ∷ q) d = d.1

pub upto_in : {k i : ℕ} {q : List ℕ} → Upto k i q → Memᴰ k q
upto_in (from e m) = Memᴰ.head e
upto_in (past u) = Memᴰ.tail (upto_in u)

pub upto_end : {k i j : ℕ} (q : List ℕ) → Upto k i (q ++ (j ∷ [])) → Upto k i q ⊎ (i ≡ j)
upto_end [] (from e (Memᴰ.head p)) = inr p
upto_end [] (from e (Memᴰ.tail m)) = elim m [ ]
upto_end [] (past u) = elim u [ ]
upto_end (x ∷ q) (from e m) = elim (in_end (x ∷ q) m) [ inl l ↦ inl (from e l) | inr p ↦ inr p ]
upto_end (x ∷ q) (past u) = elim (upto_end q u) [ inl l ↦ inl (past l) | inr p ↦ inr p ]

upto_cut : {k i x : ℕ} {q : List ℕ} (b : Bool) → Upto k i (cond b q (x ∷ q)) → ((k ≡ x) × Memᴰ i (x ∷ q)) ⊎ Upto k i q
upto_cut true u = inr u
upto_cut false (from e m) = inl (e, m)
upto_cut false (past u) = inr u

in_more : {i x : ℕ} (j : ℕ) (q : List ℕ) → Memᴰ i (x ∷ without j q) → Memᴰ i (x ∷ q)
in_more j q (Memᴰ.head e) = Memᴰ.head e
in_more j q (Memᴰ.tail m) = Memᴰ.tail (in_without j q m)

pub upto_without : {k i : ℕ} (j : ℕ) (q : List ℕ) → Upto k i (without j q) → Upto k i q
upto_without j [] u = u
upto_without j (x ∷ q) u =
    elim (upto_cut (eqb x j) u) [ inl p ↦ from p.0 (in_more j q p.1) | inr l ↦ past (upto_without j q l) ]
