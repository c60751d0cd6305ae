-- Signs of one's own differ, what is shown only rises, a sign anywhere is none above its engine's own; and each count begins one wait.
-- Assumes nothing.
use Rattle.std.proofs.Common.{◌≡◌, ℕ, suc, ◌%◌, ◌<◌, ◌≤◌, ◌⊎◌, sym, refl, ◌∙◌, inl, inr, mod-eq_of_lt, arith}
use mathlib.Core.List.Memᴰ
use Rattle.yard.specs.Yard.{none, waiting, Engine, Yard, start, mode, count, shown, own, HasBegun, Told, Act, begins, May, after}
use Rattle.yard.proofs.Queues.{at_put}
use Rattle.yard.proofs.Views.{Did, nothing, asked, freed, began, heard, found, did, begun_was, begun_stays, told_was}
use Rattle.yard.proofs.Places.{Placed, waiting≢asking, waiting≢freeing, waiting≢leaving}

pub record Signed (engines : ℕ) (y : Yard) : Type 0 where
  pub mine : (i : ℕ) → i < engines → own y i % engines ≡ i
  pub under : (i : ℕ) → own y i ≤ shown y i
  -- a sign of engine k, shown or told anywhere, is none above k's own
  pub shown_low : (x k : ℕ) → x < engines → shown y x % engines ≡ k → shown y x ≤ own y k
  pub told_low : (x c j v k : ℕ) → Told y x c j v → v % engines ≡ k → v ≤ own y k
  -- each count begins one wait, and is told of only then
  pub begun_low : (i c s : ℕ) → HasBegun y i c s → c ≤ count y i
  pub begun_one : (i c s t : ℕ) → HasBegun y i c s → HasBegun y i c t → s ≡ t
  pub begun_now : (i j s m : ℕ) → mode y i ≡ waiting j s m → HasBegun y i (count y i) s
  pub told_begun : (x c j v : ℕ) → Told y x c j v → c ≤ count y x

pub signed_start : (engines : ℕ) → Signed engines start
signed_start engines =
    record {
      mine = λ i l. mod-eq_of_lt l;
      under = λ i. omega arith;
      shown_low = λ x k l e. let p : x % engines ≡ x = mod-eq_of_lt l in omega arith;
      told_low = λ x c j v k m. elim m [ ];
      begun_low = λ i c s m. elim m [ ];
      begun_one = λ i c s t m. elim m [ ];
      begun_now = λ i j s m e. absurd (none≢waiting e);
      told_begun = λ x c j v m. elim m [ ];
    }
  where
    none≢waiting : {j s m : ℕ} → none ≡ waiting j s m → ⊥
    none≢waiting p = let z : ◌≡◌ {A = ℕ} 0 1 = cc in omega arith

module _ {engines : ℕ} {y : Yard} {act : Act} where
  pub shown_rises : {x : ℕ} {e : Engine} → Did engines y act x e → shown y x ≤ e.shown
  shown_rises nothing = omega arith
  shown_rises (asked s g) = omega arith
  shown_rises (freed s g) = omega arith
  shown_rises (began s j m u g b) = let l = g.3.0 in omega arith
  shown_rises (heard j v g) = let l = g.2 in omega arith
  shown_rises (found j s g z) = omega arith

  count_rises : {x : ℕ} {e : Engine} → Did engines y act x e → count y x ≤ e.count
  count_rises nothing = omega arith
  count_rises (asked s g) = omega arith
  count_rises (freed s g) = omega arith
  count_rises (began s j m u g b) = omega arith
  count_rises (heard j v g) = omega arith
  count_rises (found j s g z) = omega arith

  -- an own sign stays, or is a new one above all that was shown
  pub own_was : {x : ℕ} {e : Engine} → Did engines y act x e → (e.own ≡ own y x) ⊎ ((shown y x < e.own) × (e.shown ≡ e.own) × (e.own % engines ≡ x))
  own_was nothing = inl refl
  own_was (asked s g) = inl refl
  own_was (freed s g) = inl refl
  own_was (began s j m u g b) = inr (g.3.0, refl, g.3.1)
  own_was (heard j v g) = inl refl
  own_was (found j s g z) = inl refl

  -- what is shown was shown, or is a new sign of its own, or was told
  pub shown_was : {x : ℕ} {e : Engine} → Did engines y act x e →
      (e.shown ≡ shown y x) ⊎ (((e.own ≡ e.shown) × (e.own % engines ≡ x)) ⊎ ((j : ℕ) × Told y x (count y x) j e.shown))
  shown_was nothing = inl refl
  shown_was (asked s g) = inl refl
  shown_was (freed s g) = inl refl
  shown_was (began s j m u g b) = inr (inl (refl, g.3.1))
  shown_was (heard j v g) = inr (inr (j, g.0))
  shown_was (found j s g z) = inl refl

  begun_did : {x j s m : ℕ} {e : Engine} → ((c t : ℕ) → HasBegun y x c t → HasBegun (after y act) x c t) → (mode y x ≡ waiting j s m → HasBegun y x (count y x) s) → Did engines y act x e →
      e.mode ≡ waiting j s m → HasBegun (after y act) x e.count s
  begun_did st old nothing e = st _ _ (old e)
  begun_did st old (asked t g) e = absurd (waiting≢asking e refl)
  begun_did st old (freed t g) e = absurd (waiting≢freeing e refl)
  begun_did {s = s} st old (began t k n u g b) e = let p : s ≡ t = cc in rw (p, b) (Memᴰ.head refl)
  begun_did st old (heard k v g) e = st _ _ (old e)
  begun_did st old (found k t g z) e = absurd (waiting≢leaving e refl)

module _ {engines : ℕ} {y : Yard} (p : Placed engines y) (q : Signed engines y) where
  pub own_rises : {act : Act} {x : ℕ} {e : Engine} → Did engines y act x e → own y x ≤ e.own
  own_rises {x = x} d = elim (own_was d) [ inl e ↦ omega arith | inr w ↦ (let l = q.under x in let k = w.0 in omega arith) ]

  begins_count : (a : Act) {i s j m u : ℕ} → a ≡ begins i s j m u → count (after y a) i ≡ suc (count y i)
  begins_count a {i} e = rw e (at_put (λ (e : Engine). e.count ≡ suc (count y i)) i _ y.engine i (λ r. refl) (λ ne. absurd (ne refl)))

  module _ (a : Act) (g : May engines y a) where
    shown-low-after : (x k : ℕ) → x < engines → shown (after y a) x % engines ≡ k → shown (after y a) x ≤ own (after y a) k
    shown-low-after x k l r =
        elim (shown_was (did engines y a g x)) [
          | inl e ↦ (let o = q.shown_low x k l (sym (rw e) ∙ r) in let up = own_rises (did engines y a g k) in omega arith)
          | inr w ↦ elim w [
            | inl n ↦ (let e : k ≡ x = sym r ∙ rw (← n.0) n.1 in rw e (let h = n.0 in omega arith))
            | inr t ↦ (let o = q.told_low x _ t.0 _ k t.1 r in let up = own_rises (did engines y a g k) in omega arith)
          ]
        ]

    told-low-after : (x c j v k : ℕ) → Told (after y a) x c j v → v % engines ≡ k → v ≤ own (after y a) k
    told-low-after x c j v k t r =
        let up = own_rises (did engines y a g k) in
        elim (told_was engines y a g x c j v t) [
          | inl o ↦ (let h = q.told_low x c j v k o r in omega arith)
          | inr n ↦ (let h = q.shown_low j k (p.holders j n.1.0 n.1.1.1) (rw (← n.0) r) in let e = n.0 in omega arith)
        ]

    begun-one-after : (i c s t : ℕ) → HasBegun (after y a) i c s → HasBegun (after y a) i c t → s ≡ t
    begun-one-after i c s t h k = go (begun_was engines y a g i c s h) (begun_was engines y a g i c t k)
      where
        Was : ℕ → Type 0
        Was r = HasBegun y i c r ⊎ ((c ≡ suc (count y i)) × ((j m u : ℕ) × (a ≡ begins i r j m u)))

        go : Was s → Was t → s ≡ t
        go (inl o) (inl n) = q.begun_one i c s t o n
        go (inl o) (inr n) = absurd (let l = q.begun_low i c s o in let e = n.0 in omega arith)
        go (inr o) (inl n) = absurd (let l = q.begun_low i c t n in let e = o.0 in omega arith)
        go (inr o) (inr n) = same o.1.3 n.1.3
          where
            same : {i j m u k l v : ℕ} → a ≡ begins i s j m u → a ≡ begins i t k l v → s ≡ t
            same e f = cc

    pub signed-after : Signed engines (after y a)
    signed-after =
        record {
          mine = λ i l. elim (own_was (did engines y a g i)) [ inl e ↦ rw e (q.mine i l) | inr w ↦ w.2 ];
          under = λ i. (let o = q.under i in let up = shown_rises (did engines y a g i) in elim (own_was (did engines y a g i)) [ inl e ↦ omega arith | inr w ↦ (let e = w.1 in omega arith) ]);
          shown_low = shown-low-after;
          told_low = told-low-after;
          begun_low =
              λ i c s h. elim (begun_was engines y a g i c s h) [
                | inl o ↦ (let l = q.begun_low i c s o in let up = count_rises (did engines y a g i) in omega arith)
                | inr n ↦ (let e = n.0 in let f = begins_count a n.1.3 in omega arith)
              ];
          begun_one = begun-one-after;
          begun_now = λ i j s m e. begun_did (λ c t. begun_stays engines y a g) (q.begun_now i j s m) (did engines y a g i) e;
          told_begun =
              λ x c j v h. (let up = count_rises (did engines y a g x) in elim (told_was engines y a g x c j v h)
              [ inl o ↦ (let l = q.told_begun x c j v o in omega arith) | inr n ↦ (let l = q.begun_low x c n.1.0 n.1.1.0 in omega arith) ]);
        }
