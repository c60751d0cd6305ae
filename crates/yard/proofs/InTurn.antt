-- One section: who had it while another stood in the queue comes in again only behind it.
-- Assumes nothing.
use Rattle.std.proofs.Common.{◌≡◌, ℕ, suc, ◌<◌, ◌≤◌, List, [], ◌∷◌, ◌++◌, sym, refl, ◌∙◌, inl, inr, arith}
use mathlib.Core.List.Memᴰ
use mathlib.Core.List.{Memᴰ}
use Rattle.std.proofs.lemmas.Bool.{cases_eq}
use Rattle.yard.specs.Yard.{Holder, free, by, Section, Distinct, first, rest, handed, joined, left, put}
use Rattle.yard.specs.Order.{Upto, from, past}
use Rattle.yard.proofs.Queues.{at_put, put_other, in_end, in_without, distinct_end, distinct_without, distinct_rest, upto_in, upto_end, upto_without}

-- what always holds of a section
pub record Kept (x : Section) : Type 0 where
  -- nobody is in the queue twice, nor the holder
  pub once : Distinct x.queue
  pub apart : (i : ℕ) → x.holder ≡ by i → Memᴰ i x.queue → ⊥
  -- whoever waits, somebody has it
  pub had : x.holder ≡ free → x.queue ≡ []
  pub now : x.past x.change ≡ x.holder
  pub since : (i : ℕ) → Memᴰ i x.queue → x.came i ≤ x.change
  -- who had it since i came is not i, nor before i, nor has it now
  pub turn : (i n h : ℕ) → Memᴰ i x.queue → x.came i ≤ n → n < x.change → x.past n ≡ by h → (x.holder ≡ by h → ⊥) × (Upto h i x.queue → ⊥)

pub by≢free : (h : Holder) (i : ℕ) → h ≡ by i → h ≡ free → ⊥
by≢free h i p q = let z : ◌≡◌ {A = ℕ} 0 1 = cc in omega arith

now_handed : (h : Holder) (x : Section) → put (suc x.change) h x.past (suc x.change) ≡ h
now_handed h x = at_put (λ v. v ≡ h) _ h x.past _ (λ e. refl) (λ ne. absurd (ne refl))

pub take_kept : (x : Section) (i : ℕ) → Kept x → x.holder ≡ free → Kept (handed (by i) x.queue x)
take_kept x i k f =
    record {
      once = k.once;
      apart = λ j e m. none j m;
      had = λ e. absurd (by≢free (by i) i refl e);
      now = now_handed (by i) x;
      since = λ j m. absurd (none j m);
      turn = λ j n h m. absurd (none j m);
    }
  where
    none : (j : ℕ) → Memᴰ j x.queue → ⊥
    none j m = elim (rw (k.had f) at m) [ ]

pub join_kept : (x : Section) (i j : ℕ) → Kept x → x.holder ≡ by j → (i ≡ j → ⊥) → (Memᴰ i x.queue → ⊥) → Kept (joined i x)
join_kept x i j k f ne out =
    record {
      once = distinct_end i x.queue k.once out;
      apart = λ l e m. elim (in_end x.queue m) [ inl o ↦ k.apart l e o | inr p ↦ ne (sym p ∙ same x.holder l e f) ];
      had = λ e. absurd (by≢free x.holder j f e);
      now = k.now;
      since = λ l m. at_put (λ c. c ≤ x.change) i x.change x.came l (λ p. omega arith) (λ o. elim (in_end x.queue m) [ inl q ↦ k.since l q | inr p ↦ absurd (o p) ]);
      turn = λ l n h m. turn-joined l n h m;
    }
  where
    same : (h : Holder) (l : ℕ) → h ≡ by l → h ≡ by j → l ≡ j
    same h l p q = cc

    turn-joined : (l n h : ℕ) → Memᴰ l (x.queue ++ (i ∷ [])) → put i x.change x.came l ≤ n → n < x.change → x.past n ≡ by h → (x.holder ≡ by h → ⊥) × (Upto h l (x.queue ++ (i ∷ [])) → ⊥)
    turn-joined l n h m =
        at_put (λ c. c ≤ n → n < x.change → x.past n ≡ by h → (x.holder ≡ by h → ⊥) × (Upto h l (x.queue ++ (i ∷ [])) → ⊥)) i x.change x.came l
        (λ p lo hi. absurd (omega arith))
        (λ o lo hi e. elim (in_end x.queue m) [
          | inr p ↦ absurd (o p)
          | inl q ↦
              ((k.turn l n h q lo hi e).0, λ u. elim (upto_end x.queue u) [ inl v ↦ (k.turn l n h q lo hi e).1 v | inr p ↦ o p ])
        ])

pub leave_kept : (x : Section) (i : ℕ) → Kept x → Kept (left i x)
leave_kept x i k =
    record {
      once = distinct_without i x.queue k.once;
      apart = λ j e m. k.apart j e (in_without i x.queue m);
      had = λ e. rw (k.had e);
      now = k.now;
      since = λ j m. k.since j (in_without i x.queue m);
      turn = λ j n h m lo hi e. ((k.turn j n h (in_without i x.queue m) lo hi e).0, λ u. (k.turn j n h (in_without i x.queue m) lo hi e).1 (upto_without i x.queue u));
    }

pub in_rest : {i : ℕ} (q : List ℕ) → Memᴰ i (rest q) → Memᴰ i q
in_rest [] m = m
in_rest (x ∷ q) m = Memᴰ.tail m

pub upto_rest : {k i : ℕ} (q : List ℕ) → Upto k i (rest q) → Upto k i q
upto_rest [] u = u
upto_rest (x ∷ q) u = past u

-- the first stands before whoever is behind it
first_upto : {i : ℕ} (q : List ℕ) (h : ℕ) → first q ≡ by h → Memᴰ i (rest q) → Upto h i q
first_upto [] h e m = elim m [ ]
first_upto (x ∷ q) h e m = from (same x h e) (Memᴰ.tail m)
  where
    same : (x h : ℕ) → by x ≡ by h → h ≡ x
    same x h p = cc

pub first_in : (q : List ℕ) (h : ℕ) → first q ≡ by h → Memᴰ h q
first_in [] h e = absurd (by≢free free h e refl)
first_in (x ∷ q) h e = Memᴰ.head (same x h e)
  where
    same : (x h : ℕ) → by x ≡ by h → h ≡ x
    same x h p = cc

first_apart : (q : List ℕ) → Distinct q → (i : ℕ) → first q ≡ by i → Memᴰ i (rest q) → ⊥
first_apart [] d i e m = elim m [ ]
first_apart (x ∷ q) d i e m = d.0 (Memᴰ.cast (same x i e) m)
  where
    same : (x h : ℕ) → by x ≡ by h → x ≡ h
    same x h p = cc

first_had : (q : List ℕ) → first q ≡ free → rest q ≡ []
first_had [] e = refl
first_had (x ∷ q) e = absurd (by≢free (by x) x refl e)

pub pass_kept : (x : Section) (i : ℕ) → Kept x → x.holder ≡ by i → Kept (handed (first x.queue) (rest x.queue) x)
pass_kept x i k f =
    record {
      once = distinct_rest x.queue k.once;
      apart = first_apart x.queue k.once;
      had = first_had x.queue;
      now = now_handed (first x.queue) x;
      since = λ j m. let l = k.since j (in_rest x.queue m) in omega arith;
      turn = turn-passed;
    }
  where
    turn-passed : (j n h : ℕ) → Memᴰ j (rest x.queue) → x.came j ≤ n → n < suc x.change → put (suc x.change) (first x.queue) x.past n ≡ by h →
        (first x.queue ≡ by h → ⊥) × (Upto h j (rest x.queue) → ⊥)
    turn-passed j n h m lo hi e =
        elim (cases_eq n x.change) [
          | inl p ↦ ((λ b. k.apart h (had p) (first_in x.queue h b)), λ u. k.apart h (had p) (in_rest x.queue (upto_in u)))
          | inr p ↦ (let t = k.turn j n h (in_rest x.queue m) lo (omega arith) old in ((λ b. t.1 (first_upto x.queue h b m)), λ u. t.1 (upto_rest x.queue u)))
        ]
      where
        old : x.past n ≡ by h
        old = let ne : n ≡ suc x.change → ⊥ = λ q. omega arith in sym (put_other _ (first x.queue) x.past n ne) ∙ e

        had : n ≡ x.change → x.holder ≡ by h
        had p = sym k.now ∙ (rw p at old)
