-- A ring all of whose homes have heard whom their engine waits for stands still: nobody shows a sign above the highest own one, and only hearings happen in it until that one finds.
-- Assumes nothing.
use Rattle.std.proofs.Common.{◌≡◌, ℕ, ◌≤◌, ◌⊎◌, List, ◌∷◌, sym, refl, inl, inr, arith}
use mathlib.Core.List.{Memᴰ}
use Rattle.yard.specs.Yard.{by, waiting, freeing, Yard, holder, mode, count, shown, own, Queued, Finds, Act, finds, May, after, WaitsFor, Along, one, more}
use Rattle.yard.proofs.Views.{did}
use Rattle.yard.proofs.Places.{Placed, waiting≢freeing, waiting≢leaving}
use Rattle.yard.proofs.Relays.{Relays, self, via, own_one, wait_after, waiter_did}
use Rattle.yard.proofs.Covered.{Covered, own_above, idle_above, through}
use Rattle.yard.proofs.Sound.{Sound, sound_after}
use Rattle.yard.proofs.Rounds.{waits_one, chain_to}

-- the home of i has heard whom it waits for, the one that has the section
pub record Hears (y : Yard) (i : ℕ) : Type 0 where
  pub for : ℕ
  pub place : ℕ
  pub as_of : ℕ
  pub view : mode y i ≡ waiting for place as_of
  pub queued : Queued y i place
  pub has : holder y place ≡ by for

pub along_map : {y z : Yard} {i k : ℕ} {is : List ℕ} → ((x j : ℕ) → Memᴰ x (i ∷ is) → WaitsFor y x j → WaitsFor z x j) → Along y i is k → Along z i is k
along_map f (one n) = one (f _ _ (Memᴰ.head refl) n)
along_map f (more n t) = more (f _ _ (Memᴰ.head refl) n) (along_map (λ x j m. f x j (Memᴰ.tail m)) t)

-- from anywhere on a walk the walk leads on to its end
pub along_from : {y : Yard} {x i k : ℕ} {is : List ℕ} → Along y i is k → Memᴰ x (i ∷ is) → (js : List ℕ) × Along y x js k
along_from {is = is} r (Memᴰ.head e) = (is, rw e r)
along_from (one n) (Memᴰ.tail m) = elim m [ ]
along_from (more n t) (Memᴰ.tail m) = along_from t m

-- whoever one of a walk waits for is the next on it, or its end
along_next : {engines : ℕ} {y : Yard} (p : Placed engines y) {i k x j : ℕ} {is : List ℕ} → Along y i is k → Memᴰ x (i ∷ is) → WaitsFor y x j → Memᴰ j is ⊎ (j ≡ k)
along_next p {j = j} (one {k = k} n) (Memᴰ.head e) w = inr (waits_one p {j = j} {k = k} w (rw e n))
along_next p (one n) (Memᴰ.tail m) w = elim m [ ]
along_next p {j = j} (more {j = u} n t) (Memᴰ.head e) w = inl (Memᴰ.head (waits_one p {j = j} {k = u} w (rw e n)))
along_next p (more n t) (Memᴰ.tail m) w = elim (along_next p t m w) [ inl o ↦ inl (Memᴰ.tail o) | inr e ↦ inr e ]

pub ring_closed : {engines : ℕ} {y : Yard} (p : Placed engines y) {i : ℕ} {is : List ℕ} → Along y i is i → (x j : ℕ) → Memᴰ x (i ∷ is) → WaitsFor y x j → Memᴰ j (i ∷ is)
ring_closed p r x j m w = elim (along_next p r m w) [ inl o ↦ Memᴰ.tail o | inr e ↦ Memᴰ.head e ]

pub record Standing (engines k : ℕ) (ks : List ℕ) (y : Yard) : Type 0 where
  pub sound : Sound engines y
  pub ring : Along y k ks k
  pub hears : (x : ℕ) → Memᴰ x (k ∷ ks) → Hears y x
  pub high : (x : ℕ) → Memᴰ x (k ∷ ks) → own y x ≤ own y k

module _ {engines k : ℕ} {ks : List ℕ} {y : Yard} (w : Standing engines k ks y) where
  pub next_in : (x : ℕ) (m : Memᴰ x (k ∷ ks)) → Memᴰ (w.hears x m).for (k ∷ ks)
  next_in x m = let h = w.hears x m in ring_closed w.sound.places w.ring x h.for m (h.place, h.queued, h.has)

  covered_low : {v x : ℕ} → Memᴰ x (k ∷ ks) → Covered y v x → v ≤ own y k
  covered_low {v} {x} m (own_above l) = let h = w.high x m in omega arith
  covered_low {v} {x} m (idle_above i l) = absurd (i _ _ _ (w.hears x m).view)
  covered_low {v} {x} m (through j s n e l c) = covered_low (rw same (next_in x m)) c
    where
      meet : {i t r : ℕ} → mode y x ≡ waiting i t r → j ≡ i
      meet f = cc

      same : j ≡ (w.hears x m).for
      same = meet (w.hears x m).view

  -- nobody of the ring shows a sign above the highest own one
  pub shown_low : (x : ℕ) → Memᴰ x (k ∷ ks) → shown y x ≤ own y k
  shown_low x m = covered_low m (w.sound.covers.of_shown x)

  pub not_freeing : (x : ℕ) → Memᴰ x (k ∷ ks) → (t : ℕ) → mode y x ≡ freeing t → ⊥
  not_freeing x m t e = waiting≢freeing (w.hears x m).view e

  -- only the one with the highest own sign can find
  pub only_top : (x j s : ℕ) → Memᴰ x (k ∷ ks) → Finds y x j s → x ≡ k
  only_top x j s m f = go (chain_to w.sound f (along_from w.ring m).1).1
    where
      go : {d : ℕ} → Relays y (own y x) d k → x ≡ k
      go (self e l) = sym (own_one w.sound.places w.sound.signs l (rw f.1.1 tt) e)
      go (via i t n e q h lo hi c) = absurd (let b = w.high x m in omega arith)

  module _ (a : Act) (g : May engines y a) (quiet : (j s : ℕ) → a ≡ finds k j s → ⊥) where
    -- what each of the ring does in an act that isn't the finding
    pub ring-did : (x : ℕ) (m : Memᴰ x (k ∷ ks)) → (let h = w.hears x m in (mode (after y a) x ≡ waiting h.for h.place h.as_of)) × (own (after y a) x ≡ own y x) × (shown y x ≤ shown (after y a) x) × (count (after y a) x ≡ count y x)
    ring-did x m = let h = w.hears x m in waiter_did w.sound.places a g (did engines y a g x) h.view h.queued h.has still
      where
        still : (i t : ℕ) → shown y x ≡ own y x → a ≡ finds x i t → ⊥
        still i t s e = let top = only_top x i t m (rw e at g) in quiet i t (rw (← top) e)

    stays_put : (x j : ℕ) → Memᴰ x (k ∷ ks) → WaitsFor y x j → WaitsFor (after y a) x j
    stays_put x j m n =
        let h = w.hears x m in
        let v = wait_after w.sound.places a g n.1 n.2 (not_freeing j (ring_closed w.sound.places w.ring x j m n) n.0) (waiting≢leaving h.view) in
        (n.0, v.0, v.1)

    hears-after : (x : ℕ) → Memᴰ x (k ∷ ks) → Hears (after y a) x
    hears-after x m =
        let h = w.hears x m in
        let v = wait_after w.sound.places a g h.queued h.has (not_freeing h.for (next_in x m) h.place) (waiting≢leaving h.view) in
        record { for = h.for; place = h.place; as_of = h.as_of; view = (ring-did x m).0; queued = v.0; has = v.1 }

    pub standing-after : Standing engines k ks (after y a)
    standing-after =
        record {
          sound = sound_after w.sound a g;
          ring = along_map stays_put w.ring;
          hears = hears-after;
          high = λ x m. (let l = w.high x m in let e = (ring-did x m).1 in let f = (ring-did k (Memᴰ.head refl)).1 in omega arith);
        }
