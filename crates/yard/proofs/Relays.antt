-- Whoever shows or tells the own sign of one that waits stands on a chain of true waits that leads to it: nobody on the chain can let go.
-- Assumes nothing.
use Rattle.std.proofs.Common.{◌≡◌, ℕ, suc, ◌%◌, ◌<◌, ◌≤◌, ◌⊎◌, sym, refl, ap, ◌∙◌, inl, inr, arith}
use Rattle.yard.specs.Yard.{by, Mode, none, asking, waiting, freeing, leaving, Engine, Yard, start, holder, mode, count, shown, own, Queued, HasBegun, Told, Act, finds, May, after}
use Rattle.yard.proofs.Views.{moved, Did, nothing, asked, freed, began, heard, found, did, begun_was, told_was}
use Rattle.yard.proofs.Places.{Placed, placed_after, same_holder, in_after, holder_after, settled_out, view_last, waiting≢leaving}
use Rattle.yard.proofs.Signs.{Signed, signed-after, shown_was}

-- its own sign counts: it has begun to wait, or found a ring, and has called for nothing since
abbrev pub Live : Mode → Type 0
Live none = ⊥
Live (asking s) = ⊥
Live (waiting j s m) = Unit {0}
Live (freeing s) = ⊥
Live (leaving s) = Unit {0}

-- the sign o has come to x over so many waits from the engine whose own it is, and all of them stand
pub data Relays (y : Yard) (o : ℕ) : ℕ → ℕ → Type 0 where
  self : {x : ℕ} → own y x ≡ o → Live (mode y x) → Relays y o 0 x
  via : {d x : ℕ} (j s m : ℕ) → mode y x ≡ waiting j s m → Queued y x s → holder y s ≡ by j → own y x < o → o ≤ shown y x → Relays y o d j → Relays y o (suc d) x

pub relays_live : {y : Yard} {o d x : ℕ} → Relays y o d x → Live (mode y x)
relays_live (self e l) = l
relays_live (via j s m e q h lo hi r) = rw e tt

live_not_freeing : (o : Mode) (t : ℕ) → Live o → o ≡ freeing t → ⊥
live_not_freeing o t l e = rw e at l

live_not_none : (o : Mode) → Live o → o ≡ none → ⊥
live_not_none o l e = rw e at l

pub live_numbered : {engines : ℕ} {y : Yard} (p : Placed engines y) (x : ℕ) → Live (mode y x) → x < engines
live_numbered {y = y} p x l = elim (p.numbered x) [ inl e ↦ absurd (live_not_none (mode y x) l e) | inr b ↦ b ]

-- own signs of two that wait differ
pub own_one : {engines : ℕ} {y : Yard} (p : Placed engines y) (q : Signed engines y) {x z : ℕ} → Live (mode y x) → Live (mode y z) → own y x ≡ own y z → x ≡ z
own_one {engines} {y} p q {x} {z} l k e = sym (q.mine x (live_numbered p x l)) ∙ rw e (q.mine z (live_numbered p z k))

pub record Relayed (engines : ℕ) (y : Yard) : Type 0 where
  pub shows : (x z : ℕ) → x < engines → Live (mode y z) → shown y x ≡ own y z → (d : ℕ) × Relays y (own y z) d x
  pub tells : (x c j v z : ℕ) → Live (mode y z) → Told y x c j v → v ≡ own y z → ((d : ℕ) × Relays y (own y z) d j) × ((s : ℕ) → HasBegun y x c s → holder y s ≡ by j)

pub relayed_start : (engines : ℕ) → Relayed engines start
relayed_start engines = record { shows = λ x z b l. absurd l; tells = λ x c j v z l. absurd l }

module _ {engines : ℕ} {y : Yard} (p : Placed engines y) (a : Act) (g : May engines y a) where
  -- a wait stays while the holder doesn't free and the waiter doesn't leave
  pub wait_after : {x j s : ℕ} → Queued y x s → holder y s ≡ by j → (mode y j ≡ freeing s → ⊥) → (mode y x ≡ leaving s → ⊥) → Queued (after y a) x s × (holder (after y a) s ≡ by j)
  wait_after {x} {j} {s} w h nf nl = (
    elim (in_after (moved engines y a g s) w)
        [ inl m ↦ m | inr r ↦ elim r [ inl k ↦ absurd (nf (rw (same_holder h k.1.1) k.1.2)) | inr l ↦ absurd (nl l) ] ],
    elim (holder_after (moved engines y a g s) h) [ inl k ↦ k | inr f ↦ absurd (nf f) ],
  )

  -- who waits with the right view and doesn't find can only hear
  pub waiter_did : {act : Act} {x j s m : ℕ} {e : Engine} → Did engines y act x e → mode y x ≡ waiting j s m → Queued y x s → holder y s ≡ by j →
      ((i t : ℕ) → shown y x ≡ own y x → act ≡ finds x i t → ⊥) → (e.mode ≡ waiting j s m) × (e.own ≡ own y x) × (shown y x ≤ e.shown) × (e.count ≡ count y x)
  waiter_did nothing e w h n = (e, refl, omega arith, refl)
  waiter_did (asked t k) e w h n = absurd (settled_out p k.1 w)
  waiter_did (freed t k) e w h n = absurd (settled_out p k.1 w)
  waiter_did {s = s} (began t i r u k b) e w h n =
      absurd (let v = view_last p e w h in let un = rw e at k.0 in let r : s ≡ t = un.0 in let hi = rw (← r) at k.2.1 in omega (arith, un.1))
  waiter_did (heard i v k) e w h n = (e, refl, (let l = k.2 in omega arith), refl)
  waiter_did (found i t k b) e w h n = absurd (n i t k.2 b)

module _ {engines : ℕ} {y : Yard} (p : Placed engines y) (q : Signed engines y) (a : Act) (g : May engines y a) where
  relays_after : {o d x : ℕ} (z : ℕ) → Live (mode (after y a) z) → own (after y a) z ≡ o → Relays y o d x → Relays (after y a) o d x
  relays_after {o} z l k (self {x = x} e b) = rw same (self k l)
    where
      same : x ≡ z
      same = sym (q.mine x (live_numbered p x b)) ∙ rw (e ∙ sym k) ((signed-after p q a g).mine z (live_numbered (placed_after p a g) z l))
  relays_after z l k (via {x = x} j s m e w h lo hi r) =
      let v = wait_after p a g w h (live_not_freeing _ s (relays_live r)) (waiting≢leaving e) in
      let n = waiter_did p a g (did engines y a g x) e w h (λ i t f b. omega arith) in
      let up = n.2 in let same = n.1 in
      via j s m n.0 v.0 v.1 (omega arith) (omega arith) (relays_after z l k r)

  -- an own sign that counts did so before, or is above all that its engine showed
  live_was : {act : Act} {x : ℕ} {e : Engine} → Did engines y act x e → Live e.mode → (Live (mode y x) × (e.own ≡ own y x)) ⊎ ((shown y x < e.own) × (e.own % engines ≡ x))
  live_was nothing l = inl (l, refl)
  live_was (asked t k) l = absurd l
  live_was (freed t k) l = absurd l
  live_was (began t j m u k b) l = inr (k.3.0, k.3.1)
  live_was (heard j v k) l = inl (l, refl)
  live_was (found j t k z) l = inl (rw k.1.1 tt, refl)

  same_own : {x z : ℕ} → x < engines → Live (mode (after y a) z) → own (after y a) x ≡ own (after y a) z → x ≡ z
  same_own {x} {z} b l e = sym ((signed-after p q a g).mine x b) ∙ rw e ((signed-after p q a g).mine z (live_numbered (placed_after p a g) z l))

  module _ (r : Relayed engines y) where
    -- x shows the own sign of one whose sign counted before
    shows-old : (x z : ℕ) (e : Engine) → (after y a).engine x ≡ e → Did engines y a x e → x < engines → Live (mode (after y a) z) → Live (mode y z) → own (after y a) z ≡ own y z →
        e.shown ≡ own y z → (d : ℕ) × Relays (after y a) (own y z) d x
    shows-old x z e is nothing b l k n w = (let o = r.shows x z b k w in (o.0, relays_after z l n o.1))
    shows-old x z e is (asked t h) b l k n w = (let o = r.shows x z b k w in (o.0, relays_after z l n o.1))
    shows-old x z e is (freed t h) b l k n w = (let o = r.shows x z b k w in (o.0, relays_after z l n o.1))
    shows-old x z e is (began t j m u h c) b l k n w =
        (0, rw (same_own {x = x} {z = z} b l (ap (λ (e : Engine). e.own) is ∙ w ∙ sym n)) (self n l))
    shows-old x z e is (heard j v h) b l k n w =
        let o = r.tells x _ j v z k h.0 w in
        let s = h.1.0 in
        let m : mode y x ≡ waiting j s h.1.1.0 = h.1.1.1 in
        let has = o.1 s (q.begun_now x j s _ m) in
        let in-it = elim (p.stands x j s _ m) as (λ _. Queued y x s) [ inl c ↦ c | inr c ↦ absurd ((p.view x j s _ m).0 (same_holder c has)) ] in
        let st = wait_after p a g in-it has (live_not_freeing _ s (relays_live o.0.1)) (waiting≢leaving m) in
        let low = q.under x in let up = h.2 in let now-own = ap (λ (e : Engine). e.own) is in let now-shown = ap (λ (e : Engine). e.shown) is in
        (suc o.0.0, via j s _ (ap (λ (e : Engine). e.mode) is ∙ m) st.0 st.1 (omega arith) (omega arith) (relays_after z l n o.0.1))
    shows-old x z e is (found j t h c) b l k n w = (let o = r.shows x z b k w in (o.0, relays_after z l n o.1))

    shows-after : (x z : ℕ) → x < engines → Live (mode (after y a) z) → shown (after y a) x ≡ own (after y a) z → (d : ℕ) × Relays (after y a) (own (after y a) z) d x
    shows-after x z b l w =
        elim (live_was (did engines y a g z) l) [
          | inl k ↦ rw k.1 (shows-old x z _ refl (did engines y a g x) b l k.0 k.1 (w ∙ k.1))
          | inr n ↦ elim (shown_was (did engines y a g x)) [
            | inl e ↦ absurd (let o = q.shown_low x z b (rw (sym e ∙ w) n.1) in let u = q.under z in let f = n.0 in omega arith)
            | inr m ↦ elim m [
              | inl o ↦ (0, rw (same_own {x = x} {z = z} b l (o.0 ∙ w)) (self refl l))
              | inr t ↦ absurd (let o = q.told_low x _ t.0 _ z t.1 (rw w n.1) in let u = q.under z in let f = n.0 in omega arith)
            ]
          ]
        ]

    tells-after : (x c j v z : ℕ) → Live (mode (after y a) z) → Told (after y a) x c j v → v ≡ own (after y a) z →
        ((d : ℕ) × Relays (after y a) (own (after y a) z) d j) × ((s : ℕ) → HasBegun (after y a) x c s → holder (after y a) s ≡ by j)
    tells-after x c j v z l t w =
        elim (live_was (did engines y a g z) l) [
          | inl k ↦ elim (told_was engines y a g x c j v t) [
            | inl o ↦
                (let f = r.tells x c j v z k.0 o (w ∙ k.1) in
                (rw k.1 (f.0.0, relays_after z l k.1 f.0.1), still f.0.1 (q.told_begun x c j v o) f.1))
            | inr n ↦
                (let s = n.1.0 in let h = n.1.1 in
                let f = r.shows j z (p.holders j s h.1) k.0 (sym n.0 ∙ w ∙ k.1) in
                (rw k.1 (f.0, relays_after z l k.1 f.1), still f.1 (q.begun_low x c s h.0) (λ t b. rw (q.begun_one x c t s b h.0) h.1)))
          ]
          | inr n ↦ absurd
              (let u = q.under z in let f = n.0 in elim (told_was engines y a g x c j v t) [
                | inl o ↦ (let b = q.told_low x c j v z o (rw w n.1) in omega arith)
                | inr h ↦ (let b = q.shown_low j z (p.holders j h.1.0 h.1.1.1) (rw (sym h.0 ∙ w) n.1) in let e = h.0 in omega arith)
              ])
        ]
      where
        -- the section of that wait is still had by j
        still : {o d : ℕ} → Relays y o d j → c ≤ count y x → ((s : ℕ) → HasBegun y x c s → holder y s ≡ by j) → (s : ℕ) → HasBegun (after y a) x c s → holder (after y a) s ≡ by j
        still f b has s h =
            elim (begun_was engines y a g x c s h) [
              | inl o ↦ elim (holder_after (moved engines y a g s) (has s o)) [ inl k ↦ k | inr e ↦ absurd (live_not_freeing _ s (relays_live f) e) ]
              | inr n ↦ absurd (let e = n.0 in omega arith)
            ]

    pub relayed-after : Relayed engines (after y a)
    relayed-after = record { shows = shows-after; tells = tells-after }
