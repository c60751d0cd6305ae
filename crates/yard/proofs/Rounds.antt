-- Rings of true waits: who finds has its own sign back along one, all others of it only relay; and who is in one can't let go.
-- Assumes nothing.
use Rattle.std.proofs.Common.{◌≡◌, ℕ, zero, suc, ◌<◌, ◌≤◌, ◌⊎◌, List, [], ◌∷◌, sym, refl, ap, subst, inl, inr, arith}
use mathlib.Core.List.{Memᴰ}
use Rattle.yard.specs.Yard.{Mode, none, asking, waiting, freeing, leaving, Engine, Yard, mode, shown, own, Queued, Told, WaitsOn, Finds, Act, finds, May, after, Run, still, then, WaitsFor, Along, one, more, Distinct, Ring}
use Rattle.yard.specs.Rings.{Real, Highest, Alone, OneLeaves, Stays, StaysUntilFound, OldWords}
use Rattle.yard.proofs.Views.{moved, Did, nothing, asked, freed, began, heard, found, did}
use Rattle.yard.proofs.Places.{Placed, same_holder, one_place, queued_not_freeing, in_after, holder_after, waiting≢leaving}
use Rattle.yard.proofs.Relays.{Live, Relays, self, via, own_one}
use Rattle.yard.proofs.Sound.{Sound, sound, sound_run}

-- who waits, waits for one
pub waits_one : {engines : ℕ} {y : Yard} (p : Placed engines y) {x j k : ℕ} → WaitsFor y x j → WaitsFor y x k → j ≡ k
waits_one p a b = same_holder a.2 (rw (one_place p a.1 b.1) b.2)

relays_one : {y : Yard} {o d e x : ℕ} → Relays y o d x → Relays y o e x → d ≡ e
relays_one (self h l) (self k n) = refl
relays_one (self h l) (via j s m f q b lo hi r) = absurd (omega arith)
relays_one (via j s m f q b lo hi r) (self h l) = absurd (omega arith)
relays_one (via j s m f q b lo hi r) (via k t n g u c li ho v) = ap suc (relays_one r (rw same v))
  where
    same : j ≡ k
    same = cc

-- the chain as a walk: no engine on it twice, and each one nearer to its end
walk : {y : Yard} {o : ℕ} (z : ℕ) → ((x : ℕ) → Relays y o 0 x → x ≡ z) → (d : ℕ) {x : ℕ} → Relays y o (suc d) x →
    (is : List ℕ) × Along y x is z × Distinct (x ∷ is) × ((l : ℕ) → Memᴰ l is → (e : ℕ) × (0 < e) × (e ≤ d) × Relays y o e l)
walk z end zero (via j s m e q h lo hi r) = ([], one (s, q, rw (← (end j r)) h), ((λ m. elim m [ ]), tt), λ l m. elim m [ ])
walk {y} {o} z end (suc d) {x} (via j s m e q h lo hi r) = go (walk z end d r)
  where
    go : ((is : List ℕ) × Along y j is z × Distinct (j ∷ is) × ((l : ℕ) → Memᴰ l is → (e : ℕ) × (0 < e) × (e ≤ d) × Relays y o e l)) →
        (is : List ℕ) × Along y x is z × Distinct (x ∷ is) × ((l : ℕ) → Memᴰ l is → (e : ℕ) × (0 < e) × (e ≤ suc d) × Relays y o e l)
    go w = (j ∷ w.0, more (s, q, h) w.1, ((λ n. again (near x n)), w.2), near)
      where
        near : (l : ℕ) → Memᴰ l (j ∷ w.0) → (e : ℕ) × (0 < e) × (e ≤ suc d) × Relays y o e l
        near l (Memᴰ.head p) = (suc d, omega arith, omega arith, rw p r)
        near l (Memᴰ.tail n) = (let f = w.3 l n in (f.0, f.1, (let b = f.2 in omega arith), f.3))

        again : ((e : ℕ) × (0 < e) × (e ≤ suc d) × Relays y o e x) → ⊥
        again f = let b = f.2 in let p = relays_one f.3 (via j s m e q h lo hi r) in omega arith

-- what goes over from each to the one it waits for holds all along
pub along_all : {y : Yard} (P : ℕ → Type 0) → ((x k : ℕ) → P x → WaitsFor y x k → P k) → {x k : ℕ} {is : List ℕ} → Along y x is k → P x → (l : ℕ) → Memᴰ l is → P l
along_all P st (one n) p l m = elim m [ ]
along_all P st (more n t) p l (Memᴰ.head e) = rw e (st _ _ p n)
along_all P st (more n t) p l (Memᴰ.tail m) = along_all P st t (st _ _ p n) l m

pub along_end : {y : Yard} (P : ℕ → Type 0) → ((x k : ℕ) → P x → WaitsFor y x k → P k) → {x k : ℕ} {is : List ℕ} → Along y x is k → P x → P k
along_end P st (one n) p = st _ _ p n
along_end P st (more n t) p = along_end P st t (st _ _ p n)

module _ {engines : ℕ} {y : Yard} (w : Sound engines y) where
  -- what a finding rests on
  record Back (i j s : ℕ) : Type 0 where
    live : Live (mode y i)
    wait : WaitsFor y i j
    other : i ≡ j → ⊥
    dist : ℕ
    chain : Relays y (own y i) dist j

  back : {i j s : ℕ} → Finds y i j s → Back i j s
  back {i} {j} {s} f =
      let m = f.1.1 in
      let l : Live (mode y i) = rw m tt in
      let t = w.relays.tells i _ j (own y i) i l f.0 refl in
      let has = t.1 s (w.signs.begun_now i j s _ m) in
      let ne = (w.places.view i j s _ m).0 in
      record {
        live = l;
        wait = (s, elim (w.places.stands i j s _ m) [ inl q ↦ q | inr h ↦ absurd (ne (same_holder h has)) ], has);
        other = ne;
        dist = t.0.0;
        chain = t.0.1;
      }

  end_is : {i : ℕ} → Live (mode y i) → (x : ℕ) → Relays y (own y i) 0 x → x ≡ i
  end_is l x (self e k) = own_one w.places w.signs k l e

  pub real_at : {i j s : ℕ} → Finds y i j s → (is : List ℕ) × Ring y i (j ∷ is)
  real_at {i} {j} {s} f = go b.dist b.chain
    where
      b : Back i j s
      b = back f

      go : (d : ℕ) → Relays y (own y i) d j → (is : List ℕ) × Ring y i (j ∷ is)
      go zero r = absurd (b.other (sym (end_is b.live j r)))
      go (suc d) r =
          let k = walk i (end_is b.live) d r in
          (k.0, (more b.wait k.1, ((λ m. home m), k.2)))
        where
          home : Memᴰ i (j ∷ (walk i (end_is b.live) d r).0) → ⊥
          home (Memᴰ.head e) = b.other e
          home (Memᴰ.tail m) =
              let n = (walk i (end_is b.live) d r).3 i m in let o = n.1 in
              let e = relays_one n.3 (self refl b.live) in omega arith

  -- everyone along the waits from one that finds relays its sign
  next_relays : {i j s x k d : ℕ} → Back i j s → Relays y (own y i) d x → WaitsFor y x k → (e : ℕ) × Relays y (own y i) e k
  next_relays {i} {j} {s} {x} {k} b (self e l) n = (b.dist, rw (waits_one w.places {x = i} {j = k} {k = j} here b.wait) b.chain)
    where
      here : WaitsFor y i k
      here = rw (own_one w.places w.signs l b.live e) at n
  next_relays {k = k} b (via {d = d} u t m e q h lo hi r) n = (d, rw (waits_one w.places {j = k} {k = u} n (t, q, h)) r)

  -- whoever a walk from one that finds leads to relays its sign
  pub chain_to : {i j s k : ℕ} {is : List ℕ} → Finds y i j s → Along y i is k → (d : ℕ) × Relays y (own y i) d k
  chain_to {i} f r = along_end (λ x. (d : ℕ) × Relays y (own y i) d x) (λ x k c n. next_relays (back f) c.1 n) r (0, self refl (back f).live)

  -- all others of a ring wait, with a lower own sign than that of the one that finds, and show its sign or a higher one
  others : {i j s : ℕ} {is : List ℕ} → Finds y i j s → Ring y i is → (l : ℕ) → Memᴰ l is →
      ((k t m : ℕ) × (mode y l ≡ waiting k t m)) × (own y l < own y i) × (own y i ≤ shown y l)
  others {i} {j} {s} f r l m =
      go (along_all (λ x. (d : ℕ) × Relays y (own y i) d x) (λ x k c n. next_relays b c.1 n) r.0 (0, self refl b.live) l m).1
    where
      b : Back i j s
      b = back f

      go : {d : ℕ} → Relays y (own y i) d l → ((k t m : ℕ) × (mode y l ≡ waiting k t m)) × (own y l < own y i) × (own y i ≤ shown y l)
      go (self e k) = absurd (r.1.0 (rw (← (own_one w.places w.signs k b.live e)) m))
      go (via k t n e q h lo hi c) = ((k, t, n, e), lo, hi)

  -- what one tells that waits nowhere
  pub old_words_at : (x c j v : ℕ) → Told y x c j v → ((t : ℕ) → Queued y j t → ⊥) → (z k s : ℕ) → WaitsOn y z k s → Queued y z s → v ≡ own y z → ⊥
  old_words_at x c j v t out z k s o q e = go (w.relays.tells x c j v z l t e).0.1
    where
      l : Live (mode y z)
      l = rw o.1 tt

      go : {d : ℕ} → Relays y (own y z) d j → ⊥
      go (self f n) = out s (rw (own_one w.places w.signs n l f) q)
      go (via u r m f a h lo hi c) = out r a

pub real : Real
real engines y r i j s f = real_at (sound r) f

pub highest : Highest
highest engines y r i j s f is g l m = (others (sound r) f g l m).1

pub alone : Alone
alone engines y r i j s f is g l m =
    let o = others (sound r) f g l m in
    let lo = o.1 in let hi = o.2 in
    ((λ t e. waiting≢leaving o.0.3 e), λ k t h. (let p = h.2 in omega arith))

pub old_words : OldWords
old_words engines y r = old_words_at (sound r)

-- staying
pub along_queued : {y : Yard} {i k : ℕ} {is : List ℕ} → Along y i is k → (s : ℕ) × Queued y i s
along_queued (one n) = (n.0, n.1)
along_queued (more n r) = (n.0, n.1)

leaves_more : (y : Yard) {is : List ℕ} (i : ℕ) → OneLeaves y is → OneLeaves y (i ∷ is)
leaves_more y i o = (o.0, o.1, Memᴰ.tail o.2, o.3)

module _ {engines : ℕ} {y : Yard} (p : Placed engines y) (a : Act) (g : May engines y a) where
  -- who waits for one that waits itself goes on waiting for it, unless it leaves
  wait_stays : {i j t : ℕ} → (n : WaitsFor y i j) → Queued y j t → WaitsFor (after y a) i j ⊎ (mode y i ≡ leaving n.0)
  wait_stays {i} {j} n q =
      elim (in_after (moved engines y a g n.0) n.1) [
        | inl m ↦ inl (n.0, m, elim (holder_after (moved engines y a g n.0) n.2) [ inl h ↦ h | inr f ↦ absurd (queued_not_freeing p q f) ])
        | inr r ↦ elim r
            [ inl h ↦ absurd (queued_not_freeing p {t = n.0} q (rw (same_holder n.2 h.1.1) h.1.2)) | inr l ↦ inr l ]
      ]

  along_stays : {i k t : ℕ} {is : List ℕ} → Along y i is k → Queued y k t → Along (after y a) i is k ⊎ OneLeaves y (i ∷ is)
  along_stays {i} (one n) q = elim (wait_stays n q) [ inl m ↦ inl (one m) | inr l ↦ inr (i, n.0, Memᴰ.head refl, l) ]
  along_stays {i} (more n r) q =
      elim (wait_stays n (along_queued r).1) [
        | inl m ↦ elim (along_stays r q) [ inl v ↦ inl (more m v) | inr o ↦ inr (leaves_more y i o) ]
        | inr l ↦ inr (i, n.0, Memᴰ.head refl, l)
      ]

  pub ring_stays : {i : ℕ} {is : List ℕ} → Ring y i is → Ring (after y a) i is ⊎ OneLeaves y (i ∷ is)
  ring_stays r = elim (along_stays r.0 (along_queued r.0).1) [ inl v ↦ inl (v, r.1) | inr o ↦ inr o ]

pub stays : Stays
stays engines y r a g i is c = ring_stays (sound r).places a g c

abbrev IsLeaving : Mode → Type 0
IsLeaving none = ⊥
IsLeaving (asking s) = ⊥
IsLeaving (waiting j s m) = ⊥
IsLeaving (freeing s) = ⊥
IsLeaving (leaving s) = Unit {0}

is_leaving : (m : Mode) → ((t : ℕ) × (m ≡ leaving t)) ⊎ ((t : ℕ) → m ≡ leaving t → ⊥)
is_leaving none = inr (λ t e. subst IsLeaving (sym e) tt)
is_leaving (asking s) = inr (λ t e. subst IsLeaving (sym e) tt)
is_leaving (waiting j s m) = inr (λ t e. subst IsLeaving (sym e) tt)
is_leaving (freeing s) = inr (λ t e. subst IsLeaving (sym e) tt)
is_leaving (leaving s) = inl (s, refl)

one_leaves : (y : Yard) (is : List ℕ) → OneLeaves y is ⊎ (OneLeaves y is → ⊥)
one_leaves y [] = inr (λ o. elim o.2 [ ])
one_leaves y (i ∷ is) =
    elim (is_leaving (mode y i)) [
      | inl l ↦ inl (i, l.0, Memᴰ.head refl, l.1)
      | inr n ↦ elim (one_leaves y is) [ inl o ↦ inl (leaves_more y i o) | inr f ↦ inr (λ o. neither n f o.0 o.1 o.2 o.3) ]
    ]
  where
    neither : ((t : ℕ) → mode y i ≡ leaving t → ⊥) → (OneLeaves y is → ⊥) → (k t : ℕ) → Memᴰ k (i ∷ is) → mode y k ≡ leaving t → ⊥
    neither n f k t (Memᴰ.head e) l = n t (rw (← e) l)
    neither n f k t (Memᴰ.tail m) l = f (k, t, m, l)

-- only who finds comes to leave
comes_to_leave : {engines : ℕ} {y : Yard} {act : Act} {k t : ℕ} {e : Engine} → Did engines y act k e → e.mode ≡ leaving t → (mode y k ≡ leaving t) ⊎ ((j s : ℕ) × (act ≡ finds k j s))
comes_to_leave nothing l = inl l
comes_to_leave (asked s g) l = absurd (subst IsLeaving (sym l) tt)
comes_to_leave (freed s g) l = absurd (subst IsLeaving (sym l) tt)
comes_to_leave (began s j m u g b) l = absurd (subst IsLeaving (sym l) tt)
comes_to_leave (heard j v g) l = inl l
comes_to_leave (found j s g b) l = inr (j, s, b)

abbrev Rests : Yard → ℕ → List ℕ → List Act → Type 0
Rests z i is acts = (Ring z i is × (OneLeaves z (i ∷ is) → ⊥)) ⊎ ((k j s : ℕ) × Memᴰ k (i ∷ is) × Memᴰ (finds k j s) acts)

rests_after : {engines : ℕ} {y : Yard} (p : Placed engines y) (a : Act) (g : May engines y a) {acts : List Act} (i : ℕ) (is : List ℕ) → Rests y i is acts → Rests (after y a) i is (a ∷ acts)
rests_after p a g i is (inr f) = inr (f.0, f.1, f.2, f.3, Memᴰ.tail f.4)
rests_after {engines} {y} p a g {acts} i is (inl h) =
    elim (ring_stays p a g h.0) [
      | inr o ↦ absurd (h.1 o)
      | inl r ↦ elim (one_leaves (after y a) (i ∷ is)) [ inr f ↦ inl (r, f) | inl o ↦ inr (who o.0 o.1 o.2 o.3) ]
    ]
  where
    who : (k t : ℕ) → Memᴰ k (i ∷ is) → mode (after y a) k ≡ leaving t → (k j s : ℕ) × Memᴰ k (i ∷ is) × Memᴰ (finds k j s) (a ∷ acts)
    who k t m l =
        elim (comes_to_leave (did engines y a g k) l) [ inl o ↦ absurd (h.1 (k, t, m, o)) | inr f ↦ (k, f.0, f.1, m, Memᴰ.head (sym f.2)) ]

rests_run : {engines : ℕ} {y z : Yard} {acts : List Act} → Sound engines y → Run engines y acts z → (i : ℕ) (is : List ℕ) → Ring y i is → (OneLeaves y (i ∷ is) → ⊥) → Rests z i is acts
rests_run w still i is r n = inl (r, n)
rests_run w (then r a g) i is c n = rests_after (sound_run w r).places a g i is (rests_run w r i is c n)

pub stays_until_found : StaysUntilFound
stays_until_found engines y z acts r t i is c n = rests_run (sound r) t i is c n
