-- The highest sign of a ring that stands, told back from each to the one that waits for it, comes round.
-- Assumes nothing.
use Rattle.std.proofs.Common.{◌≡◌, ℕ, suc, ◌+◌, ◌<◌, ◌≤◌, List, [], ◌∷◌, length, sym, refl, ap, ◌∙◌, subst, inl, inr, arith}
use mathlib.Core.List.{Memᴰ}
use Rattle.std.proofs.lemmas.Bool.{cases_lt}
use Rattle.yard.specs.Yard.{by, waiting, Engine, Telling, Yard, mode, count, shown, own, Told, showing, Act, tells, hears, finds, May, after, Run, still, then, WaitsFor, Along, one, more}
use Rattle.yard.specs.Found.{Heard, Round, no_telling, a_telling, a_hearing, Found}
use Rattle.yard.proofs.Queues.{at_put}
use Rattle.yard.proofs.Sound.{Sound, sound, sound_run}
use Rattle.yard.proofs.Rounds.{waits_one, along_all}
use Rattle.yard.proofs.Standing.{Hears, along_map, along_from, ring_closed, Standing, shown_low, ring-did, standing-after}
use Rattle.yard.proofs.Beginnings.{waits_same, AllBegun, all_begun}

-- one with the highest number of the list
top : (f : ℕ → ℕ) (i : ℕ) (is : List ℕ) → (k : ℕ) × Memᴰ k (i ∷ is) × ((l : ℕ) → Memᴰ l (i ∷ is) → f l ≤ f k)
top f i [] = (i, Memᴰ.head refl, λ l m. only l m)
  where
    only : (l : ℕ) → Memᴰ l (i ∷ []) → f l ≤ f i
    only l (Memᴰ.head e) = rw e (omega arith)
    only l (Memᴰ.tail m) = elim m [ ]
top f i (j ∷ is) = pick (top f j is)
  where
    pick : ((k : ℕ) × Memᴰ k (j ∷ is) × ((l : ℕ) → Memᴰ l (j ∷ is) → f l ≤ f k)) → (k : ℕ) × Memᴰ k (i ∷ j ∷ is) × ((l : ℕ) → Memᴰ l (i ∷ j ∷ is) → f l ≤ f k)
    pick t = elim (cases_lt (f i) (f t.0)) [ inl b ↦ (t.0, Memᴰ.tail t.1, low b) | inr b ↦ (i, Memᴰ.head refl, high b) ]
      where
        low : f i < f t.0 → (l : ℕ) → Memᴰ l (i ∷ j ∷ is) → f l ≤ f t.0
        low b l (Memᴰ.head e) = rw e (omega arith)
        low b l (Memᴰ.tail m) = t.2 l m

        high : f t.0 ≤ f i → (l : ℕ) → Memᴰ l (i ∷ j ∷ is) → f l ≤ f i
        high b l (Memᴰ.head e) = rw e (omega arith)
        high b l (Memᴰ.tail m) = let c = t.2 l m in omega arith

-- a walk taken apart at one on it, and put together
along_split : {y : Yard} {k i e : ℕ} {is : List ℕ} → Along y i is e → Memᴰ k is → (bs cs : List ℕ) × Along y i bs k × Along y k cs e × (length is ≡ suc (length bs + length cs))
along_split (one n) m = elim m [ ]
along_split (more {js = js} n t) (Memᴰ.head e) = ([], js, one (rw e n), rw e t, omega arith)
along_split (more {j = j} n t) (Memᴰ.tail m) = let r = along_split t m in (j ∷ r.0, r.1, more n r.2, r.3, (let l = r.4 in omega arith))

along_join : {y : Yard} {c a b : ℕ} {bs : List ℕ} {cs : List ℕ} → Along y a bs b → Along y b cs c → (ds : List ℕ) × Along y a ds c × (length ds ≡ suc (length bs + length cs))
along_join {b = b} {cs = cs} (one n) r = (b ∷ cs, more n r, omega arith)
along_join (more {j = j} n t) r = let d = along_join t r in (j ∷ d.0, more n d.1, (let l = d.2 in omega arith))

-- a ring from any one of it on
turn_to : {y : Yard} {i k : ℕ} {is : List ℕ} → Along y i is i → Memᴰ k (i ∷ is) → (ks : List ℕ) × Along y k ks k × (length ks ≡ length is)
turn_to {is = is} r (Memᴰ.head e) = (is, rw e r, refl)
turn_to r (Memᴰ.tail m) = let s = along_split r m in let j = along_join s.3 s.2 in (j.0, j.1, (let b = s.4 in let c = j.2 in omega arith))

-- a telling is no finding, nor is a hearing
pub tells≢finds : {x c s j k i t : ℕ} → tells x c s j ≡ finds k i t → ⊥
tells≢finds e = let z : ◌≡◌ {A = ℕ} 0 1 = cc in omega arith

pub hears≢finds : {x j v k i t : ℕ} → hears x j v ≡ finds k i t → ⊥
hears≢finds e = let z : ◌≡◌ {A = ℕ} 0 1 = cc in omega arith

-- some way of tellings and hearings on, the ring stands as before and the goal is reached
record Going (engines k : ℕ) (ks : List ℕ) (y : Yard) (long : ℕ) (Goal : Yard → Type 0) : Type 0 where
  acts : List Act
  end : Yard
  run : Run engines y acts end
  round : Round long acts
  stands : Standing engines k ks end
  same : end.section ≡ y.section
  goal : Goal end

-- x has been told the highest sign by the one that it waits for; and it shows it
abbrev ToldTop : ℕ → ℕ → Yard → Type 0
ToldTop k x z = (j s m : ℕ) × (mode z x ≡ waiting j s m) × Told z x (count z x) j (own z k)

abbrev ShowsTop : ℕ → ℕ → Yard → Type 0
ShowsTop k x z = shown z x ≡ own z k

module _ {engines k : ℕ} {ks : List ℕ} {y : Yard} where
  hear : {x long : ℕ} → Memᴰ x (k ∷ ks) → Going engines k ks y long (ToldTop k x) → Going engines k ks y long (ShowsTop k x)
  hear {x} {long} m c = elim (cases_lt (shown c.end x) (own c.end k)) [ inr h ↦ shown-already h | inl l ↦ hears-it l ]
    where
      z : Yard
      z = c.end

      shown-already : own c.end k ≤ shown c.end x → Going engines k ks y long (ShowsTop k x)
      shown-already h =
          record {
            acts = c.acts;
            end = c.end;
            run = c.run;
            round = c.round;
            stands = c.stands;
            same = c.same;
            goal = (let l = shown_low c.stands x m in omega arith);
          }

      a : Act
      a = hears x c.goal.0 (own c.end k)

      g : shown c.end x < own c.end k → May engines c.end (hears x c.goal.0 (own c.end k))
      g l = (c.goal.4, (c.goal.1, (c.goal.2, c.goal.3)), l)

      new : shown (after c.end (hears x c.goal.0 (own c.end k))) x ≡ own c.end k
      new = at_put (λ (e : Engine). e.shown ≡ own c.end k) x (showing (own c.end k) (c.end.engine x)) c.end.engine x (λ e. refl) (λ d. absurd (d refl))

      hears-it : shown c.end x < own c.end k → Going engines k ks y long (ShowsTop k x)
      hears-it l =
          record {
            acts = a ∷ c.acts;
            end = after z a;
            run = then c.run a (g l);
            round = a_hearing c.round;
            stands = standing-after c.stands a (g l) (λ i t. hears≢finds);
            same = c.same;
            goal = new ∙ sym (ring-did c.stands a (g l) (λ i t. hears≢finds) k (Memᴰ.head refl)).1;
          }

  tell_on : {x j long : ℕ} → Memᴰ x (k ∷ ks) → WaitsFor y x j → Going engines k ks y long (ShowsTop k j) → Going engines k ks y (suc long) (ToldTop k x)
  tell_on {x} {j} {long} m w c =
      record {
        acts = a ∷ c.acts;
        end = after c.end a;
        run = then c.run a g;
        round = a_telling c.round;
        stands = standing-after c.stands a g (λ i t. tells≢finds);
        same = c.same;
        goal = (h.for, h.place, h.as_of, h.view, Memᴰ.head (same-telling for-j (sym c.goal)));
      }
    where
      h : Hears c.end x
      h = c.stands.hears x m

      for-j : (c.stands.hears x m).for ≡ j
      for-j = waits_one c.stands.sound.places {x = x} {j = h.for} {k = j} (h.place, h.queued, h.has) (waits_same y c.end c.same w)

      a : Act
      a = tells x (count c.end x) (c.stands.hears x m).place j

      g : May engines c.end (tells x (count c.end x) (c.stands.hears x m).place j)
      g = (c.stands.sound.signs.begun_now x h.for h.place h.as_of h.view, h.has ∙ ap by for-j)

      same-telling : {x c i j u v : ℕ} → i ≡ j → u ≡ v → ◌≡◌ {A = Telling} (record { to = x; count = c; teller = i; sign = u }) (record { to = x; count = c; teller = j; sign = v })
      same-telling p q = rw (p, q)

  carry : Standing engines k ks y → {x e : ℕ} {is : List ℕ} → Along y x is e → Memᴰ x (k ∷ ks) → shown y e ≡ own y k → Going engines k ks y (suc (length is)) (ToldTop k x)
  carry w (one n) m s =
      tell_on m n (record { acts = []; end = y; run = still; round = no_telling; stands = w; same = refl; goal = s })
  carry w (more {i = x} {j = j} n t) m s =
      let i = ring_closed w.sound.places w.ring x j m n in tell_on m n (hear i (carry w t i s))

-- the ring from its highest on, once all have heard
pub standing_from : {engines : ℕ} {z : Yard} → Sound engines z → {i : ℕ} {is : List ℕ} → Along z i is i → ((x : ℕ) → Memᴰ x (i ∷ is) → Heard z x) →
    (k : ℕ) → ((l : ℕ) → Memᴰ l (i ∷ is) → own z l ≤ own z k) → Memᴰ k (i ∷ is) → {ks : List ℕ} → Along z k ks k → Standing engines k ks z
standing_from {z = z} w {i} {is} r heard k high m {ks} t =
    record {
      sound = w;
      ring = t;
      hears = λ x n. (let h = heard x (inside x n) in record { for = h.0; place = h.1; as_of = h.2.0; view = h.2.1; queued = h.3; has = h.4 });
      high = λ x n. high x (inside x n);
    }
  where
    inside : (x : ℕ) → Memᴰ x (k ∷ ks) → Memᴰ x (i ∷ is)
    inside x (Memᴰ.head e) = rw e m
    inside x (Memᴰ.tail n) = along_all (λ x. Memᴰ x (i ∷ is)) (λ x j o v. ring_closed w.places r x j o v) t m x n

pub found : Found
found engines y r i is c n =
    record {
      beginnings = b.acts;
      all_heard = b.end;
      begun = b.run;
      only_beginnings = b.only;
      few_beginnings = b.few;
      round = go.acts;
      end = go.end;
      told_round = go.run;
      as_many_tellings = subst (λ (n : ℕ). Round n go.acts) (ap suc t.2) go.round;
      finder = k.0;
      in_ring = k.1;
      highest = k.2;
      next = go.goal.0;
      section = go.goal.1;
      finds = (told-own go.end, (go.goal.2, go.goal.3), shows-own);
    }
  where
    w : Sound engines y
    w = sound r

    b : AllBegun engines y (i ∷ is) (i ∷ is)
    b = all_begun w (i ∷ is) (i ∷ is) (λ x m. (m, (let f = (along_from c.0 m).1 in first f), λ s e. n (x, s, m, e)))
      where
        first : {x k : ℕ} {js : List ℕ} → Along y x js k → (j : ℕ) × WaitsFor y x j
        first (one v) = (_, v)
        first (more v u) = (_, v)

    round : Along b.end i is i
    round = along_map (λ x j m v. waits_same y b.end b.same v) c.0

    k : (k : ℕ) × Memᴰ k (i ∷ is) × ((l : ℕ) → Memᴰ l (i ∷ is) → own b.end l ≤ own b.end k)
    k = top (own b.end) i is

    t : (ks : List ℕ) × Along b.end k.0 ks k.0 × (length ks ≡ length is)
    t = turn_to round k.1

    st : Standing engines k.0 t.0 b.end
    st = standing_from (sound_run w b.run) round b.heard k.0 k.2 k.1 t.1

    top-shown : (z : Yard) → Standing engines k.0 t.0 z → shown z k.0 ≡ own z k.0
    top-shown z s = let h = shown_low s k.0 (Memᴰ.head refl) in let l = s.sound.signs.under k.0 in omega arith

    go : Going engines k.0 t.0 b.end (suc (length t.0)) (ToldTop k.0 k.0)
    go = carry st t.1 (Memᴰ.head refl) (top-shown b.end st)

    told-own : (z : Yard) → Told go.end k.0 (count go.end k.0) go.goal.0 (own go.end k.0)
    told-own z = go.goal.4

    shows-own : shown go.end k.0 ≡ own go.end k.0
    shows-own = top-shown go.end go.stands
