-- Whatever else happens, a ring that stands goes on standing until its highest finds, so that the highest sign told round in order comes back to it.
-- Assumes nothing.
use Rattle.std.proofs.Common.{◌≡◌, ℕ, ◌<◌, ◌≤◌, ◌⊎◌, List, ◌∷◌, ◌++◌, sym, refl, ap, ◌∙◌, subst, inl, inr, arith}
use mathlib.Core.List.Memᴰ
use mathlib.Core.List.{Memᴰ}
use Rattle.std.proofs.lemmas.Bool.{cases_eq, cases_lt}
use Rattle.yard.specs.Yard.{waiting, Engine, Yard, mode, count, shown, own, Told, showing, WaitsOn, Act, asks, frees, takes, joins, passes, leaves, begins, tells, hears, finds, May, after, Run, still, then}
use Rattle.yard.specs.Found.{Delivered, shows_it, finds_it, passed_over, Passed, passed, ToldOn, first, next, FoundInEveryRun}
use Rattle.yard.proofs.Queues.{at_put}
use Rattle.yard.proofs.Views.{told_stays}
use Rattle.yard.proofs.Places.{same_holder}
use Rattle.yard.proofs.Relays.{own_one}
use Rattle.yard.proofs.Sound.{sound}
use Rattle.yard.proofs.Standing.{Hears, Standing, next_in, shown_low, ring-did, standing-after}
use Rattle.yard.proofs.Telling.{tells≢finds, hears≢finds, standing_from}

abbrev IsFinding : Act → Type 0
IsFinding (asks i s) = ⊥
IsFinding (frees i s) = ⊥
IsFinding (takes i s) = ⊥
IsFinding (joins i s) = ⊥
IsFinding (passes i s) = ⊥
IsFinding (leaves i s) = ⊥
IsFinding (begins i s j m u) = ⊥
IsFinding (tells x c s j) = ⊥
IsFinding (hears x j v) = ⊥
IsFinding (finds i j s) = Unit {0}

-- an act is a finding of k or not
is_finding : (k : ℕ) (a : Act) → ((j s : ℕ) × (a ≡ finds k j s)) ⊎ ((j s : ℕ) → a ≡ finds k j s → ⊥)
is_finding k (asks i s) = inr (λ j t e. subst IsFinding (sym e) tt)
is_finding k (frees i s) = inr (λ j t e. subst IsFinding (sym e) tt)
is_finding k (takes i s) = inr (λ j t e. subst IsFinding (sym e) tt)
is_finding k (joins i s) = inr (λ j t e. subst IsFinding (sym e) tt)
is_finding k (passes i s) = inr (λ j t e. subst IsFinding (sym e) tt)
is_finding k (leaves i s) = inr (λ j t e. subst IsFinding (sym e) tt)
is_finding k (begins i s l m u) = inr (λ j t e. subst IsFinding (sym e) tt)
is_finding k (tells x c s l) = inr (λ j t e. subst IsFinding (sym e) tt)
is_finding k (hears x l v) = inr (λ j t e. subst IsFinding (sym e) tt)
is_finding k (finds i l s) = elim (cases_eq i k) [ inl e ↦ inl (l, s, rw e) | inr d ↦ inr (λ j t e. d (same e)) ]
  where
    same : {i k l s j t : ℕ} → finds i l s ≡ finds k j t → i ≡ k
    same e = cc

abbrev FoundIn : ℕ → List Act → Type 0
FoundIn k acts = (j s : ℕ) × Memᴰ (finds k j s) acts

told_run : {engines : ℕ} {y z : Yard} {acts : List Act} {x c j v : ℕ} → Run engines y acts z → Told y x c j v → Told z x c j v
told_run still t = t
told_run {engines} (then {z = z} r a g) t = told_stays engines z a g (told_run r t)

delivered_run : {engines : ℕ} {y : Yard} {x c j v : ℕ} {z : Yard} {acts : List Act} → Delivered engines y x c j v acts z → Run engines y acts z
delivered_run (shows_it e g) = then still _ g
delivered_run (finds_it s e f g) = then still _ g
delivered_run (passed_over f) = still

-- from y to z the ring stood
record Stood (engines k : ℕ) (ks : List ℕ) (y z : Yard) : Type 0 where
  stands : Standing engines k ks z
  top : own z k ≡ own y k
  modes : (x : ℕ) → Memᴰ x (k ∷ ks) → mode z x ≡ mode y x
  counts : (x : ℕ) → Memᴰ x (k ∷ ks) → count z x ≡ count y x
  rises : (x : ℕ) → Memᴰ x (k ∷ ks) → shown y x ≤ shown z x

stood_after : {engines k : ℕ} {ks : List ℕ} {y z : Yard} → Stood engines k ks y z → (a : Act) (g : May engines z a) → ((j s : ℕ) → a ≡ finds k j s → ⊥) → Stood engines k ks y (after z a)
stood_after {engines} {k} {ks} {y} {z} h a g quiet =
    record {
      stands = standing-after w a g quiet;
      top = (ring-did w a g quiet k (Memᴰ.head refl)).1 ∙ h.top;
      modes = λ x m. (ring-did w a g quiet x m).0 ∙ sym (w.hears x m).view ∙ h.modes x m;
      counts = λ x m. (ring-did w a g quiet x m).3 ∙ h.counts x m;
      rises = λ x m. (let l = h.rises x m in let u = (ring-did w a g quiet x m).2 in omega arith);
    }
  where
    w : Standing engines k ks z
    w = h.stands

-- a ring stands through any run in which its highest doesn't find
stood_run : {engines k : ℕ} {ks : List ℕ} {y z : Yard} {acts : List Act} → Standing engines k ks y → Run engines y acts z → FoundIn k acts ⊎ Stood engines k ks y z
stood_run w still = inr (record { stands = w; top = refl; modes = λ x m. refl; counts = λ x m. refl; rises = λ x m. omega arith })
stood_run {k = k} w (then r a g) =
    elim (stood_run w r) [
      | inl f ↦ inl (f.0, f.1, Memᴰ.tail f.2)
      | inr h ↦ elim (is_finding k a) [ inl f ↦ inl (f.0, f.1, Memᴰ.head (sym f.2)) | inr q ↦ inr (stood_after h a g q) ]
    ]

-- a telling of the highest sign that comes to one of the ring is shown by it then, or it is the highest and finds
abbrev Comes : ℕ → ℕ → Yard → Type 0
Comes k x z = (shown z x ≡ own z k) × (x ≡ k → ⊥)

level : {a b : ℕ} → a ≤ b → (a < b → ⊥) → a ≡ b
level {a} {b} l n = elim (cases_lt a b) [ inl h ↦ absurd (n h) | inr h ↦ omega arith ]

comes : {engines k : ℕ} {ks : List ℕ} {y : Yard} {x c j v : ℕ} {z : Yard} {acts : List Act} → Standing engines k ks y → (m : Memᴰ x (k ∷ ks)) → ((s : ℕ) × WaitsOn y x j s) → count y x ≡ c → v ≡ own y k →
    Delivered engines y x c j v acts z → FoundIn k acts ⊎ Comes k x z
comes {k = k} {y = y} {x = x} {j = j} {v = v} w m o d e (shows_it f g) =
    inr (new ∙ e ∙ sym (ring-did w (hears x j v) g (λ i t. hears≢finds) k (Memᴰ.head refl)).1, λ p. (let u = w.sound.signs.under x in let l = g.2 in let q = ap (own y) p in omega arith))
  where
    new : shown (after y (hears x j v)) x ≡ v
    new = at_put (λ (e : Engine). e.shown ≡ v) x (showing v (y.engine x)) y.engine x (λ e. refl) (λ d. absurd (d refl))
comes {k = k} {y = y} {x = x} {j = j} w m o d e (finds_it s f h g) = inl (j, s, Memᴰ.head (rw same))
  where
    same : k ≡ x
    same = own_one w.sound.places w.sound.signs (rw (w.hears k (Memᴰ.head refl)).view tt) (rw (w.hears x m).view tt) (sym e ∙ h)
comes {k = k} {y = y} {x = x} w m o d e (passed_over f) =
    let h = f o.0 o.1 d in
    let low = shown_low w x m in
    let here : shown y x ≡ own y k = level low (λ b. h.0 (rw e b)) in
    inr (here, λ p. h.1 (e ∙ rw p) (here ∙ rw p))

module _ {engines k : ℕ} {ks : List ℕ} where
  pass_stands : {y z : Yard} {j x : ℕ} {acts : List Act} → Standing engines k ks y → Passed engines y j x acts z → FoundIn k acts ⊎ Standing engines k ks z
  pass_stands w (passed {before = before} {between = between} {come = come} r s g t d) =
      elim (stood_run w r) [
        | inl f ↦ inl (f.0, f.1, Memᴰ.append_right come (Memᴰ.append_right between (Memᴰ.tail f.2)))
        | inr h ↦ elim (stood_run (standing-after h.stands _ g (λ i u. tells≢finds)) t) [
          | inl f ↦ inl (f.0, f.1, Memᴰ.append_right come (Memᴰ.append_left _ f.2))
          | inr i ↦ elim (stood_run i.stands (delivered_run d)) [ inl f ↦ inl (f.0, f.1, Memᴰ.append_left _ f.2) | inr n ↦ inr n.stands ]
        ]
      ]

  pass_shows : {F : Type 0} {y z : Yard} {j x : ℕ} {acts : List Act} → Standing engines k ks y → Memᴰ x (k ∷ ks) → (Memᴰ j (k ∷ ks) → F ⊎ (shown y j ≡ own y k)) → Passed engines y j x acts z →
      F ⊎ (FoundIn k acts ⊎ Comes k x z)
  pass_shows {F} {y} {z} {j} {x} w m known (passed {before = before} {between = between} {come = come} {y1 = y1} {y2 = y2} r s g t d) =
      elim (stood_run w r) [ inl f ↦ inr (inl (f.0, f.1, Memᴰ.append_right come (Memᴰ.append_right between (Memᴰ.tail f.2)))) | inr h ↦ told h ]
    where
      told : Stood engines k ks y y1 → F ⊎ (FoundIn k (come ++ (between ++ (tells x (count y1 x) s j ∷ before))) ⊎ Comes k x z)
      told h = elim (known j-in) [ inl f ↦ inl f | inr e ↦ inr (on e) ]
        where
          b : Hears y1 x
          b = h.stands.hears x m

          place : s ≡ (h.stands.hears x m).place
          place = h.stands.sound.signs.begun_one x (count y1 x) s b.place g.0 (h.stands.sound.signs.begun_now x b.for b.place b.as_of b.view)

          for-j : (h.stands.hears x m).for ≡ j
          for-j = same_holder b.has (rw place at g.1)

          j-in : Memᴰ j (k ∷ ks)
          j-in = rw (← for-j) (next_in h.stands x m)

          on : shown y j ≡ own y k → FoundIn k (come ++ (between ++ (tells x (count y1 x) s j ∷ before))) ⊎ Comes k x z
          on e =
              elim (stood_run (standing-after h.stands _ g (λ i u. tells≢finds)) t) [
                | inl f ↦ inl (f.0, f.1, Memᴰ.append_right come (Memᴰ.append_left _ f.2))
                | inr i ↦ elim (comes i.stands m (b.place, (b.as_of, i.modes x m ∙ b.view ∙ ap (λ (n : ℕ). waiting n b.place b.as_of) for-j)) (i.counts x m) (carries ∙ sym i.top) d)
                    [ inl f ↦ inl (f.0, f.1, Memᴰ.append_left _ f.2) | inr c ↦ inr c ]
              ]
            where
              carries : shown y1 j ≡ own y1 k
              carries = let up = h.rises j j-in in let low = shown_low h.stands j j-in in let p = h.top in omega arith

  told_on_stands : {y z : Yard} {x : ℕ} {acts : List Act} → Standing engines k ks y → ToldOn engines y k x acts z → FoundIn k acts ⊎ Standing engines k ks z
  told_on_stands w (first p) = pass_stands w p
  told_on_stands w (next {more = later} t p) =
      elim (told_on_stands w t)
      [ inl f ↦ inl (f.0, f.1, Memᴰ.append_right later f.2) | inr v ↦ elim (pass_stands v p) [ inl f ↦ inl (f.0, f.1, Memᴰ.append_left _ f.2) | inr u ↦ inr u ] ]

  told_on_shows : {y z : Yard} {x : ℕ} {acts : List Act} → Standing engines k ks y → shown y k ≡ own y k → ToldOn engines y k x acts z → Memᴰ x (k ∷ ks) → FoundIn k acts ⊎ Comes k x z
  told_on_shows w e (first p) m = elim (pass_shows {F = ⊥} w m (λ n. inr e) p) [ inl f ↦ absurd f | inr c ↦ c ]
  told_on_shows {y} w e (next {j = j} {acts = acts} {more = later} {z = z} t p) m =
      elim (told_on_stands w t) [
        | inl f ↦ inl (f.0, f.1, Memᴰ.append_right later f.2)
        | inr v ↦ elim (pass_shows {F = FoundIn k acts} v m (λ n. half (told_on_shows w e t n)) p) [
          | inl f ↦ inl (f.0, f.1, Memᴰ.append_right later f.2)
          | inr c ↦ elim c [ inl f ↦ inl (f.0, f.1, Memᴰ.append_left _ f.2) | inr d ↦ inr d ]
        ]
      ]
    where
      half : FoundIn k acts ⊎ Comes k j z → FoundIn k acts ⊎ (shown z j ≡ own z k)
      half (inl f) = inl f
      half (inr c) = inr c.0

pub found_in_every_run : FoundInEveryRun
found_in_every_run engines y r k ks c heard high acts z t =
    elim (told_on_shows w shows t (Memᴰ.head refl)) [ inl f ↦ f | inr d ↦ absurd (d.1 refl) ]
  where
    highest : (l : ℕ) → Memᴰ l (k ∷ ks) → own y l ≤ own y k
    highest l (Memᴰ.head e) = rw e (omega arith)
    highest l (Memᴰ.tail m) = high l m

    w : Standing engines k ks y
    w = standing_from (sound r) c.0 heard k highest (Memᴰ.head refl) c.0

    shows : shown y k ≡ own y k
    shows = let l = shown_low w k (Memᴰ.head refl) in let u = (sound r).signs.under k in omega arith
