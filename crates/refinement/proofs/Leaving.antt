-- Who leaves a queue has not got the section: another engine has it, and can't let it go before this one is out of the queue.
use Rattle.std.proofs.Common.{◌≡◌, ℕ, List, refl, arith}
use Rattle.yard.specs.Yard.{by, none, asking, freeing, leaving, Engine, Yard, start, holder, mode, count, own, HasBegun, Told, Act, May, after, Run, still, then, Reach}
use Rattle.yard.proofs.Views.{Did, nothing, asked, freed, began, heard, found, did, begun_stays, told_stays}
use Rattle.yard.proofs.Places.{same_holder, waiting≢leaving}
use Rattle.yard.proofs.Relays.{Live}
use Rattle.yard.proofs.Sound.{Sound, sound}

-- another engine told it its own sign, for its last wait, which was in that section
abbrev ToldOwn : Yard → ℕ → ℕ → ℕ → ℕ → Type 0
ToldOwn y i c o s = (j : ℕ) × Told y i c j o × HasBegun y i c s × (i ≡ j → ⊥)

abbrev Leavers : Yard → Type 0
Leavers y = (i s : ℕ) → mode y i ≡ leaving s → ToldOwn y i (count y i) (own y i) s

leaving_one : {s t : ℕ} → leaving s ≡ leaving t → s ≡ t
leaving_one e = cc

asking≢leaving : {s t : ℕ} → asking s ≡ leaving t → ⊥
asking≢leaving e = let z : ◌≡◌ {A = ℕ} 0 1 = cc in omega arith

freeing≢leaving : {s t : ℕ} → freeing s ≡ leaving t → ⊥
freeing≢leaving e = let z : ◌≡◌ {A = ℕ} 0 1 = cc in omega arith

none≢leaving : {t : ℕ} → none ≡ leaving t → ⊥
none≢leaving e = let z : ◌≡◌ {A = ℕ} 0 1 = cc in omega arith

module _ {engines : ℕ} {y : Yard} (h : Sound engines y) (a : Act) (g : May engines y a) where
  told_still : {i c o s : ℕ} → ToldOwn y i c o s → ToldOwn (after y a) i c o s
  told_still t = (t.0, told_stays engines y a g t.1, begun_stays engines y a g t.2, t.3)

  leaver_did : {act : Act} {i s : ℕ} {e : Engine} → Leavers y → Did engines y act i e → e.mode ≡ leaving s → ToldOwn (after y a) i e.count e.own s
  leaver_did {i = i} {s = s} l nothing m = told_still (l i s m)
  leaver_did l (asked t b) m = absurd (asking≢leaving m)
  leaver_did l (freed t b) m = absurd (freeing≢leaving m)
  leaver_did l (began t j k u b d) m = absurd (waiting≢leaving refl m)
  leaver_did {i = i} {s = s} l (heard j v b) m = told_still (l i s m)
  leaver_did {i = i} l (found j t b d) m =
      rw (← (leaving_one m)) (told_still (j, b.0, h.signs.begun_now i j t b.1.0 b.1.1, (h.places.view i j t b.1.0 b.1.1).0))

leavers_run : {engines : ℕ} {y : Yard} {acts : List Act} → Run engines start acts y → Leavers y
leavers_run still = λ i s m. absurd (none≢leaving m)
leavers_run {engines} (then {acts} {z} r a g) = λ i s m. leaver_did (sound (acts, r)) a g (leavers_run r) (did engines z a g i) m

pub leaving_not_holder : {engines : ℕ} {z : Yard} {i s : ℕ} → Reach engines z → mode z i ≡ leaving s → holder z s ≡ by i → ⊥
leaving_not_holder {engines} {z} {i} {s} r m h =
    let t = leavers_run r.1 i s m in
    let live : Live (mode z i) = rw m tt in
    t.3 (same_holder h (((sound r).relays.tells i (count z i) t.0 (own z i) i live t.1 refl).1 s t.2))
