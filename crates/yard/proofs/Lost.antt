-- A ring whose homes have heard, each showing a higher sign than its own, is never found: none of it can do anything but hear.
-- Assumes nothing.
use Rattle.std.proofs.Common.{◌≡◌, ℕ, ◌<◌, Bool, true, false, cond, eqb, List, ◌∷◌, sym, refl, ap, ◌∙◌, arith}
use mathlib.Core.List.{Memᴰ}
use Rattle.yard.specs.Yard.{Engine, Begun, Telling, Yard, mode, shown, own, put, showing, Finds, Act, May, after, Run, still, then, WaitsFor, Ring}
use Rattle.yard.specs.Found.{Heard}
use Rattle.yard.proofs.Queues.{at_put}
use Rattle.yard.proofs.Views.{did}
use Rattle.yard.proofs.Places.{Placed, placed_after, waiting≢freeing, waiting≢leaving}
use Rattle.yard.proofs.Relays.{wait_after, waiter_did}
use Rattle.yard.proofs.Standing.{along_map, ring_closed}

-- each has heard, and shows a higher sign than its own
abbrev pub Above : Yard → List ℕ → Type 0
Above y is = (l : ℕ) → Memᴰ l is → Heard y l × (own y l < shown y l)

record LostAt (engines : ℕ) (i : ℕ) (is : List ℕ) (y : Yard) : Type 0 where
  placed : Placed engines y
  ring : Ring y i is
  above : Above y (i ∷ is)

lost_after : {engines i : ℕ} {is : List ℕ} {y : Yard} → LostAt engines i is y → (a : Act) → May engines y a → LostAt engines i is (after y a)
lost_after {engines} {i} {is} {y} w a g =
    record { placed = placed_after w.placed a g; ring = (along_map waits w.ring.0, w.ring.1); above = above }
  where
    waits : (x j : ℕ) → Memᴰ x (i ∷ is) → WaitsFor y x j → WaitsFor (after y a) x j
    waits x j m n =
        let h = (w.above x m).0 in
        let b = (w.above j (ring_closed w.placed w.ring.0 x j m n)).0 in
        let v = wait_after w.placed a g n.1 n.2 (waiting≢freeing b.2.1) (waiting≢leaving h.2.1) in
        (n.0, v.0, v.1)

    above : Above (after y a) (i ∷ is)
    above l m =
        let h = (w.above l m).0 in
        let up = (w.above l m).1 in
        let b = (w.above h.0 (ring_closed w.placed w.ring.0 l h.0 m (h.1, h.3, h.4))).0 in
        let v = wait_after w.placed a g h.3 h.4 (waiting≢freeing b.2.1) (waiting≢leaving h.2.1) in
        let e = waiter_did w.placed a g (did engines y a g l) h.2.1 h.3 h.4 (λ k t s f. omega arith) in
        let o = e.1 in let n = e.2 in
        ((h.0, h.1, (h.2.0, e.0), v.0, v.1), omega arith)

lost_run : {engines i : ℕ} {is : List ℕ} {y z : Yard} {acts : List Act} → LostAt engines i is y → Run engines y acts z → LostAt engines i is z
lost_run w still = w
lost_run w (then r a g) = lost_after (lost_run w r) a g

pub never_found : {engines : ℕ} {y : Yard} → Placed engines y → (i : ℕ) (is : List ℕ) → Ring y i is → Above y (i ∷ is) →
    (acts : List Act) (z : Yard) → Run engines y acts z → Ring z i is × ((l j s : ℕ) → Memᴰ l (i ∷ is) → Finds z l j s → ⊥)
never_found p i is r up acts z t =
    let w = lost_run (record { placed = p; ring = r; above = up }) t in
    (w.ring, λ l j s m f. (let h = (w.above l m).1 in let e = f.2 in omega arith))

-- places don't look at signs
pub placed_modes : {engines : ℕ} {y : Yard} → Placed engines y → (f : ℕ → Engine) (b : List Begun) (t : List Telling) → ((x : ℕ) → (f x).mode ≡ mode y x) →
    Placed engines (record { section = y.section; engine = f; begun = b; told = t })
placed_modes p f b t h =
    record {
      kept = p.kept;
      about = λ i s q. rw (h i) (p.about i s q);
      stands = λ i j s m e. p.stands i j s m (sym (h i) ∙ e);
      view = λ i j s m e. p.view i j s m (sym (h i) ∙ e);
      numbered = λ i. rw (h i) (p.numbered i);
      holders = p.holders;
    }

pub put_mode : (i : ℕ) (d e : Engine) (f : ℕ → Engine) (x : ℕ) → d.mode ≡ e.mode → (put i d f x).mode ≡ (put i e f x).mode
put_mode i d e f x h = go (eqb x i)
  where
    go : (b : Bool) → (cond b d (f x)).mode ≡ (cond b e (f x)).mode
    go true = h
    go false = refl

pub show_mode : (i v : ℕ) (f : ℕ → Engine) (x : ℕ) → (put i (showing v (f i)) f x).mode ≡ (f x).mode
show_mode i v f x = at_put (λ (e : Engine). e.mode ≡ (f x).mode) i (showing v (f i)) f x (λ p. ap (λ (n : ℕ). (f n).mode) (sym p)) (λ d. refl)

pub placed_run : {engines : ℕ} {y z : Yard} {acts : List Act} → Placed engines y → Run engines y acts z → Placed engines z
placed_run p still = p
placed_run p (then r a g) = placed_after (placed_run p r) a g
