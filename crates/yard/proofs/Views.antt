-- What one act does to one section, to one engine and to what was begun and told: all that the invariants look at.
-- Assumes nothing.
use Rattle.std.proofs.Common.{◌≡◌, ℕ, suc, ◌⊎◌, refl, ap, inl, inr}
use mathlib.Core.List.Memᴰ
use Rattle.yard.specs.Yard.{Section, asking, waiting, freeing, leaving, Engine, Begun, Telling, Yard, count, shown, HasBegun, Told, by, first, rest, handed, joined, left, turned, beginning, showing, Act, asks, frees, takes, joins, passes, leaves, begins, tells, hears, finds, May, after}
use Rattle.yard.proofs.Queues.{at_put}

-- what became of a section
pub data Moved (engines : ℕ) (y : Yard) (s : ℕ) : Section → Type 0 where
  unmoved : Moved engines y s (y.section s)
  was_taken : (i : ℕ) → May engines y (takes i s) → Moved engines y s (handed (by i) (y.section s).queue (y.section s))
  was_joined : (i : ℕ) → May engines y (joins i s) → Moved engines y s (joined i (y.section s))
  was_passed : (i : ℕ) → May engines y (passes i s) → Moved engines y s (handed (first (y.section s).queue) (rest (y.section s).queue) (y.section s))
  was_left : (i : ℕ) → May engines y (leaves i s) → Moved engines y s (left i (y.section s))

pub moved : (engines : ℕ) (y : Yard) (a : Act) → May engines y a → (s : ℕ) → Moved engines y s ((after y a).section s)
moved engines y (asks i t) g s = unmoved
moved engines y (frees i t) g s = unmoved
moved engines y (takes i t) g s = at_put (Moved engines y s) t _ y.section s (λ p. rw p (was_taken i g)) (λ o. unmoved)
moved engines y (joins i t) g s = at_put (Moved engines y s) t _ y.section s (λ p. rw p (was_joined i g)) (λ o. unmoved)
moved engines y (passes i t) g s = at_put (Moved engines y s) t _ y.section s (λ p. rw p (was_passed i g)) (λ o. unmoved)
moved engines y (leaves i t) g s = at_put (Moved engines y s) t _ y.section s (λ p. rw p (was_left i g)) (λ o. unmoved)
moved engines y (begins i t j m u) g s = unmoved
moved engines y (tells x c t j) g s = unmoved
moved engines y (hears x j v) g s = unmoved
moved engines y (finds i j t) g s = unmoved

-- what an engine did in the act
pub data Did (engines : ℕ) (y : Yard) (act : Act) (x : ℕ) : Engine → Type 0 where
  nothing : Did engines y act x (y.engine x)
  asked : (s : ℕ) → May engines y (asks x s) → Did engines y act x (turned (asking s) (y.engine x))
  freed : (s : ℕ) → May engines y (frees x s) → Did engines y act x (turned (freeing s) (y.engine x))
  began : (s j m u : ℕ) → May engines y (begins x s j m u) → act ≡ begins x s j m u → Did engines y act x (beginning (waiting j s m) u (y.engine x))
  heard : (j v : ℕ) → May engines y (hears x j v) → Did engines y act x (showing v (y.engine x))
  found : (j s : ℕ) → May engines y (finds x j s) → act ≡ finds x j s → Did engines y act x (turned (leaving s) (y.engine x))

pub did : (engines : ℕ) (y : Yard) (a : Act) → May engines y a → (x : ℕ) → Did engines y a x ((after y a).engine x)
did engines y (asks i s) g x = at_put (Did engines y _ x) i _ y.engine x (λ p. rw p (asked s g)) (λ o. nothing)
did engines y (frees i s) g x = at_put (Did engines y _ x) i _ y.engine x (λ p. rw p (freed s g)) (λ o. nothing)
did engines y (takes i s) g x = nothing
did engines y (joins i s) g x = nothing
did engines y (passes i s) g x = nothing
did engines y (leaves i s) g x = nothing
did engines y (begins i s j m u) g x = at_put (Did engines y _ x) i _ y.engine x (λ p. rw p (began s j m u g refl)) (λ o. nothing)
did engines y (tells i c s j) g x = nothing
did engines y (hears i j v) g x = at_put (Did engines y _ x) i _ y.engine x (λ p. rw p (heard j v g)) (λ o. nothing)
did engines y (finds i j s) g x = at_put (Did engines y _ x) i _ y.engine x (λ p. rw p (found j s g refl)) (λ o. nothing)

-- what was begun was begun before, or just now
pub begun_was : (engines : ℕ) (y : Yard) (a : Act) → May engines y a → (i c s : ℕ) → HasBegun (after y a) i c s →
    HasBegun y i c s ⊎ ((c ≡ suc (count y i)) × ((j m u : ℕ) × (a ≡ begins i s j m u)))
begun_was engines y (asks i s) g x c t h = inl h
begun_was engines y (frees i s) g x c t h = inl h
begun_was engines y (takes i s) g x c t h = inl h
begun_was engines y (joins i s) g x c t h = inl h
begun_was engines y (passes i s) g x c t h = inl h
begun_was engines y (leaves i s) g x c t h = inl h
begun_was engines y (begins i s j m u) g x c t (Memᴰ.head e) = inr (rw (ap (λ (b : Begun). b.engine) e) (ap (λ (b : Begun). b.count) e), (j, m, u, rw (ap (λ (b : Begun). b.engine) e, ap (λ (b : Begun). b.section) e)))
begun_was engines y (begins i s j m u) g x c t (Memᴰ.tail h) = inl h
begun_was engines y (tells i d s j) g x c t h = inl h
begun_was engines y (hears i j v) g x c t h = inl h
begun_was engines y (finds i j s) g x c t h = inl h

pub begun_stays : (engines : ℕ) (y : Yard) (a : Act) → May engines y a → {i c s : ℕ} → HasBegun y i c s → HasBegun (after y a) i c s
begun_stays engines y (asks i s) g h = h
begun_stays engines y (frees i s) g h = h
begun_stays engines y (takes i s) g h = h
begun_stays engines y (joins i s) g h = h
begun_stays engines y (passes i s) g h = h
begun_stays engines y (leaves i s) g h = h
begun_stays engines y (begins i s j m u) g h = Memᴰ.tail h
begun_stays engines y (tells i d s j) g h = h
begun_stays engines y (hears i j v) g h = h
begun_stays engines y (finds i j s) g h = h

-- what was told was told before, or is told now
pub told_was : (engines : ℕ) (y : Yard) (a : Act) → May engines y a → (x c j v : ℕ) → Told (after y a) x c j v →
    Told y x c j v ⊎ ((v ≡ shown y j) × ((s : ℕ) × May engines y (tells x c s j)))
told_was engines y (asks i s) g x c j v h = inl h
told_was engines y (frees i s) g x c j v h = inl h
told_was engines y (takes i s) g x c j v h = inl h
told_was engines y (joins i s) g x c j v h = inl h
told_was engines y (passes i s) g x c j v h = inl h
told_was engines y (leaves i s) g x c j v h = inl h
told_was engines y (begins i s k m u) g x c j v h = inl h
told_was engines y (tells i d s k) g x c j v (Memᴰ.head e) = inr (rw (ap (λ (t : Telling). t.teller) e) (ap (λ (t : Telling). t.sign) e), (s, rw (ap (λ (t : Telling). t.to) e, ap (λ (t : Telling). t.count) e, ap (λ (t : Telling). t.teller) e) g))
told_was engines y (tells i d s k) g x c j v (Memᴰ.tail h) = inl h
told_was engines y (hears i k w) g x c j v h = inl h
told_was engines y (finds i k s) g x c j v h = inl h

pub told_stays : (engines : ℕ) (y : Yard) (a : Act) → May engines y a → {x c j v : ℕ} → Told y x c j v → Told (after y a) x c j v
told_stays engines y (asks i s) g h = h
told_stays engines y (frees i s) g h = h
told_stays engines y (takes i s) g h = h
told_stays engines y (joins i s) g h = h
told_stays engines y (passes i s) g h = h
told_stays engines y (leaves i s) g h = h
told_stays engines y (begins i s j m u) g h = h
told_stays engines y (tells i d s j) g h = Memᴰ.tail h
told_stays engines y (hears i j v) g h = h
told_stays engines y (finds i j s) g h = h
