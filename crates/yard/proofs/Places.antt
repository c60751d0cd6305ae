-- Who is in a queue has called for that section and for nothing since, and a home's view of a wait is one that was true since its engine came.
-- Assumes nothing.
use Rattle.std.proofs.Common.{◌≡◌, ℕ, suc, ◌<◌, ◌≤◌, ◌⊎◌, List, [], ◌∷◌, sym, refl, ◌∙◌, inl, inr, arith}
use mathlib.Core.List.Memᴰ
use mathlib.Core.List.{Memᴰ}
use Rattle.std.proofs.lemmas.Bool.{cases_eq}
use Rattle.yard.specs.Yard.{Holder, free, by, Section, Mode, none, asking, waiting, freeing, leaving, Engine, Yard, start, holder, mode, Queued, put, first, rest, Settled, Unheard, Act, May, after}
use Rattle.yard.proofs.Queues.{put_other, in_end, in_without, stays_without}
use Rattle.yard.proofs.InTurn.{Kept, take_kept, join_kept, leave_kept, pass_kept, in_rest, first_in, by≢free}
use Rattle.yard.proofs.Views.{Moved, unmoved, was_taken, was_joined, was_passed, was_left, moved, Did, nothing, asked, freed, began, heard, found, did}

-- one holder at a time
pub same_holder : {h : Holder} {i j : ℕ} → h ≡ by i → h ≡ by j → i ≡ j
same_holder p q = cc

pub waiting≢asking : {m : Mode} {j s k t : ℕ} → m ≡ waiting j s k → m ≡ asking t → ⊥
waiting≢asking p q = let z : ◌≡◌ {A = ℕ} 0 1 = cc in omega arith

pub waiting≢freeing : {m : Mode} {j s k t : ℕ} → m ≡ waiting j s k → m ≡ freeing t → ⊥
waiting≢freeing p q = let z : ◌≡◌ {A = ℕ} 0 1 = cc in omega arith

pub waiting≢leaving : {m : Mode} {j s k t : ℕ} → m ≡ waiting j s k → m ≡ leaving t → ⊥
waiting≢leaving p q = let z : ◌≡◌ {A = ℕ} 0 1 = cc in omega arith

-- the mode is about section s
abbrev pub About : ℕ → Mode → Type 0
About s none = ⊥
About s (asking t) = t ≡ s
About s (waiting j t m) = t ≡ s
About s (freeing t) = ⊥
About s (leaving t) = t ≡ s

about_one : (s t : ℕ) (o : Mode) → About s o → About t o → s ≡ t
about_one s t none a b = absurd a
about_one s t (asking r) a b = sym a ∙ b
about_one s t (waiting j r k) a b = sym a ∙ b
about_one s t (freeing r) a b = absurd a
about_one s t (leaving r) a b = sym a ∙ b

unheard_about : (s k : ℕ) (o : Mode) → Unheard s k o → About s o × ((t : ℕ) → o ≡ leaving t → ⊥)
unheard_about s k none u = absurd u
unheard_about s k (asking t) u = (u, λ r e. let z : ◌≡◌ {A = ℕ} 0 1 = cc in omega arith)
unheard_about s k (waiting j t n) u = (u.0, λ r e. let z : ◌≡◌ {A = ℕ} 0 1 = cc in omega arith)
unheard_about s k (freeing t) u = absurd u
unheard_about s k (leaving t) u = absurd u

in_first : {i : ℕ} (q : List ℕ) → Memᴰ i q → Memᴰ i (rest q) ⊎ (first q ≡ by i)
in_first [] m = elim m [ ]
in_first (x ∷ q) (Memᴰ.head e) = inr (rw e)
in_first (x ∷ q) (Memᴰ.tail m) = inl m

put_past : (x : Section) (h : Holder) {n : ℕ} → n ≤ x.change → put (suc x.change) h x.past n ≡ x.past n
put_past x h {n} l = let ne : n ≡ suc x.change → ⊥ = λ q. omega arith in put_other _ h x.past n ne

module _ {engines : ℕ} {y : Yard} {s : ℕ} where
  -- who is in the queue was in it, or asked for the section
  pub in_before : {x : Section} {i : ℕ} → Moved engines y s x → Memᴰ i x.queue → Queued y i s ⊎ ((mode y i ≡ asking s) × (holder y s ≡ by i → ⊥))
  in_before unmoved m = inl m
  in_before (was_taken k g) m = inl m
  in_before (was_joined k g) m =
      elim (in_end (y.section s).queue m)
      [ inl o ↦ inl o | inr e ↦ inr (rw e g.0, λ h. g.1.2 (sym e ∙ same_holder h g.1.1)) ]
  in_before (was_passed k g) m = inl (in_rest (y.section s).queue m)
  in_before (was_left k g) m = inl (in_without k (y.section s).queue m)

  -- who is in the queue stays in it, unless the holder has sent that it frees the section, or itself that it leaves
  pub in_after : {x : Section} {i : ℕ} → Moved engines y s x → Queued y i s →
      Memᴰ i x.queue ⊎ (((x.holder ≡ by i) × ((h : ℕ) × (holder y s ≡ by h) × (mode y h ≡ freeing s))) ⊎ (mode y i ≡ leaving s))
  in_after unmoved m = inl m
  in_after (was_taken k g) m = inl m
  in_after (was_joined k g) m = inl (Memᴰ.append_left _ m)
  in_after (was_passed k g) m = elim (in_first (y.section s).queue m) [ inl o ↦ inl o | inr e ↦ inr (inl (e, (k, g.1, g.0))) ]
  in_after {i = i} (was_left k g) m =
      elim (cases_eq i k) [ inl e ↦ inr (inr (rw e g)) | inr e ↦ inl (stays_without k (y.section s).queue e m) ]

  -- the holder stays it, unless it has sent that it frees the section
  pub holder_after : {x : Section} {i : ℕ} → Moved engines y s x → holder y s ≡ by i → (x.holder ≡ by i) ⊎ (mode y i ≡ freeing s)
  holder_after unmoved h = inl h
  holder_after {i = i} (was_taken k g) h = absurd (by≢free (holder y s) i h g.1)
  holder_after (was_joined k g) h = inl h
  holder_after (was_passed k g) h = inr (rw (same_holder h g.1) g.0)
  holder_after (was_left k g) h = inl h

  pub holder_before : {x : Section} {i : ℕ} → Moved engines y s x → x.holder ≡ by i → (holder y s ≡ by i) ⊎ (Queued y i s ⊎ (mode y i ≡ asking s))
  holder_before unmoved h = inl h
  holder_before (was_taken k g) h = inr (inr (rw (same_holder h refl) g.0))
  holder_before (was_joined k g) h = inl h
  holder_before {i = i} (was_passed k g) h = inr (inl (first_in (y.section s).queue i h))
  holder_before (was_left k g) h = inl h

  pub past_kept : {x : Section} {n : ℕ} → Moved engines y s x → n ≤ (y.section s).change → x.past n ≡ (y.section s).past n
  past_kept unmoved l = refl
  past_kept (was_taken k g) l = put_past (y.section s) _ l
  past_kept (was_joined k g) l = refl
  past_kept (was_passed k g) l = put_past (y.section s) _ l
  past_kept (was_left k g) l = refl

  pub change_rises : {x : Section} → Moved engines y s x → (y.section s).change ≤ x.change
  change_rises unmoved = omega arith
  change_rises (was_taken k g) = omega arith
  change_rises (was_joined k g) = omega arith
  change_rises (was_passed k g) = omega arith
  change_rises (was_left k g) = omega arith

  pub came_kept : {x : Section} {i : ℕ} → Moved engines y s x → Queued y i s → x.came i ≡ (y.section s).came i
  came_kept unmoved m = refl
  came_kept (was_taken k g) m = refl
  came_kept {i = i} (was_joined k g) m = put_other k _ (y.section s).came i (λ e. g.2 (rw (← e) m))
  came_kept (was_passed k g) m = refl
  came_kept (was_left k g) m = refl

  pub section_kept : {x : Section} → Moved engines y s x → Kept (y.section s) → Kept x
  section_kept unmoved k = k
  section_kept (was_taken i g) k = take_kept (y.section s) i k g.1
  section_kept (was_joined i g) k = join_kept (y.section s) i g.1.0 k g.1.1 g.1.2 g.2
  section_kept (was_passed i g) k = pass_kept (y.section s) i k g.1
  section_kept (was_left i g) k = leave_kept (y.section s) i k

-- queues, holders, modes and views fit together
pub record Placed (engines : ℕ) (y : Yard) : Type 0 where
  pub kept : (s : ℕ) → Kept (y.section s)
  pub about : (i s : ℕ) → Queued y i s → About s (mode y i)
  pub stands : (i j s m : ℕ) → mode y i ≡ waiting j s m → Queued y i s ⊎ (holder y s ≡ by i)
  pub view : (i j s m : ℕ) → mode y i ≡ waiting j s m → (i ≡ j → ⊥) × ((y.section s).past m ≡ by j) × (m ≤ (y.section s).change) × (Queued y i s → (y.section s).came i ≤ m)
  pub numbered : (i : ℕ) → (mode y i ≡ none) ⊎ (i < engines)
  pub holders : (i s : ℕ) → holder y s ≡ by i → i < engines

pub placed_start : (engines : ℕ) → Placed engines start
placed_start engines =
    record {
      kept = λ s. record { once = tt; apart = λ i e m. elim m [ ]; had = λ e. refl; now = refl; since = λ i m. elim m [ ]; turn = λ i n h m. elim m [ ] };
      about = λ i s m. elim m [ ];
      stands = λ i j s m e. absurd (none≢waiting e);
      view = λ i j s m e. absurd (none≢waiting e);
      numbered = λ i. inl refl;
      holders = λ i s e. absurd (by≢free free i e refl);
    }
  where
    none≢waiting : {j s m : ℕ} → none ≡ waiting j s m → ⊥
    none≢waiting p = let z : ◌≡◌ {A = ℕ} 0 1 = cc in omega arith

module _ {engines : ℕ} {y : Yard} (p : Placed engines y) where
  -- who is in a queue is not in another, and doesn't free
  pub one_place : {i s t : ℕ} → Queued y i s → Queued y i t → s ≡ t
  one_place {i} {s} {t} m n = about_one s t (mode y i) (p.about i s m) (p.about i t n)

  pub queued_not_freeing : {i s t : ℕ} → Queued y i s → mode y i ≡ freeing t → ⊥
  queued_not_freeing {i} {s} m e = rw e at (p.about i s m)

  -- whose last call is done is in no queue
  pub settled_out : {i s : ℕ} → Settled y i (mode y i) → Queued y i s → ⊥
  settled_out {i} {s} d m = go (mode y i) d (p.about i s m)
    where
      go : (o : Mode) → Settled y i o → About s o → ⊥
      go none d a = a
      go (asking t) d a = (p.kept s).apart i (rw a at d) m
      go (waiting j t k) d a = (p.kept s).apart i (rw a at d) m
      go (freeing t) d a = a
      go (leaving t) d a = d (rw a m)

  -- a view of the present holder is one as of the last change
  pub view_last : {i j s m : ℕ} → mode y i ≡ waiting j s m → Queued y i s → holder y s ≡ by j → m ≡ (y.section s).change
  view_last {i} {j} {s} {m} e q h =
      elim (cases_eq m (y.section s).change) [
        | inl d ↦ d
        | inr d ↦ absurd (let v = p.view i j s m e in ((p.kept s).turn i m j q (v.3 q) (omega arith) v.1).0 h)
      ]

  pub busy_numbered : (i s : ℕ) → About s (mode y i) → i < engines
  busy_numbered i s a = elim (p.numbered i) [ inl e ↦ absurd (rw e at a) | inr l ↦ l ]

  -- engine by engine, before what became of the sections
  about_did : {act : Act} {i s : ℕ} {e : Engine} → Did engines y act i e → Queued y i s ⊎ ((mode y i ≡ asking s) × (holder y s ≡ by i → ⊥)) → About s e.mode
  about_did {act} {i} {s} d w = go d w (was w)
    where
      was : Queued y i s ⊎ ((mode y i ≡ asking s) × (holder y s ≡ by i → ⊥)) → About s (mode y i)
      was (inl m) = p.about i s m
      was (inr v) = rw v.0

      out : Settled y i (mode y i) → Queued y i s ⊎ ((mode y i ≡ asking s) × (holder y s ≡ by i → ⊥)) → ⊥
      out d (inl m) = settled_out d m
      out d (inr v) = v.1 (rw v.0 at d)

      go : {e : Engine} → Did engines y act i e → Queued y i s ⊎ ((mode y i ≡ asking s) × (holder y s ≡ by i → ⊥)) → About s (mode y i) → About s e.mode
      go nothing v a = a
      go (asked t g) v a = absurd (out g.1 v)
      go (freed t g) v a = absurd (out g.1 v)
      go (began t j m u g b) v a = about_one t s (mode y i) (unheard_about t m (mode y i) g.0).0 a
      go (heard j v2 g) v a = a
      go (found j t g n) v a = rw g.1.1 at a

  -- who waits, as its home has it, stood in the queue or had the section, and its view was true since it came
  pub viewed : {act : Act} {i j s m : ℕ} {e : Engine} → Did engines y act i e → e.mode ≡ waiting j s m →
      (Queued y i s ⊎ (holder y s ≡ by i)) × ((mode y i ≡ leaving s → ⊥) × (mode y i ≡ freeing s → ⊥)) ×
      ((i ≡ j → ⊥) × ((y.section s).past m ≡ by j) × (m ≤ (y.section s).change) × (Queued y i s → (y.section s).came i ≤ m))
  viewed {i} {j} {s} {m} nothing e = (p.stands i j s m e, (waiting≢leaving e, waiting≢freeing e), p.view i j s m e)
  viewed (asked t g) e = absurd (waiting≢asking e refl)
  viewed (freed t g) e = absurd (waiting≢freeing e refl)
  viewed {i} {j} {s} {m} (began t k n u g b) e = rw (at-t, at-k, at_n) told
    where
      at-t : s ≡ t
      at-t = cc

      at-k : j ≡ k
      at-k = cc

      at_n : m ≡ n
      at_n = cc

      told : (Queued y i t ⊎ (holder y t ≡ by i)) × ((mode y i ≡ leaving t → ⊥) × (mode y i ≡ freeing t → ⊥)) ×
          ((i ≡ k → ⊥) × ((y.section t).past n ≡ by k) × (n ≤ (y.section t).change) × (Queued y i t → (y.section t).came i ≤ n))
      told = (g.1, ((unheard_about t n (mode y i) g.0).1 t, λ q. rw q at g.0), (g.2.3, g.2.2, g.2.1, λ q. g.2.0))
  viewed {i} {j} {s} {m} (heard k v g) e = (p.stands i j s m e, (waiting≢leaving e, waiting≢freeing e), p.view i j s m e)
  viewed (found k t g n) e = absurd (waiting≢leaving e refl)

  pub stand_after : {i s : ℕ} {x : Section} → Moved engines y s x → (mode y i ≡ leaving s → ⊥) × (mode y i ≡ freeing s → ⊥) →
      Queued y i s ⊎ (holder y s ≡ by i) → Memᴰ i x.queue ⊎ (x.holder ≡ by i)
  stand_after d n (inl q) = elim (in_after d q) [ inl m ↦ inl m | inr r ↦ elim r [ inl h ↦ inr h.0 | inr l ↦ absurd (n.0 l) ] ]
  stand_after d n (inr h) = elim (holder_after d h) [ inl k ↦ inr k | inr f ↦ absurd (n.1 f) ]

  came_after : {i s m : ℕ} {x : Section} → Moved engines y s x → Queued y i s ⊎ (holder y s ≡ by i) → (Queued y i s → (y.section s).came i ≤ m) → Memᴰ i x.queue → x.came i ≤ m
  came_after {i} {s} {m} {x} d st c q = go (now st)
    where
      now : Queued y i s ⊎ (holder y s ≡ by i) → Queued y i s
      now (inl o) = o
      now (inr h) = elim (in_before d q) [ inl o ↦ o | inr w ↦ absurd (w.1 h) ]

      go : Queued y i s → x.came i ≤ m
      go o = rw (came_kept d o) (c o)

  numbered_did : {act : Act} {i : ℕ} {e : Engine} → Did engines y act i e → (e.mode ≡ none) ⊎ (i < engines)
  numbered_did {i} nothing = p.numbered i
  numbered_did (asked t g) = inr g.0
  numbered_did {i} (freed t g) = inr (p.holders i t g.0)
  numbered_did {i} (began t j m u g b) = inr (busy_numbered i t (unheard_about t m (mode y i) g.0).0)
  numbered_did {i} (heard j v g) = p.numbered i
  numbered_did {i} (found j t g n) = inr (busy_numbered i t (rw g.1.1))

  pub placed_after : (a : Act) → May engines y a → Placed engines (after y a)
  placed_after a g =
      record {
        kept = λ s. section_kept (moved engines y a g s) (p.kept s);
        about = λ i s q. about_did (did engines y a g i) (in_before (moved engines y a g s) q);
        stands = λ i j s m e. let v = viewed (did engines y a g i) e in stand_after (moved engines y a g s) v.1 v.0;
        view =
            λ i j s m e. let v = viewed (did engines y a g i) e in let d = moved engines y a g s in
            (v.2.0, rw (past_kept d v.2.2) v.2.1, (let l = change_rises d in let k = v.2.2 in omega arith), came_after d v.0 v.2.3);
        numbered = λ i. numbered_did (did engines y a g i);
        holders =
            λ i s h. elim (holder_before (moved engines y a g s) h)
            [ inl o ↦ p.holders i s o | inr w ↦ elim w [ inl q ↦ busy_numbered i s (p.about i s q) | inr e ↦ busy_numbered i s (rw e) ] ];
      }
