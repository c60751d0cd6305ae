-- From a ring to one whose homes have all heard: who waits, and isn't leaving, has heard already or can begin, and that changes no section.
-- Assumes nothing.
use Rattle.std.proofs.Common.{◌≡◌, ℕ, suc, ◌+◌, ◌*◌, ◌%◌, ◌<◌, ◌≤◌, ◌⊎◌, List, [], ◌∷◌, length, sym, refl, ap, ◌∙◌, subst, inl, inr, mod-eq_of_lt, mul-le-mul_left, arith}
use mathlib.Core.List.{Memᴰ}
use native.Mathlib.Nat.{mul-add-mod_self_right}
use Rattle.std.proofs.lemmas.Bool.{cases_eq}
use Rattle.yard.specs.Yard.{by, Section, Mode, none, asking, waiting, freeing, leaving, Engine, Yard, mode, shown, beginning, Unheard, Act, begins, May, after, Run, still, then, WaitsFor}
use Rattle.yard.specs.Found.{Heard, BeginningsOf, no_beginning, a_beginning}
use Rattle.yard.proofs.Queues.{at_put, put_other}
use Rattle.yard.proofs.Places.{Placed, About, view_last, waiting≢leaving}
use Rattle.yard.proofs.Sound.{Sound, sound_run}

-- there is a higher sign of one's own
higher : (engines i v : ℕ) → i < engines → (u : ℕ) × ((v < u) × (u % engines ≡ i))
higher engines i v l = (suc v * engines + i, (above, mul-add-mod_self_right (suc v) engines i ∙ mod-eq_of_lt l))
  where
    above : v < suc v * engines + i
    above = let p : 1 ≤ engines = omega arith in omega (arith, mul-le-mul_left (suc v) p)

module _ {engines : ℕ} {y : Yard} (p : Placed engines y) where
  -- who waits, and isn't leaving, has heard or is still to hear of the last change
  heard_or_not : {i j : ℕ} (n : WaitsFor y i j) → ((t : ℕ) → mode y i ≡ leaving t → ⊥) → Heard y i ⊎ Unheard n.0 (y.section n.0).change (mode y i)
  heard_or_not {i} {j} n nl = go (mode y i) refl (p.about i n.0 n.1)
    where
      go : (o : Mode) → mode y i ≡ o → About n.0 o → Heard y i ⊎ Unheard n.0 (y.section n.0).change o
      go none e a = absurd a
      go (asking t) e a = inr a
      go (waiting k t m) e a =
          let v = p.view i k t m e in
          elim (cases_eq m (y.section t).change) [
            | inl d ↦ inl (k, t, (m, e), rw a n.1, sym (p.kept t).now ∙ (rw d at v.1))
            | inr d ↦ inr (a, (let b = v.2 in let c = ap (λ (r : ℕ). (y.section r).change) a in omega arith))
          ]
      go (freeing t) e a = absurd a
      go (leaving t) e a = absurd (nl t e)

  not_both : {i j : ℕ} (n : WaitsFor y i j) → Unheard n.0 (y.section n.0).change (mode y i) → Heard y i → ⊥
  not_both n u h = go (rw h.2.1 at u)
    where
      go : (h.1 ≡ n.0) × (h.2.0 < (y.section n.0).change) → ⊥
      go v = let e = view_last p h.2.1 h.3 h.4 in let l = v.1 in let c = ap (λ (r : ℕ). (y.section r).change) v.0 in omega arith

  may_begin : {i j : ℕ} (n : WaitsFor y i j) → Unheard n.0 (y.section n.0).change (mode y i) → i < engines → (u : ℕ) × May engines y (begins i n.0 j (y.section n.0).change u)
  may_begin {i} {j} n u l =
      let h = higher engines i (shown y i) l in
      (h.0, (u, inl n.1, ((p.kept n.0).since i n.1, omega arith, (p.kept n.0).now ∙ n.2, apart), h.1))
    where
      apart : i ≡ j → ⊥
      apart e = (p.kept n.0).apart j n.2 (rw (← e) n.1)

  waiter_numbered : {i j : ℕ} → WaitsFor y i j → i < engines
  waiter_numbered {i} n = elim (p.numbered i) [ inl e ↦ absurd (rw e at (p.about i n.0 n.1)) | inr l ↦ l ]

pub waits_same : (y z : Yard) {i j : ℕ} → z.section ≡ y.section → WaitsFor y i j → WaitsFor z i j
waits_same y z {i} {j} e n = subst (λ (f : ℕ → Section). (s : ℕ) × Memᴰ i (f s).queue × ((f s).holder ≡ by j)) (sym e) n

-- all of the list have begun for the present holder
pub record AllBegun (engines : ℕ) (y : Yard) (ring xs : List ℕ) : Type 0 where
  pub acts : List Act
  pub end : Yard
  pub run : Run engines y acts end
  pub only : BeginningsOf y ring acts
  pub few : length acts ≤ length xs
  pub same : end.section ≡ y.section
  pub heard : (x : ℕ) → Memᴰ x xs → Heard end x
  pub still_heard : (x : ℕ) → Heard y x → Heard end x
  pub none_leaves : (x t : ℕ) → mode end x ≡ leaving t → mode y x ≡ leaving t

module _ {engines : ℕ} {y : Yard} (w : Sound engines y) {ring xs : List ℕ} (b : AllBegun engines y ring xs) {i j : ℕ} (r : Memᴰ i ring) (n : WaitsFor y i j)
    (nl : (t : ℕ) → mode y i ≡ leaving t → ⊥) where
  placed : Placed engines b.end
  placed = (sound_run w b.run).places

  now : WaitsFor b.end i j
  now = waits_same y b.end b.same n

  either_heard : (z : Yard) → Heard z i → ((x : ℕ) → (x ≡ i → ⊥) → Heard b.end x → Heard z x) → (x : ℕ) → Heard b.end x → Heard z x
  either_heard z h f x o = elim (cases_eq x i) [ inl e ↦ rw e h | inr d ↦ f x d o ]

  begin_one : Unheard now.0 (b.end.section now.0).change (mode b.end i) → (Heard y i → ⊥) → AllBegun engines y ring (i ∷ xs)
  begin_one u nh =
      record {
        acts = act ∷ b.acts;
        end = after b.end act;
        run = then b.run act g.1;
        only = a_beginning r nh b.only;
        few = (let l = b.few in omega arith);
        same = b.same;
        heard = heard-more;
        still_heard = λ x h. either_heard (after b.end act) here others x (b.still_heard x h);
        none_leaves =
            λ x t. at_put (λ (e : Engine). e.mode ≡ leaving t → mode y x ≡ leaving t) i new b.end.engine x (λ d e. absurd (waiting≢leaving refl e)) (λ d e. b.none_leaves x t e);
      }
    where
      s : ℕ
      s = now.0

      m : ℕ
      m = (b.end.section now.0).change

      g : (u : ℕ) × May engines b.end (begins i now.0 j (b.end.section now.0).change u)
      g = may_begin placed now u (waiter_numbered placed now)

      act : Act
      act = begins i now.0 j (b.end.section now.0).change g.0

      new : Engine
      new = beginning (waiting j now.0 (b.end.section now.0).change) g.0 (b.end.engine i)

      here : Heard (after b.end act) i
      here = (j, now.0, (m, at_put (λ (e : Engine). e.mode ≡ waiting j s m) i new b.end.engine i (λ e. refl) (λ d. absurd (d refl))), now.1, now.2)

      others : (x : ℕ) → (x ≡ i → ⊥) → Heard b.end x → Heard (after b.end act) x
      others x d h = (h.0, h.1, (h.2.0, ap (λ (e : Engine). e.mode) (put_other i new b.end.engine x d) ∙ h.2.1), h.3, h.4)

      heard-more : (x : ℕ) → Memᴰ x (i ∷ xs) → Heard (after b.end act) x
      heard-more x (Memᴰ.head e) = rw e here
      heard-more x (Memᴰ.tail k) = either_heard (after b.end act) here others x (b.heard x k)

  heard_too : Heard b.end i → AllBegun engines y ring (i ∷ xs)
  heard_too h =
      record {
        acts = b.acts;
        end = b.end;
        run = b.run;
        only = b.only;
        few = (let l = b.few in omega arith);
        same = b.same;
        heard = more;
        still_heard = b.still_heard;
        none_leaves = b.none_leaves;
      }
    where
      more : (x : ℕ) → Memᴰ x (i ∷ xs) → Heard b.end x
      more x (Memᴰ.head e) = rw e h
      more x (Memᴰ.tail k) = b.heard x k

  pub one_more : AllBegun engines y ring (i ∷ xs)
  one_more = elim (heard_or_not w.places n nl) [ inl h ↦ heard_too (b.still_heard i h) | inr v ↦ go v (heard_or_not placed now (λ t e. nl t (b.none_leaves i t e))) ]
    where
      go : Unheard n.0 (y.section n.0).change (mode y i) → Heard b.end i ⊎ Unheard now.0 (b.end.section now.0).change (mode b.end i) → AllBegun engines y ring (i ∷ xs)
      go v (inl h) = heard_too h
      go v (inr u) = begin_one u (λ h. not_both w.places n v h)

-- all of a list of engines that wait and aren't leaving
pub all_begun : {engines : ℕ} {y : Yard} (w : Sound engines y) (ring xs : List ℕ) → ((x : ℕ) → Memᴰ x xs → Memᴰ x ring × ((j : ℕ) × WaitsFor y x j) × ((t : ℕ) → mode y x ≡ leaving t → ⊥)) →
    AllBegun engines y ring xs
all_begun {y = y} w ring [] f =
    record {
      acts = [];
      end = y;
      run = still;
      only = no_beginning;
      few = omega arith;
      same = refl;
      heard = λ x m. elim m [ ];
      still_heard = λ x h. h;
      none_leaves = λ x t e. e;
    }
all_begun w ring (i ∷ xs) f =
    let h = f i (Memᴰ.head refl) in
    one_more w (all_begun w ring xs (λ x m. f x (Memᴰ.tail m))) h.0 h.1.1 h.2
