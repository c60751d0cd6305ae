-- Every call keeps the queues in order: one lemma on putting a section, and one on what each call makes of a section.
use Rattle.std.proofs.Common.{◌≡◌, ℕ, ◌+◌, ◌<◌, Bool, true, false, not, eqb, ◌⊎◌, List, [], ◌∷◌, ◌++◌, replicate, Some, None, Ok, Err, sym, refl, ap, ◌∙◌, inl, inr, arith}
use Rattle.std.proofs.lemmas.List.{get_or-replicate, get_or_past}
use Rattle.std.proofs.lemmas.Bool.{both_ways, cond_both, cases_lt, eqb-false, eqb-true, eq-eqb, and_parts, or_cases, or_left, or_right, not-true as bool-not-true}
use Rattle.sections.specs.Table.{Holder, Outcome, Section, Table, changeable, empty, first_of, free_by, free_outcome, free_section, give_up_outcome, idle, is_in, known, pass_on, put, queue_at, rest_of, place_at, settle, take_by, take_outcome, take_section, without}
use Rattle.sections.specs.Sound.{FewNew, InOrder, Keeps, OneQueue, WaitsAt, once}
use Rattle.sections.proofs.Lists.{is_in_push, is_in_without, once_push, once_without}
use Rattle.sections.proofs.Tables.{put_read, unless_either, waits_nowhere}

pub record Sound (t : Table) : Type 0 where
  pub order : (p : ℕ) → InOrder (place_at t p)
  pub apart : OneQueue t

pub sound_put : (t : Table) (p : ℕ) (s : Section) → Sound t → InOrder s → FewNew t p s → Sound (put t p s)
sound_put t p s sound i few = record { order = order; apart = apart }
  where
    order : (q : ℕ) → InOrder (place_at (put t p s) q)
    order q = elim (put_read t p s q) [ inl h ↦ rw h.1 i | inr h ↦ rw h (sound.order q) ]

    moved : (e q : ℕ) → place_at (put t p s) q ≡ place_at t q → WaitsAt (put t p s) e q → WaitsAt t e q
    moved e q h w = ap (λ x. is_in e x.queue) (sym h) ∙ w

    here : (e q : ℕ) → place_at (put t p s) q ≡ s → WaitsAt (put t p s) e q → is_in e s.queue ≡ true
    here e q h w = ap (λ x. is_in e x.queue) (sym h) ∙ w

    both : (e a b : ℕ) → a ≡ p → (a ≡ b → ⊥) → is_in e s.queue ≡ true → WaitsAt t e b → ⊥
    both e a b q n w v = elim (few e w) [ inl u ↦ sound.apart e p b (u, v, λ k. n (q ∙ k)) | inr u ↦ u b v ]

    apart : OneQueue (put t p s)
    apart e a b (wa, wb, n) =
        elim (put_read t p s a) [
          | inl h ↦ elim (put_read t p s b) [
            | inl k ↦ n (h.0 ∙ sym k.0)
            | inr k ↦ both e a b h.0 n (here e a h.1 wa) (moved e b k wb)
          ]
          | inr h ↦ elim (put_read t p s b) [
            | inl k ↦ both e b a k.0 (λ z. n (sym z)) (here e b k.1 wb) (moved e a h wa)
            | inr k ↦ sound.apart e a b (moved e a h wa, moved e b k wb, n)
          ]
        ]

pub settled : (t : Table) (p : ℕ) (o : Outcome) → Sound t → Keeps t p o → Sound (settle t p o).0
settled t p (Ok (s, done)) sound k = sound_put t p s sound k.0 k.1
settled t p (Err refusal) sound k = sound

-- an engine waits nowhere
abbrev pub Idle : Table → ℕ → Type 0
Idle t e = (q : ℕ) → WaitsAt t e q → ⊥

pub not-true : (b : Bool) → (b ≡ true → ⊥) → b ≡ false
not-true true h = absurd (h refl)
not-true false h = refl

joined_cases : (y e : ℕ) (q : List ℕ) → is_in y (q ++ e ∷ []) ≡ true → (e ≡ y) ⊎ (is_in y q ≡ true)
joined_cases y e q w = elim (or_cases (eqb e y) (is_in y q) (sym (is_in_push y e q) ∙ w)) [ inl k ↦ inl (eqb-true e y k) | inr k ↦ inr k ]

left_in : (y e : ℕ) (q : List ℕ) → is_in y (without e q) ≡ true → is_in y q ≡ true
left_in y e q w = (and_parts (not (eqb e y)) (is_in y q) (sym (is_in_without y e q) ∙ w)).1

rest_in : (y : ℕ) (q : List ℕ) → is_in y (rest_of q) ≡ true → is_in y q ≡ true
rest_in y [] w = w
rest_in y (x ∷ xs) w = or_right (eqb x y) (is_in y xs) w

pub same_engine : (h : Holder) (e f : ℕ) → h ≡ Some e → h ≡ Some f → e ≡ f
same_engine h e f p q = cc

pub not_both : (h : Holder) (e : ℕ) → h ≡ Some e → h ≡ None → ⊥
not_both h e p q = let z : ◌≡◌ {A = ℕ} 0 1 = cc in omega arith

-- a free section is had
taken_order : (s : Section) (e : ℕ) → InOrder s → e < 64 → s.has ≡ None → InOrder (record { has = Some e; queue = s.queue; change = s.change + 1 })
taken_order s e i known h =
    record {
      twice = i.twice;
      others = λ y w k. i.had y w h;
      had = λ y w k. i.had y w h;
      waiters = i.waiters;
      holders = λ y k. rw (same_engine (Some y) y e refl (sym k)) known;
    }

-- a section that another has is waited for
pub joined_order : (s : Section) (e f : ℕ) → InOrder s → e < 64 → is_in e s.queue ≡ false → s.has ≡ Some f → (f ≡ e → ⊥) → InOrder (record { has = s.has; queue = s.queue ++ e ∷ []; change = s.change })
joined_order s e f i known out h n =
    record {
      twice = once_push e s.queue i.twice out;
      others = λ y w k. elim (joined_cases y e s.queue w) [ inl q ↦ n (same_engine s.has f y h k ∙ sym q) | inr v ↦ i.others y v k ];
      had = λ y w k. not_both s.has f h k;
      waiters = λ y w. elim (joined_cases y e s.queue w) [ inl q ↦ rw q at known | inr v ↦ i.waiters y v ];
      holders = i.holders;
    }

-- a section passes to the first of its queue, or to nobody
pub passed_order : (s : Section) → InOrder s → InOrder (pass_on s)
passed_order s i = go s.queue refl
  where
    go : (q : List ℕ) → s.queue ≡ q → InOrder (record { has = first_of q; queue = rest_of q; change = s.change + 1 })
    go [] h =
        record {
          twice = refl;
          others = λ y w k. both_ways false refl w;
          had = λ y w k. both_ways false refl w;
          waiters = λ y w. absurd (both_ways false refl w);
          holders = λ y k. absurd (not_both None y k refl);
        }
    go (x ∷ xs) h =
        let o = and_parts (not (is_in x xs)) (once xs) (sym (ap once h) ∙ i.twice) in
        let first : is_in x s.queue ≡ true = ap (is_in x) h ∙ or_left (eqb x x) (is_in x xs) (eq-eqb x x refl) in
        record {
          twice = o.1;
          others = λ y w k. both_ways (is_in y xs) (rw (same_engine (Some x) x y refl k) at (bool-not-true (is_in x xs) o.0)) w;
          had = λ y w k. not_both (Some x) x refl k;
          waiters = λ y w. i.waiters y (ap (is_in y) h ∙ or_right (eqb x y) (is_in y xs) w);
          holders = λ y k. rw (same_engine (Some x) x y refl k) at (i.waiters x first);
        }

-- an engine leaves the queue
pub left_order : (s : Section) (e : ℕ) → InOrder s → InOrder (record { has = s.has; queue = without e s.queue; change = s.change })
left_order s e i =
    record {
      twice = once_without e s.queue i.twice;
      others = λ y w. i.others y (left_in y e s.queue w);
      had = λ y w. i.had y (left_in y e s.queue w);
      waiters = λ y w. i.waiters y (left_in y e s.queue w);
      holders = i.holders;
    }

pub take_keeps : (t : Table) (e p : ℕ) → Sound t → Keeps t p (take_outcome t e p)
take_keeps t e p sound =
    unless_either t e p (take_section (place_at t p) e) (Keeps t p) (λ _. tt) (λ h. by h.0 (waits_nowhere e t h.2) (place_at t p).has refl)
  where
    few : Idle t e → (y : ℕ) → is_in y (queue_at t p ++ e ∷ []) ≡ true → WaitsAt t y p ⊎ Idle t y
    few idle y w = elim (joined_cases y e (queue_at t p) w) [ inl q ↦ inr (rw q at idle) | inr v ↦ inl v ]

    by : e < 64 → Idle t e → (h : Holder) → (place_at t p).has ≡ h → Keeps t p (take_by h (place_at t p) e)
    by below idle None h = cond_both (changeable (place_at t p)) _ _ (Keeps t p) (λ _. (taken_order (place_at t p) e (sound.order p) below h, λ y w. inl w)) (λ _. tt)
    by below idle (Some f) h =
        cond_both (eqb f e) _ _ (Keeps t p) (λ _. tt)
        (λ n. (joined_order (place_at t p) e f (sound.order p) below (not-true (is_in e (queue_at t p)) (idle p)) h (eqb-false f e n), few idle))

pub free_keeps : (t : Table) (e p : ℕ) → Sound t → Keeps t p (free_outcome t e p)
free_keeps t e p sound = unless_either t e p (free_section (place_at t p) e) (Keeps t p) (λ _. tt) (λ _. by (place_at t p).has)
  where
    by : (h : Holder) → Keeps t p (free_by h (place_at t p) e)
    by None = tt
    by (Some f) =
        cond_both (eqb f e) _ _ (Keeps t p)
        (λ _. cond_both (changeable (place_at t p)) _ _ (Keeps t p) (λ _. (passed_order (place_at t p) (sound.order p), λ y w. inl (rest_in y (queue_at t p) w))) (λ _. tt))
        (λ _. tt)

pub give_up_keeps : (t : Table) (e p : ℕ) → Sound t → Keeps t p (give_up_outcome t e p)
give_up_keeps t e p sound =
    cond_both (known e p) _ _ (Keeps t p)
    (λ _. cond_both (is_in e (queue_at t p)) _ _ (Keeps t p) (λ _. (left_order (place_at t p) e (sound.order p), λ y w. inl (left_in y e (queue_at t p) w))) (λ _. tt))
    (λ _. tt)

-- a table of sections that nobody has and nobody waits for
pub quiet_sound : (s : Section) → s.has ≡ None → s.queue ≡ [] → Sound (replicate 64 s)
quiet_sound s free none =
    record { order = λ p. elim (at p) [ inl h ↦ rw h (quiet s free none) | inr h ↦ rw h (quiet idle refl refl) ]; apart = λ e p q w. nobody e p w.0 }
  where
    at : (p : ℕ) → (place_at (replicate 64 s) p ≡ s) ⊎ (place_at (replicate 64 s) p ≡ idle)
    at p = elim (cases_lt p 64) [ inl h ↦ inl (get_or-replicate 64 p s idle h) | inr h ↦ inr (get_or_past (replicate 64 s) p idle h) ]

    no : (e : ℕ) (q : List ℕ) → q ≡ [] → is_in e q ≡ true → ⊥
    no e q h w = both_ways false refl (sym (ap (is_in e) h) ∙ w)

    nobody : (e p : ℕ) → WaitsAt (replicate 64 s) e p → ⊥
    nobody e p w = elim (at p) [ inl h ↦ no e _ (ap (λ x. x.queue) h ∙ none) w | inr h ↦ no e _ (ap (λ x. x.queue) h) w ]

    quiet : (x : Section) → x.has ≡ None → x.queue ≡ [] → InOrder x
    quiet x f n =
        record {
          twice = ap once n;
          others = λ y w k. no y _ n w;
          had = λ y w k. no y _ n w;
          waiters = λ y w. absurd (no y _ n w);
          holders = λ y k. absurd (not_both x.has y k f);
        }

-- the table that a box begins with
pub empty_sound : Sound empty
empty_sound = quiet_sound idle refl refl
