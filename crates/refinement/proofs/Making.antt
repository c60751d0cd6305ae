-- An engine makes a call only when its last one is known to be over: then the model may ask or free, and all that is known of the engine holds on.
use Rattle.std.specs.Prelude.{None, Some}
use Rattle.std.proofs.Common.{◌≡◌, ℕ, ◌+◌, ◌^◌, ◌<◌, ◌≤◌, Bool, true, false, cond, ◌||◌, eqb, ltb, ◌⊎◌, List, [], ◌∷◌, length, get_or, set, is_some, Some, None, Ok, Err, Option, Result, sym, refl, ap, ◌∙◌, subst, inl, inr, arith, length-set, get_or-set_other, get_or-set_same}
use Rattle.std.proofs.lemmas.Bool.{cases_eq, lt-ltb, eqb-true, eq-eqb, and_parts, and_from, or_cases, or_left, or_right, or_parts, true≢false, false≢true}
use Rattle.messages.specs.declared.yard.Section.{Section}
use Rattle.messages.specs.declared.yard.Yard as sizes
use Rattle.messages.specs.declared.message.Act.{Act}
use Rattle.messages.specs.declared.message.Act.TheVariants as act
use Rattle.messages.specs.declared.message.Call.{Call}
use Rattle.messages.specs.declared.message.Refusal.{Refusal}
use Rattle.messages.specs.declared.message.Refusal.TheVariants as refusal
use Rattle.messages.specs.Range.{SectionIn}
use Rattle.signs.specs.Signs.{Wait}
use Rattle.engine_state.specs.declared.places.Places.{Places}
use Rattle.engine_state.specs.declared.state.Event.TheVariants as event
use Rattle.engine_state.specs.declared.state.Known.{Known}
use Rattle.engine_state.specs.declared.state.Known.TheVariants as known
use Rattle.engine_state.specs.declared.state.Mode.{Mode}
use Rattle.engine_state.specs.declared.state.Mode.TheVariants as mode
use Rattle.engine_state.specs.declared.state.State.{State}
use Rattle.engine_state.specs.Places.{same_section, fits, has_of, with_of, without_of}
use Rattle.messages.specs.declared.yard.BoxNumber.{BoxNumber}
use Rattle.engine_state.specs.State.{made, wanted, got_wanted, kept_after, numbered, next_of, next_number, mode_section}
use Rattle.engine_state.specs.declared.state.Stored.{Stored}
use Rattle.engine_state.specs.Calls.{call_of, if_pending, if_had, call_of_mode, wait_of_mode, open_of, wait_of, had_of, is_that, holds_of, giving_back, next_call, take_call, free_call}
use Rattle.keeper.specs.declared.LastCall.{LastCall}
use Rattle.home.specs.Queries.{engine}
use Rattle.yard.specs.Yard as model
use Rattle.yard.specs.Yard.{put, by, Settled, Reach}
use Rattle.yard.proofs.Places.{Placed, settled_out}
use Rattle.yard.proofs.Queues.{at_put, put_other}
use Rattle.yard.proofs.Sound.{sound}
use Rattle.refinement.specs.Placed.{number_of, called_mode, mode_by}
use Rattle.refinement.proofs.PlacesSet.{same_section_lem, same_number, fits_parts, fits_from, has_fits, with_wide, without_wide, with_has, with_was, with_keeps, without_was, without_keeps, cases_section}
use Rattle.refinement.proofs.View.{used_by, Ended, ModeIn, Undone, Counted, About, EngineAs, WasCalled, OwnStep}

some≢none : {A : Type 0} {a : A} → Some a ≡ None → ⊥
some≢none p = let z : ◌≡◌ {A = ℕ} 0 1 = cc in omega arith

none≢some : {A : Type 0} {a : A} → None ≡ Some a → ⊥
none≢some p = let z : ◌≡◌ {A = ℕ} 0 1 = cc in omega arith

-- neither a call nor a wait is open: what was last is known to be over
abbrev Over : Known → Mode → Wait → ℕ → ℕ → Type 0
Over k m w e count = (if_pending k (call_of_mode m (engine e)) ≡ None) × (if_pending k (wait_of_mode m w count) ≡ None)

module _ (y : sizes.Yard) (z : model.Yard) (e : ℕ) (l : ℕ → ℕ) (p : Placed y.engines z) where
  over_settled : (k : Known) (m : Mode) (w : Wait) (count : ℕ) → Over k m w e count → ModeIn y m w → Ended z e l k m → Settled z e (mode_by m w)
  over_settled k mode.Idle w count o i d = tt
  over_settled known.Pending (mode.Called a s n) w count o i d = absurd (some≢none o.0)
  over_settled known.Had (mode.Called act.Take s n) w count o i d = d.1
  over_settled known.Had (mode.Called act.Free s n) w count o i d = absurd d.1
  over_settled known.Had (mode.Called act.GiveUp s n) w count o i d = λ q. (p.kept (number_of s)).apart e d.1 q
  over_settled known.Closed (mode.Called act.Take s n) w count o i d = absurd d.1
  over_settled known.Closed (mode.Called act.Free s n) w count o i d = d.1
  over_settled known.Closed (mode.Called act.GiveUp s n) w count o i d = d.1
  over_settled known.Pending (mode.Waiting s c) None count o i d = tt
  over_settled known.Pending (mode.Waiting s c) (Some j) count o i d = absurd (some≢none o.1)
  over_settled known.Had (mode.Waiting s c) None count o i d = tt
  over_settled known.Had (mode.Waiting s c) (Some j) count o i d = d
  over_settled known.Closed (mode.Waiting s c) w count o i d = absurd d

-- whose last call and wait are known to be over, its last call is done
pub settled : {y : sizes.Yard} {last : ℕ → LastCall} {x : State} {z : model.Yard} {e : ℕ} →
    Reach y.engines z → EngineAs y last x z e → open_of x (engine e) ≡ None → wait_of x ≡ None → Settled z e (model.mode z e)
settled {y} {last} {x} {z} {e} r a o w =
    subst (λ (g : model.Engine). Settled z e g.mode) (sym a.same)
    (over_settled y z e (λ b. (last b).number) (sound r).places x.known x.stored.mode x.signs.wait x.signs.count (o, w) a.within a.ended)

same_by : (s t : Section) → same_section s t ≡ true → s ≡ t
same_by s t h =
    let p = and_parts (eqb s.keeper.0 t.keeper.0) (eqb s.place t.place) h in
    same_section_lem (eqb-true s.keeper.0 t.keeper.0 p.0) (eqb-true s.place t.place p.1)

by_same : (s t : Section) → s ≡ t → same_section s t ≡ true
by_same s t e = and_from (eqb s.keeper.0 t.keeper.0) (eqb s.place t.place) (eq-eqb _ _ (ap (λ (u : Section). u.keeper.0) e)) (eq-eqb _ _ (ap (λ (u : Section). u.place) e))

module _ (z : model.Yard) (e : ℕ) (l : ℕ → ℕ) where
  had_holds : (s : Section) (k : Known) (m : Mode) → Ended z e l k m → is_that (if_had k (mode_section m)) s ≡ true → model.holder z (number_of s) ≡ by e
  had_holds s known.Pending m d h = absurd (false≢true h)
  had_holds s known.Closed m d h = absurd (false≢true h)
  had_holds s known.Had mode.Idle d h = absurd (false≢true h)
  had_holds s known.Had (mode.Called act.Take t n) d h = subst (λ (u : Section). model.holder z (number_of u) ≡ by e) (same_by t s h) d.1
  had_holds s known.Had (mode.Called act.Free t n) d h = absurd d.1
  had_holds s known.Had (mode.Called act.GiveUp t n) d h = subst (λ (u : Section). model.holder z (number_of u) ≡ by e) (same_by t s h) d.1
  had_holds s known.Had (mode.Waiting t c) d h = subst (λ (u : Section). model.holder z (number_of u) ≡ by e) (same_by t s h) d

-- what an engine holds as far as its home knows, it has
pub holds : {y : sizes.Yard} {last : ℕ → LastCall} {x : State} {z : model.Yard} {e : ℕ} →
    EngineAs y last x z e → (s : Section) → holds_of x s ≡ true → model.holder z (number_of s) ≡ by e
holds {y} {last} {x} {z} {e} a s h =
    elim (or_cases (is_that (had_of x) s) (has_of x.stored.kept s) h) [
      | inl q ↦ had_holds z e (λ b. (last b).number) s x.known x.stored.mode a.ended q
      | inr q ↦ (a.kept s q).0
    ]

-- once what was last is over: what an engine has, it holds as far as its home knows
module _ (z : model.Yard) (e : ℕ) (l : ℕ → ℕ) where
  about_had :
      (s : Section) (k : Known) (m : Mode) (w : Wait) (count : ℕ) → Over k m w e count → (y : sizes.Yard) → ModeIn y m w → Ended z e l k m → model.holder z (number_of s) ≡ by e → About s m →
      is_that (if_had k (mode_section m)) s ≡ true
  about_had s k mode.Idle w count o y i d h a = absurd a
  about_had s known.Pending (mode.Called b t n) w count o y i d h a = absurd (some≢none o.0)
  about_had s known.Had (mode.Called act.Take t n) w count o y i d h a = by_same t s a
  about_had s known.Had (mode.Called act.Free t n) w count o y i d h a = absurd d.1
  about_had s known.Had (mode.Called act.GiveUp t n) w count o y i d h a = absurd a
  about_had s known.Closed (mode.Called act.Take t n) w count o y i d h a = absurd d.1
  about_had s known.Closed (mode.Called act.Free t n) w count o y i d h a = absurd (d.1 (subst (λ (u : Section). model.holder z (number_of u) ≡ by e) (sym a) h))
  about_had s known.Closed (mode.Called act.GiveUp t n) w count o y i d h a = absurd a
  about_had s known.Pending (mode.Waiting t c) None count o y i d h a = absurd (nobody i.1.1)
    where
      nobody : {j : ℕ} → None ≡ Some j → ⊥
      nobody p = let z : ◌≡◌ {A = ℕ} 0 1 = cc in omega arith
  about_had s known.Pending (mode.Waiting t c) (Some j) count o y i d h a = absurd (some≢none o.1)
  about_had s known.Had (mode.Waiting t c) w count o y i d h a = by_same t s a
  about_had s known.Closed (mode.Waiting t c) w count o y i d h a = absurd d

  -- and what was asked for or waited for, it has
  wanted_had : (s : Section) (k : Known) (m : Mode) (w : Wait) (count : ℕ) → Over k m w e count → (y : sizes.Yard) → ModeIn y m w → Ended z e l k m → wanted m ≡ Some s → model.holder z (number_of s) ≡ by e
  wanted_had s k mode.Idle w count o y i d q = absurd (none≢some q)
  wanted_had s known.Pending (mode.Called b t n) w count o y i d q = absurd (some≢none o.0)
  wanted_had s known.Had (mode.Called act.Take t n) w count o y i d q = let same : t ≡ s = cc in subst (λ (u : Section). model.holder z (number_of u) ≡ by e) same d.1
  wanted_had s known.Had (mode.Called act.Free t n) w count o y i d q = absurd d.1
  wanted_had s known.Had (mode.Called act.GiveUp t n) w count o y i d q = absurd (none≢some q)
  wanted_had s known.Closed (mode.Called act.Take t n) w count o y i d q = absurd d.1
  wanted_had s known.Closed (mode.Called act.Free t n) w count o y i d q = absurd (none≢some q)
  wanted_had s known.Closed (mode.Called act.GiveUp t n) w count o y i d q = absurd (none≢some q)
  wanted_had s known.Pending (mode.Waiting t c) None count o y i d q = absurd (nobody i.1.1)
    where
      nobody : {j : ℕ} → None ≡ Some j → ⊥
      nobody p = let z : ◌≡◌ {A = ℕ} 0 1 = cc in omega arith
  wanted_had s known.Pending (mode.Waiting t c) (Some j) count o y i d q = absurd (some≢none o.1)
  wanted_had s known.Had (mode.Waiting t c) w count o y i d q = let same : t ≡ s = cc in subst (λ (u : Section). model.holder z (number_of u) ≡ by e) same d
  wanted_had s known.Closed (mode.Waiting t c) w count o y i d q = absurd d

  -- every number used has come to its box
  over_counted :
      (b : ℕ) (last : LastCall) (used : ℕ) (k : Known) (m : Mode) → l b ≡ last.number → if_pending k (call_of_mode m (engine e)) ≡ None → Ended z e l k m → Counted z e b last used m →
      used ≡ last.number
  over_counted b last used k mode.Idle q o d c = c
  over_counted b last used k (mode.Waiting s n) q o d c = c
  over_counted b last used known.Pending (mode.Called a s n) q o d c = absurd (some≢none o)
  over_counted b last used known.Had (mode.Called a s n) q o d c =
      elim (cases_eq s.keeper.0 b) [ inl i ↦ sym (c.0 i).0 ∙ d.0 ∙ ap l i ∙ q | inr ne ↦ c.1 ne ]
  over_counted b last used known.Closed (mode.Called a s n) q o d c =
      elim (cases_eq s.keeper.0 b) [ inl i ↦ sym (c.0 i).0 ∙ d.0 ∙ ap l i ∙ q | inr ne ↦ c.1 ne ]

-- a call of an engine, and the model once its home has sent it
abbrev pub call_at : Act → ℕ → Section → ℕ → Call
call_at a e s n = record { act = a; engine = engine e; section = s; number = n }

abbrev pub called : model.Yard → ℕ → Act → ℕ → model.Yard
called z e a s = model.at_engine e (model.turned (called_mode a s) (z.engine e)) z

pub put_own : {A : Type 0} (i : ℕ) (a : A) (f : ℕ → A) → put i a f i ≡ a
put_own i a f = at_put (λ v. v ≡ a) i a f i (λ e. refl) (λ ne. absurd (ne refl))

-- the numbers used, after one more
pub used_wide : (used : List ℕ) (b : BoxNumber) (n : ℕ) → length used ≡ 16 → length (numbered used b n) ≡ 16
used_wide used b n wide = go (ltb b.0 16)
  where
    go : (t : Bool) → length (cond t (set used b.0 n) used) ≡ 16
    go true = length-set used b.0 n ∙ wide
    go false = wide

pub used_own : (used : List ℕ) (b : BoxNumber) (n : ℕ) → length used ≡ 16 → b.0 < 16 → get_or (numbered used b n) b.0 0 ≡ n
used_own used b n wide l = rw (lt-ltb b.0 16 l) (get_or-set_same used b.0 n 0 (omega arith))

pub used_other : (used : List ℕ) (b : BoxNumber) (n k : ℕ) → (k ≡ b.0 → ⊥) → get_or (numbered used b n) k 0 ≡ get_or used k 0
used_other used b n k ne = go (ltb b.0 16)
  where
    go : (t : Bool) → get_or (cond t (set used b.0 n) used) k 0 ≡ get_or used k 0
    go true = get_or-set_other used b.0 k n 0 ne
    go false = refl

called_not_waiting : (a : Act) (s j t m : ℕ) → called_mode a s ≡ model.waiting j t m → ⊥
called_not_waiting act.Take s j t m p = let z : ◌≡◌ {A = ℕ} 0 1 = cc in omega arith
called_not_waiting act.Free s j t m p = let z : ◌≡◌ {A = ℕ} 0 1 = cc in omega arith
called_not_waiting act.GiveUp s j t m p = let z : ◌≡◌ {A = ℕ} 0 1 = cc in omega arith

module _ (y : sizes.Yard) (last : ℕ → LastCall) (x : State) (z : model.Yard) (e : ℕ) (h : EngineAs y last x z e) (a : Act) (s : Section) where
  abbrev next : Call
  next = call_at a e s (used_by x s.keeper.0 + 1)

  abbrev later : model.Yard
  later = called z e a (number_of s)

  mode_later : model.mode later e ≡ called_mode a (number_of s)
  mode_later = ap (λ (g : model.Engine). g.mode) (put_own e (model.turned (called_mode a (number_of s)) (z.engine e)) z.engine)

  -- all that is known of an engine holds on when it makes a call
  pub made_as :
      SectionIn y s → ((b : ℕ) → b < y.boxes → used_by x b ≡ (last b).number) → Undone later e a (number_of s) →
      ((t : Section) → has_of (kept_after x.stored next) t ≡ true → (model.holder z (number_of t) ≡ by e) × (called_mode a (number_of s) ≡ model.freeing (number_of t) → ⊥)) →
      ((t : Section) → SectionIn y t → model.holder z (number_of t) ≡ by e → (has_of (kept_after x.stored next) t ≡ true) ⊎ About t (mode.Called a s (used_by x s.keeper.0 + 1))) →
      length (kept_after x.stored next).words ≡ 16 → EngineAs y last (made x next) later e
  made_as i counted undone kept has wide =
      record {
        same = put_own e (model.turned (called_mode a (number_of s)) (z.engine e)) z.engine ∙ ap (model.turned (called_mode a (number_of s))) h.same;
        within = i;
        used = used_wide x.stored.used s.keeper _ h.used;
        words = wide;
        kept = λ t k. ((kept t k).0, λ q. (kept t k).1 (sym mode_later ∙ q));
        has = has;
        ended = tt;
        counted = λ b l. (λ k. (own b k, inr (ap (λ n. n + 1) (ap (used_by x) k ∙ counted b l), undone)), λ ne. used_other x.stored.used s.keeper _ b (λ k. ne (sym k)) ∙ counted b l);
        since = λ j t m q. absurd (called_not_waiting a (number_of s) j t m (sym mode_later ∙ q));
      }
    where
      small : s.keeper.0 < 16
      small = let k = y.sizes.1 in let g = i.0 in omega arith

      own : (b : ℕ) → s.keeper.0 ≡ b → used_by x s.keeper.0 + 1 ≡ used_by (made x next) b
      own b k = sym (ap (λ n. get_or (numbered x.stored.used s.keeper (used_by x s.keeper.0 + 1)) n 0) (sym k) ∙ used_own x.stored.used s.keeper _ h.used small)

  -- every call that was made is one that was made
  pub made_calls : s.keeper.0 < 16 → (c : Call) → WasCalled x c → WasCalled (made x next) c
  made_calls small c w =
      elim (cases_eq c.section.keeper.0 s.keeper.0) [
        | inl k ↦ (let u = used_own x.stored.used s.keeper (used_by x s.keeper.0 + 1) h.used small in
            let v : c.number ≤ used_by x s.keeper.0 = rw k at w.0 in
            (rw k (omega arith), λ q r. absurd (omega arith)))
        | inr ne ↦ (rw (used_other x.stored.used s.keeper (used_by x s.keeper.0 + 1) c.section.keeper.0 ne) w.0, λ q r. absurd (ne (sym q)))
      ]

  pub made_called : s.keeper.0 < 16 → WasCalled (made x next) next
  made_called small = (let u = used_own x.stored.used s.keeper (used_by x s.keeper.0 + 1) h.used small in omega arith, λ q r. (refl, refl))

-- the sections kept, with what was wanted
abbrev gotten : Places → Option Section → Places
gotten x None = x
gotten x (Some s) = with_of x s

got_take : (x : Places) (e : ℕ) (s : Section) (n : ℕ) (o : Option Section) → got_wanted x (call_at act.Take e s n) o ≡ gotten x o
got_take x e s n None = refl
got_take x e s n (Some t) = refl

got_free : (x : Places) (e : ℕ) (s : Section) (n : ℕ) (o : Option Section) → got_wanted x (call_at act.Free e s n) o ≡ gotten x o
got_free x e s n None = refl
got_free x e s n (Some t) = refl

gotten_wide : (x : Places) (o : Option Section) → length x.words ≡ 16 → length (gotten x o).words ≡ 16
gotten_wide x None wide = wide
gotten_wide x (Some s) wide = with_wide x s wide

gotten_was : (x : Places) (o : Option Section) (t : Section) → length x.words ≡ 16 → has_of (gotten x o) t ≡ true → (has_of x t ≡ true) ⊎ (o ≡ Some t)
gotten_was x None t wide h = inl h
gotten_was x (Some s) t wide h = elim (with_was x s t wide h) [ inl k ↦ inl k | inr q ↦ inr (ap Some (sym q)) ]

gotten_keeps : (x : Places) (o : Option Section) (t : Section) → length x.words ≡ 16 → has_of x t ≡ true → has_of (gotten x o) t ≡ true
gotten_keeps x None t wide h = h
gotten_keeps x (Some s) t wide h = with_keeps x s t wide h

gotten_has : (x : Places) (o : Option Section) (t : Section) → length x.words ≡ 16 → fits t ≡ true → o ≡ Some t → has_of (gotten x o) t ≡ true
gotten_has x o t wide f q = rw q (with_has x t wide f)

about_wanted :
    (z : model.Yard) (e : ℕ) (l : ℕ → ℕ) (s : Section) (k : Known) (m : Mode) (w : Wait) (count : ℕ) → Over k m w e count → Ended z e l k m → model.holder z (number_of s) ≡ by e → About s m →
    wanted m ≡ Some s
about_wanted z e l s k mode.Idle w count o d h a = absurd a
about_wanted z e l s k (mode.Called act.Take t n) w count o d h a = ap Some a
about_wanted z e l s known.Pending (mode.Called act.Free t n) w count o d h a = absurd (some≢none o.0)
about_wanted z e l s known.Had (mode.Called act.Free t n) w count o d h a = absurd d.1
about_wanted z e l s known.Closed (mode.Called act.Free t n) w count o d h a = absurd (d.1 (subst (λ (u : Section). model.holder z (number_of u) ≡ by e) (sym a) h))
about_wanted z e l s k (mode.Called act.GiveUp t n) w count o d h a = absurd a
about_wanted z e l s k (mode.Waiting t c) w count o d h a = ap Some a

asking≢freeing : {s t : ℕ} → model.asking s ≡ model.freeing t → ⊥
asking≢freeing p = let z : ◌≡◌ {A = ℕ} 0 1 = cc in omega arith

freeing_one : {s t : ℕ} → model.freeing s ≡ model.freeing t → s ≡ t
freeing_one p = cc

-- an engine of which nothing is open
module _ (y : sizes.Yard) (last : ℕ → LastCall) (x : State) (z : model.Yard) (e : ℕ) (h : EngineAs y last x z e) (o : open_of x (engine e) ≡ None) (w : wait_of x ≡ None) where
  all_come : (b : ℕ) → b < y.boxes → used_by x b ≡ (last b).number
  all_come b l = over_counted z e (λ n. (last n).number) b (last b) (used_by x b) x.known x.stored.mode refl o h.ended (h.counted b l)

  -- what it has, it holds as far as its home knows
  pub held : (s : Section) → SectionIn y s → model.holder z (number_of s) ≡ by e → holds_of x s ≡ true
  held s i q =
      elim (h.has s i q) [
        | inl k ↦ or_right (is_that (had_of x) s) (has_of x.stored.kept s) k
        | inr a ↦ or_left (is_that (had_of x) s) (has_of x.stored.kept s)
            (about_had z e (λ n. (last n).number) s x.known x.stored.mode x.signs.wait x.signs.count (o, w) y h.within h.ended q a)
      ]

  abbrev grown : Places
  grown = gotten x.stored.kept (wanted x.stored.mode)

  grown_wide : length grown.words ≡ 16
  grown_wide = gotten_wide x.stored.kept (wanted x.stored.mode) h.words

  grown_kept : (t : Section) → has_of grown t ≡ true → model.holder z (number_of t) ≡ by e
  grown_kept t k =
      elim (gotten_was x.stored.kept (wanted x.stored.mode) t h.words k) [
        | inl q ↦ (h.kept t q).0
        | inr q ↦ wanted_had z e (λ n. (last n).number) t x.known x.stored.mode x.signs.wait x.signs.count (o, w) y h.within h.ended q
      ]

  grown_has : (t : Section) → SectionIn y t → model.holder z (number_of t) ≡ by e → has_of grown t ≡ true
  grown_has t i q =
      elim (h.has t i q) [
        | inl k ↦ gotten_keeps x.stored.kept (wanted x.stored.mode) t h.words k
        | inr a ↦ gotten_has x.stored.kept (wanted x.stored.mode) t h.words (fits_from t (let k = y.sizes.1 in let g = i.0 in omega arith) i.1)
            (about_wanted z e (λ n. (last n).number) t x.known x.stored.mode x.signs.wait x.signs.count (o, w) h.ended q a)
      ]

  module _ (r : Reach y.engines z) (below : e < y.engines) (s : Section) (i : SectionIn y s) where
    small : s.keeper.0 < 16
    small = let k = y.sizes.1 in let g = i.0 in omega arith

    take_step : holds_of x s ≡ false → OwnStep y last z e x (made x (call_at act.Take e s (used_by x s.keeper.0 + 1)), event.Called (call_at act.Take e s (used_by x s.keeper.0 + 1)))
    take_step none =
        record {
          acts = model.asks e (number_of s) ∷ [];
          now = called z e act.Take (number_of s);
          run = model.then model.still (model.asks e (number_of s)) (below, settled r h o w);
          engine =
              made_as y last x z e h act.Take s i all_come
              (λ q. false≢true (sym none ∙ held s i q), λ q. settled_out (sound r).places (settled r h o w) q)
              (λ t k. (grown_kept t (subst (λ (p : Places). has_of p t ≡ true) kept-is k), asking≢freeing))
              (λ t j q. inl (subst (λ (p : Places). has_of p t ≡ true) (sym kept-is) (grown_has t j q)))
              (subst (λ (p : Places). length p.words ≡ 16) (sym kept-is) grown_wide);
          others = λ k ne. put_other e _ z.engine k ne;
          sections = refl;
          calls = λ c l k. made_calls y last x z e h act.Take s small c k;
          event = (below, i, made_called y last x z e h act.Take s small);
        }
      where
        kept-is : kept_after x.stored (call_at act.Take e s (used_by x s.keeper.0 + 1)) ≡ grown
        kept-is = got_take x.stored.kept e s (used_by x s.keeper.0 + 1) (wanted x.stored.mode)

    free_step : holds_of x s ≡ true → OwnStep y last z e x (made x (call_at act.Free e s (used_by x s.keeper.0 + 1)), event.Called (call_at act.Free e s (used_by x s.keeper.0 + 1)))
    free_step has =
        record {
          acts = model.frees e (number_of s) ∷ [];
          now = called z e act.Free (number_of s);
          run = model.then model.still (model.frees e (number_of s)) (holds h s has, settled r h o w);
          engine =
              made_as y last x z e h act.Free s i all_come (holds h s has)
              (λ t k. kept_on t (subst (λ (p : Places). has_of p t ≡ true) kept-is k))
              (λ t j q. has_on t (grown_has t j q))
              (subst (λ (p : Places). length p.words ≡ 16) (sym kept-is) (without_wide grown s grown_wide));
          others = λ k ne. put_other e _ z.engine k ne;
          sections = refl;
          calls = λ c l k. made_calls y last x z e h act.Free s small c k;
          event = (below, i, made_called y last x z e h act.Free s small);
        }
      where
        kept-is : kept_after x.stored (call_at act.Free e s (used_by x s.keeper.0 + 1)) ≡ without_of grown s
        kept-is = ap (λ (p : Places). without_of p s) (got_free x.stored.kept e s (used_by x s.keeper.0 + 1) (wanted x.stored.mode))

        kept_on : (t : Section) → has_of (without_of grown s) t ≡ true → (model.holder z (number_of t) ≡ by e) × (model.freeing (number_of s) ≡ model.freeing (number_of t) → ⊥)
        kept_on t k =
            let v = without_was grown s t grown_wide k in
            (grown_kept t v.0, λ q. v.1 (same_number t s (fits_parts t (has_fits grown t v.0)).1 i.1 (sym (freeing_one q))))

        has_on :
            (t : Section) → has_of grown t ≡ true →
            (has_of (kept_after x.stored (call_at act.Free e s (used_by x s.keeper.0 + 1))) t ≡ true) ⊎ (s ≡ t)
        has_on t k =
            elim (cases_section t s) [
              | inl q ↦ inr (sym q)
              | inr ne ↦ inl (subst (λ (p : Places). has_of p t ≡ true) (sym kept-is) (without_keeps grown s t grown_wide k ne))
            ]

-- a call that is not turned away
not_err : {A : Type 0} (t : Bool) (r : Refusal) (b : Result A Refusal) (c : A) → cond t (Err r) b ≡ Ok c → (t ≡ false) × (b ≡ Ok c)
not_err true r b c q = absurd (let z : ◌≡◌ {A = ℕ} 0 1 = cc in omega arith)
not_err false r b c q = (refl, q)

pub not_err_else : {A : Type 0} (t : Bool) (r : Refusal) (b : Result A Refusal) (c : A) → cond t b (Err r) ≡ Ok c → (t ≡ true) × (b ≡ Ok c)
not_err_else true r b c q = (refl, q)
not_err_else false r b c q = absurd (let z : ◌≡◌ {A = ℕ} 0 1 = cc in omega arith)

not_some : {A : Type 0} (o : Option A) → is_some o ≡ false → o ≡ None
not_some None q = refl
not_some (Some a) q = absurd (true≢false q)

call_some : (a : Act) (e : ℕ) (s : Section) (n : Option ℕ) (c : Call) → call_of a (engine e) s n ≡ Ok c → (m : ℕ) × (n ≡ Some m) × (c ≡ call_at a e s m)
call_some a e s None c q = absurd (let z : ◌≡◌ {A = ℕ} 0 1 = cc in omega arith)
call_some a e s (Some m) c q = (m, refl, sym (cc))

some_then : {A : Type 0} (t : Bool) (o : Option A) (a : A) → cond t o None ≡ Some a → o ≡ Some a
some_then true o a q = q
some_then false o a q = absurd (none≢some q)

number_is : (x : Stored) (b : BoxNumber) (m : ℕ) → next_number x b ≡ Some m → get_or x.used b.0 0 + 1 ≡ m
number_is x b m q =
    let r = some_then (ltb b.0 16) (next_of (get_or x.used b.0 0)) m q in
    let p = some_then (ltb (get_or x.used b.0 0 + 1) (2 ^ 32)) (Some (get_or x.used b.0 0 + 1)) m r in
    cc

call_is : (x : State) (a : Act) (e : ℕ) (s : Section) (c : Call) → next_call x a (engine e) s ≡ Ok c → c ≡ call_at a e s (used_by x s.keeper.0 + 1)
call_is x a e s c q =
    let k = call_some a e s (next_number x.stored s.keeper) c q in
    k.2 ∙ ap (call_at a e s) (sym (number_is x.stored s.keeper k.0 k.1))

-- a take that an engine makes is an asking in the model
pub own_take : {y : sizes.Yard} {last : ℕ → LastCall} {x : State} {z : model.Yard} {e : ℕ} →
    EngineAs y last x z e → e < y.engines → Reach y.engines z → (s : Section) (c : Call) → SectionIn y s → take_call x (engine e) s ≡ Ok c → OwnStep y last z e x (made x c, event.Called c)
own_take {y} {last} {x} {z} {e} h below r s c i q =
    let one = not_err (is_some (open_of x (engine e)) || giving_back x) refusal.WrongCall _ c q in
    let two = not_err (is_some (wait_of x)) refusal.Waiting _ c one.1 in
    let three = not_err (holds_of x s) refusal.Mismatch (next_call x act.Take (engine e) s) c two.1 in
    subst (λ (k : Call). OwnStep y last z e x (made x k, event.Called k)) (sym (call_is x act.Take e s c three.1))
    (take_step y last x z e h (not_some (open_of x (engine e)) (or_parts (is_some (open_of x (engine e))) (giving_back x) one.0).0) (not_some (wait_of x) two.0) r below s i three.0)

-- a free that an engine makes is a freeing in the model
pub own_free : {y : sizes.Yard} {last : ℕ → LastCall} {x : State} {z : model.Yard} {e : ℕ} →
    EngineAs y last x z e → e < y.engines → Reach y.engines z → (s : Section) (c : Call) → SectionIn y s → free_call x (engine e) s ≡ Ok c → OwnStep y last z e x (made x c, event.Called c)
own_free {y} {last} {x} {z} {e} h below r s c i q =
    let one = not_err (is_some (open_of x (engine e))) refusal.WrongCall _ c q in
    let two = not_err (is_some (wait_of x)) refusal.Waiting _ c one.1 in
    let three = not_err_else (holds_of x s) refusal.Mismatch (next_call x act.Free (engine e) s) c two.1 in
    subst (λ (k : Call). OwnStep y last z e x (made x k, event.Called k)) (sym (call_is x act.Free e s c three.1))
    (free_step y last x z e h (not_some (open_of x (engine e)) one.0) (not_some (wait_of x) two.0) r below s i three.0)

-- the call that an engine makes is its own
pub take_whose : (x : State) (e : ℕ) (s : Section) (c : Call) → take_call x (engine e) s ≡ Ok c → c.engine ≡ engine e
take_whose x e s c q =
    let one = not_err (is_some (open_of x (engine e)) || giving_back x) refusal.WrongCall _ c q in
    let two = not_err (is_some (wait_of x)) refusal.Waiting _ c one.1 in
    let three = not_err (holds_of x s) refusal.Mismatch (next_call x act.Take (engine e) s) c two.1 in
    ap (λ (k : Call). k.engine) (call_is x act.Take e s c three.1)

pub free_whose : (x : State) (e : ℕ) (s : Section) (c : Call) → free_call x (engine e) s ≡ Ok c → c.engine ≡ engine e
free_whose x e s c q =
    let one = not_err (is_some (open_of x (engine e))) refusal.WrongCall _ c q in
    let two = not_err (is_some (wait_of x)) refusal.Waiting _ c one.1 in
    let three = not_err_else (holds_of x s) refusal.Mismatch (next_call x act.Free (engine e) s) c two.1 in
    ap (λ (k : Call). k.engine) (call_is x act.Free e s c three.1)
