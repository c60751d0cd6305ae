-- A home in shape: each input leaves it so, by what its event tells; and what is recorded and sent of the event is in range.
use Rattle.std.specs.Prelude.{None, Some}
use Rattle.std.proofs.Common.{◌≡◌, ℕ, zero, suc, ◌%◌, ◌^◌, ◌<◌, Bool, true, false, cond, not, ◌||◌, eqb, ltb, leb, List, [], ◌∷◌, map, length, get_or, set, replicate, Some, None, Ok, Err, Option, Result, sym, refl, ap, ◌∙◌, subst, inl, inr, arith, length-set}
use Rattle.std.proofs.lemmas.Nat.{mod_below}
use Rattle.std.proofs.lemmas.List.{get_or_past, get_or-replicate, length-map, length-replicate}
use Rattle.std.proofs.lemmas.Bool.{and_parts, cases_eq, cases_lt, cond_both, ltb-true}
use Rattle.messages.specs.declared.yard.BoxNumber.{BoxNumber}
use Rattle.messages.specs.declared.yard.Engine.{Engine}
use Rattle.messages.specs.declared.yard.Section.{Section}
use Rattle.messages.specs.declared.yard.Yard.{Yard}
use Rattle.messages.specs.declared.message.Call.{Call}
use Rattle.messages.specs.Holder.{Holder}
use Rattle.messages.specs.declared.message.Message.TheVariants as message
use Rattle.messages.specs.declared.message.Record.TheVariants as journal
use Rattle.messages.specs.declared.message.Refusal.{Refusal}
use Rattle.messages.specs.declared.message.Reply.{Reply}
use Rattle.messages.specs.Range.{CallIn, EngineIn, HolderIn, SectionIn}
use Rattle.sections.proofs.Tables.{set_read}
use Rattle.signs.specs.declared.Engine as signs
use Rattle.signs.specs.Table as table
use Rattle.signs.proofs.Places.{fresh_signs}
use Rattle.engine_state.specs.declared.state.Event.{Event}
use Rattle.engine_state.specs.declared.state.Event.TheVariants as event
use Rattle.engine_state.specs.declared.state.Known.{Known}
use Rattle.engine_state.specs.declared.state.State.{State}
use Rattle.engine_state.specs.declared.state.Stored.{Stored}
use Rattle.engine_state.specs.declared.state.Wait.{Wait}
use Rattle.engine_state.specs.Places.{same_section}
use Rattle.engine_state.specs.State.{blank, made, unread}
use Rattle.engine_state.specs.Inputs.{answer_at, change_at, sign_at}
use Rattle.home.specs.declared.home.Home.{Home}
use Rattle.home.specs.Noted.{Noted}
use Rattle.home.specs.Home.{at, fresh_home, is_home, is_ours, made_of, with}
use Rattle.home.specs.Queries.{engine, holder_of, holds_at, note_at, open_at, wait_at}
use Rattle.home.specs.Inputs.{answer_of, at_ours, change_of, free_of, freed, freeing, has_section, is_older, noted_for, sign_of, take_of, taken, taking, unless_for, waits_of, with_notes}
use Rattle.home_laws.specs.Puts as puts
use Rattle.home_laws.specs.Told.{Tells}
use Rattle.home_laws.proofs.Puts.{put_in_one}
use Rattle.home_laws.proofs.Telling.{event_tells}
use Rattle.boxes.specs.Log.{Log, recorded, said, sent}
use Rattle.messages.specs.Homes.{home_of}
use Rattle.boxes.specs.Emit.{emit_of, tell_noted, tell_of, tells_of}
use Rattle.boxes.specs.Handle.{open_again, second_for, second_of, tell_again, wait_again}
use Rattle.journal.specs.declared.output.Output.TheVariants as output
use Rattle.box_laws.proofs.Logs.{LogIn, each_keeps, recorded_in, said_in, sent_in}
use Rattle.box_laws.proofs.Engines.{
  CallsIn,
  EventIn,
  Fit,
  ResultIn,
  WaitsIn,
  answer_in,
  change_in,
  fit_became,
  fit_made,
  free_in,
  open_in,
  sign_in,
  take_in,
  wait_in,
}

-- what is noted can be told
abbrev pub NoteIn : Yard → Noted → Type 0
NoteIn y None = Unit {0}
NoteIn y (Some seen) = SectionIn y seen.section × (seen.count < 2 ^ 32)

pub record HomeShape (y : Yard) (n : ℕ) (h : Home) : Type 0 where
  pub yard : h.yard ≡ y
  pub number : h.number.0 ≡ n
  pub signs : table.Sized h.signs
  pub stored : length h.stored ≡ 64
  pub known : length h.known ≡ 64
  pub notes : length h.notes ≡ 64
  pub fits : (e : Engine) → e.0 < 64 → Fit y (at h e)
  pub noted : (k : ℕ) → NoteIn y (get_or h.notes k None)

pub sized : {y : Yard} {n : ℕ} {h : Home} → HomeShape y n h → puts.Sized h
sized i = record { signs = i.signs; stored = i.stored; known = i.known }

module _ (y : Yard) (n : ℕ) where
  -- one engine changed, all others as they were
  pub with_shape : (h : Home) (e : Engine) (z : State) → HomeShape y n h → e.0 < 64 → Fit y z → HomeShape y n (with h e z)
  with_shape h e z i below f =
      record {
        yard = i.yard;
        number = i.number;
        signs = put.0.signs;
        stored = put.0.stored;
        known = put.0.known;
        notes = i.notes;
        fits = fits;
        noted = i.noted;
      }
    where
      put : puts.Sized (with h e z) × (at (with h e z) e ≡ z) × ((k : Engine) → (k.0 ≡ e.0 → ⊥) → at (with h e z) k ≡ at h k)
      put = put_in_one h (sized i) e z below

      fits : (k : Engine) → k.0 < 64 → Fit y (at (with h e z) k)
      fits k lt =
          elim (cases_eq k.0 e.0) [
            | inl q ↦ subst (λ (j : ℕ). Fit y (at (with h e z) (engine j))) (sym q) (subst (Fit y) (sym put.1) f)
            | inr q ↦ subst (Fit y) (sym (put.2 k q)) (i.fits k lt)
          ]

  pub notes_shape : (h : Home) (xs : List Noted) → HomeShape y n h → length xs ≡ 64 → ((k : ℕ) → NoteIn y (get_or xs k None)) → HomeShape y n (with_notes h xs)
  notes_shape h xs i long all =
      record { yard = i.yard; number = i.number; signs = i.signs; stored = i.stored; known = i.known; notes = long; fits = i.fits; noted = all }

  -- one of ours is an engine of the yard
  pub ours_in : (h : Home) (e : Engine) → HomeShape y n h → is_ours h e ≡ true → EngineIn y e
  ours_in h e i ours =
      let small = ltb-true e.0 h.yard.engines (and_parts (ltb e.0 h.yard.engines) (eqb (e.0 % h.yard.boxes) h.number.0) ours).0 in
      let same = ap (λ (z : Yard). z.engines) i.yard in omega arith

  pub below : (e : Engine) → EngineIn y e → e.0 < 64
  below e ei = let z = y.sizes in omega arith

  pub has_in : (h : Home) (s : Section) → HomeShape y n h → has_section h s ≡ true → SectionIn y s
  has_in h s i has =
      let parts = and_parts (ltb s.keeper.0 h.yard.boxes) (ltb s.place 64) has in
      let one = ltb-true s.keeper.0 h.yard.boxes parts.0 in
      let same = ap (λ (z : Yard). z.boxes) i.yard in
      (omega arith, ltb-true s.place 64 parts.1)

  -- the home of an engine is a box of the yard
  pub home_in : (h : Home) (e : Engine) → HomeShape y n h → (home_of h.yard e).0 < y.boxes
  home_in h e i = subst (λ (z : Yard). e.0 % z.boxes < y.boxes) (sym i.yard) (mod_below e.0 y.boxes (let z = y.sizes in omega arith))

  -- a step of a home that leaves it in shape and gives an event in range
  abbrev pub Steps : Home × Event → Type 0
  Steps p = HomeShape y n p.0 × EventIn y p.1

  at_ours_lem : (h : Home) (e : Engine) (f : State → State × Event) → HomeShape y n h → Tells e (at h e) (f (at h e)) → (EngineIn y e → EventIn y (f (at h e)).1) → Steps (at_ours h e f)
  at_ours_lem h e f i tells gives =
      cond_both (is_ours h e) _ _ Steps
      (λ ours.
      let ei = ours_in h e i ours in
      (with_shape h e (f (at h e)).0 i (below e ei) (fit_became y e (at h e) (f (at h e)).1 (f (at h e)).0 (i.fits e (below e ei)) (gives ei) tells), gives ei))
      (λ _. (i, tt))

  made_shape : (h : Home) (c : Call) → HomeShape y n h → CallIn y c → HomeShape y n (made_of h c)
  made_shape h c i ci =
      cond_both (is_ours h c.engine) _ _ (HomeShape y n)
      (λ _. with_shape h c.engine (made (at h c.engine) c) i (below c.engine ci.0) (fit_made y (at h c.engine) c (i.fits c.engine (below c.engine ci.0)) ci))
      (λ _. i)

  taken_steps : (h : Home) (r : Result Call Refusal) → HomeShape y n h → ResultIn y r → Steps (taken h r)
  taken_steps h (Err r) i ri = (i, tt)
  taken_steps h (Ok c) i ri = (made_shape h c i ri, ri)

  pub take_steps : (h : Home) (e : Engine) (s : Section) → HomeShape y n h → Steps (take_of h e s)
  take_steps h e s i =
      taken_steps h (taking h e s) i
      (cond_both (is_ours h e) _ _ (ResultIn y) (λ ours. cond_both (has_section h s) _ _ (ResultIn y) (λ has. take_in y (at h e) e s (ours_in h e i ours) (has_in h s i has)) (λ _. tt)) (λ _. tt))

  unless_in : (s : Section) (x : Noted) → NoteIn y x → NoteIn y (unless_for s x)
  unless_in s None xi = tt
  unless_in s (Some seen) xi = cond_both (same_section seen.section s) _ _ (NoteIn y) (λ _. tt) (λ _. xi)

  dropped_in : (s : Section) (xs : List Noted) → ((k : ℕ) → NoteIn y (get_or xs k None)) → (k : ℕ) → NoteIn y (get_or (map (unless_for s) xs) k None)
  dropped_in s [] all k = tt
  dropped_in s (x ∷ xs) all zero = unless_in s x (all 0)
  dropped_in s (x ∷ xs) all (suc k) = dropped_in s xs (λ j. all (suc j)) k

  freed_steps : (h : Home) (s : Section) (r : Result Call Refusal) → HomeShape y n h → ResultIn y r → Steps (freed h s r)
  freed_steps h s (Err r) i ri = (i, tt)
  freed_steps h s (Ok c) i ri =
      let j = made_shape h c i ri in
      (notes_shape (made_of h c) (map (unless_for s) (made_of h c).notes) j (length-map (made_of h c).notes (unless_for s) ∙ j.notes) (dropped_in s (made_of h c).notes j.noted), ri)

  pub free_steps : (h : Home) (e : Engine) (s : Section) → HomeShape y n h → Steps (free_of h e s)
  free_steps h e s i =
      freed_steps h s (freeing h e s) i
      (cond_both (is_ours h e) _ _ (ResultIn y) (λ ours. cond_both (has_section h s) _ _ (ResultIn y) (λ has. free_in y (at h e) e s (ours_in h e i ours) (has_in h s i has)) (λ _. tt)) (λ _. tt))

  pub answer_steps :
      (h : Home) (from : BoxNumber) (e : Engine) (m : ℕ) (r : Reply) (holder : Holder) (change : ℕ) → HomeShape y n h → change < 2 ^ 32 → HolderIn y holder → Steps (answer_of h from e m r holder change)
  answer_steps h from e m r holder change i ci hi =
      at_ours_lem h e (λ (x : State). answer_at x from e h.yard.engines m r holder change) i (event_tells.0 (at h e) from e h.yard.engines m r holder change)
      (λ ei. answer_in y (at h e) from e h.yard.engines m r holder change (i.fits e (below e ei)) ei ci hi)

  pub change_steps : (h : Home) (e : Engine) (s : Section) (holder : Holder) (change : ℕ) → HomeShape y n h → SectionIn y s → change < 2 ^ 32 → HolderIn y holder → Steps (change_of h e s holder change)
  change_steps h e s holder change i si ci hi =
      at_ours_lem h e (λ (x : State). change_at x e h.yard.engines s holder change) i (event_tells.1 (at h e) e h.yard.engines s holder change)
      (λ ei. change_in y (at h e) e h.yard.engines s holder change ei si ci hi)

  pub sign_steps : (h : Home) (from : BoxNumber) (e : Engine) (count : ℕ) (by : Engine) (sign : ℕ) → HomeShape y n h → sign < 2 ^ 64 → Steps (sign_of h from e count by sign)
  sign_steps h from e count by sign i small =
      cond_both (is_home h.yard from by) _ _ Steps
      (λ _. at_ours_lem h e (λ (x : State). sign_at x e count by sign) i (event_tells.2 (at h e) e count by sign) (λ ei. sign_in y (at h e) e count by sign (i.fits e (below e ei)) ei small))
      (λ _. (i, tt))

  noted_steps : (h : Home) (e : Engine) (s : Section) (count : ℕ) (o : Option Engine) → HomeShape y n h → EngineIn y e → SectionIn y s → count < 2 ^ 32 → Steps (noted_for h e s count o)
  noted_steps h e s count None i ei si ni = (i, tt)
  noted_steps h e s count (Some by) i ei si ni =
      cond_both (leb 64 e.0 || is_older count (note_at h e)) _ _ Steps (λ _. (i, tt))
      (λ _. cond_both (is_ours h by) _ _ Steps
      (λ ours.
      let bi = ours_in h by i ours in (
        notes_shape h (set h.notes e.0 (Some (record { section = s; count = count }))) i (length-set h.notes e.0 (Some (record { section = s; count = count })) ∙ i.notes)
            (λ k. elim (set_read None h.notes e.0 (Some (record { section = s; count = count })) k) [ inl r ↦ rw r.1 (si, ni) | inr r ↦ rw r (i.noted k) ]),
        (ei, ni, bi, (i.fits by (below by bi)).shown),
      ))
      (λ _. (i, tt)))

  pub waits_steps : (h : Home) (e : Engine) (s : Section) (count : ℕ) → HomeShape y n h → EngineIn y e → SectionIn y s → count < 2 ^ 32 → Steps (waits_of h e s count)
  waits_steps h e s count i ei si ni =
      cond_both (leb h.yard.engines e.0 || not (has_section h s)) _ _ Steps (λ _. (i, tt)) (λ _. noted_steps h e s count (holder_of h s) i ei si ni)

  -- WHAT IS SAID of an event
  tell_noted_in : (h : Home) (by : Engine) (sign : ℕ) (x : Engine) (m : Noted) (l : Log) → HomeShape y n h → EngineIn y by → sign < 2 ^ 64 → EngineIn y x → NoteIn y m → LogIn y l → LogIn y (tell_noted h by sign x m l)
  tell_noted_in h by sign x None l i bi si xi mi fine = fine
  tell_noted_in h by sign x (Some seen) l i bi si xi mi fine =
      cond_both (holds_at h by seen.section) _ _ (LogIn y) (λ _. sent_in y l (home_of h.yard x) (message.Sign (record { to = x; count = seen.count; by = by; sign = sign })) fine (home_in h x i) (xi, mi.1, bi, si)) (λ _. fine)

  note_at_in : (h : Home) (x : Engine) → HomeShape y n h → NoteIn y (note_at h x)
  note_at_in h x i = cond_both (ltb x.0 64) _ _ (NoteIn y) (λ _. i.noted x.0) (λ _. tt)

  pub tells_in : (h : Home) (by : Engine) (sign : ℕ) (l : Log) → HomeShape y n h → EngineIn y by → sign < 2 ^ 64 → LogIn y l → LogIn y (tells_of h by sign l)
  tells_in h by sign l i bi si fine =
      each_keeps (LogIn y) (λ k. tell_of h by sign (engine k)) h.yard.engines
      (λ k z lt zi. tell_noted_in h by sign (engine k) (note_at h (engine k)) z i bi si (let same = ap (λ (u : Yard). u.engines) i.yard in omega arith) (note_at_in h (engine k) i) zi) l fine

  pub emit_in : (h : Home) (v : Event) (l : Log) → HomeShape y n h → EventIn y v → LogIn y l → LogIn y (emit_of h v l)
  emit_in h event.PassedOver l i vi fine = fine
  emit_in h (event.Refused r) l i vi fine = said_in y l (output.Refused r) fine tt
  emit_in h (event.RefusedBy r) l i vi fine = said_in y l (output.Refused r) fine tt
  emit_in h (event.Had e s) l i vi fine = said_in y l (output.Had e s) fine tt
  emit_in h event.Closed l i vi fine = fine
  emit_in h (event.Called c) l i vi fine = sent_in y (recorded l (journal.Made c)) c.section.keeper (message.Call c) (recorded_in y l (journal.Made c) fine vi) vi.1.0 vi
  emit_in h (event.Found c) l i vi fine =
      sent_in y (said (recorded l (journal.Made c)) (output.GiveBack c.engine)) c.section.keeper (message.Call c)
      (said_in y (recorded l (journal.Made c)) (output.GiveBack c.engine) (recorded_in y l (journal.Made c) fine vi) tt) vi.1.0 vi
  emit_in h (event.Began start) l i vi fine =
      tells_in h start.engine start.own (sent (recorded l (journal.Beginning start.holder (record { engine = start.engine; section = start.section; count = start.count; change = start.change }) start.own)) start.section.keeper (message.Waits (record { engine = start.engine; section = start.section; count = start.count; change = start.change }))) i vi.0 vi.5
      (sent_in y (recorded l (journal.Beginning start.holder (record { engine = start.engine; section = start.section; count = start.count; change = start.change }) start.own)) start.section.keeper (message.Waits (record { engine = start.engine; section = start.section; count = start.count; change = start.change }))
      (recorded_in y l (journal.Beginning start.holder (record { engine = start.engine; section = start.section; count = start.count; change = start.change }) start.own) fine vi) vi.1.0 (vi.0, vi.1, vi.4, vi.2))
  emit_in h (event.Heard e sign) l i vi fine = tells_in h e sign (recorded l (journal.Heard e sign)) i vi.0 vi.1 (recorded_in y l (journal.Heard e sign) fine vi)
  emit_in h (event.Noted telling) l i vi fine = sent_in y l (home_of h.yard telling.to) (message.Sign (record { to = telling.to; count = telling.count; by = telling.by; sign = telling.sign })) fine (home_in h telling.to i) vi

  -- WHAT IS SAID of a second
  open_again_in : (o : Option Call) (l : Log) → CallsIn y o → LogIn y l → LogIn y (open_again o l)
  open_again_in None l ci fine = fine
  open_again_in (Some c) l ci fine = sent_in y l c.section.keeper (message.Call c) fine ci.1.0 ci

  wait_again_in : (e : Engine) (o : Option Wait) (l : Log) → EngineIn y e → WaitsIn y o → LogIn y l → LogIn y (wait_again e o l)
  wait_again_in e None l ei wi fine = fine
  wait_again_in e (Some w) l ei wi fine =
      sent_in y (sent l w.section.keeper (message.Waits (record { engine = e; section = w.section; count = w.count; change = w.change }))) w.section.keeper (message.WhichChange e w.section)
      (sent_in y l w.section.keeper (message.Waits (record { engine = e; section = w.section; count = w.count; change = w.change })) fine wi.0.0 (ei, wi.0, wi.2, wi.3)) wi.0.0 (ei, wi.0)

  tell_again_in : (h : Home) (e : Engine) (t : Bool) (l : Log) → HomeShape y n h → EngineIn y e → LogIn y l → LogIn y (tell_again h e (cond t (Some (at h e).signs) None) l)
  tell_again_in h e true l i ei fine = tells_in h e (at h e).signs.shown l i ei (i.fits e (below e ei)).shown fine
  tell_again_in h e false l i ei fine = fine

  second_for_in : (h : Home) (e : Engine) (l : Log) → HomeShape y n h → EngineIn y e → LogIn y l → LogIn y (second_for h e l)
  second_for_in h e l i ei fine =
      let f = i.fits e (below e ei) in
      tell_again_in h e (is_ours h e) (wait_again e (wait_at h e) (open_again (open_at h e) l)) i ei
      (wait_again_in e (wait_at h e) (open_again (open_at h e) l) ei (cond_both (is_ours h e) _ _ (WaitsIn y) (λ _. wait_in y (at h e) f) (λ _. tt))
      (open_again_in (open_at h e) l (cond_both (is_ours h e) _ _ (CallsIn y) (λ _. open_in y (at h e) e ei f) (λ _. tt)) fine))

  pub second_in : (h : Home) (l : Log) → HomeShape y n h → LogIn y l → LogIn y (second_of h l)
  second_in h l i fine =
      each_keeps (LogIn y) (λ k. second_for h (engine k)) h.yard.engines
      (λ k z lt zi. second_for_in h (engine k) z i (let same = ap (λ (u : Yard). u.engines) i.yard in omega arith) zi) l fine

-- the same everywhere
pub everywhere : {X : Type 0} (n : ℕ) (x : X) (i : ℕ) → get_or (replicate n x) i x ≡ x
everywhere n x i = elim (cases_lt i n) [ inl h ↦ get_or-replicate n i x x h | inr h ↦ get_or_past (replicate n x) i x (rw (length-replicate n x) h) ]

blank_fit : (y : Yard) (e : ℕ) (k : Known) (st : Stored) (g : signs.Engine) → e < 64 → st ≡ blank → g ≡ record { wait = None; count = 0; shown = e; own = e } →
    Fit y (record { stored = st; known = k; signs = g })
blank_fit y e k st g lt p q =
    subst (λ (z : Stored). Fit y (record { stored = z; known = k; signs = g })) (sym p)
    (subst (λ (z : signs.Engine). Fit y (record { stored = blank; known = k; signs = z })) (sym q)
    (record {
      used = refl;
      words = refl;
      numbers = λ j. subst (λ (m : ℕ). m < 2 ^ 32) (sym (everywhere 16 0 j)) (omega arith);
      mode = tt;
      wait = tt;
      count = omega arith;
      shown = omega arith;
      own = omega arith;
      ordered = omega arith;
    }))

-- a home of which there is no record is in shape
pub fresh_home_shape : (y : Yard) (b : BoxNumber) → HomeShape y b.0 (fresh_home y b)
fresh_home_shape y b =
    record {
      yard = refl;
      number = refl;
      signs = fresh_signs.0;
      stored = refl;
      known = refl;
      notes = refl;
      fits = λ e lt. blank_fit y e.0 _ _ _ lt (get_or-replicate 64 e.0 blank unread lt) (fresh_signs.1 e.0 lt);
      noted = λ k. subst (NoteIn y) (sym (everywhere 64 None k)) tt;
    }
