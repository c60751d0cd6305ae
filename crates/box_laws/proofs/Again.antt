-- The same message again finds each half of the box as the first left it: nothing changes, and nothing is recorded.
use Rattle.std.specs.Prelude.{None, Some}
use Rattle.std.proofs.Common.{◌≡◌, ℕ, zero, suc, ◌^◌, ◌<◌, Bool, true, false, cond, not, ◌||◌, eqb, ltb, leb, ◌⊎◌, List, [], ◌∷◌, ◌++◌, length, get_or, set, Some, None, Option, sym, refl, ap, ◌∙◌, subst, inl, inr, arith, length-set}
use Rattle.std.proofs.lemmas.List.{append-nil, get_or-set_same, set-get_or, set-set}
use Rattle.std.proofs.lemmas.Bool.{both_ways, cases_eq, cond_both, cond-false, cond-true, ltb-true}
use Rattle.messages.specs.declared.yard.BoxNumber.{BoxNumber}
use Rattle.messages.specs.declared.yard.Engine.{Engine}
use Rattle.messages.specs.declared.yard.Section.{Section}
use Rattle.messages.specs.declared.yard.Yard.{Yard}
use Rattle.messages.specs.declared.message.Call.{Call}
use Rattle.messages.specs.Holder.{Holder}
use Rattle.messages.specs.declared.message.Message.{Message}
use Rattle.messages.specs.declared.message.Message.TheVariants as message
use Rattle.messages.specs.declared.message.Record.{Record}
use Rattle.messages.specs.declared.message.Record.TheVariants as journal
use Rattle.messages.specs.declared.message.Refusal.TheVariants as refusal
use Rattle.messages.specs.declared.message.Reply.{Reply}
use Rattle.messages.specs.Range.{HolderIn, MessageIn, SectionIn}
use Rattle.sections.specs.Table.{change_number_at, holder_at}
use Rattle.signs.specs.Signs as whom
use Rattle.signs.specs.declared.table.Engines.{Engines}
use Rattle.signs.specs.Table as table
use Rattle.engine_state.specs.declared.state.Event.{Event}
use Rattle.engine_state.specs.declared.state.Event.TheVariants as event
use Rattle.engine_state.specs.declared.state.Known.{Known}
use Rattle.engine_state.specs.declared.state.Known.TheVariants as known
use Rattle.engine_state.specs.declared.state.State as engines
use Rattle.engine_state.specs.declared.state.Stored.{Stored}
use Rattle.engine_state.specs.State.{made, numbered, unread}
use Rattle.engine_state.specs.Inputs.{answer_at, change_at, sign_at}
use Rattle.keeper.specs.Model as keeper
use Rattle.keeper.specs.Calls.{call_of}
use Rattle.keeper.specs.Promise.{once_more}
use Rattle.keeper.specs.Words.{holder_of}
use Rattle.keeper.specs.declared.Verdict.{Verdict}
use Rattle.keeper.specs.declared.Verdict.TheVariants as verdict
use Rattle.keeper.proofs.OneCall.{again, followed}
use Rattle.home.specs.declared.home.Home.{Home}
use Rattle.home.specs.Noted.{Noted}
use Rattle.home.specs.Home.{at, is_home, is_ours, with}
use Rattle.home.specs.Queries as queries
use Rattle.home.specs.Queries.{engine, note_at}
use Rattle.home.specs.Inputs.{answer_of, at_ours, change_of, has_section, is_older, noted_for, put_in, sign_of, waits_of, with_notes}
use Rattle.home_laws.specs.Again.{Once}
use Rattle.home_laws.specs.Puts as puts
use Rattle.home_laws.specs.Steps.{record_of}
use Rattle.home_laws.specs.Told.{Became, Tells}
use Rattle.home_laws.proofs.Again.{same_again}
use Rattle.home_laws.proofs.Puts.{put_in_one}
use Rattle.home_laws.proofs.Telling.{event_tells}
use Rattle.boxes.specs.Log.{Log, each, none}
use Rattle.messages.specs.Homes.{home_of}
use Rattle.boxes.specs.Model.{State, with_home, with_keeper}
use Rattle.boxes.specs.Keeping.{called_at, for_us, refused, ruled, ruled_log, which_at}
use Rattle.boxes.specs.Handle.{change_for, changed_at, happened, received_of, wait_at_box, wait_sent}
use Rattle.boxes.specs.Opening.{used_up}
use Rattle.box_laws.proofs.Homes.{below, ours_in, sized}
use Rattle.box_laws.proofs.Logs.{each_keeps}
use Rattle.box_laws.proofs.Replay.{emit_records, listed, ruled_records}
use Rattle.box_laws.proofs.Shape.{InShape, Shaped, change_for_shape}
use Rattle.box_laws.proofs.Sounds.{Next, Sound, answer_sound, change_sound, next_number_lem, sign_sound}

-- done again, it changes nothing, and what is said of it then is quiet
abbrev pub Twice : {A B : Type 0} → (B → Type 0) → (A → A × B) → A → Type 0
Twice Q f a = ((f (f a).0).0 ≡ (f a).0) × Q (f (f a).0).1

-- one of two ways, by a test that each leaves as it was
twice_cond : {A B : Type 0} (Q : B → Type 0) (t : A → Bool) (g r : A → A × B) (a : A) → (t a ≡ true → (t (g a).0 ≡ true) × Twice Q g a) → (t a ≡ false → (t (r a).0 ≡ false) × Twice Q r a) →
    Twice Q (λ z. cond (t z) (g z) (r z)) a
twice_cond {A} {B} Q t g r a on off = by (t a) refl
  where
    f : A → A × B
    f z = cond (t z) (g z) (r z)

    Still : A → Type 0
    Still z = ((f z).0 ≡ z) × Q (f z).1

    by : (v : Bool) → t a ≡ v → Still (f a).0
    by true is =
        let first : f a ≡ g a = cond-true (t a) (g a) (r a) is in
        let second : f (g a).0 ≡ g (g a).0 = cond-true (t (g a).0) (g (g a).0) (r (g a).0) (on is).0 in
        subst (λ (p : A × B). Still p.0) (sym first) (subst (λ (p : A × B). (p.0 ≡ (g a).0) × Q p.1) (sym second) (on is).1)
    by false is =
        let first : f a ≡ r a = cond-false (t a) (g a) (r a) is in
        let second : f (r a).0 ≡ r (r a).0 = cond-false (t (r a).0) (g (r a).0) (r (r a).0) (off is).0 in
        subst (λ (p : A × B). Still p.0) (sym first) (subst (λ (p : A × B). (p.0 ≡ (r a).0) × Q p.1) (sym second) (off is).1)

-- what changes nothing the first time does the same the second time
twice_same : {A B : Type 0} (Q : B → Type 0) (f : A → A × B) (a : A) → (f a).0 ≡ a → Q (f a).1 → Twice Q f a
twice_same {A} {B} Q f a same quiet = subst (λ (z : A). ((f z).0 ≡ z) × Q (f z).1) (sym same) (same, quiet)

-- ONE ENGINE: an event with a record changes its engine
same_table :
    {w v : List whom.Wait} {c d s t o p : List ℕ} → w ≡ v → c ≡ d → s ≡ t → o ≡ p →
    ◌≡◌ {A = Engines} (record { waits = w; counts = c; shown = s; own = o }) (record { waits = v; counts = d; shown = t; own = p })
same_table a b c d = cc

table_same : (t : Engines) (e : ℕ) → table.with t e (table.engine_at t e) ≡ t
table_same t e = same_table (set-get_or t.waits e None) (set-get_or t.counts e 0) (set-get_or t.shown e 0) (set-get_or t.own e 0)

-- putting back what was read changes nothing
pub with_same : (h : Home) (e : Engine) → with h e (at h e) ≡ h
with_same h e =
    ap (λ (z : Engines). record { yard = h.yard; number = h.number; signs = z; stored = set h.stored e.0 (get_or h.stored e.0 unread); known = set h.known e.0 (get_or h.known e.0 known.Pending); notes = h.notes }) (table_same h.signs e.0) ∙
    ap (λ (z : List Stored). record { yard = h.yard; number = h.number; signs = h.signs; stored = z; known = set h.known e.0 (get_or h.known e.0 known.Pending); notes = h.notes }) (set-get_or h.stored e.0 unread) ∙
    ap (λ (z : List Known). record { yard = h.yard; number = h.number; signs = h.signs; stored = h.stored; known = z; notes = h.notes }) (set-get_or h.known e.0 known.Pending)

called_differs : (x z : engines.State) (c : Call) → length x.stored.used ≡ 16 → Next x c → z ≡ made x c → z ≡ x → ⊥
called_differs x z c long next is same =
    let parts = next_number_lem x.stored c.section.keeper c.number next in
    let small = ltb-true c.section.keeper.0 16 parts.0 in
    let read : get_or (numbered x.stored.used c.section.keeper c.number) c.section.keeper.0 0 ≡ get_or x.stored.used c.section.keeper.0 0 =
    ap (λ (u : engines.State). get_or u.stored.used c.section.keeper.0 0) (sym is ∙ same) in
    let put : get_or (numbered x.stored.used c.section.keeper c.number) c.section.keeper.0 0 ≡ c.number =
    ap (λ (t : Bool). get_or (cond t (set x.stored.used c.section.keeper.0 c.number) x.stored.used) c.section.keeper.0 0) parts.0 ∙
    get_or-set_same x.stored.used c.section.keeper.0 c.number 0 (omega arith) in
    let more = parts.1 in
    omega arith

-- where the engine is as it was, there is no record
abbrev Unrecorded : Event → Type 0
Unrecorded v = record_of v ≡ None

quiet_record : (many : ℕ) (e : Engine) (x : engines.State) (v : Event) (z : engines.State) → length x.stored.used ≡ 16 → Became e x v z → Sound many x v → z ≡ x → Unrecorded v
quiet_record many e x event.PassedOver z long b s same = refl
quiet_record many e x (event.Refused r) z long b s same = refl
quiet_record many e x (event.RefusedBy r) z long b s same = refl
quiet_record many e x (event.Had f p) z long b s same = refl
quiet_record many e x event.Closed z long b s same = refl
quiet_record many e x (event.Called c) z long b s same = absurd (called_differs x z c long s b.1 same)
quiet_record many e x (event.Found c) z long b s same = absurd (called_differs x z c long s b.1 same)
quiet_record many e x (event.Began start) z long b s same =
    let counts : start.count ≡ x.signs.count = ap (λ (u : engines.State). u.signs.count) (sym b.1 ∙ same) in let more = s.1 in absurd (omega arith)
quiet_record many e x (event.Heard f sign) z long b s same =
    let shows : sign ≡ x.signs.shown = ap (λ (u : engines.State). u.signs.shown) (sym b.2 ∙ same) in let more = b.1 in absurd (omega arith)
quiet_record many e x (event.Noted telling) z long b s same = refl

-- an engine keeps a number for each box
abbrev Long : engines.State → Type 0
Long x = length x.stored.used ≡ 16

made_long : (x : engines.State) (c : Call) → Long x → Long (made x c)
made_long x c long = cond_both (ltb c.section.keeper.0 16) _ _ (λ (xs : List ℕ). length xs ≡ 16) (λ _. length-set x.stored.used c.section.keeper.0 c.number ∙ long) (λ _. long)

long_became : (e : Engine) (x : engines.State) (v : Event) (z : engines.State) → Long x → Became e x v z → Long z
long_became e x event.PassedOver z long b = subst Long (sym b) long
long_became e x (event.Refused r) z long b = subst Long (sym b) long
long_became e x (event.RefusedBy r) z long (inl b) = subst Long (sym b) long
long_became e x (event.RefusedBy r) z long (inr b) = subst Long (sym b) long
long_became e x (event.Had f s) z long b = subst Long (sym b) long
long_became e x event.Closed z long b = subst Long (sym b) long
long_became e x (event.Called c) z long b = subst Long (sym b.1) (made_long x c long)
long_became e x (event.Found c) z long b = subst Long (sym b.1) (made_long x c long)
long_became e x (event.Began start) z long b = subst Long (sym b.1) long
long_became e x (event.Heard f s) z long b = subst Long (sym b.2) long
long_became e x (event.Noted telling) z long b = subst Long (sym b) long

-- ONE HOME
abbrev HomeTwice : (Home → Home × Event) → Home → Type 0
HomeTwice f h = Twice Unrecorded f h

-- an input at one of ours, settled there, changes nothing
at_settled :
    (h : Home) (e : Engine) (f : engines.State → engines.State × Event) (many : ℕ) → length (at h e).stored.used ≡ 16 → Tells e (at h e) (f (at h e)) → Sound many (at h e) (f (at h e)).1 →
    (f (at h e)).0 ≡ at h e → ((put_in h e (f (at h e))).0 ≡ h) × Unrecorded (f (at h e)).1
at_settled h e f many long tells sound same =
    (ap (λ (z : engines.State). with h e z) same ∙ with_same h e, quiet_record many e (at h e) (f (at h e)).1 (f (at h e)).0 long tells sound same)

-- an input that changes an engine only once changes the home only once
module _ (e : Engine) (f : ℕ → engines.State → engines.State × Event) (tells : (k : ℕ) (x : engines.State) → Tells e x (f k x)) (sound : (k : ℕ) (x : engines.State) → Sound k x (f k x).1) where
  at_twice : (h : Home) → puts.Sized h → (is_ours h e ≡ true → e.0 < 64) → (is_ours h e ≡ true → Once (f h.yard.engines) (at h e)) → (is_ours h e ≡ true → Long (at h e)) →
      HomeTwice (λ g. at_ours g e (f g.yard.engines)) h
  at_twice h z small once long =
      twice_cond Unrecorded (λ g. is_ours g e) (λ g. put_in g e (f g.yard.engines (at g e))) (λ g. (g, event.Refused refusal.Malformed)) h
      (λ ours. (ours, now ours))
      (λ not_ours. (not_ours, (refl, refl)))
    where
      x : engines.State
      x = (f h.yard.engines (at h e)).0

      h1 : Home
      h1 = with h e x

      now : is_ours h e ≡ true → Twice Unrecorded (λ g. put_in g e (f g.yard.engines (at g e))) h
      now ours =
          let reads : at h1 e ≡ x = (put_in_one h z e x (small ours)).1 in
          at_settled h1 e (f h.yard.engines) h.yard.engines
          (subst Long (sym reads) (long_became e (at h e) (f h.yard.engines (at h e)).1 x (long ours) (tells h.yard.engines (at h e))))
          (tells h.yard.engines (at h1 e))
          (sound h.yard.engines (at h1 e))
          (subst (λ (u : engines.State). (f h.yard.engines u).0 ≡ u) (sym reads) (once ours))

-- a note is made once: again it is the same note
noted_quiet : (h : Home) (e : Engine) (s : Section) (count : ℕ) (o : Option Engine) → Unrecorded (noted_for h e s count o).1
noted_quiet h e s count None = refl
noted_quiet h e s count (Some by) =
    cond_both (leb 64 e.0 || is_older count (note_at h e)) _ _ (λ (p : Home × Event). Unrecorded p.1) (λ _. refl) (λ _. cond_both (is_ours h by) _ _ (λ (p : Home × Event). Unrecorded p.1) (λ _. refl) (λ _. refl))

abbrev noting : Engine → Section → ℕ → Home → Home
noting e s count h = with_notes h (set h.notes e.0 (Some (record { section = s; count = count })))

noting_twice : (e : Engine) (s : Section) (count : ℕ) (h : Home) → noting e s count (noting e s count h) ≡ noting e s count h
noting_twice e s count h = ap (λ (xs : List Noted). with_notes h xs) (set-set h.notes e.0 (Some (record { section = s; count = count })) (Some (record { section = s; count = count })))

noted_either : (h : Home) (e : Engine) (s : Section) (count : ℕ) (o : Option Engine) → ((noted_for h e s count o).0 ≡ h) ⊎ ((noted_for h e s count o).0 ≡ noting e s count h)
noted_either h e s count None = inl refl
noted_either h e s count (Some by) =
    cond_both (leb 64 e.0 || is_older count (note_at h e)) _ _ (λ (p : Home × Event). (p.0 ≡ h) ⊎ (p.0 ≡ noting e s count h)) (λ _. inl refl)
    (λ _. cond_both (is_ours h by) _ _ (λ (p : Home × Event). (p.0 ≡ h) ⊎ (p.0 ≡ noting e s count h)) (λ _. inr refl) (λ _. inl refl))

-- ONE BOX
abbrev NoRecords : Log → Type 0
NoRecords l = l.records ≡ []

-- the box is as it was, and nothing is recorded
abbrev Same : State → State × Log → Type 0
Same b p = (p.0 ≡ b) × NoRecords p.1

abbrev pub BoxTwice : (State → State × Log) → State → Type 0
BoxTwice f b = Twice NoRecords f b

happened_twice : (g : Home → Home × Event) (b : State) → HomeTwice g b.home → BoxTwice (λ c. happened c (g c.home) none) b
happened_twice g b twice =
    let h1 = (g b.home).0 in
    (ap (λ (h : Home). with_home b h) twice.0, emit_records (g h1).0 (g h1).1 none ∙ ap listed twice.1)

-- a call again is answered as before
unused_again : (v : Verdict) → used_up (once_more v) ≡ false
unused_again verdict.Malformed = refl
unused_again verdict.PassedOver = refl
unused_again (verdict.Again a) = refl
unused_again (verdict.AtLimit a) = refl
unused_again (verdict.Refused r a) = refl
unused_again (verdict.Done a) = refl
unused_again (verdict.PassedOn a) = refl

called_twice : (b : State) (from : BoxNumber) (c : Call) → length b.keeper.calls ≡ 64 → length b.keeper.table ≡ 64 → BoxTwice (λ z. called_at z from c none) b
called_twice b from c whole long =
    twice_cond NoRecords (λ z. for_us z from c.engine c.section) (λ z. ruled z c (call_of z.keeper c) none) (λ z. refused z none) b
    (λ is. (is, now))
    (λ is. (is, (refl, refl)))
  where
    k : keeper.State
    k = (call_of b.keeper c).0

    v : Verdict
    v = (call_of b.keeper c).1

    same : call_of k c ≡ (k, once_more v)
    same = again b.keeper whole long c k v refl (followed b.keeper whole long c)

    now : BoxTwice (λ z. ruled z c (call_of z.keeper c) none) b
    now =
        subst (λ (p : keeper.State × Verdict). (with_keeper b p.0 ≡ with_keeper b k) × NoRecords (ruled_log (with_keeper b p.0) c p.1 none)) (sym same)
        (refl, ruled_records (with_keeper b k) c (once_more v) none ∙ ap (λ (t : Bool). cond t (journal.Kept c ∷ []) []) (unused_again v))

module _ (y : Yard) (n : ℕ) where
  small : (b : State) (e : Engine) → InShape y n b → is_ours b.home e ≡ true → e.0 < 64
  small b e i ours = below y n e (ours_in y n b.home e i.engines ours)

  answer_twice : (b : State) (from : BoxNumber) (e : Engine) (m : ℕ) (r : Reply) (h : Holder) (change : ℕ) → InShape y n b → BoxTwice (λ z. happened z (answer_of z.home from e m r h change) none) b
  answer_twice b from e m r h change i =
      happened_twice (λ g. answer_of g from e m r h change) b
      (at_twice e (λ k x. answer_at x from e k m r h change) (λ k x. event_tells.0 x from e k m r h change) (λ k x. answer_sound k x from e m r h change) b.home (sized i.engines) (small b e i)
      (λ _. same_again.0 from e b.home.yard.engines m r h change (at b.home e)) (λ ours. (i.engines.fits e (small b e i ours)).used))

  sign_twice : (b : State) (from e : _) (count : ℕ) (by : Engine) (sign : ℕ) → InShape y n b → BoxTwice (λ z. happened z (sign_of z.home from e count by sign) none) b
  sign_twice b from e count by sign i =
      happened_twice (λ g. sign_of g from e count by sign) b
      (twice_cond Unrecorded (λ g. is_home g.yard from by) (λ g. at_ours g e (λ x. sign_at x e count by sign)) (λ g. (g, event.Refused refusal.Malformed)) b.home
      (λ is. (cond_both (is_ours b.home e) _ _ (λ (p : Home × Event). is_home p.0.yard from by ≡ true) (λ _. is) (λ _. is), now))
      (λ is. (is, (refl, refl))))
    where
      now : HomeTwice (λ g. at_ours g e (λ x. sign_at x e count by sign)) b.home
      now =
          at_twice e (λ k x. sign_at x e count by sign) (λ k x. event_tells.2 x e count by sign) (λ k x. sign_sound k x e count by sign) b.home (sized i.engines) (small b e i)
          (λ ours. same_again.2 e count by sign (at b.home e) (i.engines.fits e (small b e i ours)).ordered) (λ ours. (i.engines.fits e (small b e i ours)).used)

  -- that an engine waits makes the same note or none
  abbrev Wait : Engine → Section → ℕ → State → State × Log → Type 0
  Wait e s count b p = ((p.0 ≡ b) ⊎ (p.0 ≡ with_home b (noting e s count b.home))) × NoRecords p.1

  waits_once : (e : Engine) (s : Section) (count : ℕ) (b : State) → Wait e s count b (happened b (waits_of b.home e s count) none)
  waits_once e s count b =
      cond_both (leb b.home.yard.engines e.0 || not (has_section b.home s)) _ _ (λ (p : Home × Event). Wait e s count b (happened b p none)) (λ _. (inl refl, refl))
      (λ _. (
        elim (noted_either b.home e s count (queries.holder_of b.home s)) [ inl q ↦ inl (ap (λ (h : Home). with_home b h) q) | inr q ↦ inr (ap (λ (h : Home). with_home b h) q) ],
        emit_records (noted_for b.home e s count (queries.holder_of b.home s)).0 (noted_for b.home e s count (queries.holder_of b.home s)).1 none ∙ ap listed (noted_quiet b.home e s count (queries.holder_of b.home s)),
      ))

  sent_once : (e : Engine) (s : Section) (count change : ℕ) (b : State) (h : Holder) → Wait e s count b (wait_sent b e s count change h none)
  sent_once e s count change b None = (inl refl, refl)
  sent_once e s count change b (Some x) =
      cond_both (eqb (home_of b.home.yard x).0 b.home.number.0) _ _ (Wait e s count b) (λ _. waits_once e s count b) (λ _. (inl refl, refl))

  wait_once : (from : BoxNumber) (e : Engine) (s : Section) (count change : ℕ) (b : State) → Wait e s count b (wait_at_box b from e s count change none)
  wait_once from e s count change b =
      cond_both (eqb s.keeper.0 b.home.number.0) _ _ (Wait e s count b)
      (λ _. cond_both (is_home b.home.yard from e) _ _ (Wait e s count b)
      (λ _. cond_both (eqb change (change_number_at b.keeper.table s.place)) _ _ (Wait e s count b)
      (λ _. sent_once e s count change b (holder_of (holder_at b.keeper.table s.place))) (λ _. (inl refl, refl)))
      (λ _. (inl refl, refl)))
      (λ _. cond_both (eqb from.0 s.keeper.0) _ _ (Wait e s count b) (λ _. waits_once e s count b) (λ _. (inl refl, refl)))

  wait_twice : (b : State) (from : BoxNumber) (e : Engine) (s : Section) (count change : ℕ) → BoxTwice (λ z. wait_at_box z from e s count change none) b
  wait_twice b from e s count change =
      let first = wait_once from e s count change b in
      elim first.0 [
        | inl same ↦ twice_same NoRecords (λ z. wait_at_box z from e s count change none) b same first.1
        | inr new ↦
            let c = with_home b (noting e s count b.home) in
            let second = wait_once from e s count change c in
            subst (λ (z : State). ((wait_at_box z from e s count change none).0 ≡ z) × NoRecords (wait_at_box z from e s count change none).1) (sym new)
            (elim second.0 [ inl same ↦ same | inr same ↦ same ∙ ap (λ (h : Home). with_home b h) (noting_twice e s count b.home) ], second.1)
      ]

  -- a change that an engine of ours has heard leaves it as it is
  module _ (s : Section) (h : Holder) (change : ℕ) (si : SectionIn y s) (hi : HolderIn y h) (ci : change < 2 ^ 32) where
    abbrev Settled : ℕ → State → Type 0
    Settled k b = is_ours b.home (engine k) ≡ true → (change_at (at b.home (engine k)) (engine k) b.home.yard.engines s h change).0 ≡ at b.home (engine k)

    -- the first of the engines have heard it
    abbrev Heard : ℕ → State × Log → Type 0
    Heard j p = Shaped y n p × ((k : ℕ) → k < j → Settled k p.0)

    hear-one : (j : ℕ) (p : State × Log) → Heard j p → Heard (suc j) (change_for s h change (engine j) p)
    hear-one j p (shape, settled) = (change_for_shape y n s h change j p si hi ci shape, by (is_ours p.0.home (engine j)) refl)
      where
        x : engines.State
        x = (change_at (at p.0.home (engine j)) (engine j) p.0.home.yard.engines s h change).0

        After : State × Log → Type 0
        After q = (k : ℕ) → k < suc j → Settled k q.0

        ours-settled : is_ours p.0.home (engine j) ≡ true → (k : ℕ) → k < suc j → Settled k (with_home p.0 (with p.0.home (engine j) x))
        ours-settled ours k lt mine =
            let put = put_in_one p.0.home (sized shape.0.engines) (engine j) x (small p.0 (engine j) shape.0 ours) in
            elim (cases_eq k j) [
              | inl q ↦
                  subst (λ (i : ℕ). (change_at (at (with p.0.home (engine j) x) (engine i)) (engine i) p.0.home.yard.engines s h change).0 ≡ at (with p.0.home (engine j) x) (engine i)) (sym q)
                  (subst (λ (u : engines.State). (change_at u (engine j) p.0.home.yard.engines s h change).0 ≡ u) (sym put.1)
                  (same_again.1 (engine j) p.0.home.yard.engines s h change (at p.0.home (engine j))))
              | inr q ↦
                  subst (λ (u : engines.State). (change_at u (engine k) p.0.home.yard.engines s h change).0 ≡ u) (sym (put.2 (engine k) q)) (settled k (omega arith) mine)
            ]

        not-settled : is_ours p.0.home (engine j) ≡ false → After p
        not-settled other k lt mine =
            elim (cases_eq k j) [
              | inl q ↦ absurd (both_ways (is_ours p.0.home (engine j)) other (subst (λ (i : ℕ). is_ours p.0.home (engine i) ≡ true) q mine))
              | inr q ↦ settled k (omega arith) mine
            ]

        by : (t : Bool) → is_ours p.0.home (engine j) ≡ t → After (change_for s h change (engine j) p)
        by true is =
            subst After (sym (cond-true (is_ours p.0.home (engine j)) (happened p.0 (change_of p.0.home (engine j) s h change) p.1) p is))
            (subst (λ (r : Home × Event). After (happened p.0 r p.1))
            (sym (cond-true (is_ours p.0.home (engine j)) (put_in p.0.home (engine j) (change_at (at p.0.home (engine j)) (engine j) p.0.home.yard.engines s h change)) _ is)) (ours-settled is))
        by false is = subst After (sym (cond-false (is_ours p.0.home (engine j)) _ p is)) (not-settled is)

    hear-all : (j : ℕ) (p : State × Log) → Shaped y n p → Heard j (each (λ k. change_for s h change (engine k)) j p)
    unfolding each
    hear-all zero p shape = (shape, λ k lt. absurd (omega arith))
    hear-all (suc j) p shape = hear-one j (each (λ k. change_for s h change (engine k)) j p) (hear-all j p shape)

    -- heard by one that has heard it
    same-one : (b : State) (j : ℕ) (l : Log) → InShape y n b → Settled j b → NoRecords l → Same b (change_for s h change (engine j) (b, l))
    same-one b j l i settled quiet =
        cond_both (is_ours b.home (engine j)) _ _ (Same b)
        (λ ours.
        let now = at_settled b.home (engine j) (λ x. change_at x (engine j) b.home.yard.engines s h change) b.home.yard.engines (i.engines.fits (engine j) (small b (engine j) i ours)).used
        (event_tells.1 (at b.home (engine j)) (engine j) b.home.yard.engines s h change) (change_sound b.home.yard.engines (at b.home (engine j)) (engine j) s h change) (settled ours) in
        let v = change_at (at b.home (engine j)) (engine j) b.home.yard.engines s h change in
        subst (λ (r : Home × Event). Same b (happened b r l)) (sym (cond-true (is_ours b.home (engine j)) (put_in b.home (engine j) v) _ ours))
        (ap (λ (g : Home). with_home b g) now.0, emit_records (with b.home (engine j) v.0) v.1 l ∙ ap (λ (o : Option Record). l.records ++ listed o) now.1 ∙ append-nil l.records ∙ quiet))
        (λ _. (refl, quiet))

    same_next : (b c : State) (j : ℕ) (l : Log) → InShape y n b → Settled j b → c ≡ b → NoRecords l → Same b (change_for s h change (engine j) (c, l))
    same_next b c j l i settled is quiet = subst (λ (z : State). Same b (change_for s h change (engine j) (z, l))) (sym is) (same-one b j l i settled quiet)

    hear-twice : (b : State) → InShape y n b → BoxTwice (λ z. each (λ k. change_for s h change (engine k)) z.home.yard.engines (z, none)) b
    hear-twice b i =
        let many = b.home.yard.engines in
        let first = hear-all many (b, none) (i, (tt, tt)) in
        let c = (each (λ k. change_for s h change (engine k)) many (b, none)).0 in
        let name : c.home.yard.engines ≡ many = ap (λ (z : Yard). z.engines) (first.0.0.yard ∙ sym i.yard) in
        each_keeps (Same c) (λ k. change_for s h change (engine k)) c.home.yard.engines
        (λ k p lt same. same_next c p.0 k p.1 first.0.0 (first.1 k (omega arith)) same.0 same.1) (c, none) (refl, refl)

  changed_twice : (b : State) (from : BoxNumber) (s : Section) (h : Holder) (change : ℕ) → InShape y n b → SectionIn y s → HolderIn y h → change < 2 ^ 32 → BoxTwice (λ z. changed_at z from s h change none) b
  changed_twice b from s h change i si hi ci =
      twice_cond NoRecords (λ z. eqb from.0 s.keeper.0) (λ z. each (λ k. change_for s h change (engine k)) z.home.yard.engines (z, none)) (λ z. refused z none) b
      (λ is. (is, hear-twice s h change si hi ci b i))
      (λ is. (is, (refl, refl)))

  -- THE SAME MESSAGE AGAIN changes nothing of the box, and nothing is recorded of it
  pub received_twice : (b : State) (from : BoxNumber) (m : Message) → InShape y n b → MessageIn y m → BoxTwice (λ z. received_of z from m none) b
  received_twice b from (message.Call c) i mi = called_twice b from c i.calls i.table
  received_twice b from (message.Answer e k answer) i mi = answer_twice b from e k answer.reply answer.holder answer.change i
  received_twice b from (message.Change news) i mi = changed_twice b from news.section news.holder news.change i mi.0 mi.1 mi.2
  received_twice b from (message.WhichChange e s) i mi =
      let asked : Same b (which_at b from e s none) = cond_both (for_us b from e s) _ _ (Same b) (λ _. (refl, refl)) (λ _. (refl, refl)) in
      twice_same NoRecords (λ z. which_at z from e s none) b asked.0 asked.1
  received_twice b from (message.Sign telling) i mi = sign_twice b from telling.to telling.count telling.by telling.sign i
  received_twice b from (message.Waits waiting) i mi = wait_twice b from waiting.engine waiting.section waiting.count waiting.change
