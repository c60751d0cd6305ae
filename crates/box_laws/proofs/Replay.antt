-- The records that a box writes, read back one after another, make what is stored of it.
use Rattle.std.specs.Prelude.{None, Some}
use Rattle.std.proofs.Common.{◌≡◌, ℕ, ◌+◌, ◌%◌, Bool, true, false, cond, not, ◌&&◌, ◌||◌, eqb, ltb, leb, List, [], ◌∷◌, ◌++◌, length, get_or, set, Some, None, Ok, Err, Option, Result, sym, refl, ap, ◌∙◌, subst, arith}
use Rattle.std.proofs.lemmas.List.{append-nil}
use Rattle.std.proofs.lemmas.Bool.{and_parts, both_ways, cond_both, cond-true}
use Rattle.std.specs.Option.{ok_or}
use Rattle.messages.specs.declared.yard.BoxNumber.{BoxNumber}
use Rattle.messages.specs.declared.yard.Engine.{Engine}
use Rattle.messages.specs.declared.yard.Section.{Section}
use Rattle.messages.specs.declared.yard.Yard.{Yard}
use Rattle.messages.specs.declared.message.Call.{Call}
use Rattle.messages.specs.Holder.{Holder}
use Rattle.messages.specs.declared.message.Message.{Message}
use Rattle.messages.specs.declared.message.Message.TheVariants as message
use Rattle.messages.specs.declared.message.Record.{Record}
use Rattle.messages.specs.declared.message.Record.TheVariants as journal
use Rattle.messages.specs.declared.message.Refusal.{Refusal}
use Rattle.messages.specs.declared.message.Refusal.TheVariants as refusal
use Rattle.messages.specs.Reading.{message_of}
use Rattle.sections.specs.Table.{change_number_at, holder_at}
use Rattle.signs.specs.declared.Engine as sign
use Rattle.signs.specs.declared.table.Engines.{Engines}
use Rattle.signs.specs.Signs.{idle, showing}
use Rattle.signs.specs.Table as table
use Rattle.engine_state.specs.declared.state.Event.{Event}
use Rattle.engine_state.specs.declared.state.Event.TheVariants as event
use Rattle.engine_state.specs.declared.state.Mode.TheVariants as mode
use Rattle.engine_state.specs.declared.state.State as engines
use Rattle.engine_state.specs.declared.state.Stored.{Stored}
use Rattle.engine_state.specs.declared.state.Wait.{Wait}
use Rattle.engine_state.specs.State.{begun, heard, made, stored_after, unread}
use Rattle.engine_state.specs.Inputs.{answer_at, change_at, sign_at}
use Rattle.keeper.specs.Model as keeper
use Rattle.keeper.specs.Calls.{call_of}
use Rattle.keeper.specs.Homes.{told_of}
use Rattle.keeper.specs.Promise.{Followed}
use Rattle.keeper.specs.Words.{holder_of}
use Rattle.keeper.specs.declared.Verdict.{Verdict}
use Rattle.keeper.specs.declared.Verdict.TheVariants as verdict
use Rattle.keeper.proofs.OneCall.{followed}
use Rattle.home.specs.declared.home.Home.{Home}
use Rattle.home.specs.Noted.{Noted}
use Rattle.home.specs.Home.{apply_of, at, is_home, is_ours, with}
use Rattle.home.specs.Queries.{engine, holds_at, note_at}
use Rattle.home.specs.Queries as queries
use Rattle.home.specs.Inputs.{at_ours, freed, freeing, has_section, is_older, noted_for, taken, taking}
use Rattle.home_laws.specs.Steps as steps
use Rattle.home_laws.specs.Steps.{record_of, step_of, stored_of}
use Rattle.home_laws.proofs.Steps.{stored_by_record}
use Rattle.boxes.specs.declared.signal_box.Input.{Input}
use Rattle.boxes.specs.declared.signal_box.Input.TheVariants as input
use Rattle.boxes.specs.Log.{Log, none}
use Rattle.messages.specs.Homes.{home_of}
use Rattle.boxes.specs.Emit.{emit_of, tell_noted, tell_of, tells_of}
use Rattle.boxes.specs.Model.{State, with_home, with_keeper}
use Rattle.boxes.specs.Keeping.{called_at, change_to, changes_of, for_us, refused, ruled_log}
use Rattle.boxes.specs.Handle.{
  change_for,
  changed_at,
  decoded_of,
  delivered_of,
  handle_of,
  happened,
  open_again,
  received_of,
  second_for,
  second_of,
  tell_again,
  wait_again,
  wait_at_box,
  wait_sent,
}
use Rattle.boxes.specs.Opening.{is_sound, kept_again, open_from, replay_of, used_up}
use Rattle.box_laws.specs.Runs.{SameStored}
use Rattle.box_laws.proofs.Logs.{each_keeps}
use Rattle.box_laws.proofs.Sounds.{RecordSound, step_sound}

-- records read back from a box to a box, each of which could have been written
abbrev pub Replays : State → List Record → State → Type 0
Replays b [] c = b ≡ c
Replays b (r ∷ rs) c = ((replay_of b r).1 ≡ true) × Replays (replay_of b r).0 rs c

pub replays_open : (rs : List Record) (b c : State) → Replays b rs c → (i : ℕ) → open_from i rs b ≡ Ok c
unfolding open_from
replays_open [] b c q i = ap Ok q
replays_open (r ∷ rs) b c q i = cond-true (replay_of b r).1 _ _ q.0 ∙ replays_open rs (replay_of b r).0 c q.1 (i + 1)

same_ok : (b c : State) → ◌≡◌ {A = Result State ℕ} (Ok b) (Ok c) → b ≡ c
same_ok b c q = cc

ok_not_err : (b : State) (i : ℕ) → ◌≡◌ {A = Result State ℕ} (Err i) (Ok b) → ⊥
ok_not_err b i q = let z : ◌≡◌ {A = ℕ} 0 1 = cc in omega arith

pub open_replays : (rs : List Record) (b c : State) (i : ℕ) → open_from i rs b ≡ Ok c → Replays b rs c
unfolding open_from
open_replays [] b c i q = same_ok b c q
open_replays (r ∷ rs) b c i q = by (replay_of b r).1 refl q (open_replays rs (replay_of b r).0 c (i + 1))
  where
    by : (t : Bool) → (replay_of b r).1 ≡ t → cond t (open_from (i + 1) rs (replay_of b r).0) (Err i) ≡ Ok c → (open_from (i + 1) rs (replay_of b r).0 ≡ Ok c → Replays (replay_of b r).0 rs c) →
        Replays b (r ∷ rs) c
    by true is p rest = (is, rest p)
    by false is p rest = absurd (ok_not_err c i p)

pub replays_on : (rs qs : List Record) (b c d : State) → Replays b rs c → Replays c qs d → Replays b (rs ++ qs) d
replays_on [] qs b c d q more = subst (λ (z : State). Replays z qs d) (sym q) more
replays_on (r ∷ rs) qs b c d q more = (q.0, replays_on rs qs (replay_of b r).0 c d q.1 more)

pub same_refl : (b : State) → SameStored b b
same_refl b = record { yard = refl; number = refl; keeper = refl; signs = refl; stored = refl }

pub same_on : (b c d : State) → SameStored b c → SameStored c d → SameStored b d
same_on b c d p q = record { yard = p.yard ∙ q.yard; number = p.number ∙ q.number; keeper = p.keeper ∙ q.keeper; signs = p.signs ∙ q.signs; stored = p.stored ∙ q.stored }

-- WHAT A RECORD MAKES of homes of which the same is stored
next_same : (y z : Yard) (m n : BoxNumber) (s t : List Stored) → y ≡ z → m ≡ n → s ≡ t → (c : Call) →
    cond (is_home y m c.engine) (ltb c.section.keeper.0 16 && eqb (get_or (get_or s c.engine.0 unread).used c.section.keeper.0 0 + 1) c.number) false ≡
    cond (is_home z n c.engine) (ltb c.section.keeper.0 16 && eqb (get_or (get_or t c.engine.0 unread).used c.section.keeper.0 0 + 1) c.number) false
next_same y z m n s t p q r c = rw (p, q, r) refl

leaves_same : (y z : Yard) (m n : BoxNumber) → y ≡ z → m ≡ n → (e : Engine) (own : ℕ) → (is_home y m e && eqb (own % y.engines) e.0) ≡ (is_home z n e && eqb (own % z.engines) e.0)
leaves_same y z m n p q e own = rw (p, q) refl

ours_same : (h g : Home) → h.yard ≡ g.yard → h.number ≡ g.number → (e : Engine) → is_ours h e ≡ is_ours g e
ours_same h g p q e = ap (λ (y : Yard). is_home y h.number e) p ∙ ap (λ (n : BoxNumber). is_home g.yard n e) q

sound_same : (h g : Home) → h.yard ≡ g.yard → h.number ≡ g.number → h.stored ≡ g.stored → (r : Record) → is_sound h r ≡ is_sound g r
sound_same h g p q s (journal.Kept c) = refl
sound_same h g p q s (journal.Made c) = next_same h.yard g.yard h.number g.number h.stored g.stored p q s c
sound_same h g p q s (journal.Beginning holder waits own) = leaves_same h.yard g.yard h.number g.number p q waits.engine own
sound_same h g p q s (journal.Heard e sign) = ours_same h g p q e

-- what a change of one engine makes of what is stored, whatever is known besides
abbrev Parts : Type 0
Parts = Engines × List Stored

abbrev put_parts : ℕ → (Stored → Stored) → (sign.Engine → sign.Engine) → Parts → Parts
put_parts e f g p = (table.with p.0 e (g (table.engine_at p.0 e)), set p.1 e (f (get_or p.1 e unread)))

parts_same : (e : Engine) (f : Stored → Stored) (k : sign.Engine → sign.Engine) (h g : Parts) (t u : Bool) → t ≡ u → h ≡ g → cond t (put_parts e.0 f k h) h ≡ cond u (put_parts e.0 f k g) g
parts_same e f k h g t u p q = rw (p, q) refl

cond_parts : (t : Bool) (h g : Home) → stored_of (cond t h g) ≡ cond t (stored_of h) (stored_of g)
cond_parts true h g = refl
cond_parts false h g = refl

applied_same : (h g : Home) (e : Engine) (F : engines.State → engines.State) (f : Stored → Stored) (k : sign.Engine → sign.Engine) →
    ((x : engines.State) → (F x).stored ≡ f x.stored) → ((x : engines.State) → (F x).signs ≡ k x.signs) → is_ours h e ≡ is_ours g e → stored_of h ≡ stored_of g →
    stored_of (cond (is_ours h e) (with h e (F (at h e))) h) ≡ stored_of (cond (is_ours g e) (with g e (F (at g e))) g)
applied_same h g e F f k first second ours same =
    cond_parts (is_ours h e) (with h e (F (at h e))) h ∙
    ap (λ (z : Parts). cond (is_ours h e) z (stored_of h)) (is h) ∙
    parts_same e f k (stored_of h) (stored_of g) (is_ours h e) (is_ours g e) ours same ∙
    ap (λ (z : Parts). cond (is_ours g e) z (stored_of g)) (sym (is g)) ∙
    sym (cond_parts (is_ours g e) (with g e (F (at g e))) g)
  where
    is : (j : Home) → stored_of (with j e (F (at j e))) ≡ put_parts e.0 f k (stored_of j)
    is j = ap (λ (z : sign.Engine). (table.with j.signs e.0 z, set j.stored e.0 (F (at j e)).stored)) (second (at j e)) ∙
        ap (λ (z : Stored). (table.with j.signs e.0 (k (at j e).signs), set j.stored e.0 z)) (first (at j e))

apply_same : (h g : Home) → h.yard ≡ g.yard → h.number ≡ g.number → stored_of h ≡ stored_of g → (r : Record) → stored_of (apply_of h r) ≡ stored_of (apply_of g r)
apply_same h g p q same (journal.Kept c) = same
apply_same h g p q same (journal.Made c) =
    applied_same h g c.engine (λ x. made x c) (λ x. stored_after x c) idle (λ x. refl) (λ x. refl) (ours_same h g p q c.engine) same
apply_same h g p q same (journal.Beginning holder waits own) =
    applied_same h g waits.engine (λ x. begun x waits.section waits.change holder waits.count own) (λ x. record { mode = mode.Waiting waits.section waits.change; used = x.used; kept = x.kept; asked = x.asked })
    (λ x. record { wait = Some holder.0; count = waits.count; shown = own; own = own }) (λ x. refl) (λ x. refl) (ours_same h g p q waits.engine) same
apply_same h g p q same (journal.Heard e sign) = applied_same h g e (λ x. heard x sign) (λ x. x) (λ x. showing x sign) (λ x. refl) (λ x. refl) (ours_same h g p q e) same

-- a record and an input leave a home its yard and its number
abbrev pub SameName : Home → Home → Type 0
SameName h g = (g.yard ≡ h.yard) × (g.number ≡ h.number)

apply_name : (h : Home) (r : Record) → SameName h (apply_of h r)
apply_name h (journal.Kept c) = (refl, refl)
apply_name h (journal.Made c) = cond_both (is_ours h c.engine) _ _ (SameName h) (λ _. (refl, refl)) (λ _. (refl, refl))
apply_name h (journal.Beginning holder waits own) = cond_both (is_ours h waits.engine) _ _ (SameName h) (λ _. (refl, refl)) (λ _. (refl, refl))
apply_name h (journal.Heard e sign) = cond_both (is_ours h e) _ _ (SameName h) (λ _. (refl, refl)) (λ _. (refl, refl))

abbrev pub Named : Home → Home × Event → Type 0
Named h p = SameName h p.0

at_named : (h : Home) (e : Engine) (f : engines.State → engines.State × Event) → Named h (at_ours h e f)
at_named h e f = cond_both (is_ours h e) _ _ (Named h) (λ _. (refl, refl)) (λ _. (refl, refl))

taken_named : (h : Home) (r : Result Call Refusal) → Named h (taken h r)
taken_named h (Err r) = (refl, refl)
taken_named h (Ok c) = apply_name h (journal.Made c)

freed_named : (h : Home) (s : Section) (r : Result Call Refusal) → Named h (freed h s r)
freed_named h s (Err r) = (refl, refl)
freed_named h s (Ok c) = apply_name h (journal.Made c)

pub noted_named : (h : Home) (e : Engine) (s : Section) (count : ℕ) (o : Option Engine) → Named h (noted_for h e s count o)
noted_named h e s count None = (refl, refl)
noted_named h e s count (Some by) =
    cond_both (leb 64 e.0 || is_older count (note_at h e)) _ _ (Named h) (λ _. (refl, refl)) (λ _. cond_both (is_ours h by) _ _ (Named h) (λ _. (refl, refl)) (λ _. (refl, refl)))

pub step_named : (h : Home) (i : steps.Input) → Named h (step_of h i)
step_named h (steps.take e s) = taken_named h (taking h e s)
step_named h (steps.free e s) = freed_named h s (freeing h e s)
step_named h (steps.answer from e n r holder c) = at_named h e (λ x. answer_at x from e h.yard.engines n r holder c)
step_named h (steps.change e s holder c) = at_named h e (λ x. change_at x e h.yard.engines s holder c)
step_named h (steps.sign from e count by s) = cond_both (is_home h.yard from by) _ _ (Named h) (λ _. at_named h e (λ x. sign_at x e count by s)) (λ _. (refl, refl))
step_named h (steps.waits e s count) =
    cond_both (leb h.yard.engines e.0 || not (has_section h s)) _ _ (Named h) (λ _. (refl, refl)) (λ _. noted_named h e s count (queries.holder_of h s))

-- WHAT IS RECORDED of each input: a list of one record at most, behind what there was
abbrev pub listed : Option Record → List Record
listed None = []
listed (Some r) = r ∷ []

tell_records : (h : Home) (by : Engine) (sign : ℕ) (x : Engine) (m : Noted) (l : Log) → (tell_noted h by sign x m l).records ≡ l.records
tell_records h by sign x None l = refl
tell_records h by sign x (Some seen) l = cond_both (holds_at h by seen.section) _ _ (λ (z : Log). z.records ≡ l.records) (λ _. refl) (λ _. refl)

tells_records : (h : Home) (by : Engine) (sign : ℕ) (l : Log) → (tells_of h by sign l).records ≡ l.records
tells_records h by sign l =
    each_keeps (λ (z : Log). z.records ≡ l.records) (λ k. tell_of h by sign (engine k)) h.yard.engines (λ k z lt q. tell_records h by sign (engine k) (note_at h (engine k)) z ∙ q) l refl

pub emit_records : (h : Home) (v : Event) (l : Log) → (emit_of h v l).records ≡ l.records ++ listed (record_of v)
emit_records h event.PassedOver l = sym (append-nil l.records)
emit_records h (event.Refused r) l = sym (append-nil l.records)
emit_records h (event.RefusedBy r) l = sym (append-nil l.records)
emit_records h (event.Had e s) l = sym (append-nil l.records)
emit_records h event.Closed l = sym (append-nil l.records)
emit_records h (event.Called c) l = refl
emit_records h (event.Found c) l = refl
emit_records h (event.Began start) l = tells_records h start.engine start.own _
emit_records h (event.Heard e s) l = tells_records h e s _
emit_records h (event.Noted telling) l = sym (append-nil l.records)

-- the same of a box with another home
abbrev stored_pair : (b c : State) → SameStored b c → stored_of b.home ≡ stored_of c.home
stored_pair b c q = ap (λ (z : Engines). (z, b.home.stored)) q.signs ∙ ap (λ (z : List Stored). (c.home.signs, z)) q.stored

-- a sound record of a home is read back
home_replay : (c : State) (r : Record) → is_sound c.home r ≡ true → replay_of c r ≡ (with_home c (apply_of c.home r), true)
home_replay c (journal.Kept d) is = absurd (both_ways false refl is)
home_replay c (journal.Made d) is = cond-true (is_sound c.home (journal.Made d)) _ _ is
home_replay c (journal.Beginning holder waits own) is = cond-true (is_sound c.home (journal.Beginning holder waits own)) _ _ is
home_replay c (journal.Heard e sign) is = cond-true (is_sound c.home (journal.Heard e sign)) _ _ is

changes_records : (b : State) (s : Section) (h : Holder) (change : ℕ) (l : Log) → (changes_of b s h change l).records ≡ l.records
changes_records b s h change l =
    each_keeps (λ (z : Log). z.records ≡ l.records) (λ k. change_to b s h change k) b.home.yard.boxes
    (λ k z lt q. cond_both (told_of b.home.yard k b.keeper.table s.place) _ _ (λ (u : Log). u.records ≡ l.records) (λ _. q) (λ _. q)) l refl

pub ruled_records : (b : State) (c : Call) (v : Verdict) (l : Log) → (ruled_log b c v l).records ≡ l.records ++ cond (used_up v) (journal.Kept c ∷ []) []
ruled_records b c verdict.Malformed l = sym (append-nil l.records)
ruled_records b c verdict.PassedOver l = sym (append-nil l.records)
ruled_records b c (verdict.Again a) l = sym (append-nil l.records)
ruled_records b c (verdict.AtLimit a) l = sym (append-nil l.records)
ruled_records b c (verdict.Refused r a) l = refl
ruled_records b c (verdict.Done a) l = refl
ruled_records b c (verdict.PassedOn a) l = changes_records b c.section a.holder a.change _

-- what uses up no number changes nothing
pub unused : (k : keeper.State) (c : Call) (after : keeper.State) (v : Verdict) → Followed k c after v → used_up v ≡ false → after ≡ k
unused k c after verdict.Malformed f is = f
unused k c after verdict.PassedOver f is = f.0
unused k c after (verdict.Again a) f is = f.0
unused k c after (verdict.AtLimit a) f is = f.0
unused k c after (verdict.Refused r a) f is = absurd (both_ways true is refl)
unused k c after (verdict.Done a) f is = absurd (both_ways true is refl)
unused k c after (verdict.PassedOn a) f is = absurd (both_ways true is refl)

-- a keeper whose tables are whole
abbrev pub Whole : keeper.State → Type 0
Whole k = (length k.calls ≡ 64) × (length k.table ≡ 64)

module _ (start : State) where
  -- the records so far, read back from the start, make what is stored of the box
  abbrev pub Backed : State × Log → Type 0
  Backed p = (c : State) × Replays start p.1.records c × SameStored c p.0

  -- nothing recorded, and nothing stored changed
  quiet : (b d : State) (l m : Log) → Backed (b, l) → SameStored b d → m.records ≡ l.records → Backed (d, m)
  quiet b d l m (c, rep, same) still q = (c, subst (λ (rs : List Record). Replays start rs c) (sym q) rep, same_on c b d same still)

  -- one record more, which makes what is stored now
  one_more : (d : State) (l m : Log) (c : State) (r : Record) → Replays start l.records c → (replay_of c r).1 ≡ true → SameStored (replay_of c r).0 d → m.records ≡ l.records ++ r ∷ [] → Backed (d, m)
  one_more d l m c r rep fine same q =
      ((replay_of c r).0, subst (λ (rs : List Record). Replays start rs (replay_of c r).0) (sym q) (replays_on l.records (r ∷ []) start c (replay_of c r).0 rep (fine, refl)), same)

  happened_backed : (b : State) (i : steps.Input) (l : Log) → Backed (b, l) → Backed (happened b (step_of b.home i) l)
  happened_backed b i l (c, rep, same) = by (record_of (step_of b.home i).1) refl
    where
      h : Home
      h = (step_of b.home i).0

      names : SameName b.home h
      names = step_named b.home i

      by : (o : Option Record) → record_of (step_of b.home i).1 ≡ o → Backed (happened b (step_of b.home i) l)
      by None is =
          let kept : stored_of h ≡ stored_of b.home = stored_by_record b.home i ∙ ap (λ (o : Option Record). stored_of (steps.applied b.home o)) is in
          quiet b (with_home b h) l (emit_of h (step_of b.home i).1 l) (c, rep, same)
          (record { yard = sym names.0; number = sym names.1; keeper = refl; signs = sym (ap (λ (p : Parts). p.0) kept); stored = sym (ap (λ (p : Parts). p.1) kept) })
          (emit_records h (step_of b.home i).1 l ∙ ap (λ (o : Option Record). l.records ++ listed o) is ∙ append-nil l.records)
      by (Some r) is =
          let kept : stored_of h ≡ stored_of (apply_of b.home r) = stored_by_record b.home i ∙ ap (λ (o : Option Record). stored_of (steps.applied b.home o)) is in
          let fine : is_sound b.home r ≡ true = subst (RecordSound b.home) is (step_sound b.home i) in
          let here : is_sound c.home r ≡ true = sound_same c.home b.home same.yard same.number same.stored r ∙ fine in
          let made : stored_of (apply_of c.home r) ≡ stored_of h = apply_same c.home b.home same.yard same.number (stored_pair c b same) r ∙ sym kept in
          let back = home_replay c r here in
          let mine = apply_name c.home r in
          one_more (with_home b h) l (emit_of h (step_of b.home i).1 l) c r rep (ap (λ (p : State × Bool). p.1) back)
          (subst (λ (p : State × Bool). SameStored p.0 (with_home b h)) (sym back)
          (record {
            yard = mine.0 ∙ same.yard ∙ sym names.0;
            number = mine.1 ∙ same.number ∙ sym names.1;
            keeper = same.keeper;
            signs = ap (λ (p : Parts). p.0) made;
            stored = ap (λ (p : Parts). p.1) made;
          }))
          (emit_records h (step_of b.home i).1 l ∙ ap (λ (o : Option Record). l.records ++ listed o) is)

  -- a call to a section of the box that used up its number is read back
  kept_replay : (c : State) (d : Call) → eqb d.section.keeper.0 c.home.number.0 ≡ true → replay_of c (journal.Kept d) ≡ kept_again c (call_of c.keeper d)
  kept_replay c d is = cond-true (eqb d.section.keeper.0 c.home.number.0) _ _ is

  called_backed : (b : State) (from : BoxNumber) (d : Call) (l : Log) → Whole b.keeper → Backed (b, l) → Backed (called_at b from d l)
  called_backed b from d l whole (c, rep, same) =
      cond_both (for_us b from d.engine d.section) _ _ Backed
      (λ ours. by (and_parts (eqb d.section.keeper.0 b.home.number.0) (is_home b.home.yard from d.engine) ours).0 (used_up (call_of b.keeper d).1) refl)
      (λ _. (c, rep, same))
    where
      k : keeper.State
      k = (call_of b.keeper d).0

      v : Verdict
      v = (call_of b.keeper d).1

      log : Log
      log = ruled_log (with_keeper b k) d v l

      by : eqb d.section.keeper.0 b.home.number.0 ≡ true → (t : Bool) → used_up v ≡ t → Backed (with_keeper b k, log)
      by here true is =
          let there : eqb d.section.keeper.0 c.home.number.0 ≡ true = ap (λ (n : BoxNumber). eqb d.section.keeper.0 n.0) same.number ∙ here in
          let back = kept_replay c d there in
          let call : call_of c.keeper d ≡ (k, v) = ap (λ (z : keeper.State). call_of z d) same.keeper in
          one_more (with_keeper b k) l log c (journal.Kept d) rep
          (ap (λ (p : State × Bool). p.1) back ∙ ap (λ (p : keeper.State × Verdict). used_up p.1) call ∙ is)
          (subst (λ (p : State × Bool). SameStored p.0 (with_keeper b k)) (sym back)
          (record { yard = same.yard; number = same.number; keeper = ap (λ (p : keeper.State × Verdict). p.0) call; signs = same.signs; stored = same.stored }))
          (ruled_records (with_keeper b k) d v l ∙ ap (λ (t : Bool). l.records ++ cond t (journal.Kept d ∷ []) []) is)
      by here false is =
          quiet b (with_keeper b k) l log (c, rep, same)
          (record { yard = refl; number = refl; keeper = sym (unused b.keeper d k v (followed b.keeper whole.0 whole.1 d) is); signs = refl; stored = refl })
          (ruled_records (with_keeper b k) d v l ∙ ap (λ (t : Bool). l.records ++ cond t (journal.Kept d ∷ []) []) is ∙ append-nil l.records)

  refused_backed : (b : State) (l : Log) → Backed (b, l) → Backed (refused b l)
  refused_backed b l i = i

  changed_backed : (b : State) (from : BoxNumber) (s : Section) (h : Holder) (change : ℕ) (l : Log) → Backed (b, l) → Backed (changed_at b from s h change l)
  changed_backed b from s h change l i =
      cond_both (eqb from.0 s.keeper.0) _ _ Backed
      (λ _.
      each_keeps Backed (λ k. change_for s h change (engine k)) b.home.yard.engines
      (λ k p lt pi. cond_both (is_ours p.0.home (engine k)) _ _ Backed (λ _. happened_backed p.0 (steps.change (engine k) s h change) p.1 pi) (λ _. pi)) (b, l) i)
      (λ _. refused_backed b l i)

  sent_backed : (b : State) (e : Engine) (s : Section) (count change : ℕ) (h : Holder) (l : Log) → Backed (b, l) → Backed (wait_sent b e s count change h l)
  sent_backed b e s count change None l i = i
  sent_backed b e s count change (Some x) l i =
      cond_both (eqb (home_of b.home.yard x).0 b.home.number.0) _ _ Backed (λ _. happened_backed b (steps.waits e s count) l i) (λ _. i)

  wait_backed : (b : State) (from : BoxNumber) (e : Engine) (s : Section) (count change : ℕ) (l : Log) → Backed (b, l) → Backed (wait_at_box b from e s count change l)
  wait_backed b from e s count change l i =
      cond_both (eqb s.keeper.0 b.home.number.0) _ _ Backed
      (λ _. cond_both (is_home b.home.yard from e) _ _ Backed
      (λ _. cond_both (eqb change (change_number_at b.keeper.table s.place)) _ _ Backed
      (λ _. sent_backed b e s count change (holder_of (holder_at b.keeper.table s.place)) l i) (λ _. i))
      (λ _. refused_backed b l i))
      (λ _. cond_both (eqb from.0 s.keeper.0) _ _ Backed (λ _. happened_backed b (steps.waits e s count) l i) (λ _. refused_backed b l i))

  -- whatever message comes, the records so far and those that it makes stand for what is stored then
  pub replay_received : (b : State) (from : BoxNumber) (m : Message) (l : Log) → Whole b.keeper → Backed (b, l) → Backed (received_of b from m l)
  replay_received b from (message.Call c) l whole i = called_backed b from c l whole i
  replay_received b from (message.Answer e k told) l whole i = happened_backed b (steps.answer from e k told.reply told.holder told.change) l i
  replay_received b from (message.Change news) l whole i = changed_backed b from news.section news.holder news.change l i
  replay_received b from (message.WhichChange e s) l whole i = cond_both (for_us b from e s) _ _ Backed (λ _. i) (λ _. refused_backed b l i)
  replay_received b from (message.Sign telling) l whole i = happened_backed b (steps.sign from telling.to telling.count telling.by telling.sign) l i
  replay_received b from (message.Waits waiting) l whole i = wait_backed b from waiting.engine waiting.section waiting.count waiting.change l i

  open_records : (o : Option Call) (l : Log) → (open_again o l).records ≡ l.records
  open_records None l = refl
  open_records (Some c) l = refl

  wait_records : (e : Engine) (o : Option Wait) (l : Log) → (wait_again e o l).records ≡ l.records
  wait_records e None l = refl
  wait_records e (Some w) l = refl

  tell_again_records : (h : Home) (e : Engine) (o : Option sign.Engine) (l : Log) → (tell_again h e o l).records ≡ l.records
  tell_again_records h e None l = refl
  tell_again_records h e (Some x) l = tells_records h e x.shown l

  second_records : (h : Home) (l : Log) → (second_of h l).records ≡ l.records
  second_records h l =
      each_keeps (λ (z : Log). z.records ≡ l.records) (λ k. second_for h (engine k)) h.yard.engines
      (λ k z lt q. tell_again_records h (engine k) (queries.signs_at h (engine k)) _ ∙ wait_records (engine k) (queries.wait_at h (engine k)) _ ∙ open_records (queries.open_at h (engine k)) z ∙ q) l refl

  pub replay_handled : (b : State) (j : Input) (l : Log) → Whole b.keeper → Backed (b, l) → Backed (handle_of b j l)
  replay_handled b (input.Take e s) l whole i = happened_backed b (steps.take e s) l i
  replay_handled b (input.Free e s) l whole i = happened_backed b (steps.free e s) l i
  replay_handled b (input.Received from m) l whole i = replay_received b from m l whole i
  replay_handled b input.Second l whole i = quiet b b l (second_of b.home l) i (same_refl b) (second_records b.home l)

  decoded_backed : (b : State) (from : BoxNumber) (o : Option Message) (l : Log) → Whole b.keeper → Backed (b, l) → Backed (decoded_of b from (ok_or o refusal.Malformed) l)
  decoded_backed b from None l whole i = i
  decoded_backed b from (Some m) l whole i = replay_received b from m l whole i

  pub replay_delivered : (b : State) (from : BoxNumber) (bytes : List ℕ) (l : Log) → Whole b.keeper → Backed (b, l) → Backed (delivered_of b from bytes l)
  replay_delivered b from bytes l whole i = decoded_backed b from (message_of b.home.yard bytes) l whole i

-- records that stand for what is stored of a box, and those of its next input, stand for what is stored after it
pub replay_on : (k : ℕ) (rs : List Record) (begin c : State) (p : State × Log) → open_from k rs begin ≡ Ok c → Backed c p →
    (d : State) × (open_from k (rs ++ p.1.records) begin ≡ Ok d) × SameStored d p.0
replay_on k rs begin c p q (d, rep, now) =
    (d, replays_open (rs ++ p.1.records) begin d (replays_on rs p.1.records begin c d (open_replays rs begin c k q) rep) k, now)

-- a box is backed by no record from one of which the same is stored
pub backed_none : (c b : State) → SameStored c b → Backed c (b, none)
backed_none c b same = (c, refl, same)
