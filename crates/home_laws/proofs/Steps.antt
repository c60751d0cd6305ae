-- Input by input: what an event tells of its engine, put into the home.
use Rattle.std.proofs.Common.{◌≡◌, ℕ, Bool, true, false, cond, not, ◌||◌, leb, List, set, Some, None, Ok, Err, Option, Result, sym, refl, ap, ◌∙◌, subst, inl, inr}
use Rattle.std.proofs.lemmas.List.{set-get_or}
use Rattle.std.proofs.lemmas.Bool.{cond-true}
use Rattle.messages.specs.declared.yard.Engine.{Engine}
use Rattle.messages.specs.declared.yard.Section.{Section}
use Rattle.messages.specs.declared.message.Call.{Call}
use Rattle.messages.specs.declared.message.Refusal.{Refusal}
use Rattle.messages.specs.declared.message.Refusal.TheVariants as refusal
use Rattle.signs.specs.Signs as whom
use Rattle.signs.specs.declared.table.Engines.{Engines}
use Rattle.signs.specs.Table as table
use Rattle.engine_state.specs.declared.state.Event.{Event}
use Rattle.engine_state.specs.declared.state.Event.TheVariants as event
use Rattle.engine_state.specs.declared.state.Known.{Known}
use Rattle.engine_state.specs.declared.state.Known.TheVariants as known
use Rattle.engine_state.specs.declared.state.State.{State}
use Rattle.engine_state.specs.declared.state.Stored.{Stored}
use Rattle.engine_state.specs.State.{made, begun, heard, knowing, unread}
use Rattle.engine_state.specs.Inputs.{answer_at, change_at, sign_at}
use Rattle.home.specs.declared.home.Home.{Home}
use Rattle.home.specs.Home.{is_home, is_ours, at, with, if_ours}
use Rattle.home.specs.Queries.{note_at, holder_of}
use Rattle.home.specs.Inputs.{has_section, taking, freeing, taken, freed, put_in, at_ours, is_older, with_notes, noted_for}
use Rattle.home_laws.specs.Told.{Became, Tells}
use Rattle.home_laws.specs.Steps.{take, free, answer, change, sign, waits, TurnedAway, TurnedAwayChangesNothing, stored_of, record_of, applied, StoredByRecord}
use Rattle.home_laws.proofs.Telling.{event_tells}

same_table :
    {w v : List whom.Wait} {c d s t o p : List ℕ} → w ≡ v → c ≡ d → s ≡ t → o ≡ p →
    ◌≡◌ {A = Engines} (record { waits = w; counts = c; shown = s; own = o }) (record { waits = v; counts = d; shown = t; own = p })
same_table a b c d = cc

-- putting back what was read changes nothing
table_same : (t : Engines) (e : ℕ) → table.with t e (table.engine_at t e) ≡ t
table_same t e = same_table (set-get_or t.waits e None) (set-get_or t.counts e 0) (set-get_or t.shown e 0) (set-get_or t.own e 0)

with_parts : (h : Home) (t : Engines) (xs : List Stored) (ks : List Known) → t ≡ h.signs → xs ≡ h.stored → ks ≡ h.known →
    ◌≡◌ {A = Home} (record { yard = h.yard; number = h.number; signs = t; stored = xs; known = ks; notes = h.notes }) h
with_parts h t xs ks a b c = subst (λ (z : Engines). record { yard = h.yard; number = h.number; signs = z; stored = xs; known = ks; notes = h.notes } ≡ h) (sym a) (subst (λ (z : List Stored). record { yard = h.yard; number = h.number; signs = h.signs; stored = z; known = ks; notes = h.notes } ≡ h) (sym b) (subst (λ (z : List Known). record { yard = h.yard; number = h.number; signs = h.signs; stored = h.stored; known = z; notes = h.notes } ≡ h) (sym c) refl))

with_same : (h : Home) (e : Engine) → with h e (at h e) ≡ h
with_same h e = with_parts h _ _ _ (table_same h.signs e.0) (set-get_or h.stored e.0 unread) (set-get_or h.known e.0 known.Pending)

quiet : (e : Engine) (x : State) (v : Event) (y : State) → TurnedAway v → Became e x v y → y ≡ x
quiet e x event.PassedOver y t b = b
quiet e x (event.Refused r) y t b = b
quiet e x (event.RefusedBy r) y t b = absurd t
quiet e x (event.Had f s) y t b = absurd t
quiet e x event.Closed y t b = absurd t
quiet e x (event.Called c) y t b = absurd t
quiet e x (event.Found c) y t b = absurd t
quiet e x (event.Began start) y t b = absurd t
quiet e x (event.Heard f s) y t b = absurd t
quiet e x (event.Noted telling) y t b = absurd t

abbrev Still : Home → Home × Event → Type 0
Still h p = TurnedAway p.1 → p.0 ≡ h

still_either : (h : Home) (t : Bool) (p q : Home × Event) → Still h p → Still h q → Still h (cond t p q)
still_either h true p q a b = a
still_either h false p q a b = b

still_at : (h : Home) (e : Engine) (f : State → State × Event) → Tells e (at h e) (f (at h e)) → Still h (at_ours h e f)
still_at h e f tells =
    still_either h (is_ours h e) (put_in h e (f (at h e))) (h, event.Refused refusal.Malformed)
    (λ t. ap (λ (z : State). with h e z) (quiet e (at h e) (f (at h e)).1 (f (at h e)).0 t tells) ∙ with_same h e)
    (λ t. refl)

still_taken : (h : Home) (r : Result Call Refusal) → Still h (taken h r)
still_taken h (Err r) t = refl
still_taken h (Ok c) t = absurd t

still_freed : (h : Home) (s : Section) (r : Result Call Refusal) → Still h (freed h s r)
still_freed h s (Err r) t = refl
still_freed h s (Ok c) t = absurd t

still_noted : (h : Home) (e : Engine) (s : Section) (count : ℕ) (o : Option Engine) → Still h (noted_for h e s count o)
still_noted h e s count None = λ t. refl
still_noted h e s count (Some by) =
    still_either h (leb 64 e.0 || is_older count (note_at h e)) (h, event.PassedOver) (cond (is_ours h by) (with_notes h (set h.notes e.0 (Some (record { section = s; count = count }))), event.Noted (record { to = e; count = count; by = by; sign = (at h by).signs.shown })) (h, event.PassedOver)) (λ t. refl) (still_either h (is_ours h by) (with_notes h (set h.notes e.0 (Some (record { section = s; count = count }))), event.Noted (record { to = e; count = count; by = by; sign = (at h by).signs.shown })) (h, event.PassedOver) (λ t. absurd t) (λ t. refl))

pub turned_away_changes_nothing : TurnedAwayChangesNothing
turned_away_changes_nothing h (take e s) = still_taken h (taking h e s)
turned_away_changes_nothing h (free e s) = still_freed h s (freeing h e s)
turned_away_changes_nothing h (answer from e n r holder c) =
    still_at h e (λ (x : State). answer_at x from e h.yard.engines n r holder c) (event_tells.0 (at h e) from e h.yard.engines n r holder c)
turned_away_changes_nothing h (change e s holder c) =
    still_at h e (λ (x : State). change_at x e h.yard.engines s holder c) (event_tells.1 (at h e) e h.yard.engines s holder c)
turned_away_changes_nothing h (sign from e count by s) =
    still_either h (is_home h.yard from by) (at_ours h e (λ (x : State). sign_at x e count by s)) (h, event.Refused refusal.Malformed)
    (still_at h e (λ (x : State). sign_at x e count by s) (event_tells.2 (at h e) e count by s))
    (λ t. refl)
turned_away_changes_nothing h (waits e s count) =
    still_either h (leb h.yard.engines e.0 || not (has_section h s)) (h, event.Refused refusal.Malformed) (noted_for h e s count (holder_of h s))
    (λ t. refl) (still_noted h e s count (holder_of h s))

abbrev Filed : Home → Home × Event → Type 0
Filed h p = stored_of p.0 ≡ stored_of (applied h (record_of p.1))

filed_either : (h : Home) (t : Bool) (p q : Home × Event) → Filed h p → Filed h q → Filed h (cond t p q)
filed_either h true p q a b = a
filed_either h false p q a b = b

-- what is known is not stored
known_only : (h : Home) (e : Engine) (k : Known) (y : State) → y ≡ knowing (at h e) k → stored_of (with h e y) ≡ stored_of h
known_only h e k y is = ap (λ (z : State). stored_of (with h e z)) is ∙ ap stored_of (with_same h e)

nothing : (h : Home) (e : Engine) (y : State) → y ≡ at h e → stored_of (with h e y) ≡ stored_of h
nothing h e y is = ap (λ (z : State). stored_of (with h e z)) is ∙ ap stored_of (with_same h e)

recorded :
    (h : Home) (e f : Engine) (F : State → State) (y : State) → is_ours h e ≡ true → f ≡ e → y ≡ F (at h e) → stored_of (with h e y) ≡ stored_of (if_ours h f F)
recorded h e f F y ours same is =
    subst (λ (g : Engine). stored_of (with h e y) ≡ stored_of (if_ours h g F)) (sym same)
    (ap (λ (z : State). stored_of (with h e z)) is ∙ ap stored_of (sym (cond-true (is_ours h e) (with h e (F (at h e))) h ours)))

filed : (h : Home) (e : Engine) → is_ours h e ≡ true → (v : Event) (y : State) → Became e (at h e) v y → stored_of (with h e y) ≡ stored_of (applied h (record_of v))
filed h e ours event.PassedOver y b = nothing h e y b
filed h e ours (event.Refused r) y b = nothing h e y b
filed h e ours (event.RefusedBy r) y (inl b) = known_only h e known.Had y b
filed h e ours (event.RefusedBy r) y (inr b) = known_only h e known.Closed y b
filed h e ours (event.Had f s) y b = known_only h e known.Had y b
filed h e ours event.Closed y b = known_only h e known.Closed y b
filed h e ours (event.Called c) y b = recorded h e c.engine (λ (x : State). made x c) y ours b.0 b.1
filed h e ours (event.Found c) y b = recorded h e c.engine (λ (x : State). made x c) y ours b.0 b.1
filed h e ours (event.Began start) y b = recorded h e start.engine (λ (x : State). begun x start.section start.change start.holder start.count start.own) y ours b.0 b.1
filed h e ours (event.Heard f s) y b = recorded h e f (λ (x : State). heard x s) y ours b.0 b.2
filed h e ours (event.Noted telling) y b = nothing h e y b

filed_at : (h : Home) (e : Engine) (f : State → State × Event) → Tells e (at h e) (f (at h e)) → Filed h (at_ours h e f)
filed_at h e f tells = by-ours (is_ours h e) refl
  where
    by-ours : (t : Bool) → is_ours h e ≡ t → Filed h (cond t (put_in h e (f (at h e))) (h, event.Refused refusal.Malformed))
    by-ours true ours = filed h e ours (f (at h e)).1 (f (at h e)).0 tells
    by-ours false ours = refl

filed_taken : (h : Home) (r : Result Call Refusal) → Filed h (taken h r)
filed_taken h (Err r) = refl
filed_taken h (Ok c) = refl

filed_freed : (h : Home) (s : Section) (r : Result Call Refusal) → Filed h (freed h s r)
filed_freed h s (Err r) = refl
filed_freed h s (Ok c) = refl

filed_noted : (h : Home) (e : Engine) (s : Section) (count : ℕ) (o : Option Engine) → Filed h (noted_for h e s count o)
filed_noted h e s count None = refl
filed_noted h e s count (Some by) =
    filed_either h (leb 64 e.0 || is_older count (note_at h e)) (h, event.PassedOver) (cond (is_ours h by) (with_notes h (set h.notes e.0 (Some (record { section = s; count = count }))), event.Noted (record { to = e; count = count; by = by; sign = (at h by).signs.shown })) (h, event.PassedOver)) refl (filed_either h (is_ours h by) (with_notes h (set h.notes e.0 (Some (record { section = s; count = count }))), event.Noted (record { to = e; count = count; by = by; sign = (at h by).signs.shown })) (h, event.PassedOver) refl refl)

pub stored_by_record : StoredByRecord
stored_by_record h (take e s) = filed_taken h (taking h e s)
stored_by_record h (free e s) = filed_freed h s (freeing h e s)
stored_by_record h (answer from e n r holder c) =
    filed_at h e (λ (x : State). answer_at x from e h.yard.engines n r holder c) (event_tells.0 (at h e) from e h.yard.engines n r holder c)
stored_by_record h (change e s holder c) =
    filed_at h e (λ (x : State). change_at x e h.yard.engines s holder c) (event_tells.1 (at h e) e h.yard.engines s holder c)
stored_by_record h (sign from e count by s) =
    filed_either h (is_home h.yard from by) (at_ours h e (λ (x : State). sign_at x e count by s)) (h, event.Refused refusal.Malformed)
    (filed_at h e (λ (x : State). sign_at x e count by s) (event_tells.2 (at h e) e count by s))
    refl
stored_by_record h (waits e s count) =
    filed_either h (leb h.yard.engines e.0 || not (has_section h s)) (h, event.Refused refusal.Malformed) (noted_for h e s count (holder_of h s))
    refl (filed_noted h e s count (holder_of h s))
