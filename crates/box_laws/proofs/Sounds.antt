-- What a home records could have been written: a call's number is the next, an own sign leaves its engine's number.
use Rattle.std.specs.Prelude.{None, Some}
use Rattle.std.proofs.Common.{◌≡◌, ℕ, ◌+◌, ◌%◌, ◌^◌, Bool, true, false, cond, not, ◌||◌, eqb, ltb, leb, get_or, is_some, Some, None, Ok, Err, Option, Result, sym, refl, ◌∙◌, subst, arith}
use Rattle.std.proofs.lemmas.Bool.{and_from, cond_both, cond-true, eq-eqb, leb-false, or_parts}
use Rattle.messages.specs.declared.yard.BoxNumber.{BoxNumber}
use Rattle.messages.specs.declared.yard.Engine.{Engine}
use Rattle.messages.specs.declared.yard.Section.{Section}
use Rattle.messages.specs.declared.message.Act.{Act}
use Rattle.messages.specs.declared.message.Act.TheVariants as act
use Rattle.messages.specs.declared.message.Call.{Call}
use Rattle.messages.specs.Holder.{Holder}
use Rattle.messages.specs.declared.message.Record.{Record}
use Rattle.messages.specs.declared.message.Refusal.{Refusal}
use Rattle.messages.specs.declared.message.Refusal.TheVariants as refusal
use Rattle.messages.specs.declared.message.Reply.{Reply}
use Rattle.messages.specs.declared.message.Reply.TheVariants as reply
use Rattle.signs.specs.declared.Engine as signs
use Rattle.signs.specs.declared.Refusal as sign_refusal
use Rattle.signs.specs.declared.Heard as sound
use Rattle.signs.specs.declared.Heard.TheVariants.{TellOn, Found, PassedOver}
use Rattle.signs.specs.Signs.{begin_of, has_room, listen_of, next_own, out_of_range}
use Rattle.signs.proofs.Lowest.{own_is_lowest}
use Rattle.engine_state.specs.declared.state.Event.{Event}
use Rattle.engine_state.specs.declared.state.Event.TheVariants as event
use Rattle.engine_state.specs.declared.state.State.{State}
use Rattle.engine_state.specs.declared.state.Stored.{Stored}
use Rattle.engine_state.specs.declared.state.Wait.{Wait}
use Rattle.engine_state.specs.State.{next_number, next_of}
use Rattle.engine_state.specs.Calls.{call_of, free_call, giving_back, holds_of, next_call, open_of, take_call, wait_of}
use Rattle.engine_state.specs.Inputs.{answer_at, answer_to, answered, awaited, begin_at, begun_with, change_at, gave_up_by, heard_waiting, is_later, listened, passed_to, refused_by, sign_at, waits_for}
use Rattle.home.specs.declared.home.Home.{Home}
use Rattle.home.specs.Home.{at, is_home, is_ours}
use Rattle.home.specs.Queries.{holder_of, is_next, note_at}
use Rattle.home.specs.Inputs.{at_ours, freed, freeing, has_section, is_older, noted_for, taken, taking}
use Rattle.home_laws.specs.Told.{Became, Tells}
use Rattle.home_laws.specs.Steps as steps
use Rattle.home_laws.specs.Steps.{Input, record_of, step_of}
use Rattle.home_laws.proofs.Telling.{event_tells}
use Rattle.boxes.specs.Opening.{is_sound, leaves}

-- a call has the next number of its engine
abbrev pub Next : State → Call → Type 0
Next x c = next_number x.stored c.section.keeper ≡ Some c.number

-- an event of an engine of so many: a call has the next number, an own sign leaves its engine's number
abbrev pub Sound : ℕ → State → Event → Type 0
Sound engines x event.PassedOver = Unit {0}
Sound engines x (event.Refused r) = Unit {0}
Sound engines x (event.RefusedBy r) = Unit {0}
Sound engines x (event.Had e s) = Unit {0}
Sound engines x event.Closed = Unit {0}
Sound engines x (event.Called c) = Next x c
Sound engines x (event.Found c) = Next x c
Sound engines x (event.Began start) = (start.own % engines ≡ start.engine.0) × (start.count ≡ x.signs.count + 1)
Sound engines x (event.Heard e s) = Unit {0}
Sound engines x (event.Noted telling) = Unit {0}

module _ (engines : ℕ) where
  abbrev Gives : State → State × Event → Type 0
  Gives x p = Sound engines x p.1

  abbrev OwnIs : signs.Engine → ℕ → Result signs.Engine sign_refusal.Refusal → Type 0
  OwnIs g me (Err r) = Unit {0}
  OwnIs g me (Ok f) = (f.own % engines ≡ me) × (f.count ≡ g.count + 1)

  begin_own : (g : signs.Engine) (me w : ℕ) → OwnIs g me (begin_of g me engines w)
  begin_own g me w =
      cond_both (out_of_range me engines w) _ _ (OwnIs g me) (λ _. tt)
      (λ fine.
      let front = or_parts (eqb engines 0 || ltb 64 engines || leb engines me) (leb engines w) fine in
      let last = or_parts (eqb engines 0 || ltb 64 engines) (leb engines me) front.0 in
      cond_both (eqb w me) _ _ (OwnIs g me) (λ _. tt)
      (λ _. cond_both (has_room g (next_own g.shown me engines)) _ _ (OwnIs g me) (λ _. ((own_is_lowest g.shown me engines (leb-false engines me last.1)).leaves, refl)) (λ _. tt)))

  begun_sound : (x : State) (e : Engine) (s : Section) (change : ℕ) (w : Engine) (r : Result signs.Engine sign_refusal.Refusal) → OwnIs x.signs e.0 r → Gives x (begun_with x e s change w r)
  begun_sound x e s change w (Err r) is = tt
  begun_sound x e s change w (Ok g) is = is

  begin_sound : (x : State) (e : Engine) (s : Section) (change : ℕ) (w : Engine) → Gives x (begin_at x e engines s change w)
  begin_sound x e s change w = begun_sound x e s change w (begin_of x.signs e.0 engines w.0) (begin_own x.signs e.0 w.0)

  refused_sound : (x z : State) (r : Refusal) → Gives x (refused_by x z r)
  refused_sound x z refusal.Malformed = tt
  refused_sound x z refusal.WrongCall = tt
  refused_sound x z refusal.Waiting = tt
  refused_sound x z refusal.Mismatch = tt
  refused_sound x z refusal.Stale = tt
  refused_sound x z refusal.Exhausted = tt

  waits_sound : (x : State) (c : Call) (change : ℕ) (h : Holder) → Gives x (waits_for x c engines change h)
  waits_sound x c change None = tt
  waits_sound x c change (Some f) = cond_both (eqb f.0 c.engine.0) _ _ (Gives x) (λ _. tt) (λ _. begin_sound x c.engine c.section change f)

  to_sound : (x : State) (c : Call) (r : Reply) (h : Holder) (change : ℕ) (a : Act) → Gives x (answer_to x c engines r h change a)
  to_sound x c reply.Done h change act.Take = tt
  to_sound x c reply.Waits h change act.Take = waits_sound x c change h
  to_sound x c (reply.Refused r) h change act.Take = refused_sound x _ r
  to_sound x c reply.Done h change act.Free = tt
  to_sound x c reply.Waits h change act.Free = tt
  to_sound x c (reply.Refused r) h change act.Free = refused_sound x _ r
  to_sound x c reply.Done h change act.GiveUp = tt
  to_sound x c reply.Waits h change act.GiveUp = tt
  to_sound x c (reply.Refused r) h change act.GiveUp = refused_sound x _ r

  answered_sound : (x : State) (r : Reply) (h : Holder) (change : ℕ) (o : Option Call) → Gives x (answered x engines r h change o)
  answered_sound x r h change None = tt
  answered_sound x r h change (Some c) = to_sound x c r h change c.act

  pub answer_sound : (x : State) (from : BoxNumber) (e : Engine) (n : ℕ) (r : Reply) (h : Holder) (change : ℕ) → Gives x (answer_at x from e engines n r h change)
  unfolding answer_at
  answer_sound x from e n r h change = answered_sound x r h change (awaited x from e n)

  passed_sound : (x : State) (e : Engine) (s : Section) (change : ℕ) (h : Holder) → Gives x (passed_to x e engines s change h)
  passed_sound x e s change None = tt
  passed_sound x e s change (Some w) = cond_both (eqb w.0 e.0) _ _ (Gives x) (λ _. tt) (λ _. begin_sound x e s change w)

  pub change_sound : (x : State) (e : Engine) (s : Section) (h : Holder) (change : ℕ) → Gives x (change_at x e engines s h change)
  unfolding change_at
  change_sound x e s h change = cond_both (is_later (wait_of x) s change) _ _ (Gives x) (λ _. passed_sound x e s change h) (λ _. tt)

  -- a call, where there is one, has the next number
  abbrev NextIs : State → Result Call Refusal → Type 0
  NextIs x (Err r) = Unit {0}
  NextIs x (Ok c) = Next x c

  next_is : (x : State) (a : Act) (e : Engine) (s : Section) → NextIs x (next_call x a e s)
  next_is x a e s = by (next_number x.stored s.keeper) refl
    where
      by : (o : Option ℕ) → next_number x.stored s.keeper ≡ o → NextIs x (call_of a e s o)
      by None is = tt
      by (Some n) is = is

  gave_up_sound : (x : State) (r : Result Call Refusal) → NextIs x r → Gives x (gave_up_by x r)
  gave_up_sound x (Err r) is = tt
  gave_up_sound x (Ok c) is = is

  listened_sound : (x : State) (e : Engine) (s : Section) (r : Result (signs.Engine × sound.Heard) sign_refusal.Refusal) → Gives x (listened x e s r)
  listened_sound x e s (Err r) = tt
  listened_sound x e s (Ok (g, TellOn sign)) = tt
  listened_sound x e s (Ok (g, Found)) = gave_up_sound x (next_call x act.GiveUp e s) (next_is x act.GiveUp e s)
  listened_sound x e s (Ok (g, PassedOver)) = tt

  heard_sound : (x : State) (e : Engine) (count : ℕ) (by : Engine) (sign : ℕ) (w : Option Wait) → Gives x (heard_waiting x e count by sign w)
  heard_sound x e count by sign None = tt
  heard_sound x e count by sign (Some w) = listened_sound x e w.section (listen_of x.signs by.0 count sign)

  pub sign_sound : (x : State) (e : Engine) (count : ℕ) (by : Engine) (sign : ℕ) → Gives x (sign_at x e count by sign)
  unfolding sign_at
  sign_sound x e count by sign = heard_sound x e count by sign (wait_of x)

  take_next : (x : State) (e : Engine) (s : Section) → NextIs x (take_call x e s)
  take_next x e s =
      cond_both (is_some (open_of x e) || giving_back x) _ _ (NextIs x) (λ _. tt)
      (λ _. cond_both (is_some (wait_of x)) _ _ (NextIs x) (λ _. tt) (λ _. cond_both (holds_of x s) _ _ (NextIs x) (λ _. tt) (λ _. next_is x act.Take e s)))

  free_next : (x : State) (e : Engine) (s : Section) → NextIs x (free_call x e s)
  free_next x e s =
      cond_both (is_some (open_of x e)) _ _ (NextIs x) (λ _. tt)
      (λ _. cond_both (is_some (wait_of x)) _ _ (NextIs x) (λ _. tt) (λ _. cond_both (holds_of x s) _ _ (NextIs x) (λ _. next_is x act.Free e s) (λ _. tt)))

-- what an event asks to be recorded could have been written
abbrev pub RecordSound : Home → Option Record → Type 0
RecordSound h None = Unit {0}
RecordSound h (Some r) = is_sound h r ≡ true

pub next_number_lem : (x : Stored) (b : BoxNumber) (n : ℕ) → next_number x b ≡ Some n → (ltb b.0 16 ≡ true) × (get_or x.used b.0 0 + 1 ≡ n)
next_number_lem x b n q = by_box (ltb b.0 16) refl q
  where
    by-room : (t : Bool) → cond t (Some (get_or x.used b.0 0 + 1)) None ≡ Some n → get_or x.used b.0 0 + 1 ≡ n
    by-room true p = cc
    by-room false p = let z : ◌≡◌ {A = ℕ} 0 1 = cc in absurd (omega arith)

    by_box : (t : Bool) → ltb b.0 16 ≡ t → cond t (next_of (get_or x.used b.0 0)) None ≡ Some n → (ltb b.0 16 ≡ true) × (get_or x.used b.0 0 + 1 ≡ n)
    by_box true is p = (is, by-room (ltb (get_or x.used b.0 0 + 1) (2 ^ 32)) p)
    by_box false is p = let z : ◌≡◌ {A = ℕ} 0 1 = cc in absurd (omega arith)

-- a call of one of ours with the next number is sound
made_sound : (h : Home) (e : Engine) (c : Call) → is_ours h e ≡ true → c.engine ≡ e → Next (at h e) c → is_next h c ≡ true
made_sound h e c ours same next =
    let here : is_ours h c.engine ≡ true = subst (λ (f : Engine). is_ours h f ≡ true) (sym same) ours in
    let there : Next (at h c.engine) c = subst (λ (f : Engine). Next (at h f) c) (sym same) next in
    let parts = next_number_lem (at h c.engine).stored c.section.keeper c.number there in
    cond-true (is_ours h c.engine) _ false here ∙
    and_from (ltb c.section.keeper.0 16) (eqb (get_or (at h c.engine).stored.used c.section.keeper.0 0 + 1) c.number) parts.0
    (eq-eqb (get_or (at h c.engine).stored.used c.section.keeper.0 0 + 1) c.number parts.1)

event_sound : (h : Home) (e : Engine) (v : Event) (z : State) → is_ours h e ≡ true → Became e (at h e) v z → Sound h.yard.engines (at h e) v → RecordSound h (record_of v)
event_sound h e event.PassedOver z ours b s = tt
event_sound h e (event.Refused r) z ours b s = tt
event_sound h e (event.RefusedBy r) z ours b s = tt
event_sound h e (event.Had f p) z ours b s = tt
event_sound h e event.Closed z ours b s = tt
event_sound h e (event.Called c) z ours b s = made_sound h e c ours b.0 s
event_sound h e (event.Found c) z ours b s = made_sound h e c ours b.0 s
event_sound h e (event.Began start) z ours b s =
    and_from (is_ours h start.engine) (leaves h start.engine start.own) (subst (λ (g : Engine). is_ours h g ≡ true) (sym b.0) ours) (eq-eqb (start.own % h.yard.engines) start.engine.0 s.0)
event_sound h e (event.Heard f sign) z ours b s = subst (λ (g : Engine). is_ours h g ≡ true) (sym b.0) ours
event_sound h e (event.Noted telling) z ours b s = tt

abbrev Records : Home → Home × Event → Type 0
Records h p = RecordSound h (record_of p.1)

at_sound : (h : Home) (e : Engine) (f : State → State × Event) → Tells e (at h e) (f (at h e)) → Sound h.yard.engines (at h e) (f (at h e)).1 → Records h (at_ours h e f)
at_sound h e f tells s =
    cond_both (is_ours h e) _ _ (Records h) (λ ours. event_sound h e (f (at h e)).1 (f (at h e)).0 ours tells s) (λ _. tt)

-- the call that a take or a free makes is of an engine of ours, and has its next number
abbrev Ours : Home → Engine → Result Call Refusal → Type 0
Ours h e (Err r) = Unit {0}
Ours h e (Ok c) = (is_ours h e ≡ true) × (c.engine ≡ e) × Next (at h e) c

-- whose call it is
abbrev Mine : Engine → Result Call Refusal → Type 0
Mine e (Err r) = Unit {0}
Mine e (Ok c) = c.engine ≡ e

next_mine : (a : Act) (e : Engine) (s : Section) (o : Option ℕ) → Mine e (call_of a e s o)
next_mine a e s None = tt
next_mine a e s (Some n) = refl

take_mine : (x : State) (e : Engine) (s : Section) → Mine e (take_call x e s)
take_mine x e s =
    cond_both (is_some (open_of x e) || giving_back x) _ _ (Mine e) (λ _. tt)
    (λ _. cond_both (is_some (wait_of x)) _ _ (Mine e) (λ _. tt) (λ _. cond_both (holds_of x s) _ _ (Mine e) (λ _. tt) (λ _. next_mine act.Take e s (next_number x.stored s.keeper))))

free_mine : (x : State) (e : Engine) (s : Section) → Mine e (free_call x e s)
free_mine x e s =
    cond_both (is_some (open_of x e)) _ _ (Mine e) (λ _. tt)
    (λ _. cond_both (is_some (wait_of x)) _ _ (Mine e) (λ _. tt) (λ _. cond_both (holds_of x s) _ _ (Mine e) (λ _. next_mine act.Free e s (next_number x.stored s.keeper)) (λ _. tt)))

both : (h : Home) (e : Engine) (r : Result Call Refusal) → is_ours h e ≡ true → Mine e r → NextIs h.yard.engines (at h e) r → Ours h e r
both h e (Err r) ours mine next = tt
both h e (Ok c) ours mine next = (ours, mine, next)

taken_sound : (h : Home) (e : Engine) (r : Result Call Refusal) → Ours h e r → Records h (taken h r)
taken_sound h e (Err r) is = tt
taken_sound h e (Ok c) is = made_sound h e c is.0 is.1 is.2

freed_sound : (h : Home) (e : Engine) (s : Section) (r : Result Call Refusal) → Ours h e r → Records h (freed h s r)
freed_sound h e s (Err r) is = tt
freed_sound h e s (Ok c) is = made_sound h e c is.0 is.1 is.2

noted_sound : (h : Home) (e : Engine) (s : Section) (count : ℕ) (o : Option Engine) → Records h (noted_for h e s count o)
noted_sound h e s count None = tt
noted_sound h e s count (Some by) =
    cond_both (leb 64 e.0 || is_older count (note_at h e)) _ _ (Records h) (λ _. tt) (λ _. cond_both (is_ours h by) _ _ (Records h) (λ _. tt) (λ _. tt))

-- whatever comes to a home, the record of its event could have been written
pub step_sound : (h : Home) (i : Input) → RecordSound h (record_of (step_of h i).1)
step_sound h (steps.take e s) =
    taken_sound h e (taking h e s)
    (cond_both (is_ours h e) _ _ (Ours h e) (λ ours. cond_both (has_section h s) _ _ (Ours h e) (λ _. both h e (take_call (at h e) e s) ours (take_mine (at h e) e s) (take_next h.yard.engines (at h e) e s)) (λ _. tt)) (λ _. tt))
step_sound h (steps.free e s) =
    freed_sound h e s (freeing h e s)
    (cond_both (is_ours h e) _ _ (Ours h e) (λ ours. cond_both (has_section h s) _ _ (Ours h e) (λ _. both h e (free_call (at h e) e s) ours (free_mine (at h e) e s) (free_next h.yard.engines (at h e) e s)) (λ _. tt)) (λ _. tt))
step_sound h (steps.answer from e n r holder c) =
    at_sound h e (λ (x : State). answer_at x from e h.yard.engines n r holder c) (event_tells.0 (at h e) from e h.yard.engines n r holder c) (answer_sound h.yard.engines (at h e) from e n r holder c)
step_sound h (steps.change e s holder c) =
    at_sound h e (λ (x : State). change_at x e h.yard.engines s holder c) (event_tells.1 (at h e) e h.yard.engines s holder c) (change_sound h.yard.engines (at h e) e s holder c)
step_sound h (steps.sign from e count by s) =
    cond_both (is_home h.yard from by) _ _ (Records h)
    (λ _. at_sound h e (λ (x : State). sign_at x e count by s) (event_tells.2 (at h e) e count by s) (sign_sound h.yard.engines (at h e) e count by s))
    (λ _. tt)
step_sound h (steps.waits e s count) = cond_both (leb h.yard.engines e.0 || not (has_section h s)) _ _ (Records h) (λ _. tt) (λ _. noted_sound h e s count (holder_of h s))
