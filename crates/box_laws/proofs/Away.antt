-- A refusal said first comes of an event that changes nothing, or of a verdict that changes no section.
use Rattle.std.specs.Prelude.{None, Some}
use Rattle.std.proofs.Common.{◌≡◌, ℕ, not, ◌||◌, eqb, leb, List, [], ◌∷◌, ◌++◌, length, Some, None, Ok, Err, Option, Result, sym, refl, ap, ◌∙◌, subst}
use Rattle.std.proofs.lemmas.Bool.{cond_both}
use Rattle.messages.specs.declared.yard.BoxNumber.{BoxNumber}
use Rattle.messages.specs.declared.yard.Engine.{Engine}
use Rattle.messages.specs.declared.yard.Section.{Section}
use Rattle.messages.specs.declared.message.Act.{Act}
use Rattle.messages.specs.declared.message.Act.TheVariants as act
use Rattle.messages.specs.declared.message.Call.{Call}
use Rattle.messages.specs.Holder.{Holder}
use Rattle.messages.specs.declared.message.Message.{Message}
use Rattle.messages.specs.declared.message.Message.TheVariants as message
use Rattle.messages.specs.declared.message.Record.TheVariants as journal
use Rattle.messages.specs.declared.message.Refusal.{Refusal}
use Rattle.messages.specs.declared.message.Reply.{Reply}
use Rattle.messages.specs.declared.message.Reply.TheVariants as reply
use Rattle.sections.specs.Table.{change_number_at, holder_at}
use Rattle.signs.specs.declared.Engine as signs
use Rattle.signs.specs.declared.Refusal as signRefusal
use Rattle.signs.specs.declared.Heard as sound
use Rattle.signs.specs.declared.Heard.TheVariants.{TellOn, Found, PassedOver}
use Rattle.signs.specs.Signs.{begin_of, listen_of}
use Rattle.engine_state.specs.declared.state.Event.{Event}
use Rattle.engine_state.specs.declared.state.Event.TheVariants as event
use Rattle.engine_state.specs.declared.state.State as engines
use Rattle.engine_state.specs.declared.state.Wait.{Wait}
use Rattle.engine_state.specs.Calls.{next_call, wait_of}
use Rattle.engine_state.specs.Inputs.{answer_at, answer_to, answered, awaited, begun_with, gave_up_by, heard_waiting, listened, sign_at, waits_for}
use Rattle.keeper.specs.Model as keeper
use Rattle.keeper.specs.Calls.{call_of}
use Rattle.keeper.specs.Homes.{told_of}
use Rattle.keeper.specs.Promise.{Followed}
use Rattle.keeper.specs.Words.{holder_of}
use Rattle.keeper.specs.declared.Verdict.{Verdict}
use Rattle.keeper.specs.declared.Verdict.TheVariants as verdict
use Rattle.keeper.proofs.OneCall.{followed}
use Rattle.home.specs.declared.home.Home.{Home}
use Rattle.home.specs.Noted.{Noted}
use Rattle.home.specs.Home.{at, is_home, is_ours}
use Rattle.home.specs.Queries as queries
use Rattle.home.specs.Queries.{engine, holds_at, note_at}
use Rattle.home.specs.Inputs.{at_ours, freed, freeing, has_section, is_older, noted_for, taken, taking}
use Rattle.home_laws.specs.Steps as steps
use Rattle.home_laws.specs.Steps.{TurnedAway, step_of}
use Rattle.home_laws.proofs.Steps.{turned_away_changes_nothing}
use Rattle.journal.specs.declared.output.Output.{Output}
use Rattle.journal.specs.declared.output.Output.TheVariants as output
use Rattle.boxes.specs.declared.signal_box.Input.TheVariants as input
use Rattle.boxes.specs.Log.{Log, none, recorded, said, sent}
use Rattle.messages.specs.Homes.{home_of}
use Rattle.boxes.specs.Emit.{emit_of, tell_noted, tell_of, tells_of}
use Rattle.boxes.specs.Model.{State, with_home, with_keeper}
use Rattle.boxes.specs.Keeping.{change_to, changes_of, for_us, ruled_log}
use Rattle.boxes.specs.Handle.{happened, wait_sent}
use Rattle.box_laws.specs.Away.{IsReport, LineAway, MessageAway, RefusedFirst}
use Rattle.box_laws.proofs.Logs.{each_keeps}

-- WHAT IS SAID: no refusal but of an event that is one
abbrev Speaks : Output → Type 0
Speaks (output.Send to m) = Unit {0}
Speaks (output.Had e s) = Unit {0}
Speaks (output.GiveBack e) = Unit {0}
Speaks (output.GivingBack e) = Unit {0}
Speaks (output.Refused r) = ⊥

abbrev AllSpeak : List Output → Type 0
AllSpeak [] = Unit {0}
AllSpeak (o ∷ os) = Speaks o × AllSpeak os

abbrev NoRefusal : Log → Type 0
NoRefusal l = AllSpeak l.outputs

speak_push : (os : List Output) (o : Output) → AllSpeak os → Speaks o → AllSpeak (os ++ o ∷ [])
speak_push [] o all one = (one, tt)
speak_push (x ∷ os) o all one = (all.0, speak_push os o all.1 one)

not_first : (l : Log) → NoRefusal l → RefusedFirst l → ⊥
not_first l all (q, rest, is) = (subst AllSpeak is all).0

tell_speaks : (h : Home) (by : Engine) (sign : ℕ) (x : Engine) (m : Noted) (l : Log) → NoRefusal l → NoRefusal (tell_noted h by sign x m l)
tell_speaks h by sign x None l all = all
tell_speaks h by sign x (Some seen) l all =
    cond_both (holds_at h by seen.section) _ _ NoRefusal (λ _. speak_push l.outputs (output.Send (home_of h.yard x) (message.Sign (record { to = x; count = seen.count; by = by; sign = sign }))) all tt) (λ _. all)

tells_speak : (h : Home) (by : Engine) (sign : ℕ) (l : Log) → NoRefusal l → NoRefusal (tells_of h by sign l)
tells_speak h by sign l all =
    each_keeps NoRefusal (λ k. tell_of h by sign (engine k)) h.yard.engines (λ k z lt zi. tell_speaks h by sign (engine k) (note_at h (engine k)) z zi) l all

changes_speak : (b : State) (s : Section) (h : Holder) (change : ℕ) (l : Log) → NoRefusal l → NoRefusal (changes_of b s h change l)
changes_speak b s h change l all =
    each_keeps NoRefusal (λ k. change_to b s h change k) b.home.yard.boxes
    (λ k z lt zi.
    cond_both (told_of b.home.yard k b.keeper.table s.place) _ _ NoRefusal (λ _. speak_push z.outputs (output.Send (record { 0 = k }) (message.Change (record { section = s; holder = h; change = change }))) zi tt) (λ _. zi)) l all

-- an event that is a refusal of this box
abbrev IsRefused : Event → Type 0
IsRefused v = (r : Refusal) × (v ≡ event.Refused r)

-- an event that reports no refusal elsewhere
abbrev NotBy : Event → Type 0
NotBy event.PassedOver = Unit {0}
NotBy (event.Refused r) = Unit {0}
NotBy (event.RefusedBy r) = ⊥
NotBy (event.Had e s) = Unit {0}
NotBy event.Closed = Unit {0}
NotBy (event.Called c) = Unit {0}
NotBy (event.Found c) = Unit {0}
NotBy (event.Began start) = Unit {0}
NotBy (event.Heard e s) = Unit {0}
NotBy (event.Noted telling) = Unit {0}

refused_event : (h : Home) (v : Event) → NotBy v → RefusedFirst (emit_of h v none) → IsRefused v
refused_event h event.PassedOver no-report first = absurd (not_first none tt first)
refused_event h (event.Refused r) no-report first = (r, refl)
refused_event h (event.RefusedBy r) no-report first = absurd no-report
refused_event h (event.Had e s) no-report first = absurd (not_first (emit_of h (event.Had e s) none) (tt, tt) first)
refused_event h event.Closed no-report first = absurd (not_first none tt first)
refused_event h (event.Called c) no-report first = absurd (not_first (emit_of h (event.Called c) none) (tt, tt) first)
refused_event h (event.Found c) no-report first = absurd (not_first (emit_of h (event.Found c) none) (tt, (tt, tt)) first)
refused_event h (event.Began start) no-report first =
    absurd (not_first (emit_of h (event.Began start) none) (tells_speak h start.engine start.own (sent (recorded none (journal.Beginning start.holder (record { engine = start.engine; section = start.section; count = start.count; change = start.change }) start.own)) start.section.keeper (message.Waits (record { engine = start.engine; section = start.section; count = start.count; change = start.change }))) (tt, tt)) first)
refused_event h (event.Heard e s) no-report first = absurd (not_first (emit_of h (event.Heard e s) none) (tells_speak h e s (recorded none (journal.Heard e s)) tt) first)
refused_event h (event.Noted telling) no-report first = absurd (not_first (emit_of h (event.Noted telling) none) (tt, tt) first)

-- what is refused leaves the box as it was, and nothing else is said
happened_away : (b : State) (i : steps.Input) → NotBy (step_of b.home i).1 → RefusedFirst (happened b (step_of b.home i) none).1 →
    (q : Refusal) × (happened b (step_of b.home i) none ≡ (b, said none (output.Refused q)))
happened_away b i no-report first =
    let refused = refused_event (step_of b.home i).0 (step_of b.home i).1 no-report first in
    let same : (step_of b.home i).0 ≡ b.home = turned_away_changes_nothing b.home i (subst TurnedAway (sym refused.1) tt) in (
      refused.0,
      ap (λ (h : Home). (with_home b h, emit_of h (step_of b.home i).1 none)) same ∙ ap (λ (v : Event). (with_home b b.home, emit_of b.home v none)) refused.1,
    )

-- NO REPORT: a take, a free, a sign, a note; an answer that is no refusal
abbrev Fresh : {A : Type 0} → A × Event → Type 0
Fresh p = NotBy p.1

taken_fresh : (h : Home) (r : Result Call Refusal) → Fresh (taken h r)
taken_fresh h (Err r) = tt
taken_fresh h (Ok c) = tt

freed_fresh : (h : Home) (s : Section) (r : Result Call Refusal) → Fresh (freed h s r)
freed_fresh h s (Err r) = tt
freed_fresh h s (Ok c) = tt

noted_fresh : (h : Home) (e : Engine) (s : Section) (count : ℕ) (o : Option Engine) → Fresh (noted_for h e s count o)
noted_fresh h e s count None = tt
noted_fresh h e s count (Some by) = cond_both (leb 64 e.0 || is_older count (note_at h e)) _ _ Fresh (λ _. tt) (λ _. cond_both (is_ours h by) _ _ Fresh (λ _. tt) (λ _. tt))

waits_fresh : (h : Home) (e : Engine) (s : Section) (count : ℕ) → Fresh (step_of h (steps.waits e s count))
waits_fresh h e s count = cond_both (leb h.yard.engines e.0 || not (has_section h s)) _ _ Fresh (λ _. tt) (λ _. noted_fresh h e s count (queries.holder_of h s))

at_fresh : (h : Home) (e : Engine) (f : engines.State → engines.State × Event) → Fresh (f (at h e)) → Fresh (at_ours h e f)
at_fresh h e f fresh = cond_both (is_ours h e) _ _ Fresh (λ _. fresh) (λ _. tt)

gave_up_fresh : (x : engines.State) (r : Result Call Refusal) → Fresh (gave_up_by x r)
gave_up_fresh x (Err r) = tt
gave_up_fresh x (Ok c) = tt

listened_fresh : (x : engines.State) (e : Engine) (s : Section) (r : Result (signs.Engine × sound.Heard) signRefusal.Refusal) → Fresh (listened x e s r)
listened_fresh x e s (Err r) = tt
listened_fresh x e s (Ok (g, TellOn sign)) = tt
listened_fresh x e s (Ok (g, Found)) = gave_up_fresh x (next_call x act.GiveUp e s)
listened_fresh x e s (Ok (g, PassedOver)) = tt

waiting_fresh : (x : engines.State) (e : Engine) (count : ℕ) (by : Engine) (sign : ℕ) (w : Option Wait) → Fresh (heard_waiting x e count by sign w)
waiting_fresh x e count by sign None = tt
waiting_fresh x e count by sign (Some w) = listened_fresh x e w.section (listen_of x.signs by.0 count sign)

sign_fresh_at : (x : engines.State) (e : Engine) (count : ℕ) (by : Engine) (sign : ℕ) → Fresh (sign_at x e count by sign)
unfolding sign_at
sign_fresh_at x e count by sign = waiting_fresh x e count by sign (wait_of x)

sign_fresh : (h : Home) (from : BoxNumber) (e : Engine) (count : ℕ) (by : Engine) (sign : ℕ) → Fresh (step_of h (steps.sign from e count by sign))
sign_fresh h from e count by sign = cond_both (is_home h.yard from by) _ _ Fresh (λ _. at_fresh h e (λ x. sign_at x e count by sign) (sign_fresh_at (at h e) e count by sign)) (λ _. tt)

begun_fresh : (x : engines.State) (e : Engine) (s : Section) (change : ℕ) (w : Engine) (r : Result signs.Engine signRefusal.Refusal) → Fresh (begun_with x e s change w r)
begun_fresh x e s change w (Err r) = tt
begun_fresh x e s change w (Ok g) = tt

waits_for_fresh : (x : engines.State) (c : Call) (many change : ℕ) (h : Holder) → Fresh (waits_for x c many change h)
waits_for_fresh x c many change None = tt
waits_for_fresh x c many change (Some f) =
    cond_both (eqb f.0 c.engine.0) _ _ Fresh (λ _. tt) (λ _. begun_fresh x c.engine c.section change f (begin_of x.signs c.engine.0 many f.0))

-- an answer that is no refusal
abbrev Granted : Reply → Type 0
Granted reply.Done = Unit {0}
Granted reply.Waits = Unit {0}
Granted (reply.Refused r) = ⊥

to_fresh : (x : engines.State) (c : Call) (many : ℕ) (r : Reply) (h : Holder) (change : ℕ) (a : Act) → Granted r → Fresh (answer_to x c many r h change a)
to_fresh x c many reply.Done h change act.Take g = tt
to_fresh x c many reply.Done h change act.Free g = tt
to_fresh x c many reply.Done h change act.GiveUp g = tt
to_fresh x c many reply.Waits h change act.Take g = waits_for_fresh x c many change h
to_fresh x c many reply.Waits h change act.Free g = tt
to_fresh x c many reply.Waits h change act.GiveUp g = tt
to_fresh x c many (reply.Refused r) h change a g = absurd g

answered_fresh : (x : engines.State) (many : ℕ) (r : Reply) (h : Holder) (change : ℕ) (o : Option Call) → Granted r → Fresh (answered x many r h change o)
answered_fresh x many r h change None g = tt
answered_fresh x many r h change (Some c) g = to_fresh x c many r h change c.act g

answer_fresh_at : (x : engines.State) (from : BoxNumber) (e : Engine) (many n : ℕ) (r : Reply) (h : Holder) (change : ℕ) → Granted r → Fresh (answer_at x from e many n r h change)
unfolding answer_at
answer_fresh_at x from e many n r h change g = answered_fresh x many r h change (awaited x from e n) g

answer_fresh : (h : Home) (from : BoxNumber) (e : Engine) (n : ℕ) (r : Reply) (k : Holder) (change : ℕ) → Granted r → Fresh (step_of h (steps.answer from e n r k change))
answer_fresh h from e n r k change g =
    at_fresh h e (λ x. answer_at x from e h.yard.engines n r k change) (answer_fresh_at (at h e) from e h.yard.engines n r k change g)

-- A LINE that is turned away
pub take_away : (b : State) (e : Engine) (s : Section) → LineAway b (input.Take e s)
take_away b e s first = happened_away b (steps.take e s) (taken_fresh b.home (taking b.home e s)) first

pub free_away : (b : State) (e : Engine) (s : Section) → LineAway b (input.Free e s)
free_away b e s first = happened_away b (steps.free e s) (freed_fresh b.home s (freeing b.home e s)) first

-- A MESSAGE that is turned away
abbrev Away : State → State × Log → Type 0
Away b p = RefusedFirst p.1 → (p.0.keeper.table ≡ b.keeper.table) × (p.0.home ≡ b.home)

home_away : (b : State) (i : steps.Input) → NotBy (step_of b.home i).1 → Away b (happened b (step_of b.home i) none)
home_away b i no-report first = (refl, ap (λ (p : State × Log). p.0.home) (happened_away b i no-report first).1)

ruled_away : (b : State) (c : Call) (k : keeper.State) (v : Verdict) → Followed b.keeper c k v → RefusedFirst (ruled_log (with_keeper b k) c v none) → k.table ≡ b.keeper.table
ruled_away b c k verdict.Malformed f first = ap (λ (z : keeper.State). z.table) f
ruled_away b c k verdict.PassedOver f first = ap (λ (z : keeper.State). z.table) f.0
ruled_away b c k (verdict.Again a) f first = ap (λ (z : keeper.State). z.table) f.0
ruled_away b c k (verdict.AtLimit a) f first = ap (λ (z : keeper.State). z.table) f.0
ruled_away b c k (verdict.Refused r a) f first = f.0
ruled_away b c k (verdict.Done a) f first = absurd (not_first (ruled_log (with_keeper b k) c (verdict.Done a) none) (tt, tt) first)
ruled_away b c k (verdict.PassedOn a) f first =
    absurd (not_first (ruled_log (with_keeper b k) c (verdict.PassedOn a) none) (changes_speak (with_keeper b k) c.section a.holder a.change _ (tt, tt)) first)

sent_away : (b : State) (e : Engine) (s : Section) (count change : ℕ) (h : Holder) → Away b (wait_sent b e s count change h none)
sent_away b e s count change None = λ first. (refl, refl)
sent_away b e s count change (Some x) =
    cond_both (eqb (home_of b.home.yard x).0 b.home.number.0) _ _ (Away b) (λ _. home_away b (steps.waits e s count) (waits_fresh b.home e s count)) (λ _ _. (refl, refl))

granted : (r : Reply) → (IsReport (message.Answer (engine 0) 0 (record { reply = r; holder = None; change = 0 })) → ⊥) → Granted r
granted reply.Done no-report = tt
granted reply.Waits no-report = tt
granted (reply.Refused r) no-report = absurd (no-report tt)

pub message_away : (b : State) (from : BoxNumber) (m : Message) → length b.keeper.calls ≡ 64 → length b.keeper.table ≡ 64 → MessageAway b from m
message_away b from (message.Call c) whole long no-report =
    cond_both (for_us b from c.engine c.section) _ _ (Away b)
    (λ _ first. (ruled_away b c (call_of b.keeper c).0 (call_of b.keeper c).1 (followed b.keeper whole long c) first, refl))
    (λ _ _. (refl, refl))
message_away b from (message.Answer e n told) whole long no-report = home_away b (steps.answer from e n told.reply told.holder told.change) (answer_fresh b.home from e n told.reply told.holder told.change (granted told.reply no-report))
message_away b from (message.Change news) whole long no-report = absurd (no-report tt)
message_away b from (message.WhichChange e s) whole long no-report = cond_both (for_us b from e s) _ _ (Away b) (λ _ _. (refl, refl)) (λ _ _. (refl, refl))
message_away b from (message.Sign telling) whole long no-report = home_away b (steps.sign from telling.to telling.count telling.by telling.sign) (sign_fresh b.home from telling.to telling.count telling.by telling.sign)
message_away b from (message.Waits waiting) whole long no-report =
    cond_both (eqb waiting.section.keeper.0 b.home.number.0) _ _ (Away b)
    (λ _. cond_both (is_home b.home.yard from waiting.engine) _ _ (Away b)
    (λ _. cond_both (eqb waiting.change (change_number_at b.keeper.table waiting.section.place)) _ _ (Away b) (λ _. sent_away b waiting.engine waiting.section waiting.count waiting.change (holder_of (holder_at b.keeper.table waiting.section.place))) (λ _ _. (refl, refl)))
    (λ _ _. (refl, refl)))
    (λ _. cond_both (eqb from.0 waiting.section.keeper.0) _ _ (Away b) (λ _. home_away b (steps.waits waiting.engine waiting.section waiting.count) (waits_fresh b.home waiting.engine waiting.section waiting.count)) (λ _ _. (refl, refl)))
