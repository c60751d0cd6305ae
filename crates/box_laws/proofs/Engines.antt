-- One engine in shape: what an event tells of it names only what the yard has, and leaves it in shape.
use Rattle.std.specs.Prelude.{None, Some}
use Rattle.std.proofs.Common.{◌≡◌, ℕ, ◌+◌, ◌^◌, ◌<◌, ◌≤◌, ◌&&◌, ◌||◌, eqb, ltb, List, length, get_or, is_some, Some, None, Ok, Err, Option, Result, sym, ◌∙◌, subst, inl, inr, arith, length-set}
use lib.Bits.{bit_and, bit_or, bit_xor}
use Rattle.std.proofs.lemmas.Bool.{and_parts, cond_both, ltb-true}
use Rattle.messages.specs.declared.yard.BoxNumber.{BoxNumber}
use Rattle.messages.specs.declared.yard.Engine.{Engine}
use Rattle.messages.specs.declared.yard.Section.{Section}
use Rattle.messages.specs.declared.yard.Yard.{Yard}
use Rattle.messages.specs.declared.message.Act.{Act}
use Rattle.messages.specs.declared.message.Act.TheVariants as act
use Rattle.messages.specs.declared.message.Call.{Call}
use Rattle.messages.specs.Holder.{Holder}
use Rattle.messages.specs.declared.message.Message.TheVariants as message
use Rattle.messages.specs.declared.message.Record.TheVariants as journal
use Rattle.messages.specs.declared.message.Refusal.{Refusal}
use Rattle.messages.specs.declared.message.Refusal.TheVariants as refusal
use Rattle.messages.specs.declared.message.Reply.{Reply}
use Rattle.messages.specs.declared.message.Reply.TheVariants as reply
use Rattle.messages.specs.Range.{CallIn, EngineIn, HolderIn, MessageIn, RecordIn, SectionIn}
use Rattle.sections.proofs.Tables.{set_read}
use Rattle.signs.specs.declared.Engine as signs
use Rattle.signs.specs.declared.Refusal as sign_refusal
use Rattle.signs.specs.declared.Heard as sound
use Rattle.signs.specs.declared.Heard.TheVariants.{TellOn, Found, PassedOver}
use Rattle.signs.specs.Signs as whom
use Rattle.signs.specs.Signs.{begin_of, has_room, listen_of, next_own, out_of_range, waits_by}
use Rattle.engine_state.specs.declared.places.Places.{Places}
use Rattle.engine_state.specs.declared.state.Event.{Event}
use Rattle.engine_state.specs.declared.state.Event.TheVariants as event
use Rattle.engine_state.specs.declared.state.Known.{Known}
use Rattle.engine_state.specs.declared.state.Known.TheVariants as known
use Rattle.engine_state.specs.declared.state.Mode.{Mode}
use Rattle.engine_state.specs.declared.state.Mode.TheVariants as mode
use Rattle.engine_state.specs.declared.state.State.{State}
use Rattle.engine_state.specs.declared.state.Stored.{Stored}
use Rattle.engine_state.specs.declared.state.Wait.{Wait}
use Rattle.engine_state.specs.Places.{bit, fits, same_section, with_of, without_of, word_of}
use Rattle.engine_state.specs.State as state
use Rattle.engine_state.specs.State.{freed_by, got_by, got_wanted, heard, knowing, made, next_number, numbered, wanted}
use Rattle.engine_state.specs.Calls.{call_of, call_of_mode, free_call, giving_back, holds_of, if_pending, next_call, open_of, take_call, wait_for, wait_of, wait_of_mode}
use Rattle.engine_state.specs.Inputs.{answer_at, answer_to, answered, awaited, begin_at, begun_with, change_at, ended_by, gave_up_by, heard_waiting, is_later, listened, passed_to, refused_by, sign_at, taken_by, that_call, waits_for}
use Rattle.home_laws.specs.Told.{Became}

abbrev pub ModeIn : Yard → Mode → Type 0
ModeIn y mode.Idle = Unit {0}
ModeIn y (mode.Called a s n) = SectionIn y s × (n < 2 ^ 32)
ModeIn y (mode.Waiting s c) = SectionIn y s × (c < 2 ^ 32)

abbrev pub WhomIn : Yard → whom.Wait → Type 0
WhomIn y None = Unit {0}
WhomIn y (Some e) = e < y.engines

-- an engine in shape: its lists are long enough, and its numbers fit their bytes
pub record Fit (y : Yard) (x : State) : Type 0 where
  pub used : length x.stored.used ≡ 16
  pub words : length x.stored.kept.words ≡ 16
  pub numbers : (k : ℕ) → get_or x.stored.used k 0 < 2 ^ 32
  pub mode : ModeIn y x.stored.mode
  pub wait : WhomIn y x.signs.wait
  pub count : x.signs.count < 2 ^ 32
  pub shown : x.signs.shown < 2 ^ 64
  pub own : x.signs.own < 2 ^ 64
  pub ordered : x.signs.own ≤ x.signs.shown

-- an event that can be recorded and sent
abbrev pub EventIn : Yard → Event → Type 0
EventIn y event.PassedOver = Unit {0}
EventIn y (event.Refused r) = Unit {0}
EventIn y (event.RefusedBy r) = Unit {0}
EventIn y (event.Had e s) = Unit {0}
EventIn y event.Closed = Unit {0}
EventIn y (event.Called c) = CallIn y c
EventIn y (event.Found c) = CallIn y c
EventIn y (event.Began start) = RecordIn y (journal.Beginning start.holder (record { engine = start.engine; section = start.section; count = start.count; change = start.change }) start.own)
EventIn y (event.Heard e sign) = RecordIn y (journal.Heard e sign)
EventIn y (event.Noted telling) = MessageIn y (message.Sign (record { to = telling.to; count = telling.count; by = telling.by; sign = telling.sign }))

-- the words of a set of sections stay sixteen
abbrev Wide : Places → Type 0
Wide x = length x.words ≡ 16

with_wide : (x : Places) (s : Section) → Wide x → Wide (with_of x s)
with_wide x s wide = cond_both (fits s) _ _ Wide (λ _. length-set x.words s.keeper.0 (bit_or (word_of x s) (bit s.place)) ∙ wide) (λ _. wide)

without_wide : (x : Places) (s : Section) → Wide x → Wide (without_of x s)
without_wide x s wide =
    cond_both (fits s) _ _ Wide (λ _. length-set x.words s.keeper.0 (bit_xor (word_of x s) (bit_and (word_of x s) (bit s.place))) ∙ wide) (λ _. wide)

got_wide : (x : Places) (c : Call) (s : Section) (a : Act) → Wide x → Wide (got_by x c s a)
got_wide x c s act.Take wide = with_wide x s wide
got_wide x c s act.Free wide = with_wide x s wide
got_wide x c s act.GiveUp wide = cond_both (same_section c.section s) _ _ Wide (λ _. wide) (λ _. with_wide x s wide)

wanted_wide : (x : Places) (c : Call) (o : Option Section) → Wide x → Wide (got_wanted x c o)
wanted_wide x c None wide = wide
wanted_wide x c (Some s) wide = got_wide x c s c.act wide

freed_wide : (x : Places) (s : Section) (a : Act) → Wide x → Wide (freed_by x s a)
freed_wide x s act.Take wide = wide
freed_wide x s act.Free wide = without_wide x s wide
freed_wide x s act.GiveUp wide = wide

module _ (y : Yard) where
  -- the numbers used stay in range
  numbered_in : (used : List ℕ) (b : BoxNumber) (n : ℕ) → n < 2 ^ 32 → ((k : ℕ) → get_or used k 0 < 2 ^ 32) → (k : ℕ) → get_or (numbered used b n) k 0 < 2 ^ 32
  numbered_in used b n small all k =
      cond_both (ltb b.0 16) _ _ (λ (xs : List ℕ). get_or xs k 0 < 2 ^ 32)
      (λ _. elim (set_read 0 used b.0 n k) [ inl r ↦ rw r.1 small | inr r ↦ rw r (all k) ])
      (λ _. all k)

  pub fit_made : (x : State) (c : Call) → Fit y x → CallIn y c → Fit y (made x c)
  fit_made x c f i =
      record {
        used = cond_both (ltb c.section.keeper.0 16) _ _ (λ (xs : List ℕ). length xs ≡ 16) (λ _. length-set x.stored.used c.section.keeper.0 c.number ∙ f.used) (λ _. f.used);
        words = freed_wide (got_wanted x.stored.kept c (wanted x.stored.mode)) c.section c.act (wanted_wide x.stored.kept c (wanted x.stored.mode) f.words);
        numbers = numbered_in x.stored.used c.section.keeper c.number i.2 f.numbers;
        mode = (i.1, i.2);
        wait = tt;
        count = f.count;
        shown = f.shown;
        own = f.own;
        ordered = f.ordered;
      }

  pub fit_begun :
      (x : State) (e : Engine) (s : Section) (change : ℕ) (w : Engine) (count own : ℕ) → Fit y x → RecordIn y (journal.Beginning w (record { engine = e; section = s; count = count; change = change }) own) →
      Fit y (state.begun x s change w count own)
  fit_begun x e s change w count own f i =
      record {
        used = f.used;
        words = f.words;
        numbers = f.numbers;
        mode = (i.1, i.2);
        wait = i.3;
        count = i.4;
        shown = i.5;
        own = i.5;
        ordered = omega arith;
      }

  pub fit_knowing : (x : State) (k : Known) → Fit y x → Fit y (knowing x k)
  fit_knowing x k f =
      record {
        used = f.used;
        words = f.words;
        numbers = f.numbers;
        mode = f.mode;
        wait = f.wait;
        count = f.count;
        shown = f.shown;
        own = f.own;
        ordered = f.ordered;
      }

  pub fit_heard : (x : State) (sign : ℕ) → Fit y x → sign < 2 ^ 64 → x.signs.shown < sign → Fit y (heard x sign)
  fit_heard x sign f small above =
      record {
        used = f.used;
        words = f.words;
        numbers = f.numbers;
        mode = f.mode;
        wait = f.wait;
        count = f.count;
        shown = small;
        own = f.own;
        ordered = let o = f.ordered in omega arith;
      }

  pub fit_became : (e : Engine) (x : State) (v : Event) (z : State) → Fit y x → EventIn y v → Became e x v z → Fit y z
  fit_became e x event.PassedOver z f i b = subst (Fit y) (sym b) f
  fit_became e x (event.Refused r) z f i b = subst (Fit y) (sym b) f
  fit_became e x (event.RefusedBy r) z f i (inl b) = subst (Fit y) (sym b) (fit_knowing x known.Had f)
  fit_became e x (event.RefusedBy r) z f i (inr b) = subst (Fit y) (sym b) (fit_knowing x known.Closed f)
  fit_became e x (event.Had g s) z f i b = subst (Fit y) (sym b) (fit_knowing x known.Had f)
  fit_became e x event.Closed z f i b = subst (Fit y) (sym b) (fit_knowing x known.Closed f)
  fit_became e x (event.Called c) z f i b = subst (Fit y) (sym b.1) (fit_made x c f i)
  fit_became e x (event.Found c) z f i b = subst (Fit y) (sym b.1) (fit_made x c f i)
  fit_became e x (event.Began start) z f i b = subst (Fit y) (sym b.1) (fit_begun x start.engine start.section start.change start.holder start.count start.own f i)
  fit_became e x (event.Heard g s) z f i b = subst (Fit y) (sym b.2) (fit_heard x s f i.1 b.1)
  fit_became e x (event.Noted telling) z f i b = subst (Fit y) (sym b) f

  -- THE EVENTS: what comes of an answer, a change or a sign in range is in range
  abbrev Gives : State × Event → Type 0
  Gives p = EventIn y p.1

  -- a sign and a count that were taken fit their bytes
  abbrev RoomIn : Result signs.Engine sign_refusal.Refusal → Type 0
  RoomIn (Err r) = Unit {0}
  RoomIn (Ok g) = (g.count < 2 ^ 32) × (g.own < 2 ^ 64)

  begin_room : (g : signs.Engine) (me engines w : ℕ) → RoomIn (begin_of g me engines w)
  begin_room g me engines w =
      cond_both (out_of_range me engines w) _ _ RoomIn (λ _. tt)
      (λ _. cond_both (eqb w me) _ _ RoomIn (λ _. tt)
      (λ _. cond_both (has_room g (next_own g.shown me engines)) _ _ RoomIn
      (λ h.
      let parts = and_parts (ltb (next_own g.shown me engines) (2 ^ 64)) (ltb (g.count + 1) (2 ^ 32)) h in
      (ltb-true (g.count + 1) (2 ^ 32) parts.1, ltb-true (next_own g.shown me engines) (2 ^ 64) parts.0))
      (λ _. tt)))

  begun_in :
      (x : State) (e : Engine) (s : Section) (change : ℕ) (w : Engine) (r : Result signs.Engine sign_refusal.Refusal) → EngineIn y e → SectionIn y s → change < 2 ^ 32 → EngineIn y w →
      RoomIn r → Gives (begun_with x e s change w r)
  begun_in x e s change w (Err r) ei si ci wi room = tt
  begun_in x e s change w (Ok g) ei si ci wi room = (ei, si, ci, wi, room.0, room.1)

  begin_in :
      (x : State) (e : Engine) (engines : ℕ) (s : Section) (change : ℕ) (w : Engine) → EngineIn y e → SectionIn y s → change < 2 ^ 32 → EngineIn y w → Gives (begin_at x e engines s change w)
  begin_in x e engines s change w ei si ci wi = begun_in x e s change w (begin_of x.signs e.0 engines w.0) ei si ci wi (begin_room x.signs e.0 engines w.0)

  waits_for_in : (x : State) (c : Call) (engines change : ℕ) (h : Holder) → CallIn y c → change < 2 ^ 32 → HolderIn y h → Gives (waits_for x c engines change h)
  waits_for_in x c engines change None ci ni hi = tt
  waits_for_in x c engines change (Some f) ci ni hi =
      cond_both (eqb f.0 c.engine.0) _ _ Gives (λ _. tt) (λ _. begin_in x c.engine engines c.section change f ci.0 ci.1 ni hi)

  refused_by_in : (x z : State) (r : Refusal) → Gives (refused_by x z r)
  refused_by_in x z refusal.Malformed = tt
  refused_by_in x z refusal.WrongCall = tt
  refused_by_in x z refusal.Waiting = tt
  refused_by_in x z refusal.Mismatch = tt
  refused_by_in x z refusal.Stale = tt
  refused_by_in x z refusal.Exhausted = tt

  taken_by_in : (x : State) (c : Call) (engines : ℕ) (r : Reply) (h : Holder) (change : ℕ) → CallIn y c → change < 2 ^ 32 → HolderIn y h → Gives (taken_by x c engines r h change)
  taken_by_in x c engines reply.Done h change ci ni hi = tt
  taken_by_in x c engines reply.Waits h change ci ni hi = waits_for_in x c engines change h ci ni hi
  taken_by_in x c engines (reply.Refused r) h change ci ni hi = refused_by_in x _ r

  ended_by_in : (x : State) (c : Call) (r : Reply) (h : Holder) → Gives (ended_by x c r h)
  ended_by_in x c reply.Done h = tt
  ended_by_in x c reply.Waits h = tt
  ended_by_in x c (reply.Refused r) h = refused_by_in x _ r

  answer_to_in : (x : State) (c : Call) (engines : ℕ) (r : Reply) (h : Holder) (change : ℕ) (a : Act) → CallIn y c → change < 2 ^ 32 → HolderIn y h → Gives (answer_to x c engines r h change a)
  answer_to_in x c engines r h change act.Take ci ni hi = taken_by_in x c engines r h change ci ni hi
  answer_to_in x c engines r h change act.Free ci ni hi = ended_by_in x c r h
  answer_to_in x c engines r h change act.GiveUp ci ni hi = ended_by_in x c r h

  -- a call, if there is one, is in range
  abbrev pub CallsIn : Option Call → Type 0
  CallsIn None = Unit {0}
  CallsIn (Some c) = CallIn y c

  call_of_mode_in : (m : Mode) (e : Engine) → EngineIn y e → ModeIn y m → CallsIn (call_of_mode m e)
  call_of_mode_in mode.Idle e ei mi = tt
  call_of_mode_in (mode.Called a s n) e ei mi = (ei, mi.0, mi.1)
  call_of_mode_in (mode.Waiting s c) e ei mi = tt

  pending_in : (k : Known) (o : Option Call) → CallsIn o → CallsIn (if_pending k o)
  pending_in known.Pending o i = i
  pending_in known.Had o i = tt
  pending_in known.Closed o i = tt

  pub open_in : (x : State) (e : Engine) → EngineIn y e → Fit y x → CallsIn (open_of x e)
  open_in x e ei f = pending_in x.known (call_of_mode x.stored.mode e) (call_of_mode_in x.stored.mode e ei f.mode)

  that_in : (from : BoxNumber) (n : ℕ) (o : Option Call) → CallsIn o → CallsIn (that_call from n o)
  that_in from n None i = tt
  that_in from n (Some c) i = cond_both (eqb c.section.keeper.0 from.0 && eqb c.number n) _ _ CallsIn (λ _. i) (λ _. tt)

  answered_in : (x : State) (engines : ℕ) (r : Reply) (h : Holder) (change : ℕ) (o : Option Call) → CallsIn o → change < 2 ^ 32 → HolderIn y h → Gives (answered x engines r h change o)
  answered_in x engines r h change None ci ni hi = tt
  answered_in x engines r h change (Some c) ci ni hi = answer_to_in x c engines r h change c.act ci ni hi

  pub answer_in :
      (x : State) (from : BoxNumber) (e : Engine) (engines n : ℕ) (r : Reply) (h : Holder) (change : ℕ) → Fit y x → EngineIn y e → change < 2 ^ 32 → HolderIn y h →
      EventIn y (answer_at x from e engines n r h change).1
  unfolding answer_at
  answer_in x from e engines n r h change f ei ni hi = answered_in x engines r h change (awaited x from e n) (that_in from n (open_of x e) (open_in x e ei f)) ni hi

  passed_in : (x : State) (e : Engine) (engines : ℕ) (s : Section) (change : ℕ) (h : Holder) → EngineIn y e → SectionIn y s → change < 2 ^ 32 → HolderIn y h → Gives (passed_to x e engines s change h)
  passed_in x e engines s change None ei si ni hi = tt
  passed_in x e engines s change (Some w) ei si ni hi = cond_both (eqb w.0 e.0) _ _ Gives (λ _. tt) (λ _. begin_in x e engines s change w ei si ni hi)

  pub change_in :
      (x : State) (e : Engine) (engines : ℕ) (s : Section) (h : Holder) (change : ℕ) → EngineIn y e → SectionIn y s → change < 2 ^ 32 → HolderIn y h → EventIn y (change_at x e engines s h change).1
  unfolding change_at
  change_in x e engines s h change ei si ni hi = cond_both (is_later (wait_of x) s change) _ _ Gives (λ _. passed_in x e engines s change h ei si ni hi) (λ _. tt)

  -- a wait, if there is one, is in range
  abbrev pub WaitsIn : Option Wait → Type 0
  WaitsIn None = Unit {0}
  WaitsIn (Some w) = SectionIn y w.section × EngineIn y w.whom × (w.count < 2 ^ 32) × (w.change < 2 ^ 32)

  wait_for_in : (w : whom.Wait) (s : Section) (count change : ℕ) → WhomIn y w → SectionIn y s → count < 2 ^ 32 → change < 2 ^ 32 → WaitsIn (wait_for w s count change)
  wait_for_in None s count change wi si ni ci = tt
  wait_for_in (Some e) s count change wi si ni ci = (si, wi, ni, ci)

  wait_of_mode_in : (m : Mode) (w : whom.Wait) (count : ℕ) → ModeIn y m → WhomIn y w → count < 2 ^ 32 → WaitsIn (wait_of_mode m w count)
  wait_of_mode_in mode.Idle w count mi wi ni = tt
  wait_of_mode_in (mode.Called a s n) w count mi wi ni = tt
  wait_of_mode_in (mode.Waiting s c) w count mi wi ni = wait_for_in w s count c wi mi.0 ni mi.1

  wait_pending_in : (k : Known) (o : Option Wait) → WaitsIn o → WaitsIn (if_pending k o)
  wait_pending_in known.Pending o i = i
  wait_pending_in known.Had o i = tt
  wait_pending_in known.Closed o i = tt

  pub wait_in : (x : State) → Fit y x → WaitsIn (wait_of x)
  wait_in x f =
      wait_pending_in x.known (wait_of_mode x.stored.mode x.signs.wait x.signs.count) (wait_of_mode_in x.stored.mode x.signs.wait x.signs.count f.mode f.wait f.count)

  abbrev pub ResultIn : Result Call Refusal → Type 0
  ResultIn (Err r) = Unit {0}
  ResultIn (Ok c) = CallIn y c

  abbrev NumberIn : Option ℕ → Type 0
  NumberIn None = Unit {0}
  NumberIn (Some n) = n < 2 ^ 32

  number_in : (x : Stored) (b : BoxNumber) → NumberIn (next_number x b)
  number_in x b =
      cond_both (ltb b.0 16) _ _ NumberIn
      (λ _. cond_both (ltb (get_or x.used b.0 0 + 1) (2 ^ 32)) _ _ NumberIn (λ h. ltb-true (get_or x.used b.0 0 + 1) (2 ^ 32) h) (λ _. tt))
      (λ _. tt)

  call_of_in : (a : Act) (e : Engine) (s : Section) (o : Option ℕ) → EngineIn y e → SectionIn y s → NumberIn o → ResultIn (call_of a e s o)
  call_of_in a e s None ei si ni = tt
  call_of_in a e s (Some n) ei si ni = (ei, si, ni)

  pub next_in : (x : State) (a : Act) (e : Engine) (s : Section) → EngineIn y e → SectionIn y s → ResultIn (next_call x a e s)
  next_in x a e s ei si = call_of_in a e s (next_number x.stored s.keeper) ei si (number_in x.stored s.keeper)

  pub take_in : (x : State) (e : Engine) (s : Section) → EngineIn y e → SectionIn y s → ResultIn (take_call x e s)
  take_in x e s ei si =
      cond_both (is_some (open_of x e) || giving_back x) _ _ ResultIn (λ _. tt)
      (λ _. cond_both (is_some (wait_of x)) _ _ ResultIn (λ _. tt) (λ _. cond_both (holds_of x s) _ _ ResultIn (λ _. tt) (λ _. next_in x act.Take e s ei si)))

  pub free_in : (x : State) (e : Engine) (s : Section) → EngineIn y e → SectionIn y s → ResultIn (free_call x e s)
  free_in x e s ei si =
      cond_both (is_some (open_of x e)) _ _ ResultIn (λ _. tt)
      (λ _. cond_both (is_some (wait_of x)) _ _ ResultIn (λ _. tt) (λ _. cond_both (holds_of x s) _ _ ResultIn (λ _. next_in x act.Free e s ei si) (λ _. tt)))

  gave_up_in : (x : State) (r : Result Call Refusal) → ResultIn r → Gives (gave_up_by x r)
  gave_up_in x (Err r) i = tt
  gave_up_in x (Ok c) i = i

  -- a sign that is told on is the one that came
  abbrev SignIn : Result (signs.Engine × sound.Heard) sign_refusal.Refusal → Type 0
  SignIn (Err r) = Unit {0}
  SignIn (Ok (g, TellOn sign)) = sign < 2 ^ 64
  SignIn (Ok (g, Found)) = Unit {0}
  SignIn (Ok (g, PassedOver)) = Unit {0}

  listen_in : (g : signs.Engine) (by count sign : ℕ) → sign < 2 ^ 64 → SignIn (listen_of g by count sign)
  listen_in g by count sign small =
      cond_both (ltb g.shown sign) _ _ SignIn
      (λ _. cond_both (waits_by g by count) _ _ SignIn (λ _. cond_both (ltb g.shown sign) _ _ SignIn (λ _. small) (λ _. tt)) (λ _. tt))
      (λ _. cond_both (waits_by g by count) _ _ SignIn (λ _. cond_both (eqb sign g.own && eqb g.shown g.own) _ _ SignIn (λ _. tt) (λ _. tt)) (λ _. tt))

  listened_in : (x : State) (e : Engine) (s : Section) (r : Result (signs.Engine × sound.Heard) sign_refusal.Refusal) → EngineIn y e → SectionIn y s → SignIn r → Gives (listened x e s r)
  listened_in x e s (Err r) ei si i = tt
  listened_in x e s (Ok (g, TellOn sign)) ei si i = (ei, i)
  listened_in x e s (Ok (g, Found)) ei si i = gave_up_in x (next_call x act.GiveUp e s) (next_in x act.GiveUp e s ei si)
  listened_in x e s (Ok (g, PassedOver)) ei si i = tt

  heard_waiting_in : (x : State) (e : Engine) (count : ℕ) (by : Engine) (sign : ℕ) (w : Option Wait) → EngineIn y e → sign < 2 ^ 64 → WaitsIn w → Gives (heard_waiting x e count by sign w)
  heard_waiting_in x e count by sign None ei small wi = tt
  heard_waiting_in x e count by sign (Some w) ei small wi =
      listened_in x e w.section (listen_of x.signs by.0 count sign) ei wi.0 (listen_in x.signs by.0 count sign small)

  pub sign_in : (x : State) (e : Engine) (count : ℕ) (by : Engine) (sign : ℕ) → Fit y x → EngineIn y e → sign < 2 ^ 64 → EventIn y (sign_at x e count by sign).1
  unfolding sign_at
  sign_in x e count by sign f ei small = heard_waiting_in x e count by sign (wait_of x) ei small (wait_in x f)
