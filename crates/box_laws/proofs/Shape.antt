-- A box in shape stays in shape, half by half; and whatever it records and sends is in range.
use Rattle.std.specs.Prelude.{None, Some}
use Rattle.std.proofs.Common.{◌≡◌, ℕ, ◌^◌, ◌<◌, eqb, List, length, get_or, Some, None, Option, sym, refl, ap, ◌∙◌, arith}
use Rattle.std.proofs.lemmas.Bool.{cond_both}
use Rattle.std.specs.Option.{ok_or}
use Rattle.messages.specs.declared.yard.BoxNumber.{BoxNumber}
use Rattle.messages.specs.declared.yard.Engine.{Engine}
use Rattle.messages.specs.declared.yard.Section.{Section}
use Rattle.messages.specs.declared.yard.Yard.{Yard}
use Rattle.messages.specs.declared.message.Call.{Call}
use Rattle.messages.specs.Holder.{Holder}
use Rattle.messages.specs.declared.message.Message.{Message}
use Rattle.messages.specs.declared.message.Message.TheVariants as message
use Rattle.messages.specs.declared.message.Record.TheVariants as journal
use Rattle.messages.specs.declared.message.Refusal.TheVariants as refusal
use Rattle.messages.specs.Promises.{Bytes}
use Rattle.messages.specs.Range.{CallIn, EngineIn, HolderIn, MessageIn, SectionIn}
use Rattle.messages.specs.Reading.{message_of}
use Rattle.messages.proofs.Forms.{one_form}
use Rattle.sections.specs.Table as sections
use Rattle.sections.specs.Table.{change_number_at, holder_at}
use Rattle.signs.specs.Table as table
use Rattle.engine_state.specs.State.{unread}
use Rattle.engine_state.specs.declared.state.Event.{Event}
use Rattle.engine_state.specs.declared.state.State as engines
use Rattle.keeper.specs.Calls.{call_of}
use Rattle.keeper.specs.Homes.{told_of}
use Rattle.keeper.specs.Range.{AnswerIn, VerdictIn}
use Rattle.keeper.specs.Words.{holder_of}
use Rattle.messages.specs.declared.message.Answer.{Answer}
use Rattle.keeper.specs.declared.Verdict.{Verdict}
use Rattle.keeper.specs.declared.Verdict.TheVariants as verdict
use Rattle.home.specs.declared.home.Home.{Home}
use Rattle.home.specs.Home.{at, is_home, is_ours, with}
use Rattle.home.specs.Queries.{engine}
use Rattle.home.specs.Inputs.{answer_of, change_of, free_of, sign_of, take_of, waits_of}
use Rattle.home_laws.proofs.Puts.{put_in_one}
use Rattle.journal.specs.declared.output.Output.TheVariants as output
use Rattle.boxes.specs.declared.signal_box.Input.{Input}
use Rattle.boxes.specs.declared.signal_box.Input.TheVariants as input
use Rattle.boxes.specs.Log.{Log, recorded, said}
use Rattle.messages.specs.Homes.{home_of}
use Rattle.boxes.specs.Model.{State, fresh, with_home, with_keeper}
use Rattle.boxes.specs.Keeping.{answered, called_at, change_to, changes_of, for_us, refused, ruled_log, which_at}
use Rattle.boxes.specs.Handle.{change_for, changed_at, decoded_of, delivered_of, handle_of, happened, received_of, wait_at_box, wait_sent}
use Rattle.box_laws.proofs.Logs.{LogIn, each_keeps, recorded_in, said_in, sent_in}
use Rattle.box_laws.proofs.Engines.{EventIn}
use Rattle.box_laws.proofs.Homes.{
  HomeShape,
  answer_steps,
  change_steps,
  emit_in,
  free_steps,
  fresh_home_shape,
  home_in,
  second_in,
  sign_steps,
  sized,
  take_steps,
  waits_steps,
}
use Rattle.box_laws.proofs.Keepers.{ChangeIn, KeeperShape, call_shape, fresh_keeper_shape}

-- a box in shape: its yard and number are these, its tables have their sizes, its numbers fit their bytes
pub record InShape (y : Yard) (n : ℕ) (b : State) : Type 0 where
  pub yard : b.home.yard ≡ y
  pub number : b.home.number.0 ≡ n
  pub here : n < y.boxes
  pub signs : table.Sized b.home.signs
  pub stored : length b.home.stored ≡ 64
  pub known : length b.home.known ≡ 64
  pub notes : length b.home.notes ≡ 64
  pub used : (e : ℕ) → e < 64 → length (get_or b.home.stored e unread).used ≡ 16
  pub words : (e : ℕ) → e < 64 → length (get_or b.home.stored e unread).kept.words ≡ 16
  pub table : length b.keeper.table ≡ 64
  pub calls : length b.keeper.calls ≡ 64
  -- its engines fit their bytes, and so do its notes, its sections' change numbers, and its last calls and answers
  pub engines : HomeShape y n b.home
  pub sections : KeeperShape y b.keeper

pub shaped : (y : Yard) (n : ℕ) (b : State) → n < y.boxes → HomeShape y n b.home → KeeperShape y b.keeper → InShape y n b
shaped y n b lt h k =
    record {
      yard = h.yard;
      number = h.number;
      here = lt;
      signs = h.signs;
      stored = h.stored;
      known = h.known;
      notes = h.notes;
      used = λ e below. (h.fits (engine e) below).used;
      words = λ e below. (h.fits (engine e) below).words;
      table = k.table;
      calls = k.calls;
      engines = h;
      sections = k;
    }

pub shape_fresh : (y : Yard) (n : BoxNumber) → n.0 < y.boxes → InShape y n.0 (fresh y n)
shape_fresh y n lt = shaped y n.0 (fresh y n) lt (fresh_home_shape y n) (fresh_keeper_shape y)

-- one engine changed reads as put, and every other as it was
pub at_with : {y : Yard} {n : ℕ} {b : State} → InShape y n b → (e : Engine) (x : engines.State) → e.0 < 64 → at (with b.home e x) e ≡ x
at_with {b = b} i e x below = (put_in_one b.home (sized i.engines) e x below).1

pub at_other : {y : Yard} {n : ℕ} {b : State} → InShape y n b → (e : Engine) (x : engines.State) → e.0 < 64 → (k : Engine) → (k.0 ≡ e.0 → ⊥) → at (with b.home e x) k ≡ at b.home k
at_other {b = b} i e x below k ne = (put_in_one b.home (sized i.engines) e x below).2 k ne

-- a box in shape, and a log in range
abbrev pub Shaped : Yard → ℕ → State × Log → Type 0
Shaped y n p = InShape y n p.0 × LogIn y p.1

-- a line of the driver or a second, and no message
abbrev pub IsLine : Input → Type 0
IsLine (input.Take e s) = Unit {0}
IsLine (input.Free e s) = Unit {0}
IsLine (input.Received from m) = ⊥
IsLine input.Second = Unit {0}

module _ (y : Yard) (n : ℕ) where
  refused_shape : (b : State) (l : Log) → InShape y n b → LogIn y l → Shaped y n (refused b l)
  refused_shape b l i fine = (i, said_in y l (output.Refused refusal.Malformed) fine tt)

  happened_shape : (b : State) (p : Home × Event) (l : Log) → InShape y n b → HomeShape y n p.0 × EventIn y p.1 → LogIn y l → Shaped y n (happened b p l)
  happened_shape b p l i s fine = (shaped y n (with_home b p.0) i.here s.0 i.sections, emit_in y n p.0 p.1 l s.0 s.1 fine)

  answered_in : (b : State) (c : Call) (a : Answer) (l : Log) → InShape y n b → CallIn y c → AnswerIn y a → a.change < 2 ^ 32 → LogIn y l → LogIn y (answered b c a l)
  answered_in b c a l i ci ai small fine =
      sent_in y l (home_of b.home.yard c.engine) (message.Answer c.engine c.number a) fine (home_in y n b.home c.engine i.engines)
      (ci.0, ci.2, ai.0, ai.1, small)

  changes_in : (b : State) (s : Section) (h : Holder) (change : ℕ) (l : Log) → InShape y n b → SectionIn y s → HolderIn y h → change < 2 ^ 32 → LogIn y l → LogIn y (changes_of b s h change l)
  changes_in b s h change l i si hi ci fine =
      each_keeps (LogIn y) (λ k. change_to b s h change k) b.home.yard.boxes
      (λ k z lt zi.
      cond_both (told_of b.home.yard k b.keeper.table s.place) _ _ (LogIn y)
      (λ _. sent_in y z (record { 0 = k }) (message.Change (record { section = s; holder = h; change = change })) zi (let same = ap (λ (u : Yard). u.boxes) i.yard in omega arith) (si, hi, ci))
      (λ _. zi))
      l fine

  ruled_log_in : (b : State) (c : Call) (v : Verdict) (l : Log) → InShape y n b → CallIn y c → VerdictIn y v → ChangeIn v → LogIn y l → LogIn y (ruled_log b c v l)
  ruled_log_in b c verdict.Malformed l i ci vi ni fine = said_in y l (output.Refused refusal.Malformed) fine tt
  ruled_log_in b c verdict.PassedOver l i ci vi ni fine = said_in y l (output.Refused refusal.WrongCall) fine tt
  ruled_log_in b c (verdict.Again a) l i ci vi ni fine = answered_in b c a (said l (output.Refused refusal.WrongCall)) i ci vi ni (said_in y l (output.Refused refusal.WrongCall) fine tt)
  ruled_log_in b c (verdict.AtLimit a) l i ci vi ni fine = answered_in b c a (said l (output.Refused refusal.Exhausted)) i ci vi ni (said_in y l (output.Refused refusal.Exhausted) fine tt)
  ruled_log_in b c (verdict.Refused r a) l i ci vi ni fine =
      answered_in b c a (said (recorded l (journal.Kept c)) (output.Refused r)) i ci vi ni (said_in y (recorded l (journal.Kept c)) (output.Refused r) (recorded_in y l (journal.Kept c) fine ci) tt)
  ruled_log_in b c (verdict.Done a) l i ci vi ni fine = answered_in b c a (recorded l (journal.Kept c)) i ci vi ni (recorded_in y l (journal.Kept c) fine ci)
  ruled_log_in b c (verdict.PassedOn a) l i ci vi ni fine =
      changes_in b c.section a.holder a.change (answered b c a (recorded l (journal.Kept c))) i ci.1 vi.1 ni
      (answered_in b c a (recorded l (journal.Kept c)) i ci vi ni (recorded_in y l (journal.Kept c) fine ci))

  pub called_shape : (b : State) (from : BoxNumber) (c : Call) (l : Log) → InShape y n b → CallIn y c → LogIn y l → Shaped y n (called_at b from c l)
  called_shape b from c l i ci fine =
      cond_both (for_us b from c.engine c.section) _ _ (Shaped y n)
      (λ _.
      let k = call_shape y b.keeper c i.sections ci in
      let j : InShape y n (with_keeper b (call_of b.keeper c).0) = shaped y n (with_keeper b (call_of b.keeper c).0) i.here i.engines k.0 in
      (j, ruled_log_in (with_keeper b (call_of b.keeper c).0) c (call_of b.keeper c).1 l j ci k.1 k.2 fine))
      (λ _. refused_shape b l i fine)

  holder_in : (h : sections.Holder) → ((e : ℕ) → h ≡ Some e → e < y.engines) → HolderIn y (holder_of h)
  holder_in None all = tt
  holder_in (Some e) all = all e refl

  pub which_shape : (b : State) (from : BoxNumber) (e : Engine) (s : Section) (l : Log) → InShape y n b → from.0 < y.boxes → SectionIn y s → LogIn y l → Shaped y n (which_at b from e s l)
  which_shape b from e s l i lt si fine =
      cond_both (for_us b from e s) _ _ (Shaped y n)
      (λ _. (
        i,
        sent_in y l from (message.Change (record { section = s; holder = holder_of (holder_at b.keeper.table s.place); change = change_number_at b.keeper.table s.place })) fine lt
            (si, holder_in (holder_at b.keeper.table s.place) (i.sections.within.0 s.place).0, i.sections.changes s.place),
      ))
      (λ _. refused_shape b l i fine)

  -- a change, heard by one engine, keeps the shape
  pub change_for_shape :
      (s : Section) (h : Holder) (change k : ℕ) (p : State × Log) → SectionIn y s → HolderIn y h → change < 2 ^ 32 → Shaped y n p → Shaped y n (change_for s h change (engine k) p)
  change_for_shape s h change k p si hi ci pi =
      cond_both (is_ours p.0.home (engine k)) _ _ (Shaped y n)
      (λ _. happened_shape p.0 (change_of p.0.home (engine k) s h change) p.1 pi.0 (change_steps y n p.0.home (engine k) s h change pi.0.engines si ci hi) pi.1)
      (λ _. pi)

  pub changed_shape :
      (b : State) (from : BoxNumber) (s : Section) (h : Holder) (change : ℕ) (l : Log) → InShape y n b → SectionIn y s → HolderIn y h → change < 2 ^ 32 → LogIn y l → Shaped y n (changed_at b from s h change l)
  changed_shape b from s h change l i si hi ci fine =
      cond_both (eqb from.0 s.keeper.0) _ _ (Shaped y n)
      (λ _. each_keeps (Shaped y n) (λ k. change_for s h change (engine k)) b.home.yard.engines (λ k p lt pi. change_for_shape s h change k p si hi ci pi) (b, l) (i, fine))
      (λ _. refused_shape b l i fine)

  waits_happen : (b : State) (e : Engine) (s : Section) (count : ℕ) (l : Log) → InShape y n b → EngineIn y e → SectionIn y s → count < 2 ^ 32 → LogIn y l → Shaped y n (happened b (waits_of b.home e s count) l)
  waits_happen b e s count l i ei si ni fine = happened_shape b (waits_of b.home e s count) l i (waits_steps y n b.home e s count i.engines ei si ni) fine

  sent_shape :
      (b : State) (e : Engine) (s : Section) (count change : ℕ) (h : Holder) (l : Log) → InShape y n b → EngineIn y e → SectionIn y s → count < 2 ^ 32 → change < 2 ^ 32 → LogIn y l →
      Shaped y n (wait_sent b e s count change h l)
  sent_shape b e s count change None l i ei si ni ci fine = (i, fine)
  sent_shape b e s count change (Some x) l i ei si ni ci fine =
      cond_both (eqb (home_of b.home.yard x).0 b.home.number.0) _ _ (Shaped y n)
      (λ _. waits_happen b e s count l i ei si ni fine)
      (λ _. (i, sent_in y l (home_of b.home.yard x) (message.Waits (record { engine = e; section = s; count = count; change = change })) fine (home_in y n b.home x i.engines) (ei, si, ni, ci)))

  pub wait_shape :
      (b : State) (from : BoxNumber) (e : Engine) (s : Section) (count change : ℕ) (l : Log) → InShape y n b → EngineIn y e → SectionIn y s → count < 2 ^ 32 → change < 2 ^ 32 → LogIn y l →
      Shaped y n (wait_at_box b from e s count change l)
  wait_shape b from e s count change l i ei si ni ci fine =
      cond_both (eqb s.keeper.0 b.home.number.0) _ _ (Shaped y n)
      (λ _. cond_both (is_home b.home.yard from e) _ _ (Shaped y n)
      (λ _. cond_both (eqb change (change_number_at b.keeper.table s.place)) _ _ (Shaped y n)
      (λ _. sent_shape b e s count change (holder_of (holder_at b.keeper.table s.place)) l i ei si ni ci fine)
      (λ _. (i, fine)))
      (λ _. refused_shape b l i fine))
      (λ _. cond_both (eqb from.0 s.keeper.0) _ _ (Shaped y n) (λ _. waits_happen b e s count l i ei si ni fine) (λ _. refused_shape b l i fine))

  -- a message in range, from a box of the yard, keeps the shape; what is recorded and sent is in range
  pub shape_received : (b : State) (from : BoxNumber) (m : Message) (l : Log) → InShape y n b → from.0 < y.boxes → MessageIn y m → LogIn y l → Shaped y n (received_of b from m l)
  shape_received b from (message.Call c) l i lt mi fine = called_shape b from c l i mi fine
  shape_received b from (message.Answer e k answer) l i lt mi fine = happened_shape b (answer_of b.home from e k answer.reply answer.holder answer.change) l i (answer_steps y n b.home from e k answer.reply answer.holder answer.change i.engines mi.4 mi.3) fine
  shape_received b from (message.Change news) l i lt mi fine = changed_shape b from news.section news.holder news.change l i mi.0 mi.1 mi.2 fine
  shape_received b from (message.WhichChange e s) l i lt mi fine = which_shape b from e s l i lt mi.1 fine
  shape_received b from (message.Sign telling) l i lt mi fine = happened_shape b (sign_of b.home from telling.to telling.count telling.by telling.sign) l i (sign_steps y n b.home from telling.to telling.count telling.by telling.sign i.engines mi.3) fine
  shape_received b from (message.Waits waiting) l i lt mi fine = wait_shape b from waiting.engine waiting.section waiting.count waiting.change l i mi.0 mi.1 mi.2 mi.3 fine

  -- so does a line of the driver or a second, whatever it names
  pub shape_handled : (b : State) (j : Input) (l : Log) → InShape y n b → IsLine j → LogIn y l → Shaped y n (handle_of b j l)
  shape_handled b (input.Take e s) l i is fine = happened_shape b (take_of b.home e s) l i (take_steps y n b.home e s i.engines) fine
  shape_handled b (input.Free e s) l i is fine = happened_shape b (free_of b.home e s) l i (free_steps y n b.home e s i.engines) fine
  shape_handled b (input.Received from m) l i is fine = absurd is
  shape_handled b input.Second l i is fine = (i, second_in y n b.home l i.engines fine)

  decoded_shape : (b : State) (from : BoxNumber) (o : Option Message) (l : Log) → InShape y n b → from.0 < y.boxes → ((m : Message) → o ≡ Some m → MessageIn y m) → LogIn y l →
      Shaped y n (decoded_of b from (ok_or o refusal.Malformed) l)
  decoded_shape b from None l i lt all fine = (i, said_in y l (output.Refused refusal.Malformed) fine tt)
  decoded_shape b from (Some m) l i lt all fine = shape_received b from m l i lt (all m refl) fine

  -- so do bytes from a box of the yard: what they are read as is in range
  pub shape_delivered : (b : State) (from : BoxNumber) (bytes : List ℕ) (l : Log) → InShape y n b → from.0 < y.boxes → Bytes bytes → LogIn y l → Shaped y n (delivered_of b from bytes l)
  shape_delivered b from bytes l i lt all fine =
      decoded_shape b from (message_of b.home.yard bytes) l i lt (λ m q. (one_form y bytes m all (ap (λ (z : Yard). message_of z bytes) (sym i.yard) ∙ q)).0) fine
