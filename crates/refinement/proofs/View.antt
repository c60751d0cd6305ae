-- What ties boxes, and all messages ever sent, to the model of the yard: the invariant that every input of a box keeps.
use Rattle.std.specs.Prelude.{Some}
use Rattle.std.proofs.Common.{◌≡◌, ℕ, ◌+◌, ◌*◌, ◌%◌, ◌<◌, ◌≤◌, true, ◌⊎◌, List, length, get_or}
use Rattle.messages.specs.declared.yard.BoxNumber.{BoxNumber}
use Rattle.messages.specs.declared.yard.Section.{Section}
use Rattle.messages.specs.declared.yard.Yard as sizes
use Rattle.messages.specs.declared.message.Act.{Act}
use Rattle.messages.specs.declared.message.Act.TheVariants as act
use Rattle.messages.specs.declared.message.Call.{Call}
use Rattle.messages.specs.Holder.{Holder}
use Rattle.messages.specs.declared.message.Message.{Message}
use Rattle.messages.specs.declared.message.Message.TheVariants as message
use Rattle.messages.specs.declared.message.Refusal.TheVariants as refusal
use Rattle.messages.specs.declared.message.Reply.{Reply}
use Rattle.messages.specs.declared.message.Reply.TheVariants as reply
use Rattle.messages.specs.Range.{SectionIn, HolderIn}
use Rattle.sections.specs.Table.{place_at}
use Rattle.sections.specs.Table as table
use Rattle.signs.specs.Signs.{Wait}
use Rattle.signs.specs.Table as signs
use Rattle.engine_state.specs.declared.state.Event.{Event}
use Rattle.engine_state.specs.declared.state.Event.TheVariants as event
use Rattle.engine_state.specs.declared.state.Known.{Known}
use Rattle.engine_state.specs.declared.state.Known.TheVariants as known
use Rattle.engine_state.specs.declared.state.Mode.{Mode}
use Rattle.engine_state.specs.declared.state.Mode.TheVariants as mode
use Rattle.engine_state.specs.declared.state.State.{State}
use Rattle.engine_state.specs.Places.{has_of}
use Rattle.messages.specs.declared.message.Answer.{Answer}
use Rattle.keeper.specs.declared.LastCall.{LastCall}
use Rattle.keeper.specs.declared.Verdict.{Verdict}
use Rattle.keeper.specs.declared.Verdict.TheVariants as verdict
use Rattle.keeper.specs.Model.{last_of}
use Rattle.keeper.specs.Calls.{call_of}
use Rattle.home.specs.Home.{at}
use Rattle.home.specs.Queries.{engine, note_at}
use Rattle.home_laws.specs.Steps as homes
use Rattle.boxes.specs.Model.{State as Box, with_keeper, with_home}
use Rattle.yard.specs.Yard as model
use Rattle.yard.specs.Yard.{put, by, Queued, HasBegun, Told, Finds, Run}
use Rattle.yard.proofs.Views.{Moved}
use Rattle.refinement.specs.Placed.{number_of, holder_by, holder_told, engine_by}

-- the boxes by number
abbrev pub Boxes : Type 0
Boxes = ℕ → Box

-- an engine at its home
abbrev pub state_in : sizes.Yard → Boxes → ℕ → State
state_in y bs e = at (bs (e % y.boxes)).home (engine e)

-- the last call number that an engine used with a box
abbrev pub used_by : State → ℕ → ℕ
used_by x b = get_or x.stored.used b 0

-- the last call of an engine that a box has
abbrev pub last_at : Boxes → ℕ → ℕ → LastCall
last_at bs b e = last_of (bs b).keeper e

-- the tables of a box have their sizes
pub record Sized (y : sizes.Yard) (n : ℕ) (b : Box) : Type 0 where
  pub yard : b.home.yard ≡ y
  pub number : b.home.number.0 ≡ n
  pub signs : signs.Sized b.home.signs
  pub stored : length b.home.stored ≡ 64
  pub known : length b.home.known ≡ 64
  pub notes : length b.home.notes ≡ 64
  pub table : length b.keeper.table ≡ 64
  pub calls : length b.keeper.calls ≡ 64

-- a section is the same in its box and in the model
pub record SectionAs (s : table.Section) (x : model.Section) : Type 0 where
  pub holder : x.holder ≡ holder_by s.has
  pub queue : x.queue ≡ s.queue
  pub change : x.change ≡ s.change

-- an engine stands in a queue, or has the section by now, and whom an answer names had the section at the change that it names, since the engine came
pub record Stands (z : model.Yard) (e s : ℕ) (h : Holder) (m : ℕ) : Type 0 where
  pub whom : ℕ
  pub named : h ≡ Some (engine whom)
  pub other : e ≡ whom → ⊥
  pub place : Queued z e s ⊎ (model.holder z s ≡ by e)
  pub since : (z.section s).came e ≤ m
  pub until : m ≤ (z.section s).change
  pub past : (z.section s).past m ≡ by whom

-- what the answer to an engine's last call means, as long as that is its last call
abbrev pub TakeMeans : model.Yard → ℕ → ℕ → Answer → Reply → Type 0
TakeMeans z e s a reply.Done = model.holder z s ≡ by e
TakeMeans z e s a reply.Waits = Stands z e s a.holder a.change
TakeMeans z e s a (reply.Refused r) = ⊥

abbrev pub FreeMeans : model.Yard → ℕ → ℕ → Reply → Type 0
FreeMeans z e s reply.Done = model.holder z s ≡ by e → ⊥
FreeMeans z e s reply.Waits = ⊥
FreeMeans z e s (reply.Refused r) = ⊥

abbrev pub GiveUpMeans : model.Yard → ℕ → ℕ → Answer → Reply → Type 0
GiveUpMeans z e s a reply.Done = Queued z e s → ⊥
GiveUpMeans z e s a reply.Waits = ⊥
GiveUpMeans z e s a (reply.Refused r) = (Queued z e s → ⊥) × (a.holder ≡ Some (engine e) → model.holder z s ≡ by e)

abbrev pub Means : model.Yard → ℕ → Act → ℕ → Answer → Type 0
Means z e act.Take s a = TakeMeans z e s a a.reply
Means z e act.Free s a = FreeMeans z e s a.reply
Means z e act.GiveUp s a = GiveUpMeans z e s a a.reply

-- what holds while a call has not come to the section's box
abbrev pub Undone : model.Yard → ℕ → Act → ℕ → Type 0
Undone z e act.Take s = (model.holder z s ≡ by e → ⊥) × (Queued z e s → ⊥)
Undone z e act.Free s = model.holder z s ≡ by e
Undone z e act.GiveUp s = Unit {0}

-- an engine's last call: it has the last number used; it was answered, or has not come yet
abbrev pub LastOne : model.Yard → ℕ → LastCall → ℕ → Act → ℕ → ℕ → Type 0
LastOne z e last used a s n = (n ≡ used) × (((n ≡ last.number) × Means z e a s last.answer) ⊎ ((n ≡ last.number + 1) × Undone z e a s))

-- how the numbers stand between an engine and a box: the box has had all calls but perhaps the engine's last one
abbrev pub Counted : model.Yard → ℕ → ℕ → LastCall → ℕ → Mode → Type 0
Counted z e b last used mode.Idle = used ≡ last.number
Counted z e b last used (mode.Called a s n) = (s.keeper.0 ≡ b → LastOne z e last used a (number_of s) n) × ((s.keeper.0 ≡ b → ⊥) → used ≡ last.number)
Counted z e b last used (mode.Waiting s c) = used ≡ last.number

abbrev pub HadMeans : model.Yard → ℕ → Act → ℕ → Type 0
HadMeans z e act.Take s = model.holder z s ≡ by e
HadMeans z e act.Free s = ⊥
HadMeans z e act.GiveUp s = model.holder z s ≡ by e

abbrev pub ClosedMeans : model.Yard → ℕ → Act → ℕ → Type 0
ClosedMeans z e act.Take s = ⊥
ClosedMeans z e act.Free s = model.holder z s ≡ by e → ⊥
ClosedMeans z e act.GiveUp s = Queued z e s → ⊥

-- what a home knows of how an engine's last call or wait ended is true; last: the numbers of the engine's last calls by box
abbrev pub Ended : model.Yard → ℕ → (ℕ → ℕ) → Known → Mode → Type 0
Ended z e last known.Pending m = Unit {0}
Ended z e last known.Had mode.Idle = Unit {0}
Ended z e last known.Had (mode.Called a s n) = (n ≡ last s.keeper.0) × HadMeans z e a (number_of s)
Ended z e last known.Had (mode.Waiting s c) = model.holder z (number_of s) ≡ by e
Ended z e last known.Closed mode.Idle = Unit {0}
Ended z e last known.Closed (mode.Called a s n) = (n ≡ last s.keeper.0) × ClosedMeans z e a (number_of s)
Ended z e last known.Closed (mode.Waiting s c) = ⊥

-- a mode is about a section of the yard, and a wait is for an engine of it
abbrev pub ModeIn : sizes.Yard → Mode → Wait → Type 0
ModeIn y mode.Idle w = Unit {0}
ModeIn y (mode.Called a s n) w = SectionIn y s
ModeIn y (mode.Waiting s c) w = SectionIn y s × ((j : ℕ) × (w ≡ Some j) × (j < y.engines))

-- an engine that has a section has it by what its home's file keeps, or by what its last record is about
abbrev pub About : Section → Mode → Type 0
About s mode.Idle = ⊥
About s (mode.Called act.Take t n) = t ≡ s
About s (mode.Called act.Free t n) = t ≡ s
About s (mode.Called act.GiveUp t n) = ⊥
About s (mode.Waiting t c) = t ≡ s

-- an engine e in the model is as its home has it, x, and what its home and the boxes know of it is true; last: its last calls by box
pub record EngineAs (y : sizes.Yard) (last : ℕ → LastCall) (x : State) (z : model.Yard) (e : ℕ) : Type 0 where
  pub same : z.engine e ≡ engine_by x
  pub within : ModeIn y x.stored.mode x.signs.wait
  pub used : length x.stored.used ≡ 16
  pub words : length x.stored.kept.words ≡ 16
  pub kept : (s : Section) → has_of x.stored.kept s ≡ true → (model.holder z (number_of s) ≡ by e) × (model.mode z e ≡ model.freeing (number_of s) → ⊥)
  pub has : (s : Section) → SectionIn y s → model.holder z (number_of s) ≡ by e → (has_of x.stored.kept s ≡ true) ⊎ About s x.stored.mode
  pub ended : Ended z e (λ b. (last b).number) x.known x.stored.mode
  pub counted : (b : ℕ) → b < y.boxes → Counted z e b (last b) (used_by x b) x.stored.mode
  pub since : (j s m : ℕ) → model.mode z e ≡ model.waiting j s m → (z.section s).came e ≤ m

-- boxes are as the model has them
pub record As (y : sizes.Yard) (bs : Boxes) (z : model.Yard) : Type 0 where
  pub sections : (b p : ℕ) → b < y.boxes → p < 64 → SectionAs (place_at (bs b).keeper.table p) (z.section (b * 64 + p))
  pub engines : (e : ℕ) → e < y.engines → EngineAs y (λ b. last_at bs b e) (state_in y bs e) z e
  pub notes : (b e : ℕ) (s : Section) (c : ℕ) → b < y.boxes → note_at (bs b).home (engine e) ≡ Some (record { section = s; count = c }) → HasBegun z e c (number_of s)

-- a call that was sent: its number was used, and if it is the engine's last number, it is the last call
abbrev pub SameCall : Call → Mode → Type 0
SameCall c mode.Idle = Unit {0}
SameCall c (mode.Called a s n) = s.keeper.0 ≡ c.section.keeper.0 → n ≡ c.number → (a ≡ c.act) × (s ≡ c.section)
SameCall c (mode.Waiting s m) = Unit {0}

abbrev pub WasCalled : State → Call → Type 0
WasCalled x c = (c.number ≤ used_by x c.section.keeper.0) × SameCall c x.stored.mode

-- an answer that was sent: it is the last one that the box keeps, or older, or says that a number is at its limit
abbrev pub AnswerStands : LastCall → ℕ → Answer → Type 0
AnswerStands last n a = (n < last.number) ⊎ (((n ≡ last.number) × (last.answer ≡ a)) ⊎ (a.reply ≡ reply.Refused refusal.Exhausted))

-- a message that was sent by a box is true, now and later
abbrev pub True : sizes.Yard → Boxes → model.Yard → BoxNumber → Message → Type 0
True y bs z from (message.Call c) = WasCalled (state_in y bs c.engine.0) c
True y bs z from (message.Answer e n answer) = AnswerStands (last_at bs from.0 e.0) n answer
True y bs z from (message.Change news) = ((z.section (number_of news.section)).past news.change ≡ holder_told news.holder) × (news.change ≤ (z.section (number_of news.section)).change)
True y bs z from (message.WhichChange e s) = Unit {0}
True y bs z from (message.Sign telling) = Told z telling.to.0 telling.count telling.by.0 telling.sign
True y bs z from (message.Waits waiting) = HasBegun z waiting.engine.0 waiting.count (number_of waiting.section)

-- a call is to a box of the yard
abbrev pub ToABox : sizes.Yard → Message → Type 0
ToABox y (message.Call c) = c.section.keeper.0 < y.boxes
ToABox y (message.Answer e n answer) = Unit {0}
ToABox y (message.Change news) = Unit {0}
ToABox y (message.WhichChange e s) = Unit {0}
ToABox y (message.Sign telling) = Unit {0}
ToABox y (message.Waits waiting) = Unit {0}

-- what comes to a home may come: messages are true
abbrev pub MayCome : sizes.Yard → Boxes → model.Yard → homes.Input → Type 0
MayCome y bs z (homes.take e s) = Unit {0}
MayCome y bs z (homes.free e s) = Unit {0}
MayCome y bs z (homes.answer from e n r h c) = True y bs z from (message.Answer e n (record { reply = r; holder = h; change = c })) × HolderIn y h × (from.0 < y.boxes)
MayCome y bs z (homes.change e s h c) = ((z.section (number_of s)).past c ≡ holder_told h) × (c ≤ (z.section (number_of s)).change) × HolderIn y h
MayCome y bs z (homes.sign from e count teller s) = Told z e.0 count teller.0 s
MayCome y bs z (homes.waits e s count) = HasBegun z e.0 count (number_of s)

-- what an event at an engine says is true: before it (z), and after it (x, the engine it is for, and u)
abbrev pub EventTrue : sizes.Yard → model.Yard → (ℕ → State) → model.Yard → Event → Type 0
EventTrue y z x u event.PassedOver = Unit {0}
EventTrue y z x u (event.Refused r) = Unit {0}
EventTrue y z x u (event.RefusedBy r) = Unit {0}
EventTrue y z x u (event.Had e s) = model.holder z (number_of s) ≡ by e.0
EventTrue y z x u event.Closed = Unit {0}
EventTrue y z x u (event.Called c) = (c.engine.0 < y.engines) × SectionIn y c.section × WasCalled (x c.engine.0) c
EventTrue y z x u (event.Found c) = (c.engine.0 < y.engines) × SectionIn y c.section × WasCalled (x c.engine.0) c × ((j : ℕ) × Finds z c.engine.0 j (number_of c.section))
EventTrue y z x u (event.Began start) = (start.engine.0 < y.engines) × HasBegun u start.engine.0 start.count (number_of start.section) × ((x start.engine.0).signs.shown ≡ start.own)
EventTrue y z x u (event.Heard e sign) = (e.0 < y.engines) × ((x e.0).signs.shown ≡ sign)
EventTrue y z x u (event.Noted telling) = (s : Section) × HasBegun u telling.to.0 telling.count (number_of s) × (model.holder u (number_of s) ≡ by telling.by.0) × (model.shown u telling.by.0 ≡ telling.sign)

-- one engine's own step, from x to what p has, is a run of the model in which no other engine and no section changes
pub record OwnStep (y : sizes.Yard) (last : ℕ → LastCall) (z : model.Yard) (e : ℕ) (x : State) (p : State × Event) : Type 0 where
  pub acts : List model.Act
  pub now : model.Yard
  pub run : Run y.engines z acts now
  pub engine : EngineAs y last p.0 now e
  pub others : (k : ℕ) → (k ≡ e → ⊥) → now.engine k ≡ z.engine k
  pub sections : now.section ≡ z.section
  pub calls : (c : Call) → c.section.keeper.0 < y.boxes → WasCalled x c → WasCalled p.0 c
  pub event : EventTrue y z (λ k. p.0) now p.1

-- one input at one home is a run of the model, and keeps all this
pub record HomeStep (y : sizes.Yard) (bs : Boxes) (z : model.Yard) (n : ℕ) (i : homes.Input) : Type 0 where
  pub acts : List model.Act
  pub now : model.Yard
  pub run : Run y.engines z acts now
  pub holds : As y (put n (with_home (bs n) (homes.step_of (bs n).home i).0) bs) now
  pub stays : (from : BoxNumber) (m : Message) → ToABox y m → True y bs z from m → True y (put n (with_home (bs n) (homes.step_of (bs n).home i).0) bs) now from m
  pub event : EventTrue y z (state_in y (put n (with_home (bs n) (homes.step_of (bs n).home i).0) bs)) now (homes.step_of (bs n).home i).1
  pub sections : now.section ≡ z.section

-- what a verdict answers is true
abbrev pub AnswerTrue : sizes.Yard → Boxes → model.Yard → ℕ → Call → Answer → Type 0
AnswerTrue y bs z n c a = True y bs z (record { 0 = n }) (message.Answer c.engine c.number a)

abbrev pub VerdictTrue : sizes.Yard → Boxes → model.Yard → ℕ → Call → Verdict → Type 0
VerdictTrue y bs z n c verdict.Malformed = Unit {0}
VerdictTrue y bs z n c verdict.PassedOver = Unit {0}
VerdictTrue y bs z n c (verdict.Again a) = AnswerTrue y bs z n c a
VerdictTrue y bs z n c (verdict.AtLimit a) = AnswerTrue y bs z n c a
VerdictTrue y bs z n c (verdict.Refused r a) = AnswerTrue y bs z n c a
VerdictTrue y bs z n c (verdict.Done a) = AnswerTrue y bs z n c a
VerdictTrue y bs z n c (verdict.PassedOn a) = AnswerTrue y bs z n c a × True y bs z (record { 0 = n }) (message.Change (record { section = c.section; holder = a.holder; change = a.change }))

-- one call at a section's box is a run of the model, and keeps all this
pub record KeeperStep (y : sizes.Yard) (bs : Boxes) (z : model.Yard) (n : ℕ) (c : Call) : Type 0 where
  pub acts : List model.Act
  pub now : model.Yard
  pub run : Run y.engines z acts now
  pub holds : As y (put n (with_keeper (bs n) (call_of (bs n).keeper c).0) bs) now
  pub stays : (from : BoxNumber) (m : Message) → ToABox y m → True y bs z from m → True y (put n (with_keeper (bs n) (call_of (bs n).keeper c).0) bs) now from m
  pub verdict : VerdictTrue y (put n (with_keeper (bs n) (call_of (bs n).keeper c).0) bs) now n c (call_of (bs n).keeper c).1
  pub engines : now.engine ≡ z.engine
  pub moved : (s : ℕ) → Moved y.engines z s (now.section s)
