-- A cut message is turned away: what it would be read as would begin the whole one.
use Rattle.std.proofs.Common.{◌≡◌, ℕ, zero, suc, ◌%◌, ◌<◌, List, [], ◌∷◌, ◌++◌, Some, None, Option, sym, refl, ap, ◌∙◌, subst, mod-lt, arith, lit<}
use Rattle.messages.specs.declared.yard.Yard.{Yard}
use Rattle.messages.specs.declared.yard.Engine.{Engine}
use Rattle.messages.specs.declared.yard.Section.{Section}
use Rattle.messages.specs.declared.message.Act.{Act}
use Rattle.messages.specs.declared.message.Act.TheVariants as act
use Rattle.messages.specs.declared.message.Call.{Call}
use Rattle.messages.specs.declared.message.Refusal.{Refusal}
use Rattle.messages.specs.declared.message.Refusal.TheVariants as refusal
use Rattle.messages.specs.declared.message.Reply.{Reply}
use Rattle.messages.specs.declared.message.Reply.TheVariants as reply
use Rattle.messages.specs.declared.message.Message.{Message}
use Rattle.messages.specs.declared.message.Message.TheVariants as message
use Rattle.messages.specs.Holder.{Holder}
use Rattle.messages.specs.Promises.{Bytes, CutRefused}
use Rattle.messages.specs.Range.{CallIn, EngineIn, HolderIn, MessageIn, SectionIn}
use Rattle.messages.specs.Reading.{message_of}
use Rattle.messages.specs.Table.{act_byte, bytes_of, call_bytes, eight, four, holder_byte, refusal_number, reply_byte, reply_end, two}
use Rattle.messages.proofs.Forms.{one_form}
use Rattle.messages.proofs.Lengths.{none_begins_another}

abbrev pub AllBytes : List ℕ → Type 0
AllBytes [] = Unit {0}
AllBytes (x ∷ xs) = (x < 256) × AllBytes xs

pub bytes_from : (xs : List ℕ) → AllBytes xs → Bytes xs
bytes_from [] h i = lit< tt
bytes_from (x ∷ xs) h zero = h.0
bytes_from (x ∷ xs) h (suc i) = bytes_from xs h.1 i

pub all_front : (xs ys : List ℕ) → AllBytes (xs ++ ys) → AllBytes xs
all_front [] ys h = tt
all_front (x ∷ xs) ys h = (h.0, all_front xs ys h.1)

low : (n : ℕ) → n % 256 < 256
low n = mod-lt n (lit< tt)

pub four_all : (n : ℕ) (xs : List ℕ) → AllBytes xs → AllBytes (four n ++ xs)
four_all n xs h = (low _, (low _, (low _, (low _, h))))

pub eight_all : (n : ℕ) (xs : List ℕ) → AllBytes xs → AllBytes (eight n ++ xs)
eight_all n xs h = (low _, (low _, (low _, (low _, (low _, (low _, (low _, (low _, h))))))))

pub engine_byte : (y : Yard) (e : Engine) → EngineIn y e → e.0 < 256
engine_byte y e h = omega arith

pub section_all : (y : Yard) (s : Section) (xs : List ℕ) → SectionIn y s → AllBytes xs → AllBytes (two s ++ xs)
section_all y s xs h t = (omega arith, (omega arith, t))

holder_byte_lem : (y : Yard) (h : Holder) → HolderIn y h → holder_byte h < 256
holder_byte_lem y None h = lit< tt
holder_byte_lem y (Some e) h = engine_byte y e h

act_byte_lem : (a : Act) → act_byte a < 256
act_byte_lem act.Take = lit< tt
act_byte_lem act.Free = lit< tt
act_byte_lem act.GiveUp = lit< tt

refusal_byte : (q : Refusal) → refusal_number q < 256
refusal_byte refusal.Malformed = lit< tt
refusal_byte refusal.WrongCall = lit< tt
refusal_byte refusal.Waiting = lit< tt
refusal_byte refusal.Mismatch = lit< tt
refusal_byte refusal.Stale = lit< tt
refusal_byte refusal.Exhausted = lit< tt

reply_byte_lem : (r : Reply) → reply_byte r < 256
reply_byte_lem reply.Done = lit< tt
reply_byte_lem reply.Waits = lit< tt
reply_byte_lem (reply.Refused q) = lit< tt

reply_all : (r : Reply) → AllBytes (reply_end r)
reply_all reply.Done = tt
reply_all reply.Waits = tt
reply_all (reply.Refused q) = (refusal_byte q, tt)

pub call_all : (y : Yard) (c : Call) → CallIn y c → AllBytes (call_bytes c)
call_all y c h = (act_byte_lem c.act, (engine_byte y c.engine h.0, section_all y c.section (four c.number) h.1 (four_all c.number [] tt)))

pub message_all : (y : Yard) (m : Message) → MessageIn y m → AllBytes (bytes_of m)
message_all y (message.Call c) i = call_all y c i
message_all y (message.Answer e n a) i = (
  lit< tt,
  (
    engine_byte y e i.0,
    four_all n (reply_byte a.reply ∷ holder_byte a.holder ∷ four a.change ++ reply_end a.reply)
        (reply_byte_lem a.reply, (holder_byte_lem y a.holder i.3, four_all a.change (reply_end a.reply) (reply_all a.reply))),
  ),
)
message_all y (message.Change c) i =
    (lit< tt, section_all y c.section (holder_byte c.holder ∷ four c.change) i.0 (holder_byte_lem y c.holder i.1, four_all c.change [] tt))
message_all y (message.WhichChange e s) i = (lit< tt, (engine_byte y e i.0, section_all y s [] i.1 tt))
message_all y (message.Sign s) i =
    (lit< tt, (engine_byte y s.to i.0, four_all s.count (s.by.0 ∷ eight s.sign) (engine_byte y s.by i.2, eight_all s.sign [] tt)))
message_all y (message.Waits w) i =
    (lit< tt, (engine_byte y w.engine i.0, section_all y w.section (four w.count ++ four w.change) i.1 (four_all w.count (four w.change) (four_all w.change [] tt))))

refused_by : (y : Yard) (m : Message) (front rest : List ℕ) → Bytes front → front ++ rest ≡ bytes_of m → (rest ≡ [] → ⊥)
    → (o : Option Message) → message_of y front ≡ o → o ≡ None
refused_by y m front rest b is more None p = refl
refused_by y m front rest b is more (Some n) p =
    absurd (more (none_begins_another n m rest (ap (λ (l : List ℕ). l ++ rest) (one_form y front n b p).1 ∙ is)))

pub cut_refused : CutRefused
cut_refused y m front rest i is more =
    let P : List ℕ → Type 0 = AllBytes in
    refused_by y m front rest (bytes_from front (all_front front rest (subst P (sym is) (message_all y m i)))) is more (message_of y front) refl
