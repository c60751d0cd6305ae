-- A message in range is read back from its bytes: each field by itself, then each kind.
use Rattle.std.proofs.Common.{◌≡◌, ℕ, Bool, cond, List, ◌∷◌, ◌++◌, Some, None, Option, refl, ap, ◌∙◌, arith}
use Rattle.std.proofs.lemmas.Bool.{and_from, lt-ltb, ne_eqb}
use Rattle.messages.specs.declared.yard.Yard.{Yard}
use Rattle.messages.specs.declared.yard.Engine.{Engine}
use Rattle.messages.specs.declared.yard.Section.{Section}
use Rattle.messages.specs.declared.message.Act.{Act}
use Rattle.messages.specs.declared.message.Act.TheVariants as act
use Rattle.messages.specs.declared.message.Call.{Call}
use Rattle.messages.specs.declared.message.Refusal.TheVariants as refusal
use Rattle.messages.specs.declared.message.Reply.{Reply}
use Rattle.messages.specs.declared.message.Reply.TheVariants as reply
use Rattle.messages.specs.declared.message.Message.TheVariants as message
use Rattle.messages.specs.Holder.{Holder}
use Rattle.messages.specs.Promises.{ReadsBack}
use Rattle.messages.specs.Range.{CallIn, EngineIn, HolderIn, MessageIn, ReplyIn, SectionIn}
use Rattle.messages.specs.Reading.{call_of, calling, engine_of, holder_of, kind_of, message_of, reply_of, section_of, unless, and_then}
use Rattle.messages.specs.Table.{act_byte, bytes_of, four, holder_byte, reply_byte, reply_end, two}
use Rattle.messages.proofs.Numbers.{eight_back, four_back}

pub engine_back : (y : Yard) (e : Engine) → EngineIn y e → engine_of y e.0 ≡ Some e
engine_back y e h = ap (λ (t : Bool). unless t (Some e)) (lt-ltb e.0 y.engines h)

pub section_back : (y : Yard) (s : Section) → SectionIn y s → section_of y s.keeper.0 s.place ≡ Some s
section_back y s h = ap (λ (t : Bool). unless t (Some s)) (and_from _ _ (lt-ltb s.keeper.0 y.boxes h.0) (lt-ltb s.place 64 h.1))

pub holder_back : (y : Yard) (h : Holder) → HolderIn y h → holder_of y (holder_byte h) ≡ Some h
holder_back y None h = refl
holder_back y (Some e) h =
    ap (λ (t : Bool). cond t (Some None) (and_then (engine_of y e.0) (λ x. Some (Some x)))) (ne_eqb e.0 255 (omega arith))
    ∙ ap (λ (o : Option Engine). and_then o (λ x. Some (Some x))) (engine_back y e h)

pub reply_back : (r : Reply) → ReplyIn r → reply_of (reply_byte r) (reply_end r) ≡ Some r
reply_back reply.Done h = refl
reply_back reply.Waits h = refl
reply_back (reply.Refused refusal.Malformed) h = absurd h
reply_back (reply.Refused refusal.WrongCall) h = absurd h
reply_back (reply.Refused refusal.Waiting) h = refl
reply_back (reply.Refused refusal.Mismatch) h = refl
reply_back (reply.Refused refusal.Stale) h = absurd h
reply_back (reply.Refused refusal.Exhausted) h = refl

pub call_back : (y : Yard) (c : Call) → CallIn y c → call_of y c.act (c.engine.0 ∷ two c.section ++ four c.number) ≡ Some c
call_back y c h = rw (engine_back y c.engine h.0, section_back y c.section h.1, four_back c.number h.2)

act_kind : (y : Yard) (a : Act) (xs : List ℕ) → kind_of y (act_byte a) xs ≡ calling (call_of y a xs)
act_kind y act.Take xs = refl
act_kind y act.Free xs = refl
act_kind y act.GiveUp xs = refl

-- an answer, by what becomes of the call
answer_back : (y : Yard) (e : Engine) (n : ℕ) (r : Reply) (h : Holder) (c : ℕ)
    → (let m = message.Answer e n (record { reply = r; holder = h; change = c }) in MessageIn y m → message_of y (bytes_of m) ≡ Some m)
answer_back y e n reply.Done h c i = rw (engine_back y e i.0, holder_back y h i.3, four_back n i.1, four_back c i.4)
answer_back y e n reply.Waits h c i = rw (engine_back y e i.0, holder_back y h i.3, four_back n i.1, four_back c i.4)
answer_back y e n (reply.Refused q) h c i =
    rw (engine_back y e i.0, reply_back (reply.Refused q) i.2, holder_back y h i.3, four_back n i.1, four_back c i.4)

pub reads_back : ReadsBack
reads_back y (message.Call c) h = act_kind y c.act (c.engine.0 ∷ two c.section ++ four c.number) ∙ ap calling (call_back y c h)
reads_back y (message.Answer e n a) i = answer_back y e n a.reply a.holder a.change i
reads_back y (message.Change c) i = rw (section_back y c.section i.0, holder_back y c.holder i.1, four_back c.change i.2)
reads_back y (message.WhichChange e s) i = rw (engine_back y e i.0, section_back y s i.1)
reads_back y (message.Sign s) i = rw (engine_back y s.to i.0, engine_back y s.by i.2, four_back s.count i.1, eight_back s.sign i.3)
reads_back y (message.Waits w) i = rw (engine_back y w.engine i.0, section_back y w.section i.1, four_back w.count i.2, four_back w.change i.3)
