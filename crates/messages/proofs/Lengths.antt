-- How long a message is stands in its first bytes, so that none begins another.
use Rattle.std.proofs.Common.{◌≡◌, ℕ, cond, eqb, List, [], ◌∷◌, ◌++◌, length, get_or, sym, refl, ap, ◌∙◌, arith, append-nil, length-append}
use Rattle.messages.specs.declared.yard.Engine.{Engine}
use Rattle.messages.specs.declared.message.Act.{Act}
use Rattle.messages.specs.declared.message.Act.TheVariants as act
use Rattle.messages.specs.declared.message.Reply.{Reply}
use Rattle.messages.specs.declared.message.Reply.TheVariants as reply
use Rattle.messages.specs.declared.message.Message.{Message}
use Rattle.messages.specs.declared.message.Message.TheVariants as message
use Rattle.messages.specs.Holder.{Holder}
use Rattle.messages.specs.Promises.{NoneBeginsAnother}
use Rattle.messages.specs.Table.{act_byte, bytes_of, four, two}

-- by the first byte, and of an answer by the seventh
abbrev size : List ℕ → ℕ
size xs = cond (eqb (get_or xs 0 0) 4) (cond (eqb (get_or xs 6 0) 0) 13 12)
    (cond (eqb (get_or xs 0 0) 5) 8 (cond (eqb (get_or xs 0 0) 6) 4 (cond (eqb (get_or xs 0 0) 7) 15 (cond (eqb (get_or xs 0 0) 12) 12 8))))

size_call : (a : Act) (xs : List ℕ) → size (act_byte a ∷ xs) ≡ 8
size_call act.Take xs = refl
size_call act.Free xs = refl
size_call act.GiveUp xs = refl

size_answer : (e : Engine) (n : ℕ) (r : Reply) (h : Holder) (c : ℕ) (more : List ℕ)
    → (let m = message.Answer e n (record { reply = r; holder = h; change = c }) in size (bytes_of m ++ more) ≡ length (bytes_of m))
size_answer e n reply.Done h c more = refl
size_answer e n reply.Waits h c more = refl
size_answer e n (reply.Refused q) h c more = refl

size_is : (m : Message) (more : List ℕ) → size (bytes_of m ++ more) ≡ length (bytes_of m)
size_is (message.Call c) more = size_call c.act (c.engine.0 ∷ two c.section ++ four c.number ++ more)
size_is (message.Answer e n a) more = size_answer e n a.reply a.holder a.change more
size_is (message.Change c) more = refl
size_is (message.WhichChange e s) more = refl
size_is (message.Sign s) more = refl
size_is (message.Waits w) more = refl

empty : (xs : List ℕ) → length xs ≡ 0 → xs ≡ []
empty [] h = refl
empty (x ∷ xs) h = absurd (omega arith)

pub ends : (xs ys more : List ℕ) → xs ++ more ≡ ys → length xs ≡ length ys → more ≡ []
ends xs ys more is same = empty more (omega (arith, simp length-append at (ap length is)))

pub none_begins_another : NoneBeginsAnother
none_begins_another m n more is =
    ends (bytes_of m) (bytes_of n) more is (sym (size_is m more) ∙ (ap size (is ∙ sym (append-nil (bytes_of n))) ∙ size_is n []))
