-- That a keeper names no engine beyond those that call it, so that all it answers can be written. Assumes nothing.
use Rattle.std.specs.Prelude.{◌≡◌, ℕ, ◌<◌, true, List, [], ◌∷◌, Some}
use Rattle.messages.specs.declared.yard.Yard.{Yard}
use Rattle.messages.specs.declared.message.Call.{Call}
use Rattle.messages.specs.Range.{EngineIn, HolderIn, ReplyIn}
use Rattle.sections.specs.Table.{Section, is_in, place_at}
use Rattle.messages.specs.declared.message.Answer.{Answer}
use Rattle.keeper.specs.declared.Verdict.{Verdict}
use Rattle.keeper.specs.declared.Verdict.TheVariants as verdict
use Rattle.keeper.specs.Model.{State, last_of}
use Rattle.keeper.specs.Runs.{after}

-- whoever has the section or waits for it is an engine of the yard
abbrev pub SectionWithin : Yard → Section → Type 0
SectionWithin y s = ((e : ℕ) → s.has ≡ Some e → e < y.engines) × ((e : ℕ) → is_in e s.queue ≡ true → e < y.engines)

-- an answer that a message can carry in the yard
abbrev pub AnswerIn : Yard → Answer → Type 0
AnswerIn y a = ReplyIn a.reply × HolderIn y a.holder

-- so it is with all sections of the keeper; and the answers that it keeps can be written
abbrev pub Within : Yard → State → Type 0
Within y k = ((place : ℕ) → SectionWithin y (place_at k.table place)) × ((e : ℕ) → AnswerIn y (last_of k e).answer)

-- what a verdict answers can be written
abbrev pub VerdictIn : Yard → Verdict → Type 0
VerdictIn y verdict.Malformed = Unit {0}
VerdictIn y verdict.PassedOver = Unit {0}
VerdictIn y (verdict.Again a) = AnswerIn y a
VerdictIn y (verdict.AtLimit a) = AnswerIn y a
VerdictIn y (verdict.Refused r a) = AnswerIn y a
VerdictIn y (verdict.Done a) = AnswerIn y a
VerdictIn y (verdict.PassedOn a) = AnswerIn y a

-- 5. A call of an engine of the yard leaves the keeper within it, and is answered by what a message can carry.
abbrev pub StaysWithin : State → Call → State → Verdict → Type 0
StaysWithin before c after v = (y : Yard) → EngineIn y c.engine → Within y before → Within y after × VerdictIn y v

-- every call of the list is of an engine of the yard
abbrev pub AllIn : Yard → List Call → Type 0
AllIn y [] = Unit {0}
AllIn y (c ∷ calls) = EngineIn y c.engine × AllIn y calls

-- 6. Called by the yard's engines alone, a keeper names no others.
abbrev pub StaysInYard : Type 0
StaysInYard = (y : Yard) (calls : List Call) → AllIn y calls → Within y (after calls)
