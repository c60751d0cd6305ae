-- What a rehearsal does with a call, and the text of its answers.
use Rattle.std.specs.Prelude.{ℕ, cond, List, ◌++◌, Some, None, Ok, Err, codes, decimal, Result, nat_lt}
use Rattle.std.specs.List.{flat_map}
use Rattle.sections.specs.declared.Done.{Done}
use Rattle.sections.specs.declared.Done.TheVariants.{Had, Waits, LetGo, Left}
use Rattle.sections.specs.declared.Refusal.{Refusal}
use Rattle.sections.specs.declared.Refusal.TheVariants.{OutOfRange}
use Rattle.sections.specs.Bytes.{number_of}
use Rattle.sections.specs.Table.{Holder, Table, free_of, give_up_of, take_of}
use Rattle.one_box.specs.declared.script.Verb.{Verb}
use Rattle.one_box.specs.declared.script.Verb.TheVariants.{Take, Free as Frees, GiveUp}
use Rattle.one_box.specs.declared.script.Call.{Call}

-- the sections' call that a verb stands for
abbrev pub by_verb : Verb → Table → ℕ → ℕ → Table × Result Done Refusal
by_verb Take t engine place = take_of t engine place
by_verb Frees t engine place = free_of t engine place
by_verb GiveUp t engine place = give_up_of t engine place

-- a call by an engine of the yard; by any other it is refused as out of range
abbrev pub play_of : ℕ → Table → Call → Table × Result Done Refusal
play_of engines t call = cond (nat_lt call.engine engines) (by_verb call.verb t call.engine call.place) (t, Err OutOfRange)

-- the call's engine and section
abbrev pub which_text : Call → List ℕ
which_text call = decimal call.engine ++ (codes " 0:" ++ decimal call.place)

abbrev pub let_go_text : Call → Holder → List ℕ
let_go_text call None = codes "let go " ++ (decimal call.engine ++ (codes " 0:" ++ (decimal call.place ++ codes " to nobody")))
let_go_text call (Some next) = codes "let go " ++ (decimal call.engine ++ (codes " 0:" ++ (decimal call.place ++ (codes " to " ++ decimal next))))

abbrev pub done_text : Call → Done → List ℕ
done_text call Had = codes "had " ++ which_text call
done_text call (Waits holder) = codes "waits " ++ (decimal call.engine ++ (codes " 0:" ++ (decimal call.place ++ (codes " for " ++ decimal holder))))
done_text call (LetGo next) = let_go_text call next
done_text call Left = codes "left " ++ which_text call

-- the line that answers a call
abbrev pub answer_text : Call → Result Done Refusal → List ℕ
answer_text call (Ok done) = done_text call done
answer_text call (Err refusal) = codes "refused " ++ decimal (number_of refusal)

-- those who wait, each behind a space
abbrev pub queue_text : List ℕ → List ℕ
queue_text queue = flat_map (λ engine. codes " " ++ decimal engine) queue

abbrev pub head_text : ℕ → ℕ → ℕ → List ℕ
head_text place holder change = codes "section 0:" ++ (decimal place ++ (codes " " ++ (decimal holder ++ (codes " " ++ (decimal change ++ codes ":")))))

-- the line that shows a section that somebody has
abbrev pub section_text : ℕ → ℕ → ℕ → List ℕ → List ℕ
section_text place holder change queue = head_text place holder change ++ queue_text queue
