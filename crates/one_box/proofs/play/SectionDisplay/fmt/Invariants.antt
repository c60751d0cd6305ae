-- the text so far: those of the queue that were written
use Rattle.std.proofs.Common.{take}
use Rattle.std.specs.Fmt.{HasWritten, IsPlainFormatter}
use Rattle.one_box.specs.Play.{queue_text}
use Rattle.one_box.proofs.play.SectionDisplay.fmt.Given as goal

abbrev pub invariant-loop-engine : goal.invariant-loop-engine
invariant-loop-engine g l = IsPlainFormatter l.initial.f → HasWritten g.W.Write.write_str_gives l.initial.f (queue_text (take l.engine-index l.self.queue.now)) l.f
