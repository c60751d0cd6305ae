-- The engines of a queue, in the order of coming.
use Rattle.std.specs.Prelude.{ℕ, List, take}
use Rattle.sections.specs.declared.queue.Queue.{Queue}

abbrev pub engines_of : Queue → List ℕ
engines_of q = take q.count q.engines
