-- the first is an engine of the queue, and stands nowhere else in it
use Rattle.std.proofs.Common.{◌≡◌, Some, rules, ◌∙◌}
use Rattle.sections.specs.Queues.{engines_of}
use Rattle.sections.specs.Table.{first_of}
use Rattle.sections.proofs.Lists.{first_is_in, without_its_first}
use Rattle.sections.proofs.queue.Queue.leave_first.Goals as goal

pub leave-requires : goal.leave-requires
leave-requires c =
    let q = c.args.self.now in
    let is : first_of (engines_of q) ≡ Some c.in_ok-first.field-0.now = search rules in
    q.waiters _ (first_is_in _ (engines_of q) is)

pub returns-clause-rest : goal.returns-clause-rest
returns-clause-rest c =
    let q = c.args.self.now in
    let is : first_of (engines_of q) ≡ Some c.in_ok-first.field-0.now = search rules in
    c.leave.ensures ∙ without_its_first _ (engines_of q) is q.twice
