-- nobody past the engines stands in a queue
use Rattle.std.proofs.Common.{sym, arith}
use Rattle.sections.specs.Model.{table_of}
use Rattle.sections.proofs.Rows.{sound_of}
use Rattle.sections.proofs.Tables.{nowhere_waits}
use Rattle.sections.proofs.Sections.waits.Goals as goal

pub returns-then-engine-ge-ENGINES : goal.returns-then-engine-ge-ENGINES
returns-then-engine-ge-ENGINES c =
    let x = c.args.self.now in
    sym (nowhere_waits c.args.engine (table_of x) (λ q w. omega (arith, ((sound_of x).order q).waiters c.args.engine w)))
