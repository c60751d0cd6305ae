-- The records are those in the file, and the box is what they stand for.
use Rattle.std.proofs.Common.{rules, vec_items}
use Rattle.std.proofs.lemmas.Result.{IfOk-weaker}
use Rattle.journal.specs.Memory.{held_by}
use Rattle.world.specs.Station.{station_of}
use Rattle.world.proofs.OneBox.{restarted}
use Rattle.world.proofs.station.Station.stop.Goals as goal

pub returns : goal.returns
returns c =
    let r = c.in_ok-records.ensures.records in
    IfOk-weaker c.remind.result _ _
    (λ said e. restarted c.args.yard c.args.number (station_of c.args.self.now) (vec_items c.in_ok-records.records) c.as_slice.result.now (held_by c.read_again.new.self.file) c.in-Ok.state _
    (r.0, r.1) r.2
    c.as_slice.ensures.value (search rules) e)
    c.remind.ensures
