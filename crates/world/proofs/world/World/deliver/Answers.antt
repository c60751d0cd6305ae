-- The message of that number, or none.
use Rattle.std.proofs.lemmas.Result.{IfOk-weaker}
use Rattle.world.specs.World.{carried, world_of}
use Rattle.world.proofs.OneBox.{with_found, with_none}
use Rattle.world.proofs.world.World.deliver.Goals as goal

pub returns-in_default : goal.returns-in_default
returns-in_default c = let w = world_of c.args.self.now in with_none w c.args.message (carried w) c.in_default.ensures

pub returns : goal.returns
returns c =
    let w = world_of c.args.self.now in
    IfOk-weaker c.carry.result _ _ (λ out e. with_found w c.args.message (carried w) c.in-Some.envelope _ c.in-Some.ensures e) c.carry.ensures
