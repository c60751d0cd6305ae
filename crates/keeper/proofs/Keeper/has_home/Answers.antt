-- the answer tells whom it concerns
use Rattle.std.proofs.Common.{◌≡◌, rules, sym, subst}
use Rattle.sections.specs.Model.{table_of}
use Rattle.keeper.specs.Homes.{Concerns, told_of}
use Rattle.keeper.proofs.Concern.{concerns}
use Rattle.keeper.proofs.Keeper.has_home.Goals as goal

pub returns-else-is_home_of_holder-clause-concerns :
    goal.returns-else-is_home_of_holder-clause-concerns
returns-else-is_home_of_holder-clause-concerns c =
    let y = c.args.yard in
    let b = c.args.number.0 in
    let t = table_of c.args.self.now.sections in
    let e : c.is_home_of_waiter.result ≡ told_of y b t c.args.place = search rules in
    subst (Concerns y b t c.args.place) (sym e) (concerns y b t c.args.place)
