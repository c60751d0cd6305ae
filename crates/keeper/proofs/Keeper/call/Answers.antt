-- what the model's call keeps to
use Rattle.std.proofs.Common.{◌≡◌, sym, subst, rules}
use Rattle.keeper.specs.Model.{model_of}
use Rattle.keeper.specs.Calls.{call_of}
use Rattle.keeper.specs.Promise.{Followed, OneSection, Risen}
use Rattle.keeper.proofs.OneCall.{again, followed, long_of, one_section, risen}
use Rattle.keeper.specs.Range.{StaysWithin}
use Rattle.keeper.proofs.Reach.{stays_within}
use Rattle.keeper.proofs.Keeper.call.Goals as goal

pub returns : goal.returns
returns c =
    let before = c.args.self.now in
    let k = model_of before in
    let call = c.args.call in
    let after = model_of c.numbered.new.self in
    let e : (after, c.numbered.result) ≡ call_of k call = search rules in
    let f = subst (λ s. Followed k call s.0 s.1) (sym e) (followed k before.whole (long_of before) call) in
    record {
      after = e;
      followed = f;
      again = again k before.whole (long_of before) call after c.numbered.result e f;
      elsewhere = subst (λ s. OneSection k call s.0) (sym e) (one_section k before.whole (long_of before) call);
      risen = subst (λ s. Risen k call s.0) (sym e) (risen k before.whole (long_of before) call);
      within = subst (λ s. StaysWithin k call s.0 s.1) (sym e) (stays_within k before.whole (long_of before) call);
    }
