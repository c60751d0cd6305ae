-- The byte's first place parts the text.
use Rattle.std.proofs.Common.{◌≡◌, ◌+◌, ◌-◌, eqb, length, take, drop, Some, None, refl, arith, rules, tests, length-drop}
use Rattle.std.proofs.lemmas.List.{take_all}
use Rattle.std.proofs.lemmas.Iterator.{YieldsList-from_slice}
use Rattle.std.proofs.lemmas.Iterator.Search.{position_from_yields_List}
use Rattle.std.specs.List.{position}
use Rattle.words.proofs.split_once.Goals as goal

pub returns-in_err-place : goal.returns-in_err-place
returns-in_err-place c =
    let xs = c.args.text.now in
    let first : c.position.result ≡ position (λ x. eqb x c.args.between) xs = position_from_yields_List (λ x. eqb x c.args.between) _ _ c.position.result c.position.ensures.ran (YieldsList-from_slice xs (cc)) (λ x b q k. search (rules, tests)) in
    let was : c.position.result ≡ None = cc in
    rw (← first, was, c.from_residual.ensures) refl

pub returns : goal.returns
returns c =
    let xs = c.args.text.now in
    let i = c.in_ok-place.place in
    let first : c.position.result ≡ position (λ x. eqb x c.args.between) xs = position_from_yields_List (λ x. eqb x c.args.between) _ _ c.position.result c.position.ensures.ran (YieldsList-from_slice xs (cc)) (λ x b q k. search (rules, tests)) in
    let was : c.position.result ≡ Some i = cc in
    let rest : take (length xs - (i + 1)) (drop (i + 1) xs) ≡ drop (i + 1) xs = take_all (length xs - (i + 1)) (drop (i + 1) xs) (simp length-drop (omega arith)) in
    rw (← first, was, rest) refl
