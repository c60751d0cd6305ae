-- The two longest words.
use Rattle.std.proofs.Common.{◌≡◌, codes, sym, ap, ◌∙◌, rules, arith}
use Rattle.std.proofs.lemmas.Slice.Eq.{text_from_reads}
use Rattle.rehearse.specs.Script.{named, second_of, deliver_of}
use Rattle.rehearse.proofs.script.named.Goals as goal

pub returns-in-second : goal.returns-in-second
returns-in-second c =
    let h = c.in-second in
    let read : c.map-in-second.result ≡ second_of c.args.text.now = search rules in
    let word : c.args.word.now ≡ codes "second" = text_from_reads c.args.word.now (codes "second") (omega arith) (search rules) in
    read ∙ sym (ap (λ w. named w c.args.text.now) word)

pub returns-in-deliver : goal.returns-in-deliver
returns-in-deliver c =
    let read : c.map-in-deliver.result ≡ deliver_of c.args.text.now = search rules in
    let word : c.args.word.now ≡ codes "deliver" = text_from_reads c.args.word.now (codes "deliver") (omega arith) (search rules) in
    read ∙ sym (ap (λ w. named w c.args.text.now) word)
