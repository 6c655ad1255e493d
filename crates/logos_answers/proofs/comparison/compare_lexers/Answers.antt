use Rattle.std.proofs.Common.{◌≡◌, rules}
use Rattle.logos_answers.proofs.ComparedLemmas.{compared_is, one_mode}
use Rattle.logos_answers.proofs.comparison.compare_lexers.Goals as goal

pub returns : goal.returns
returns c = λ of_one of_other faultless faultless_other.
    let same : c.args.one.now.utf8 ≡ c.args.other.now.utf8 = search (rules, c.if-utf8_mode.false, c.utf8_mode.ensures, c.utf8_mode-2.ensures) in
    let mode = one_mode c.args.one.now c.args.other.now c.leaves.result.now c.leaves-2.result.now c.numbers_of.new.table.keys c.numbers_of-2.new.table.keys c.in_ok-names.names.items c.in_ok-others.others.items
    same c.leaves.ensures c.leaves-2.ensures (c.in_ok-others.ensures.distinct (c.in_ok-names.ensures.distinct c.new-table.ensures.unique)) c.in_ok-others.ensures.grows
    c.in_ok-names.ensures.numbers c.in_ok-others.ensures.numbers in
    compared_is c.args.one.now c.args.other.now c.in_ok-names.names.items c.in_ok-others.others.items mode c.deref.result.now c.deref-2.result.now c.in_ok-made.made c.compared_by.result
    c.deref.ensures.value c.deref-2.ensures.value (c.in_ok-made.ensures of_one of_other faultless faultless_other) c.compared_by.ensures
