use Rattle.std.proofs.Common.{sym, ◌∙◌, arith}
use Rattle.logos_scan.proofs.fold.FoldLemmas.{goes_target, target_small}
use Rattle.logos_scan.proofs.fold.entries.row_start_of_target.Goals as goal

pub overflow_mul-result : goal.overflow_mul-result
overflow_mul-result c = omega (arith, target_small c.args.code.now c.args.state c.args.byte c.in-Some.next c.requires.few c.requires.sound c.requires.state (sym c.target.ensures ∙ c.in-Some.is))

pub returns-in-Some : goal.returns-in-Some
returns-in-Some c =
    goes_target c.args.code.now c.args.state c.args.byte c.in-Some.next c.requires.sound c.requires.state c.requires.out (sym c.target.ensures ∙ c.in-Some.is)
