use Rattle.logos_byte_class.specs.Bytes.{comparison_of}
use Rattle.logos_code.proofs.AlikeLemmas.{comparison_run}
use Rattle.logos_code.proofs.code.byte_runs.comparison_end.Goals as goal

pub returns : goal.returns
returns c =
    comparison_run (comparison_of c.args.comparison.now) c.args.byte c.args.end c.cut-before.result c.cut-until.result c.exceptions_end.result
    c.cut-before.ensures.within c.cut-until.ensures.within (rw c.start.ensures at c.cut-before.ensures.before) (rw c.end.ensures at c.cut-until.ensures.before)
    (rw c.deref.ensures.value at c.exceptions_end.ensures)
