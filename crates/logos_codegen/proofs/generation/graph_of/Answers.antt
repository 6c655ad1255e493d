use Rattle.std.proofs.Common.{◌∙◌}
use Rattle.logos_codegen.proofs.GraphLemmas.{graph_reported, limit_reported}
use Rattle.logos_codegen.proofs.generation.graph_of.Goals as goal

pub returns-in-Ok-report_faults : goal.returns-in-Ok-report_faults
returns-in-Ok-report_faults c =
    graph_reported c.args.leaves.items c.args.utf8_mode c.args.item c.args.errors.now c.report_faults.new.errors c.in-Ok.graph c.in-Ok.ensures.graph
    (λ more. (c.in-Ok.ensures.too_large more).0)
    (rw (c.leaves.ensures ∙ c.in-Ok.ensures.graph.leaves_are, c.errors.ensures) at c.in-Ok-report_faults.ensures)

pub returns-in_ok-report_limit-in-Err : goal.returns-in_ok-report_limit-in-Err
returns-in_ok-report_limit-in-Err c =
    limit_reported c.args.leaves.items c.args.utf8_mode c.args.item c.args.errors.now c.report_limit.new.errors c.in-Err.error c.in-Err.ensures.err
    (λ more. (c.in-Err.ensures.too_large more).1) c.in_ok-report_limit-in-Err.ensures
