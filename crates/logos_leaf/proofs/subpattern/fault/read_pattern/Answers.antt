use Rattle.logos_leaf.proofs.subpattern.SubpatternLemmas.{read_tree, read_error}
use Rattle.logos_leaf.proofs.subpattern.fault.read_pattern.Goals as goal

pub returns-in-Ok-clause-read : goal.returns-in-Ok-clause-read
returns-in-Ok-clause-read c = read_tree _ _ _ _ _ _ c.in-Ok.ensures.found

pub returns-in_ok-report_error-in-Err-clause-read : goal.returns-in_ok-report_error-in-Err-clause-read
returns-in_ok-report_error-in-Err-clause-read c =
    read_error _ _ _ _ _ _ _ c.in-Err.ensures.refused c.in-Err.ensures.deep c.in_ok-report_error-in-Err.ensures.ok
