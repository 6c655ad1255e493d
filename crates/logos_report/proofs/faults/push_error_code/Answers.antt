use Rattle.std.proofs.Common.{◌++◌, codes}
use Rattle.logos_token.specs.FaultNames.{name_of}
use Rattle.logos_page.proofs.PageLemmas.{gains_then, painted_gained}
use Rattle.logos_page.specs.declared.page.Style.TheVariants.{Error}
use Rattle.logos_report.proofs.faults.push_error_code.Goals as goal

pub returns : goal.returns
returns c =
    painted_gained Error (codes "error[" ++ (name_of c.args.code ++ codes "]")) _ _ _ _ c.begin.ensures
    (gains_then c.push.ensures (gains_then (rw c.name.ensures at c.push-2.ensures) c.push-3.ensures)) c.end.ensures
