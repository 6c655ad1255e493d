use Rattle.std.proofs.Common.{Some, None, arith, rules}
use Rattle.logos_host.proofs.CutLemmas.{cut_at_last}
use Rattle.logos_host.proofs.paths.file_name.Goals as goal

pub returns-in-Some : goal.returns-in-Some
returns-in-Some c =
    let cut = cut_at_last 47 c.args.path.now (Some (c.in-Some.field-0-0, c.in-Some.name)) c.in-Some.ensures.cases (omega arith) in
    rw (← cut) (grind rules)

pub returns-in-None : goal.returns-in-None
returns-in-None c =
    let cut = cut_at_last 47 c.args.path.now None c.in-None.ensures.cases (omega arith) in
    rw (← cut) (grind rules)
