use Rattle.std.proofs.Common.{Some, None, arith, rules}
use Rattle.logos_host.proofs.CutLemmas.{cut_at_last}
use Rattle.logos_commands.proofs.diagram_path.extension_of.Goals as goal
use Rattle.logos_commands.proofs.diagram_path.extension_of.Goals.{in_default-via-in-Some+else-not-is_empty, in_default-via-in_default}

pub returns-in-Some : goal.returns-in-Some
returns-in-Some c =
    let cut = cut_at_last 46 c.args.name.now (Some (c.in-Some.stem, c.in-Some.extension)) c.in-Some.ensures.cases (omega arith) in
    rw (← cut) (grind rules)

pub returns-in_default : goal.returns-in_default
returns-in_default c = elim c.in_default.branch [
  | in_default-via-in-Some+else-not-is_empty w ↦
      let cut = cut_at_last 46 c.args.name.now (Some (w.in-Some.stem, w.in-Some.extension)) w.in-Some.ensures.cases (omega arith) in
      rw (← cut) (grind rules)
  | in_default-via-in_default w ↦
      let cut = cut_at_last 46 c.args.name.now None w.in_default.ensures.cases (omega arith) in
      rw (← cut) (grind rules)
]
