use Rattle.logos_messages.proofs.LineLemmas.{one_line}
use Rattle.logos_messages.proofs.marked_lines.push_line.Goals as goal

pub returns-in-Some : goal.returns-in-Some
returns-in-Some c = one_line c.args.reach.first c.args.reach.last c.args.number _ _ c.in-Some.ensures.0 c.requires.after c.requires.before c.first_column.ensures c.last_column.ensures c.push_marked.ensures
