use Rattle.std.proofs.Common.{sym, subst}
use Rattle.logos_json.specs.Lines.{Puts}
use Rattle.logos_json.proofs.LineLemmas.{puts_nothing}
use Rattle.logos_records.specs.Matches.{match_lines}
use Rattle.logos_records.proofs.matches.push_found.Goals as goal

pub returns-in-None : goal.returns-in-None
returns-in-None c =
    subst (λ found. Puts (match_lines c.args.start.leaves.now c.args.start.input.now c.args.start.from c.args.start.winner found) c.args.lines.now c.args.lines.now) (sym c.in-None.is) (puts_nothing c.args.lines.now)
