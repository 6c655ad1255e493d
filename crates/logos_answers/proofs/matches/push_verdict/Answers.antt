use Rattle.std.proofs.Common.{refl, inl, inr, codes}
use Rattle.logos_answers.specs.Matches.{winner_text}
use Rattle.logos_answers.proofs.matches.push_verdict.Goals as goal

pub returns-in-Some : goal.returns-in-Some
returns-in-Some c = (winner_text c.args.leaves.now c.args.matches.now c.in-Some.found, inr (c.in-Some.found, c.in-Some.ensures, refl), c.push_winner.ensures)

pub returns-in-None : goal.returns-in-None
returns-in-None c = (codes "no leaf matches\n", inl (c.in-None.ensures, refl), c.push.ensures)
