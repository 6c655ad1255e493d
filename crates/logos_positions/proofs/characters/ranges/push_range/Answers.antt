use Rattle.logos_positions.proofs.classes.RangeLemmas.{in_ranges-push}
use Rattle.logos_positions.proofs.characters.ranges.push_range.Goals as goal

pub returns-in_ok-push : goal.returns-in_ok-push
returns-in_ok-push c = λ n.
    rw c.in_ok-push.ensures.items (in_ranges-push c.args.out.now.items (record { first = c.args.first; last = c.args.last }) n)
