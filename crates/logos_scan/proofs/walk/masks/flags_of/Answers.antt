use Rattle.std.proofs.Common.{lit<}
use Rattle.logos_scan.proofs.walk.MaskLemmas.{marked, ended_above, token_above}
use Rattle.logos_scan.proofs.walk.masks.flags_of.Goals as goal

pub returns-clause-ends : goal.returns-clause-ends
returns-clause-ends c =
    let tops = c.tops_of_64-tops in
    ended_above c.args.trace.now c.args.at tops.result _ tops.ensures (marked 7 tops.result (lit< tt) tops.ensures.long)

pub returns-clause-tokens : goal.returns-clause-tokens
returns-clause-tokens c =
    let tops = c.tops_of_64-tops in
    token_above c.args.trace.now c.args.at tops.result _ tops.ensures (marked 6 tops.result (lit< tt) tops.ensures.long)
