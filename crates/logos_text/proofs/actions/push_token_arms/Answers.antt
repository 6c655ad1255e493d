use Rattle.std.proofs.Common.{arith}
use Rattle.logos_text.specs.Runs.{plain_leaf_runs}
use Rattle.logos_text.proofs.PieceLemmas.{runs_all, runs_more}
use Rattle.logos_text.proofs.actions.push_token_arms.Goals as goal

pub loop-n-preserved : goal.loop-n-preserved
loop-n-preserved c = runs_more (plain_leaf_runs c.args.name) c.args.leaves.now c.loop-n.n c.index-leaves-n.result _ _ _ c.loop-n-test.true c.index-leaves-n.is c.in_ok-push_token.ensures c.loop-n.invariant

pub returns : goal.returns
returns c = runs_all (plain_leaf_runs c.args.name) c.args.leaves.now c.loop-n.n _ _ (omega (arith, c.loop-n-test.false)) c.loop-n.invariant
