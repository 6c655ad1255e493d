use Rattle.std.proofs.Common.{string_bytes, arith}
use Rattle.logos_code.specs.CodeView.{branch_of}
use Rattle.logos_text.specs.Texts.{branch_text}
use Rattle.logos_text.proofs.TextLemmas.{texts_all, texts_more}
use Rattle.logos_text.proofs.forks.push_branches.Goals as goal

pub loop-branch-preserved : goal.loop-branch-preserved
loop-branch-preserved c =
    texts_more (branch_text c.args.shape) branch_of c.args.branches.now c.loop-branch.branch-index c.branch-item.result (string_bytes c.args.text.now)
    (string_bytes c.loop-branch.text) (string_bytes c.push_branch.new.text) (omega arith) c.branch-item.is c.in_ok-push_branch.ensures c.loop-branch.invariant

pub returns : goal.returns
returns c =
    texts_all (branch_text c.args.shape) branch_of c.args.branches.now c.loop-branch.branch-index (string_bytes c.args.text.now) (string_bytes c.loop-branch.text)
    (omega arith) c.loop-branch.invariant
