use Rattle.std.proofs.Common.{vec_items}
use Rattle.logos_expand.proofs.GatherLemmas.{bare_file, headed_all}
use Rattle.logos_expand.proofs.expansion.expanded_file.Goals as goal

pub returns-then-is_empty : goal.returns-then-is_empty
returns-then-is_empty c = bare_file c.args.shape c.args.source.now.path c.args.source.now.text c.args.parts.now _ _ c.is_empty.ensures c.if-is_empty.true (rw c.text.ensures at c.in_ok-bytes.ensures)

pub returns : goal.returns
returns c =
    headed_all vec_items c.with_head.result c.args.shape c.args.source.now.path c.args.source.now.text c.args.parts.now c.in_ok-bytes.bytes.items c.in_ok-body.body.items c.is_empty.result c.is_empty.ensures c.if-is_empty.false
    (rw c.text.ensures at c.in_ok-bytes.ensures) c.in_ok-body.ensures (rw (c.deref.ensures.value, c.path.ensures) at c.with_head.ensures)
