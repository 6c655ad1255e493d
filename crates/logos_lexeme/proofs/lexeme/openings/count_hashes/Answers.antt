use Rattle.std.proofs.Common.{◌∙◌}
use Rattle.logos_lexeme.proofs.OpeningLaws.{hashes_counted, hashes_full}
use Rattle.logos_lexeme.proofs.lexeme.openings.count_hashes.Goals as goal

pub returns-else-byte_at-eq35 : goal.returns-else-byte_at-eq35
returns-else-byte_at-eq35 c =
    let i = c.loop-count.invariant in
    hashes_counted c.args.source.now c.args.from c.loop-count.count i.few i.all (λ e. c.if-byte_at-eq35.false (c.byte_at.ensures ∙ e))

pub returns-after-loop-count : goal.returns-after-loop-count
returns-after-loop-count c =
    let i = c.loop-count.invariant in
    hashes_full c.args.source.now c.args.from c.loop-count.count c.loop-count-test.false i.few i.all
