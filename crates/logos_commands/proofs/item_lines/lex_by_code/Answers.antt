use Rattle.std.proofs.Common.{◌≡◌, rules}
use Rattle.logos_commands.proofs.LexingLemmas.{emitted}
use Rattle.logos_commands.proofs.item_lines.lex_by_code.Goals as goal

pub returns-in-Some-clause-lines : goal.returns-in-Some-clause-lines
returns-in-Some-clause-lines g c =
    let same : c.in-Some.folded.code ≡ c.args.code.now = rw c.in-Some.is at c.in_ok-folded-in-Ok.ensures in
    search (rules, emitted _ _ _ _ _ _ _ c.in_ok-block.ensures.items (λ leaf slice answer w. search (rules, w)) c.write_by_chunks.result (rw same at c.write_by_chunks.ensures.lines))

pub returns-in-Ok-clause-lines : goal.returns-in-Ok-clause-lines
returns-in-Ok-clause-lines g c =
    search (rules, emitted _ _ _ _ _ _ _ c.in_ok-block.ensures.items (λ leaf slice answer w. search (rules, w)) c.write_lines.result c.write_lines.ensures.lines)
