use Rattle.std.proofs.Common.{◌∙◌, string_bytes}
use Rattle.logos_options.proofs.WordLemmas.{word_read, word_refused}
use Rattle.logos_options.proofs.arguments.read_arguments.Goals as goal

pub loop-word-preserved : goal.loop-word-preserved
loop-word-preserved c =
    let read = rw c.as_str.ensures.value at c.in-Ok.ensures.read in
    c.loop-word.invariant ∙ word_read string_bytes c.args.arguments.now c.loop-word.word-index c.args.program _ c.word-item.result _ c.loop-word-test.true c.word-item.is read

pub returns-in-Err-clause-misuse : goal.returns-in-Err-clause-misuse
returns-in-Err-clause-misuse c =
    let refused = rw c.as_str.ensures.value at c.in-Err.ensures.misuse in
    (c.loop-word.invariant ∙ word_refused string_bytes c.args.arguments.now c.loop-word.word-index c.args.program _ c.word-item.result c.loop-word-test.true c.word-item.is refused.0, refused.1)
