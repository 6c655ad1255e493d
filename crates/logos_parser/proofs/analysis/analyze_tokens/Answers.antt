use Rattle.logos_parser.proofs.RefusalLemmas.{misread_ends}
use Rattle.logos_token.specs.Views.{stream_tokens}
use Rattle.logos_parser.proofs.analysis.analyze_tokens.Goals as goal

pub returns-in-Err-clause-err : goal.returns-in-Err-clause-err
returns-in-Err-clause-err c =
    misread_ends (stream_tokens c.args.stream.now) c.in-Err.error c.misread.result (rw c.run-tokens.ensures at c.in-Err.ensures.err) c.misread.ensures
