use Rattle.logos_token.specs.Views.{stream_tokens}
use Rattle.logos_parser.proofs.RefusalLemmas.{result_ends, shallow_result}
use Rattle.logos_parser.proofs.analysis.analyze.Goals as goal

pub returns-in-Ok-clause-err : goal.returns-in-Ok-clause-err
returns-in-Ok-clause-err c = result_ends c.args.src.now (stream_tokens c.in-Ok.stream) _ c.in-Ok.ensures.ok c.in-Ok.ensures.shallow c.analyze_tokens.ensures.err

pub returns-in-Ok-clause-shallow : goal.returns-in-Ok-clause-shallow
returns-in-Ok-clause-shallow c = shallow_result c.args.src.now (stream_tokens c.in-Ok.stream) _ c.in-Ok.ensures.ok c.in-Ok.ensures.shallow
