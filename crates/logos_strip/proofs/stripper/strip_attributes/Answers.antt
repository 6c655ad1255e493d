use Rattle.logos_token.specs.Views.{stream_tokens}
use Rattle.logos_parser.proofs.RefusalLemmas.{result_ends}
use Rattle.logos_strip.proofs.CompleteLemmas.{not_refused, result_not_refused}
use Rattle.logos_strip.proofs.stripper.strip_attributes.Goals as goal

pub returns-in-Ok-clause-err : goal.returns-in-Ok-clause-err
returns-in-Ok-clause-err c = result_ends c.args.src.now (stream_tokens c.in-Ok.stream) _ c.in-Ok.ensures.ok c.in-Ok.ensures.shallow c.strip_tokens.ensures.err

pub returns-in-Ok-clause-complete : goal.returns-in-Ok-clause-complete
returns-in-Ok-clause-complete c = λ whole.
    result_not_refused c.args.src.now _ whole (result_ends c.args.src.now (stream_tokens c.in-Ok.stream) _ c.in-Ok.ensures.ok c.in-Ok.ensures.shallow c.strip_tokens.ensures.err)

pub returns-in-Err-clause-complete : goal.returns-in-Err-clause-complete
returns-in-Err-clause-complete c = λ whole. not_refused c.args.src.now _ whole c.unreadable.ensures.ends
