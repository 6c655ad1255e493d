use Rattle.logos_token.proofs.reading.SpanLemmas.{run-spans}
use Rattle.logos_token.proofs.token.laws.runs_have_spans.Goals as goal

pub returns : goal.returns
returns c = run-spans
