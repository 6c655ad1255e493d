use Rattle.logos_laws.proofs.spans.LeafParts.{leaves_have_spans, leaves_occur}
use Rattle.logos_laws.proofs.spans.leaves_have_spans.Goals as goal

pub returns-clause-tokens : goal.returns-clause-tokens
returns-clause-tokens c tokens enum reading leaves options faults read = leaves_occur tokens enum leaves options faults reading read

pub returns-clause-spans : goal.returns-clause-spans
returns-clause-spans c source utf8 tokens spelled enum reading leaves options faults read = leaves_have_spans tokens enum leaves options faults reading read source utf8 spelled
