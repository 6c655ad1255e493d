use Rattle.std.proofs.Common.{string_bytes}
use Rattle.logos_codegen.specs.Fronts.{around_made}
use Rattle.logos_tables.proofs.ShapeLemmas.{code_shown}
use Rattle.logos_text.specs.declared.sink.Sink.{Sink}
use Rattle.logos_tables.proofs.shape.lexer_text.Goals as goal

pub returns-in-Code-clause-shown : goal.returns-in-Code-clause-shown
returns-in-Code-clause-shown c =
    rw c.in-Code.is
    (code_shown (λ (sink : Sink). string_bytes sink.text) (around_made c.args.made.now) c.args.made.now.code c.printed.result c.printed.ensures.occur c.printed.ensures.begins)
