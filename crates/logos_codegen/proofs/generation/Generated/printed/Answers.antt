use Rattle.std.proofs.Common.{[], ◌∙◌, Bool, IfOk, ap, string_bytes, subst}
use Rattle.logos_codegen.specs.Fronts.{around_options}
use Rattle.logos_text.specs.FrontRuns.{text_runs}
use Rattle.logos_text.specs.Fronts.{AroundValue, BeginsWith, opening_text, short_core}
use Rattle.logos_text.specs.Pieces.{ArePrinted}
use Rattle.logos_text.specs.declared.sink.Sink.{Sink}
use Rattle.logos_type.specs.Printed.{printed_type}
use Rattle.logos_type.specs.TypeTrees.{type_tree}
use Rattle.logos_codegen.proofs.generation.Generated.printed.Goals as goal

pub returns-clause-begins : goal.returns-clause-begins
returns-clause-begins c =
    let made = c.args.self.now in
    subst (λ (around : AroundValue). IfOk c.text_in.result (λ (sink : Sink). BeginsWith (opening_text [] short_core around (printed_type (type_tree made.code.header.this))) (string_bytes sink.text)))
    (c.around.ensures ∙ ap (λ (utf8 : Bool). around_options made.options utf8) c.utf8_mode.ensures)
    c.text_in.ensures.begins

pub returns-clause-pieces : goal.returns-clause-pieces
returns-clause-pieces c =
    let made = c.args.self.now in
    subst (λ (around : AroundValue). IfOk c.text_in.result (λ (sink : Sink). ArePrinted (text_runs around made.code) 0 sink.pieces.items (string_bytes sink.text)))
    (c.around.ensures ∙ ap (λ (utf8 : Bool). around_options made.options utf8) c.utf8_mode.ensures)
    c.text_in.ensures.pieces
