use Rattle.std.proofs.Common.{◌∙◌, Bool, IfOk, ap, string_bytes, subst}
use Rattle.logos_codegen.specs.Fronts.{around_options}
use Rattle.logos_text.specs.FrontRuns.{front_runs}
use Rattle.logos_text.specs.Fronts.{AroundValue}
use Rattle.logos_text.specs.Pieces.{ArePrinted}
use Rattle.logos_text.specs.declared.sink.Sink.{Sink}
use Rattle.logos_codegen.proofs.generation.Generated.front.Goals as goal

pub returns-clause-front : goal.returns-clause-front
returns-clause-front c = rw (c.around.ensures, c.utf8_mode.ensures) at c.front_in.ensures.front

pub returns-clause-pieces : goal.returns-clause-pieces
returns-clause-pieces c =
    let made = c.args.self.now in
    subst (λ (around : AroundValue). IfOk c.front_in.result (λ (sink : Sink). ArePrinted (front_runs around made.code) 0 sink.pieces.items (string_bytes sink.text)))
    (c.around.ensures ∙ ap (λ (utf8 : Bool). around_options made.options utf8) c.utf8_mode.ensures)
    c.front_in.ensures.pieces
