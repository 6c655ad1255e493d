use Rattle.std.proofs.Common.{◌∙◌, ap}
use Rattle.logos_code.specs.Code.{CodeValue}
use Rattle.logos_type.specs.Printed.{printed_type}
use Rattle.logos_type.specs.TypeTrees.{type_tree}
use Rattle.logos_tables.proofs.AddLemmas.{implementation_added}
use Rattle.logos_tables.proofs.lexer.push_implementation.Goals as goal

pub returns : goal.returns
returns c =
    implementation_added c.args.code.now _ _ _ _ _
    (c.deref.ensures ∙ c.in_ok-this.ensures ∙ ap (λ (code : CodeValue). printed_type (type_tree code.header.this)) c.parts.ensures.is)
    c.in_ok-push_head.ensures c.in_ok-push_code.ensures c.in_ok-push_end.ensures
