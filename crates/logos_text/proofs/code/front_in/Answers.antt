use Rattle.std.proofs.Common.{string_bytes, subst}
use Rattle.logos_type.specs.Printed.{printed_type}
use Rattle.logos_type.specs.TypeTrees.{type_tree}
use Rattle.logos_code.specs.Code.{CodeValue}
use Rattle.logos_text.specs.Arounds.{around_value}
use Rattle.logos_text.specs.Fronts.{IsFront}
use Rattle.logos_text.specs.FrontRuns.{front_runs}
use Rattle.logos_text.specs.Pieces.{ArePrinted}
use Rattle.logos_text.proofs.FrontLemmas.{is_front}
use Rattle.logos_text.proofs.PieceLemmas.{prints_both, whole_printed}
use Rattle.logos_text.proofs.code.front_in.Goals as goal

pub returns-clause-front : goal.returns-clause-front
returns-clause-front c =
    let parts = c.parts-parts.result.now in
    let opening = rw (c.new-names.ensures.this, c.deref.ensures, c.in_ok-this.ensures) at c.in_ok-push_front.ensures in
    let front = is_front (around_value c.args.around) (printed_type (type_tree parts.header.this)) c.new-sink.ensures opening c.in_ok-push_tables_use.ensures
    c.in_ok-push_table_actions.ensures in
    subst (λ (code : CodeValue). IsFront (around_value c.args.around) (printed_type (type_tree code.header.this)) (string_bytes c.push_table_actions.new.sink.text))
    c.parts-parts.ensures.is front

pub returns-clause-pieces : goal.returns-clause-pieces
returns-clause-pieces c =
    let opening = rw (c.new-names.ensures.this, c.new-names.ensures.name, c.deref.ensures, c.in_ok-this.ensures) at c.in_ok-push_front.ensures in
    let actions = rw c.new-names.ensures.name at c.in_ok-push_table_actions.ensures in
    let whole = whole_printed c.new-sink.ensures (prints_both opening (prints_both c.in_ok-push_tables_use.ensures actions.prints)) in
    subst (λ (code : CodeValue). ArePrinted (front_runs (around_value c.args.around) code) 0 c.push_table_actions.new.sink.pieces.items (string_bytes c.push_table_actions.new.sink.text))
    c.parts-parts.ensures.is whole
