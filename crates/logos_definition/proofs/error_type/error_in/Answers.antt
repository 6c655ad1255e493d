use Rattle.logos_token.specs.Views.{tokens_of}
use Rattle.logos_type.specs.TypeTrees.{type_tree}
use Rattle.logos_definition.specs.ErrorTypeViews.{error_view}
use Rattle.logos_definition.specs.Arguments.{nothing}
use Rattle.logos_definition.proofs.ErrorLemmas.{group_without_type, group_with_type}
use Rattle.logos_definition.proofs.error_type.error_in.Goals as goal

pub returns-in_default : goal.returns-in_default
returns-in_default c = nothing (rw c.new-pieces.ensures.rest at c.in_default.ensures.run) c.in_ok-report_empty.ensures

pub returns-in_default-2 : goal.returns-in_default-2
returns-in_default-2 c =
    let run = rw c.new-pieces.ensures.rest at c.in-Some.ensures.run in
    group_without_type type_tree (tokens_of c.args.group) (tokens_of c.in-Some.run') c.span.result c.args.errors.now c.read_value.new.errors run.0 run.1 c.span.ensures
    c.in_ok-type_expr.field-0 c.in_default-2.is c.in_ok-type_expr.ensures.ok

pub returns : goal.returns
returns c =
    let run = rw c.new-pieces.ensures.rest at c.in-Some.ensures.run in
    let report = rw (c.in-Some.ensures.pieces, c.new-pieces.ensures.rest) at c.in_ok-error.ensures in
    group_with_type type_tree (tokens_of c.args.group) (tokens_of c.in-Some.run') c.span.result c.args.errors.now c.read_value.new.errors run.0 run.1 c.span.ensures
    c.with_arguments.new.errors (error_view c.in_ok-error.error) c.in_ok-type_expr.field-0 c.in-Some-2.type_expr c.in-Some-2.is c.in_ok-type_expr.ensures.ok report
