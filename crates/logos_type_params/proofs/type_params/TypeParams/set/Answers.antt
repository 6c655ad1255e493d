use Rattle.std.proofs.Common.{◌∙◌, sym, refl}
use Rattle.std.proofs.lemmas.Result.{on_ok_weaker}
use Rattle.logos_token.specs.Views.{tokens_of}
use Rattle.logos_type.specs.Parts.{tree_of}
use Rattle.logos_type.specs.TypeTrees.{type_tree}
use Rattle.logos_type_params.specs.TypeParams.{value_of, named_of}
use Rattle.logos_type_params.proofs.ValueLemmas.{set_undeclared, set_given, on_ok_two}
use Rattle.logos_type_params.proofs.type_params.TypeParams.set.Goals as goal

pub returns-then-not-contains-clause-ok : goal.returns-then-not-contains-clause-ok
returns-then-not-contains-clause-ok c =
    let r = rw (c.in-Some.is, c.span-span.ensures) at c.in_ok-written.ensures.ok in
    on_ok_weaker c.report_about.result
    (λ e. set_undeclared (value_of c.args.self.now) (named_of c.args.name) (tokens_of c.args.value) c.args.errors.now c.read_value.new.errors c.report_about.new.errors (type_tree c.in-Some.written) r (sym c.contains.ensures ∙ c.if-not-contains.true) e)
    c.report_about.ensures.ok

pub returns-clause-ok : goal.returns-clause-ok
returns-clause-ok c =
    let r = rw (c.in-Some.is, c.span-span.ensures) at c.in_ok-written.ensures.ok in
    on_ok_two c.emit.result
    (λ t f. set_given (value_of c.args.self.now) _ (named_of c.args.name) (tokens_of c.args.value) c.args.errors.now c.read_value.new.errors c.emit.new.errors (type_tree c.in-Some.written) (tree_of c.in_ok-part.part) c.span-span.result r (sym c.contains.ensures ∙ c.if-not-contains.false) c.in_ok-part.ensures c.span-span.ensures refl refl t f)
    c.emit.ensures.types c.emit.ensures.faults
