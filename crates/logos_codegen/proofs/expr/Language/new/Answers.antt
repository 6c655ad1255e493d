use Rattle.std.proofs.Common.{◌∙◌, map}
use Rattle.std.proofs.lemmas.Result.{err_from_is_err_and}
use Rattle.logos_graph.specs.View.{rules_of}
use Rattle.logos_leaf.specs.LeafViews.{leaf_view}
use Rattle.logos_codegen.specs.declared.expr.TheConstants.{SOURCE}
use Rattle.logos_codegen.proofs.AcceptLemmas.{kinds_as_analyzed}
use Rattle.logos_codegen.proofs.ExprLemmas.{kinds_viewed, refusal_of}
use Rattle.logos_codegen.proofs.expr.Language.new.Goals as goal

pub invariant_of-result : goal.invariant_of-result
invariant_of-result c =
    let made = c.in_ok-made.ensures in
    let leaves = c.in_ok-made.made.graph.leaves in
    let analysis = made.given.of_source in
    record {
      rules = rules_of leaves;
      utf8 = c.in_ok-made.made.graph.utf8;
      accepted = made.accepted;
      lexer = rw c.code_in-code.ensures made.lexer;
      kinds = (rw c.leaves.ensures at (rw c.in-Ok.is at c.kinds_of-kinds.ensures)) ∙ kinds_viewed leaves
          ∙ kinds_as_analyzed SOURCE.now _ _ analysis.enum analysis.item (map leaf_view leaves) made.given.options analysis.reads_as analysis.enum_reads made.accepted;
    }

pub returns-in-Ok-clause-ok : goal.returns-in-Ok-clause-ok
returns-in-Ok-clause-ok c =
    let made = c.in_ok-made.ensures in
    let leaves = c.in_ok-made.made.graph.leaves in
    let analysis = made.given.of_source in
    record {
      rules = rules_of leaves;
      utf8 = c.in_ok-made.made.graph.utf8;
      accepted = made.accepted;
      lexer = rw c.code_in-code.ensures made.lexer;
      kinds = (rw c.leaves.ensures at (rw c.in-Ok.is at c.kinds_of-kinds.ensures)) ∙ kinds_viewed leaves
          ∙ kinds_as_analyzed SOURCE.now _ _ analysis.enum analysis.item (map leaf_view leaves) made.given.options analysis.reads_as analysis.enum_reads made.accepted;
    }

pub returns-in_err-made-clause-err : goal.returns-in_err-made-clause-err
returns-in_err-made-clause-err c =
    let p = err_from_is_err_and c.from_residual.result c.from_residual.ensures.1 in
    rw p.1 (refusal_of _ p.0 p.2 c.in_err-made.ensures.refused)
