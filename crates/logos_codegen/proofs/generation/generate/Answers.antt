use Rattle.std.proofs.Common.{sym, subst}
use Rattle.logos_graph.specs.View.{GraphValue}
use Rattle.logos_codegen.specs.Around.{IsAroundOf}
use Rattle.logos_codegen.specs.Fronts.{around_made}
use Rattle.logos_codegen.proofs.AcceptLemmas.{not_refused}
use Rattle.logos_codegen.proofs.LexLemmas.{runs_are_cut}
use Rattle.logos_codegen.proofs.generation.generate.Goals as goal

pub returns-in-Err-clause-complete : goal.returns-in-Err-clause-complete
returns-in-Err-clause-complete c = λ rules utf8 a limits.
    not_refused c.args.src.now rules utf8 _ a limits c.in-Err.ensures.err

pub returns-in-Ok-code_of-clause-cut : goal.returns-in-Ok-code_of-clause-cut
returns-in-Ok-code_of-clause-cut c =
    let parts = c.put_together.ensures.parts in
    rw (parts.0, parts.1) (runs_are_cut c.args.src.now _ _ _ c.in-Ok.ensures.ok.accepted c.in-Ok-code_of.ensures.lexer)

pub returns-in-Ok-code_of-clause-around : goal.returns-in-Ok-code_of-clause-around
returns-in-Ok-code_of-clause-around c =
    let parts = c.put_together.ensures.parts in
    subst (λ (graph : GraphValue). IsAroundOf c.args.src.now graph (around_made c.put_together.result)) (sym parts.1)
    (record { name = _; options = _; of_source = c.in-Ok.ensures.ok.of_source; is = c.put_together.ensures.around })
