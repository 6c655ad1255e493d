use Rattle.std.proofs.Common.{◌≡◌, [], subst, arith, map, drop, append-nil}
use Rattle.std.proofs.Math.ListN.{drop_of_length-le}
use Rattle.logos_positions.specs.IsCore.{IsCoreOf}
use Rattle.logos_positions.specs.Node.{core_of}
use Rattle.logos_automaton.specs.Rules.{AreRuleCores}
use Rattle.logos_automaton.specs.View.{rule_of, rules_of}
use Rattle.logos_automaton.proofs.runs.RuleLemmas.{cores_more, tree_size}
use Rattle.logos_positions.proofs.trees.PrepareLemmas.{AreMeasured-push}
use Rattle.logos_automaton.proofs.nodes.nodes_of.Goals as goal

pub prepare-requires : goal.prepare-requires
prepare-requires c =
    let h = rw (← c.rule-item.is) at (tree_size c.args.rules.now c.loop-rule.rule-index c.rule-item.result c.loop-rule-test.true) in
    (omega (arith, h, c.requires))

pub loop-rule-preserved : goal.loop-rule-preserved
loop-rule-preserved c =
    let is = c.in_ok-node.ensures.occurs in
    record {
      cores = rw c.in_ok-push.ensures.items (cores_more c.args.rules.now c.loop-rule.rule-index c.rule-item.result c.loop-rule.nodes.items c.in_ok-node.node c.loop-rule-test.true c.loop-rule.invariant.cores
          (subst (λ leaf. IsCoreOf (rule_of leaf).tree (core_of c.in_ok-node.node)) c.rule-item.is is));
      measured = rw c.in_ok-push.ensures.items (AreMeasured-push c.loop-rule.nodes.items c.in_ok-node.node c.loop-rule.invariant.measured c.in_ok-node.ensures.measured);
    }

pub returns-clause-cores : goal.returns-clause-cores
returns-clause-cores c =
    let past : drop c.loop-rule.rule-index c.args.rules.now ≡ [] = drop_of_length-le c.args.rules.now c.loop-rule-test.false in
    let all = c.loop-rule.invariant.cores [] (rw past tt) in
    subst (AreRuleCores (rules_of c.args.rules.now)) (append-nil (map core_of c.loop-rule.nodes.items)) all
