use Rattle.std.proofs.Common.{◌≡◌, [], drop, sym, ◌∙◌, subst, append-nil}
use Rattle.std.proofs.Math.ListN.{drop_of_length-le}
use Rattle.logos_automaton.specs.Errors.{numbers}
use Rattle.logos_automaton.specs.Faults.{ArePassable}
use Rattle.logos_automaton.specs.View.{rules_of}
use Rattle.logos_automaton.proofs.ambiguity.PassableLemmas.{passed_from, are_passable}
use Rattle.logos_automaton.proofs.faults.passable_leaves.Goals as goal

pub returns : goal.returns
returns c =
    let n = c.loop-number.number in
    let past : drop n c.args.rules.now ≡ [] = drop_of_length-le c.args.rules.now c.loop-number-test.false in
    let all : numbers c.loop-number.passed.items ≡ passed_from 0 (rules_of c.args.rules.now) =
    sym (append-nil (numbers c.loop-number.passed.items)) ∙ rw past at c.loop-number.invariant in
    subst (ArePassable (rules_of c.args.rules.now)) (sym all) (are_passable (rules_of c.args.rules.now))
