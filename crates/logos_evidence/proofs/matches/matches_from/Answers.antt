use Rattle.std.proofs.Common.{◌≡◌, ℕ, ◌++◌, List, Some, length, ap, ◌∙◌, subst, arith, slice_get, map}
use Rattle.logos_automaton.specs.DfaView.{dfa_of}
use Rattle.logos_automaton.specs.Munch.{priority_of}
use Rattle.logos_graph.specs.View.{rules_of}
use Rattle.logos_pattern.specs.declared.leaf.Leaf.{Leaf}
use Rattle.logos_evidence.specs.inside.Listed.{match_to}
use Rattle.logos_evidence.proofs.ListedLemmas.{last_site, matches_is}
use Rattle.logos_evidence.proofs.matches.matches_from.Goals as goal

pub returns : goal.returns
returns c = λ of_leaves starts bytes.
    let dfa = dfa_of c.dfa-dfa.result.now in
    let input = c.args.input.now in
    let leaves = c.leaves_at-2.result.now in
    let lists : slice_get dfa.matches c.next_eoi_state-last.result.0 ≡ Some leaves =
    subst (λ (s : ℕ). slice_get dfa.matches s ≡ Some leaves) c.index-2.ensures c.leaves_at-2.ensures in
    let made = c.in_ok-add_matches-2.ensures ∙
    ap (λ (ls : List Leaf). c.loop-end.found.items ++ map (match_to (priority_of (rules_of ls)) (length input)) leaves) c.leaves-2.ensures in
    let found = last_site dfa (priority_of (rules_of c.args.graph.now.leaves)) c.loop-end.end c.loop-end.state.0 c.next_eoi_state-last.result.0 input leaves
    c.loop-end.found.items c.add_matches-2.new.found.items _ (omega arith) c.next_eoi_state-last.ensures.next lists made c.loop-end.invariant.rest in
    matches_is c.args.graph.now dfa input c.args.from c.add_matches-2.new.found.items c.dfa-dfa.ensures c.requires found of_leaves starts bytes
