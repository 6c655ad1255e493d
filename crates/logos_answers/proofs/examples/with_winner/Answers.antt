use Rattle.std.proofs.Common.{◌∙◌, refl, subst, sym}
use Rattle.logos_evidence.specs.Matching.{IsWinner}
use Rattle.logos_graph.specs.View.{rules_of}
use Rattle.logos_answers.proofs.ExampleLemmas.{all_start, matches_of, some_match}
use Rattle.logos_answers.proofs.examples.with_winner.Goals as goal

pub returns-in-Some : goal.returns-in-Some
returns-in-Some c = λ leaf of_leaves faultless shortest. record {
  shortest = shortest;
  matches = c.in_ok-matches.matches.items;
  all = matches_of (rules_of c.args.graph.now.leaves) c.deref.result.now c.args.input.items c.in_ok-matches.matches.items c.deref.ensures.value
      (c.in_ok-matches.ensures of_leaves (all_start c.args.graph.now of_leaves faultless)) shortest.loss.input.0;
  best = c.in-Some.found;
  wins = subst (λ matches. IsWinner matches c.in-Some.found) c.deref-2.ensures.value c.in-Some.ensures;
  is = refl;
}

pub returns-in-None : goal.returns-in-None
returns-in-None c = λ leaf of_leaves faultless shortest.
    let are = matches_of (rules_of c.args.graph.now.leaves) c.deref.result.now c.args.input.items c.in_ok-matches.matches.items c.deref.ensures.value
    (c.in_ok-matches.ensures of_leaves (all_start c.args.graph.now of_leaves faultless)) shortest.loss.input.0 in
    some_match (rules_of c.args.graph.now.leaves) c.args.graph.now.utf8 leaf c.args.input.items c.in_ok-matches.matches.items are shortest.loss (sym c.deref-2.ensures.value ∙ c.in-None.ensures)
