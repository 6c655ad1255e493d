use Rattle.logos_answers.proofs.LongestLemmas.{matches_shown}
use Rattle.logos_answers.proofs.matches.push_matches.Goals as goal

pub returns : goal.returns
returns c = record {
  shows = λ of_leaves starts bytes.
      matches_shown c.args.graph.now.leaves c.leaves.result.now c.args.input.now c.args.from c.in_ok-matches.matches.items c.deref.result.now c.deref-3.result.now c.in_ok-longest.longest.items c.deref-2.result.now
      c.args.page.now c.push_lines.new.page c.push_verdict.new.page c.leaves.ensures c.deref.ensures.value c.deref-3.ensures.value c.deref-2.ensures.value
      (c.in_ok-matches.ensures of_leaves starts bytes) c.in_ok-longest.ensures c.push_lines.ensures c.push_verdict.ensures;
  err = tt;
}
