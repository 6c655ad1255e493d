use Rattle.std.proofs.Common.{subst}
use Rattle.logos_evidence.specs.Matching.{IsWinner}
use Rattle.logos_page.proofs.PageLemmas.{gains_then}
use Rattle.logos_answers.proofs.matches.push_first.Goals as goal

pub returns : goal.returns
returns c = λ of_leaves starts bytes. record {
  matches = c.in_ok-matches.matches.items;
  all = c.in_ok-matches.ensures of_leaves starts bytes;
  first = (
    c.in-Some.found,
    subst (λ matches. IsWinner matches c.in-Some.found) c.deref.ensures.value c.in-Some.ensures,
    gains_then (rw c.leaves.ensures at c.push_leaf.ensures) (gains_then c.push.ensures (rw c.bytes_between.ensures at c.push_quoted.ensures)),
  );
}
