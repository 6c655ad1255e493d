use Rattle.logos_replies.proofs.verdict.compare_with.Goals as goal

-- the verdict is that of the comparison, and its text is written
pub returns-clause-judged : goal.returns-clause-judged
returns-clause-judged g c = λ of_one of_other fine other_fine. record {
  verdict = c.in_ok-compared.compared;
  is = c.in_ok-compared.ensures of_one of_other fine other_fine;
  agrees = c.agreement_of.ensures;
  text = c.in_ok-bytes.bytes.items;
  shows = c.in_ok-bytes.ensures;
  printed = rw c.deref.ensures.value at c.in_ok-print_bytes.ensures.printed;
}
