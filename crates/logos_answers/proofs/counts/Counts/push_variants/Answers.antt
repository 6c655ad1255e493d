use Rattle.std.proofs.Common.{◌+◌, ◌-◌, ◌^◌, ◌∙◌, min, length, ap, subst, arith}
use Rattle.logos_page.specs.Pages.{Gains}
use Rattle.logos_answers.specs.Counts.{lines_from}
use Rattle.logos_answers.proofs.CountLemmas.{next_line, no_line}
use Rattle.logos_answers.proofs.counts.Counts.push_variants.Goals as goal

pub loop-number-preserved : goal.loop-number-preserved
loop-number-preserved c =
    let leaves = c.args.leaves.now in
    let counts = c.args.self.now.by_leaf.items in
    let number = c.loop-number.number in
    let is = c.saturating_add.ensures ∙ ap (λ n. min (c.loop-number.sum + n) (2 ^ 64 - 1)) c.of_leaf.ensures in
    record {
      within = omega (arith, c.loop-number-test.true);
      rest = λ new rest.
          c.loop-number.invariant.rest new (next_line leaves counts number c.loop-number.sum c.saturating_add.result c.loop-number-test.true is c.push_sum-sum.ensures.line
          (subst (λ n. Gains (lines_from leaves counts (number + 1) n (length leaves - (number + 1))) c.push_sum-sum.new.page new) c.push_sum-sum.ensures.rest rest));
    }

pub returns : goal.returns
returns c = c.loop-number.invariant.rest _ (no_line c.args.leaves.now c.args.self.now.by_leaf.items c.loop-number.number c.loop-number.sum c.loop-number.page c.loop-number-test.false)
