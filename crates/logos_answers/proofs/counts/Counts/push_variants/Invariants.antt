use Rattle.std.proofs.Common.{◌≤◌, ◌-◌, length}
use Rattle.logos_page.specs.Pages.{PageValue, Gains}
use Rattle.logos_answers.specs.Counts.{lines_from, variant_lines}
use Rattle.logos_answers.proofs.counts.Counts.push_variants.Given as goal

-- with the leaves that are left the page gains all lines
abbrev pub invariant-loop-number : goal.invariant-loop-number
invariant-loop-number l = record {
  within : l.number ≤ length l.leaves;
  rest : (new : PageValue) → Gains (lines_from l.leaves l.self.by_leaf.items l.number l.sum (length l.leaves - l.number)) l.page new → Gains (variant_lines l.leaves l.self.by_leaf.items) l.initial.page new;
}
