use Rattle.std.proofs.Common.{◌≡◌, ◌≤◌, ◌-◌, [], length}
use Rattle.logos_graph.specs.GraphOf.{IsGraphOf}
use Rattle.logos_page.specs.Pages.{PageValue}
use Rattle.logos_answers.specs.Examples.{ShowsExamples}
use Rattle.logos_answers.proofs.examples.push_examples.Given as goal

-- with the leaves that are left the page gains the lines of all
abbrev pub invariant-loop-leaf : goal.invariant-loop-leaf
invariant-loop-leaf l = record {
  within : l.leaf ≤ length l.graph.leaves;
  rest : IsGraphOf l.graph.leaves l.graph.utf8 l.graph → l.graph.faults ≡ [] → (new : PageValue) →
      ShowsExamples l.graph.leaves l.graph.utf8 l.leaf (length l.graph.leaves - l.leaf) l.page new → ShowsExamples l.graph.leaves l.graph.utf8 0 (length l.graph.leaves) l.initial.page new;
}
