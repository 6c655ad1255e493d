use Rattle.std.proofs.Common.{drop, map}
use Rattle.std.specs.List.{flat_map}
use Rattle.logos_page.specs.Pages.{PageValue, Gains}
use Rattle.logos_answers.specs.Inputs.{input_line}
use Rattle.logos_answers.proofs.inputs.push_literals.Given as goal

-- with the inputs that are left the page gains the lines of all
abbrev pub invariant-loop-input : goal.invariant-loop-input
invariant-loop-input l = (new : PageValue) → Gains (flat_map input_line (map (λ input. input.items) (drop l.input-index l.inputs))) l.page new →
    Gains (flat_map input_line (map (λ input. input.items) l.inputs)) l.initial.page new
