use Rattle.std.proofs.Common.{refl, option_map}
use Rattle.logos_answers.specs.Examples.{evidence_line, loss_value}
use Rattle.logos_answers.proofs.examples.push_example.Goals as goal

pub returns : goal.returns
returns c = λ of_leaves faultless.
    let evidence = c.in_ok-evidence.ensures of_leaves faultless in
    let found = option_map (λ input. input.items) c.in_ok-evidence.evidence.found in
    let loss = option_map loss_value c.in_ok-evidence.evidence.loss in
    (evidence_line c.args.graph.now.leaves c.args.leaf found loss, record { found = found; loss = loss; evidence = evidence; is = refl }, rw c.leaves.ensures at c.push_evidence.ensures)
