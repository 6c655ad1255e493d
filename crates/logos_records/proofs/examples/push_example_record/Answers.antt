use Rattle.std.proofs.Common.{refl, option_map}
use Rattle.logos_answers.specs.Examples.{loss_value}
use Rattle.logos_json.proofs.LineLemmas.{gains_then}
use Rattle.logos_records.specs.Examples.{example_object}
use Rattle.logos_records.proofs.RecordLemmas.{object_put}
use Rattle.logos_records.proofs.examples.push_example_record.Goals as goal

pub returns : goal.returns
returns c = λ of_leaves faultless.
    let evidence = c.in_ok-evidence.ensures of_leaves faultless in
    let found = option_map (λ input. input.items) c.in_ok-evidence.evidence.found in
    let loss = option_map loss_value c.in_ok-evidence.evidence.loss in
    let members = gains_then c.push_text.ensures (gains_then (rw c.leaves.ensures at c.push_leaf_members.ensures) c.push_evidence.ensures) in (
      example_object c.args.one.name.now c.args.one.graph.now.leaves c.args.leaf found loss,
      record { found = found; loss = loss; evidence = evidence; is = refl },
      object_put c.begin_object.ensures members c.end_object.ensures c.end_line.ensures,
    )
