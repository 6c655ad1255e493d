use Rattle.std.proofs.Common.{◌∙◌, map}
use Rattle.logos_answers.proofs.InputLemmas.{map_length}
use Rattle.logos_records.specs.Inputs.{input_lines}
use Rattle.logos_records.proofs.RecordLemmas.{first_put}
use Rattle.logos_records.proofs.inputs.push_input_records.Goals as goal

pub returns : goal.returns
returns c = record {
  inputs = map (λ input. input.items) c.in_ok-inputs.inputs.items;
  covering = c.in_ok-inputs.ensures;
  all = c.len.ensures ∙ c.in_ok-inputs.inputs.ok.0 ∙ map_length (λ input. input.items) c.in_ok-inputs.inputs.items;
  put = first_put (λ input. input.items) input_lines c.args.most c.in_ok-inputs.inputs.items c.deref.result.now c.first_of.result.now c.first_of.ensures c.deref.ensures.value c.push_each.ensures;
}
