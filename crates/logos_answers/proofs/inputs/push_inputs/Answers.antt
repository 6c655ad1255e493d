use Rattle.std.proofs.Common.{◌∙◌, map}
use Rattle.logos_answers.specs.Inputs.{input_line}
use Rattle.logos_answers.proofs.InputLemmas.{first_shown, map_length}
use Rattle.logos_answers.proofs.inputs.push_inputs.Goals as goal

pub returns : goal.returns
returns c = record {
  inputs = map (λ input. input.items) c.in_ok-inputs.inputs.items;
  covering = c.in_ok-inputs.ensures;
  all = c.len.ensures ∙ c.in_ok-inputs.inputs.ok.0 ∙ map_length (λ input. input.items) c.in_ok-inputs.inputs.items;
  gained = first_shown (λ input. input.items) input_line c.args.most c.in_ok-inputs.inputs.items c.deref.result.now c.first_of.result.now c.first_of.ensures c.deref.ensures.value c.push_literals.ensures;
}
