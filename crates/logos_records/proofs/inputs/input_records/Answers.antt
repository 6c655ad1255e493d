use Rattle.std.proofs.Common.{◌∙◌, ap, take}
use Rattle.std.specs.List.{flat_map}
use Rattle.logos_json.proofs.LineLemmas.{put_text}
use Rattle.logos_records.specs.Inputs.{input_lines}
use Rattle.logos_records.proofs.inputs.input_records.Goals as goal

pub returns : goal.returns
returns c =
    let put = c.in_ok-count.ensures in
    record {
      inputs = put.inputs;
      covering = put.covering;
      all = put.all;
      lines = put_text (flat_map input_lines (take c.args.most put.inputs)) _ _ c.in_ok-bytes.bytes.items (ap (λ v. v.before) c.new-lines.ensures ∙ c.new.ensures.items) (ap (λ v. v.tokens) c.new-lines.ensures) put.put c.in_ok-bytes.ensures.bytes;
    }
