use Rattle.logos_json.proofs.LineLemmas.{gains_then}
use Rattle.logos_messages.proofs.spans.push_other_label.Goals as goal

pub returns : goal.returns
returns c = gains_then c.push_bool.ensures c.push_text.ensures
