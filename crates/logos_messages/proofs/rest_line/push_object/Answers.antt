use Rattle.logos_json.proofs.LineLemmas.{gains_then}
use Rattle.logos_messages.proofs.rest_line.push_object.Goals as goal

pub returns : goal.returns
returns c =
    let head = gains_then c.push_message.ensures (gains_then c.push_code.ensures c.push_text.ensures) in
    let lists = gains_then c.push_empty_list.ensures (gains_then c.push_empty_list-2.ensures (gains_then c.push_text-2.ensures c.end_object.ensures)) in
    gains_then c.begin_object.ensures (gains_then head lists)
