use Rattle.logos_page.proofs.PageLemmas.{gains_then}
use Rattle.logos_answers.proofs.quotes.push_byte_string.Goals as goal

pub returns : goal.returns
returns c = gains_then c.push.ensures (gains_then c.push_bytes.ensures c.push-2.ensures)
