use Rattle.logos_page.proofs.PageLemmas.{gains_then}
use Rattle.logos_answers.proofs.matches.push_extent.Goals as goal

pub returns : goal.returns
returns c = gains_then (rw c.length_from.ensures at c.push_length.ensures) (gains_then c.push.ensures (gains_then (rw c.bytes_between.ensures at c.push_quoted.ensures) c.push-2.ensures))
