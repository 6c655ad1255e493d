use Rattle.logos_page.proofs.PageLemmas.{gains_then}
use Rattle.logos_attempts.proofs.around.push_found.Goals as goal

pub returns : goal.returns
returns c =
    gains_then c.push.ensures (gains_then c.push_kind.ensures (gains_then c.push-2.ensures (gains_then (rw c.location_in.ensures at c.push_location.ensures) (gains_then c.push-3.ensures
    (gains_then (rw c.location_in-2.ensures at c.push_location-2.ensures) (gains_then c.push-4.ensures (gains_then (rw c.bytes_between.ensures at c.push_quoted.ensures) c.push-5.ensures)))))))
