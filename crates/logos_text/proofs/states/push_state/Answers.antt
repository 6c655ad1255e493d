use Rattle.logos_text.proofs.TextLemmas.{adds_both, grows_after}
use Rattle.logos_text.proofs.states.push_state.Goals as goal

pub returns : goal.returns
returns c = grows_after (adds_both c.in_ok-push_before.ensures c.in_ok-push_ways.ensures) c.in_ok-push_after.ensures
