use Rattle.logos_text.proofs.TextLemmas.{adds_both, grows_after}
use Rattle.logos_text.proofs.code.push_rest.Goals as goal

pub returns : goal.returns
returns c = grows_after (adds_both c.in_ok-push_opening.ensures c.in_ok-push_states.ensures) c.in_ok-push_closing.ensures
