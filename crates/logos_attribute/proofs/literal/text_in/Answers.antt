use Rattle.logos_attribute.proofs.LiteralLemmas.{read_view}
use Rattle.logos_attribute.proofs.literal.text_in.Goals as goal

pub returns : goal.returns
returns c = read_view _ _ c.in_ok-read.ensures.token c.in_ok-read.ensures.value
