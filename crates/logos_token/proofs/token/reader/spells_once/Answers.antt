use Rattle.logos_token.proofs.reading.SpellingLaws.{spells-one}
use Rattle.logos_token.proofs.token.reader.spells_once.Goals as goal

pub returns : goal.returns
returns c = spells-one
