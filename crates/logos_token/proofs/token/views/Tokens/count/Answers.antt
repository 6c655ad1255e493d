use Rattle.logos_token.proofs.reading.LengthLemmas.{entries-count}
use Rattle.logos_token.proofs.token.views.Tokens.count.Goals as goal

pub returns : goal.returns
returns c = entries-count c.args.self.entries.now c.args.self.nested
