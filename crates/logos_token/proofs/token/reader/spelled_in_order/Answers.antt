use Rattle.logos_token.proofs.reading.OrderLemmas.{spelled-in_order}
use Rattle.logos_token.proofs.token.reader.spelled_in_order.Goals as goal

pub returns : goal.returns
returns c = spelled-in_order
