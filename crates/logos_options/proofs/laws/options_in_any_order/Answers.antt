use Rattle.logos_options.proofs.OrderLemmas.{any_order}
use Rattle.logos_options.proofs.laws.options_in_any_order.Goals as goal

pub returns : goal.returns
returns c = any_order
