use Rattle.logos_generator.proofs.InputLemmas.{are_bytes}
use Rattle.logos_generator.proofs.laws.bytes_are_an_input.Goals as goal

pub returns : goal.returns
returns c = (are_bytes c.args.bytes.now c.type_inv.bytes, λ t. absurd (cc))
