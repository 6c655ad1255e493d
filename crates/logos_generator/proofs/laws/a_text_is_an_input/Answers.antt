use Rattle.logos_generator.proofs.InputLemmas.{are_bytes}
use Rattle.logos_generator.proofs.laws.a_text_is_an_input.Goals as goal

pub returns : goal.returns
returns c = λ utf8. (are_bytes c.args.text.now c.type_inv.text, λ t. c.utf8.text)
