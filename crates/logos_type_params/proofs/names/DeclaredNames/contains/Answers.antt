use Rattle.std.proofs.Common.{◌∙◌}
use Rattle.logos_type_params.proofs.ChainLemmas.{any_texts}
use Rattle.logos_type_params.proofs.names.DeclaredNames.contains.Goals as goal

pub returns : goal.returns
returns c = c.contains.ensures ∙ (any_texts c.args.text.now c.args.self.now.texts.keys ∙ c.args.self.now.same c.args.text.now)
