use Rattle.logos_codegen.proofs.AcceptLemmas.{accepted_once}
use Rattle.logos_codegen.proofs.laws.a_source_has_one_list_of_rules.Goals as goal

pub returns : goal.returns
returns c = λ source rules others utf8 other a b. accepted_once source rules others utf8 other a b
