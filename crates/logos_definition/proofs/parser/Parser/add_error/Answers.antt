use Rattle.logos_definition.specs.Arguments.{alone}
use Rattle.logos_definition.proofs.ArgumentLemmas.{not_grouped}
use Rattle.logos_definition.proofs.parser.Parser.add_error.Goals as goal

pub returns : goal.returns
returns c = alone (not_grouped c.args.value.now c.in_default.not-Group) c.in_ok-add_error_alone.ensures
