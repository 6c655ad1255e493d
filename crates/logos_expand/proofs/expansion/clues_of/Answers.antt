use Rattle.std.proofs.Common.{map}
use Rattle.logos_file_warnings.specs.Added.{moved}
use Rattle.logos_expand.proofs.expansion.clues_of.Goals as goal

pub returns-clause-sets : goal.returns-clause-sets
returns-clause-sets c = c.in_ok-clues.ensures

pub returns-clause-warns : goal.returns-clause-warns
returns-clause-warns c = (map (moved c.args.offset) c.in_ok-clues.field-0.warnings.items, c.in_ok-add_warnings.ensures)
