use Rattle.std.proofs.Common.{refl}
use Rattle.logos_expand.proofs.FileWarningLemmas.{accepted_warned, refuses_any}
use Rattle.logos_expand.proofs.GatherLemmas.{expansion_made, spells_enum}
use Rattle.logos_expand.proofs.expansion.expanded.Goals as goal

pub expansion_by-requires : goal.expansion_by-requires
expansion_by-requires c = spells_enum c.args.source.now _ _ c.in-Ok.ensures.accepted c.in-Ok.ensures.within

pub returns-in-Ok-expansion_by-clause-done : goal.returns-in-Ok-expansion_by-clause-done
returns-in-Ok-expansion_by-clause-done c = expansion_made _ _ _ _ _ _ _ _ (rw c.config_of.ensures at c.in-Ok.ensures.given) c.in-Ok.ensures.around c.in-Ok-expansion_by.ensures.done

pub returns-in-Ok-expansion_by-clause-warns : goal.returns-in-Ok-expansion_by-clause-warns
returns-in-Ok-expansion_by-clause-warns c = accepted_warned _ _ _ _ _ _ _ _ _ (rw c.config_of.ensures at c.in-Ok.ensures.given) c.in-Ok-expansion_by.ensures.warns

pub returns-clause-silent : goal.returns-clause-silent
returns-clause-silent c = refuses_any _ refl
