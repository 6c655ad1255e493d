use Rattle.std.proofs.Common.{drop}
use Rattle.logos_expand.proofs.FileWarningLemmas.{WarnedSoFar}
use Rattle.logos_expand.proofs.GatherLemmas.{SoFar}
use Rattle.logos_expand.proofs.expansion.gather.Given as goal

abbrev pub invariant-loop-one : goal.invariant-loop-one
invariant-loop-one l = record {
  gathered : SoFar l.site.shape l.text l.found (drop l.one-index l.found) l.gathered;
  warned : WarnedSoFar l.site.shape l.text l.found (drop l.one-index l.found) l.gathered.refused.items l.fn.warned.items l.warned.items;
}
