use Rattle.logos_hir.specs.Hir.{pairs}
use Rattle.logos_hir.proofs.lemmas.SameMembers.{same_ranges}
use Rattle.logos_hir.proofs.sets.laws.same_members.Goals as goal

pub returns : goal.returns
returns c = same_ranges (pairs c.args.a.now.ranges.items) (pairs c.args.b.now.ranges.items) c.args.a.now.canonical c.args.b.now.canonical
