use Rattle.std.proofs.Common.{◌≡◌, ◌∙◌, Some, map, sym, arith}
use Rattle.logos_leaf.specs.subpattern.StoredViews.{stored_of}
use Rattle.logos_leaf.specs.subpattern.inside.Slots.{slot_in}
use Rattle.logos_leaf.proofs.subpattern.SubpatternLemmas.{slot_within}
use Rattle.logos_leaf.proofs.subpattern.Subpatterns.slot.Goals as goal

pub returns-clause-within : goal.returns-clause-within
returns-clause-within c =
    let there : Some c.in_ok-slot.slot.now ≡ slot_in (map stored_of c.args.self.now.list.items) c.args.name.now = c.in_ok-slot.ensures.value ∙ c.args.self.now.found c.args.name.now in
    let l = slot_within c.args.self.now.list.items c.args.name.now c.in_ok-slot.slot.now (sym there) in
    omega (arith, l)
