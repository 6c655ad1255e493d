use Rattle.std.proofs.Common.{map, sym, true≢false}
use Rattle.std.proofs.lemmas.List.{at_drop_all}
use Rattle.logos_type.specs.Parts.{tree_of, trees, none}
use Rattle.logos_type.proofs.PartTrees.{tree-Whole}
use Rattle.logos_type_params.specs.Substitution.{param_value}
use Rattle.logos_type_params.specs.SelfReference.{names, some_names}
use Rattle.logos_type_params.specs.inside.Chains.{Reaches}
use Rattle.logos_type_params.proofs.ChainLemmas.{reaches_on, reaches_none}
use Rattle.logos_type_params.proofs.self_reference.+reach.Goals as goal

pub loop-part-preserved : goal.loop-part-preserved
loop-part-preserved t c =
    reaches_on (map param_value c.args.types.now.entries.items)
    (λ new. Reaches (map param_value c.args.types.now.entries.items) (names (tree_of c.args.part.now)) c.args.reached.now.items new)
    c.deref-part-items.result.now c.loop-part.part-index c.part-item.result c.loop-part.reached.items c.reach.new.reached.items
    c.loop-part.invariant c.loop-part-test.true c.part-item.is c.in_ok-reach-in-Whole.ensures

pub loop-part-init : goal.loop-part-init
loop-part-init t c = λ new h. rw (c.in-Whole.is, tree-Whole c.in-Whole.parts) (rw c.deref-part-items.ensures.value at h)

pub returns-after-loop-part : goal.returns-after-loop-part
returns-after-loop-part t c =
    let rest = at_drop_all (λ ps. trees (map tree_of ps)) c.deref-part-items.result.now c.loop-part.part-index c.loop-part-test.false in
    c.loop-part.invariant c.loop-part.reached.items
    (rw rest (reaches_none (map param_value c.args.types.now.entries.items) (some_names none) c.loop-part.reached.items (λ text at held occurs. absurd (true≢false (sym held)))))
