use Rattle.std.proofs.Common.{ℕ, List, [], subst, sym, ◌∙◌}
use Rattle.std.specs.Result.{OnOk}
use Rattle.logos_type_params.specs.cycles.inside.Traversals.{Reaches}
use Rattle.logos_type_params.proofs.cycles.ListLemmas.{read_at, read_past, targets_read, no_targets, contains_none}
use Rattle.logos_type_params.proofs.cycles.TraversalLemmas.{reaches_none}
use Rattle.logos_type_params.proofs.cycles.reference.add_targets.Goals as goal

pub returns : goal.returns
returns c =
    let list = read_at c.args.lists.now c.args.from c.in-Some.list c.in-Some.ensures.lookup in
    subst (λ (ts : List ℕ). OnOk c.add_all.result (Reaches ts c.args.traversal.now.found.items c.args.traversal.now.waiting.items c.add_all.new.traversal.found.items c.add_all.new.traversal.waiting.items))
    (c.deref.ensures.value ∙ sym (targets_read c.args.lists.now c.args.from c.in-Some.list.now list)) c.add_all.ensures

pub returns-in_default : goal.returns-in_default
returns-in_default c =
    let none = no_targets c.args.lists.now c.args.from (read_past c.args.lists.now c.args.from c.in_default.ensures.lookup) in
    rw none (reaches_none c.args.traversal.now.found.items c.args.traversal.now.waiting.items [] contains_none)
