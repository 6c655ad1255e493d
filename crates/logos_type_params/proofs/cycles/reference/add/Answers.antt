use Rattle.std.proofs.Common.{sym, ◌∙◌, arith}
use Rattle.logos_type_params.proofs.cycles.ListLemmas.{copied_at, copied_past}
use Rattle.logos_type_params.proofs.cycles.TraversalLemmas.{reaches_old, reaches_new}
use Rattle.logos_type_params.proofs.cycles.reference.add.Goals as goal

pub returns-in_default : goal.returns-in_default
returns-in_default c =
    let past = copied_past c.args.traversal.now.found.items c.deref.result.now c.args.to c.get.result c.deref.ensures.value c.get.ensures.lookup (sym c.copied.ensures ∙ c.in_default.is) in
    reaches_old c.args.to c.args.traversal.now.found.items c.args.traversal.now.waiting.items (λ lt. absurd (omega (arith, past, lt)))

pub returns-then-found : goal.returns-then-found
returns-then-found c =
    let is = copied_at c.args.traversal.now.found.items c.deref.result.now c.args.to c.get.result c.in-Some.found c.deref.ensures.value c.get.ensures.lookup (sym c.copied.ensures ∙ c.in-Some.is) in
    reaches_old c.args.to c.args.traversal.now.found.items c.args.traversal.now.waiting.items (λ lt. is.1 ∙ c.if-found.true)

pub returns : goal.returns
returns c =
    let is = copied_at c.args.traversal.now.found.items c.deref.result.now c.args.to c.get.result c.in-Some.found c.deref.ensures.value c.get.ensures.lookup (sym c.copied.ensures ∙ c.in-Some.is) in
    rw c.in_ok-push.ensures.items
    (reaches_new c.args.to c.args.traversal.now.found.items is.0 c.args.traversal.now.waiting.items (is.1 ∙ c.if-found.false))
