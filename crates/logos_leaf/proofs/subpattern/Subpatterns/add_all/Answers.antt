use Rattle.std.proofs.Common.{◌≡◌, ◌∙◌, ◌∷◌, ◌+◌, map, drop, ap, sym}
use Rattle.std.proofs.lemmas.List.{at_drop_more, at_drop_all}
use Rattle.logos_attribute.specs.LiteralViews.{named_literal_view}
use Rattle.logos_leaf.specs.subpattern.Subpatterns.AreAdded.{ended, further}
use Rattle.logos_leaf.proofs.subpattern.Subpatterns.add_all.Goals as goal

pub loop-named-preserved : goal.loop-named-preserved
loop-named-preserved c =
    let left : map named_literal_view (drop c.loop-named.named-index c.args.list.now)
    ≡ named_literal_view c.named-item.result ∷ map named_literal_view (drop (c.loop-named.named-index + 1) c.args.list.now) =
    at_drop_more (λ xs. map named_literal_view xs) c.args.list.now c.loop-named.named-index c.named-item.result c.loop-named-test.true
    ∙ ap (λ x. named_literal_view x ∷ map named_literal_view (drop (c.loop-named.named-index + 1) c.args.list.now)) (sym c.named-item.is) in
    λ after new rest. c.loop-named.invariant after new (rw left (further c.in_ok-add.ensures rest))

pub returns : goal.returns
returns c =
    c.loop-named.invariant _ _ (rw (at_drop_all (λ xs. map named_literal_view xs) c.args.list.now c.loop-named.named-index c.loop-named-test.false) ended)
