use Rattle.std.proofs.Common.{OnOk, ◌≡◌, sym, subst}
use Rattle.logos_hir.specs.Hir.{pairs}
use Rattle.logos_hir.specs.Sets.{Set, members, union}
use Rattle.logos_syntax.proofs.bracket.translation.push_item.Goals as goal

pub returns-in-Some : goal.returns-in-Some
returns-in-Some c =
    subst (λ (s : Set). OnOk c.push_range.result (members (pairs c.push_range.new.ranges.items) ≡ union (members (pairs c.args.ranges.now.items)) s)) (sym c.in-Some.ensures) c.push_range.ensures

pub returns-in_ok-item_set-in-None : goal.returns-in_ok-item_set-in-None
returns-in_ok-item_set-in-None c =
    subst (λ (s : Set). OnOk c.push_set.result (members (pairs c.push_set.new.ranges.items) ≡ union (members (pairs c.args.ranges.now.items)) s)) c.in_ok-item_set-in-None.ensures c.push_set.ensures
