use Rattle.std.proofs.Common.{ap, sym, ◌∙◌, Some, None, rules}
use Rattle.logos_hir.specs.Hir.{pairs}
use Rattle.logos_hir.specs.Tree.{literal, byte_class}
use Rattle.logos_hir.specs.declared.hir.Class.TheVariants.{Bytes}
use Rattle.logos_hir.proofs.tree.TreeViews.{tree-Literal, tree-Class}
use Rattle.logos_hir.proofs.tree.BuildLemmas.{one_byte-is, sole_is_byte}
use Rattle.logos_hir.proofs.builder.byte_class.Goals as goal

pub overflow_cast-c : goal.overflow_cast-c
overflow_cast-c c =
    let small = sole_is_byte (pairs c.args.set.ranges.items) (pairs c.in_ok-bytes.bytes.ranges.items) c.in-Some.c c.in_ok-bytes.bytes.canonical c.in_ok-bytes.ensures (sym c.sole_member.ensures ∙ c.in-Some.is) in
    search rules

pub returns-in-Some : goal.returns-in-Some
returns-in-Some c =
    tree-Literal c.in_ok-from_slice-in-Some.field-0
    ∙ ap literal c.in_ok-from_slice-in-Some.ensures.items
    ∙ sym (one_byte-is (pairs c.args.set.ranges.items) (pairs c.in_ok-bytes.bytes.ranges.items) (Some c.in-Some.c) c.in_ok-bytes.bytes.canonical c.in_ok-bytes.ensures (sym c.sole_member.ensures ∙ c.in-Some.is))

pub returns : goal.returns
returns c =
    tree-Class (Bytes c.into_ranges.result)
    ∙ ap (λ v. byte_class (pairs v.items)) c.into_ranges.ensures
    ∙ sym (one_byte-is (pairs c.args.set.ranges.items) (pairs c.in_ok-bytes.bytes.ranges.items) None c.in_ok-bytes.bytes.canonical c.in_ok-bytes.ensures (sym c.sole_member.ensures ∙ c.in-None.is))
