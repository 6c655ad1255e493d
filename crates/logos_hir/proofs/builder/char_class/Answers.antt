use Rattle.std.proofs.Common.{ap, sym, ◌∙◌, Some, None}
use Rattle.logos_hir.specs.Hir.{pairs}
use Rattle.logos_hir.specs.Tree.{literal, char_class}
use Rattle.logos_hir.specs.declared.hir.Class.TheVariants.{Characters}
use Rattle.logos_hir.proofs.tree.TreeViews.{tree-Literal, tree-Class}
use Rattle.logos_hir.proofs.tree.BuildLemmas.{one_char-is}
use Rattle.logos_hir.proofs.builder.char_class.Goals as goal

pub returns-in_ok-from_slice-in-Some : goal.returns-in_ok-from_slice-in-Some
returns-in_ok-from_slice-in-Some c =
    tree-Literal c.in_ok-from_slice-in-Some.field-0
    ∙ ap literal (c.in_ok-from_slice-in-Some.ensures.items ∙ c.as_bytes-bytes.ensures.value ∙ c.encode_utf8.ensures.value)
    ∙ sym (one_char-is (pairs c.args.set.ranges.items) (Some c.in-Some.c) c.args.set.canonical (sym c.sole_member.ensures ∙ c.in-Some.is))

pub returns-in-None : goal.returns-in-None
returns-in-None c =
    tree-Class (Characters c.into_ranges.result)
    ∙ ap (λ v. char_class (pairs v.items)) c.into_ranges.ensures
    ∙ sym (one_char-is (pairs c.args.set.ranges.items) None c.args.set.canonical (sym c.sole_member.ensures ∙ c.in-None.is))
