use Rattle.std.proofs.Common.{Some, map, reverse, ap, ap₂, sym, ◌∙◌}
use Rattle.logos_hir.specs.Hir.{pairs}
use Rattle.logos_hir.specs.Sets.{Set, members}
use Rattle.logos_hir.specs.Operands.{with_operand, made_by}
use Rattle.logos_syntax.specs.inside.BracketView.{frame_view}
use Rattle.logos_hir.proofs.lemmas.SetLemmas.{no_member}
use Rattle.logos_syntax.proofs.brackets.OperandLemmas.{operand_added}
use Rattle.logos_syntax.proofs.bracket.stack.Frames.operator.Goals as goal

pub returns : goal.returns
returns c =
    let old = c.args.self.now in
    let set = c.in_ok-set.ensures ∙ ap (λ xs. members (pairs xs)) c.deref.ensures.value in
    let before = sym (c.in_ok-push.ensures ∙ ap (with_operand old.top.operator (made_by old.top.before)) set
    ∙ operand_added old.top.operator (made_by old.top.before) (members (pairs old.top.ranges.items))) in
    let here = sym (ap (λ xs. members (pairs xs)) c.new.ensures.items ∙ no_member) in (
      tt,
      ap₂ (λ (set here : Set). Some record { top = record { negated = old.top.negated; before = Some (set, c.args.op); here = here; inner = old.top.inner }; below = reverse (map frame_view old.below.items) })
          before here,
    )
