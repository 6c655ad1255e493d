use Rattle.std.proofs.Common.{◌∙◌, ◌≤◌, inl, inr, refl, subst, sym}
use Rattle.std.proofs.lemmas.List.{map-append}
use Rattle.logos_html.specs.Finds.{adds, begins}
use Rattle.logos_html.proofs.FindLemmas.{at_end_of}
use Rattle.logos_html.proofs.finds.next_items.Goals as goal

pub loop-item-init : goal.loop-item-init
loop-item-init g c = record { same_code = refl; same_input = refl; same_callback = refl; runs = rw c.new-items.ensures.items begins }

pub loop-item-preserved : goal.loop-item-preserved
loop-item-preserved g c =
    let i = c.loop-item.invariant in
    let keeps = c.in-Some.ensures.keeps in
    let given = rw i.same_callback at c.in-Some.ensures.item in
    record {
      same_code = keeps.code ∙ i.same_code;
      same_input = keeps.input ∙ i.same_input;
      same_callback = keeps.callback ∙ i.same_callback;
      runs = rw (c.in_ok-push.ensures.items, map-append) (adds _ _ _ _ i.runs (rw (i.same_code, i.same_input) at given.is));
    }

pub returns-then-is_last : goal.returns-then-is_last
returns-then-is_last g c =
    let i = c.loop-item.invariant in
    let given = rw i.same_callback at c.in-Some.ensures.item in
    record {
      to = _;
      runs = rw (c.in_ok-push.ensures.items, map-append) (adds _ _ _ _ i.runs (rw (i.same_code, i.same_input) at given.is));
      enough = inl (subst (λ n. c.args.most ≤ n) (c.span_of.ensures.to ∙ sym (at_end_of given)) c.if-is_last.true);
    }

pub returns : goal.returns
returns g c =
    let i = c.loop-item.invariant in
    record {
      to = _;
      runs = i.runs;
      enough = inr (rw (i.same_code, i.same_input) at (rw i.same_callback at c.in_default.ensures.item).over);
    }
