use Rattle.std.proofs.Common.{◌∙◌, ap, false, subst}
use Rattle.logos_machine.specs.LexerValue.{answers_of, item_of}
use Rattle.logos_machine.specs.Within.{DoesWithin, YieldsWithin}
use Rattle.logos_relex.proofs.ItemLemmas.{settling_with, settling_over}
use Rattle.logos_relex.proofs.chunk.settled.Goals as goal

pub loop-item-preserved : goal.loop-item-preserved
loop-item-preserved g c =
    let inv = c.loop-item.invariant in
    let keeps = c.in-Item.ensures.keeps in
    let given = subst (λ (f : g.row.C.Denot). YieldsWithin (answers_of g.C.Fn f) c.loop-item.lexer c.next_within.new.self (item_of c.in-Item.item)) inv.same_callback c.in-Item.ensures.does in
    record {
      same_code = keeps.code ∙ inv.same_code;
      same_input = keeps.input ∙ inv.same_input;
      same_callback = keeps.callback ∙ inv.same_callback;
      settling = rw (c.in_ok-push.ensures.items, c.offset_of.ensures) (settling_with c.args.lexer.code (answers_of g.C.Fn c.args.lexer.callback) c.args.lexer.input c.loop-item.lexer c.next_within.new.self
          inv.same_code inv.same_input (keeps.input ∙ inv.same_input) c.loop-item.items.items c.in-Item.item inv.settling given);
    }

pub returns : goal.returns
returns g c =
    let inv = c.loop-item.invariant in
    let keeps = c.next_within.ensures.keeps in
    let does = subst (λ (f : g.row.C.Denot). DoesWithin false (answers_of g.C.Fn f) c.loop-item.lexer c.next_within.new.self c.next_within.result) inv.same_callback c.next_within.ensures.does in
    let s = settling_over c.args.lexer.code (answers_of g.C.Fn c.args.lexer.callback) c.args.lexer.input c.loop-item.lexer c.next_within.new.self
    inv.same_code inv.same_input (keeps.input ∙ inv.same_input) c.loop-item.items.items c.next_within.result inv.settling does c.in_default.not-Item in
    let to = ap (λ x. x.to) c.span.ensures in
    rw to (record { within = s.within; spans = s.spans; begun = s.begun })
