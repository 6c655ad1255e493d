use Rattle.std.proofs.Common.{◌∙◌, arith}
use Rattle.logos_machine.specs.LexerValue.{answers_of, item_of}
use Rattle.logos_commands.proofs.LexingLemmas.{all_done, one_more}
use Rattle.logos_commands.proofs.item_lines.write_lines.Goals as goal

pub loop-item-preserved : goal.loop-item-preserved
loop-item-preserved g c =
    let keeps = c.in-Some.ensures.keeps in
    let given = rw c.loop-item.invariant.same_callback at c.in-Some.ensures.item in
    let code = keeps.code ∙ c.loop-item.invariant.same_code in
    let input = keeps.input ∙ c.loop-item.invariant.same_input in
    record {
      same_code = code;
      same_input = input;
      same_callback = keeps.callback ∙ c.loop-item.invariant.same_callback;
      few = c.in_ok-write_if_full.ensures.few;
      room = omega (arith, c.loop-item.invariant.room, c.push_line.ensures.room, c.in_ok-write_if_full.ensures.room);
      continues = one_more _ (answers_of g.C.Fn c.args.lexer.now.callback) c.args.lexer.now.code c.args.lexer.now.input _ _ c.args.lexer.now.to _ _ _ _ _ _ _ (item_of c.in-Some.item) given
          c.loop-item.invariant.same_code c.loop-item.invariant.same_input code input
          (λ leaf slice answer w. w) (λ leaf slice answer w. w) c.loop-item.invariant.continues
          c.push_line.ensures.text c.in_ok-write_if_full.ensures.written;
    }

pub returns-clause-lines : goal.returns-clause-lines
returns-clause-lines g c =
    all_done _ (answers_of g.C.Fn c.args.lexer.now.callback) c.args.lexer.now.code c.args.lexer.now.input _ _ c.args.lexer.now.to _ _ _ _ _
    (rw c.loop-item.invariant.same_callback at c.in_default.ensures.item) c.loop-item.invariant.same_code c.loop-item.invariant.same_input
    (λ leaf slice answer w. w) c.loop-item.invariant.continues c.print_bytes.result (rw c.deref.ensures.value at c.print_bytes.ensures.printed)
