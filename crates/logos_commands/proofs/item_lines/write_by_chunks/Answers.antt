use Rattle.std.proofs.Common.{arith}
use Rattle.logos_machine.specs.LexerValue.{answers_of, item_of}
use Rattle.logos_commands.proofs.LexingLemmas.{all_done, one_more}
use Rattle.logos_commands.proofs.item_lines.write_by_chunks.Goals as goal

pub loop-item-init : goal.loop-item-init
loop-item-init g c =
    let run = c.new-run.ensures in
    record {
      ready = run.ready;
      within = omega (arith, run.start);
      few = c.requires.room.0;
      room = c.requires.room.1;
      continues = λ rest new r a. record { items = rest; runs = rw run.start at r; appends = a };
    }

pub loop-item-preserved : goal.loop-item-preserved
loop-item-preserved g c =
    let read = c.new-reading.ensures in
    let i = c.loop-item.invariant in
    let given = c.in-Some.ensures.item in
    record {
      ready = c.in-Some.ensures.ready;
      within = rw read.input at given.1.within;
      few = c.in_ok-write_if_full.ensures.few;
      room = omega (arith, i.room, c.push_line.ensures.room, c.in_ok-write_if_full.ensures.room);
      continues = one_more _ (answers_of g.C.Fn c.args.callback.now) c.args.folded.now.code c.args.input.now _ _ 0 _ _ _ _ _ _ _ (item_of c.in-Some.item) given.1
          read.code read.input read.code read.input (λ leaf slice answer w. w) (λ leaf slice answer w. w) i.continues
          c.push_line.ensures.text c.in_ok-write_if_full.ensures.written;
    }

pub returns-clause-lines : goal.returns-clause-lines
returns-clause-lines g c =
    let read = c.new-reading.ensures in
    all_done _ (answers_of g.C.Fn c.args.callback.now) c.args.folded.now.code c.args.input.now _ _ 0 _ _ _ _ _
    c.in_default.ensures.item read.code read.input (λ leaf slice answer w. w) c.loop-item.invariant.continues
    c.print_bytes.result (rw c.deref.ensures.value at c.print_bytes.ensures.printed)
