use Rattle.std.proofs.Common.{map, arith}
use Rattle.std.proofs.lemmas.List.{map-append}
use Rattle.logos_machine.specs.LexerValue.{answers_of, item_of}
use Rattle.logos_machine.proofs.ItemsLemmas.{more_items, no_items}
use Rattle.logos_scan.proofs.items.items_by_chunks.Goals as goal

pub loop-item-init : goal.loop-item-init
loop-item-init g c =
    let run = c.new-run.ensures in
    record {
      ready = run.ready;
      within = omega (arith, run.start);
      continues = λ rest r. rw c.new-items.ensures.items (rw run.start at r);
    }

pub loop-item-preserved : goal.loop-item-preserved
loop-item-preserved g c =
    let read = c.new-reading.ensures in
    let i = c.loop-item.invariant in
    let given = c.in-Some.ensures.item in
    record {
      ready = c.in-Some.ensures.ready;
      within = rw read.input at given.1.within;
      continues = λ rest r. rw (c.in_ok-push.ensures.items, map-append) (more_items _ (answers_of g.C.Fn c.args.callback.now) c.args.folded.now.code c.args.input.now _ _ 0
          (map item_of c.loop-item.items.items) (item_of c.in-Some.item) given.1 read.code read.input read.code read.input
          (λ leaf slice answer w. w) (λ leaf slice answer w. w) i.continues rest r);
    }

pub returns : goal.returns
returns g c =
    let read = c.new-reading.ensures in
    no_items _ (answers_of g.C.Fn c.args.callback.now) c.args.folded.now.code c.args.input.now _ _ 0 (map item_of c.loop-item.items.items)
    c.in_default.ensures.item read.code read.input (λ leaf slice answer w. w) c.loop-item.invariant.continues
