use Rattle.std.proofs.Common.{◌≡◌, ℕ, ◌-◌, ◌<◌, length, [], ◌∷◌, slice_range, sym, subst, arith}
use Rattle.logos_code.specs.Items.{items_of}
use Rattle.logos_machine.specs.LexerValue.{Yields, answers_of, item_of}
use Rattle.logos_machine.specs.inside.IsAt.{IsMatch}
use Rattle.logos_machine.proofs.LexerLemmas.{Continues, none_of}
use Rattle.logos_scan.specs.Items.{lexer_at}
use Rattle.logos_scan.specs.Runs.{IsTaken}
use Rattle.logos_scan.specs.declared.attempts.Taken.TheVariants.{Emits, CallsBack, Fails, Ends}
use Rattle.logos_scan.specs.walk.Cursors.{start_of}
use Rattle.logos_scan.proofs.ItemLemmas.{goes_calls_back, item_calls_back, item_emits, item_fails, items_end, skips_le}
use Rattle.logos_scan.proofs.run.Run.next_item.Goals as goal

pub returns-in-Emits-clause-item : goal.returns-in-Emits-clause-item
returns-in-Emits-clause-item g c =
    let reading = c.args.reading.now in
    let answers = answers_of g.C.Fn c.args.callback.now in
    let first = (start_of c.args.self.now.cursor) in
    let old = lexer_at reading c.args.callback.now first first in
    let start = (start_of c.loop-leaf.self.cursor) in
    let span = c.in-Emits.span in
    let t : IsTaken reading.code.now reading.input.now start (Emits c.in-Emits.leaf span) (start_of c.next.new.self.cursor) = c.in-Emits.ensures.taken in (
      span.from,
      subst (λ (to : ℕ). Yields answers old (lexer_at reading c.args.callback.now span.from to) (item_of c.token.result)) (sym t.3)
          (item_emits answers old start span.from span.to t.1.0 c.loop-leaf.invariant.on t.0 c.in-Emits.leaf.0 (item_of c.token.result) t.1.1 t.2 c.token.ensures),
    )

pub matched_item-requires-clause-callable : goal.matched_item-requires-clause-callable
matched_item-requires-clause-callable g c called shown is =
    let reading = c.args.reading.now in
    c.requires.callable c.in-CallsBack.leaf (slice_range reading.input.now c.in-CallsBack.span.from c.in-CallsBack.span.to) called shown is

pub returns-in-Some-clause-item : goal.returns-in-Some-clause-item
returns-in-Some-clause-item g c =
    let reading = c.args.reading.now in
    let answers = answers_of g.C.Fn c.args.callback.now in
    let first = (start_of c.args.self.now.cursor) in
    let old = lexer_at reading c.args.callback.now first first in
    let start = (start_of c.loop-leaf.self.cursor) in
    let span = c.in-CallsBack.span in
    let leaf = c.in-CallsBack.leaf.0 in
    let t : IsTaken reading.code.now reading.input.now start (CallsBack c.in-CallsBack.leaf span) (start_of c.next.new.self.cursor) = c.in-CallsBack.ensures.taken in
    let yields = c.matched_item.ensures in
    let is : items_of reading.code.now.leaves answers reading.input.now yields.answer leaf span.from span.to ≡ item_of c.in-Some.item ∷ [] = rw c.in-Some.is at yields.is in (
      span.from,
      subst (λ (to : ℕ). Yields answers old (lexer_at reading c.args.callback.now span.from to) (item_of c.in-Some.item)) (sym t.2)
          (item_calls_back answers old start span.from span.to t.1.0 c.loop-leaf.invariant.on t.0 leaf yields.answer (item_of c.in-Some.item) t.1.1 yields.may is),
    )

pub loop-leaf-smaller : goal.loop-leaf-smaller
loop-leaf-smaller g c =
    let reading = c.args.reading.now in
    let start = (start_of c.loop-leaf.self.cursor) in
    let span = c.in-CallsBack.span in
    let t : IsTaken reading.code.now reading.input.now start (CallsBack c.in-CallsBack.leaf span) (start_of c.next.new.self.cursor) = c.in-CallsBack.ensures.taken in
    let attempted = t.1.1 in
    let fits : IsMatch reading.code.now reading.input.now span.from c.in-CallsBack.leaf.0 span.to = attempted.within in
    let smaller : length reading.input.now - (start_of c.next.new.self.cursor) < length reading.input.now - start =
    omega (arith, skips_le reading.code.now reading.input.now start span.from t.0, fits.1, fits.2, t.2) in
    smaller

pub loop-leaf-preserved : goal.loop-leaf-preserved
loop-leaf-preserved g c =
    let reading = c.args.reading.now in
    let answers = answers_of g.C.Fn c.args.callback.now in
    let first = (start_of c.args.self.now.cursor) in
    let old = lexer_at reading c.args.callback.now first first in
    let start = (start_of c.loop-leaf.self.cursor) in
    let span = c.in-CallsBack.span in
    let leaf = c.in-CallsBack.leaf.0 in
    let t : IsTaken reading.code.now reading.input.now start (CallsBack c.in-CallsBack.leaf span) (start_of c.next.new.self.cursor) = c.in-CallsBack.ensures.taken in
    let yields = c.matched_item.ensures in
    let is : items_of reading.code.now.leaves answers reading.input.now yields.answer leaf span.from span.to ≡ [] = rw (none_of c.matched_item.result c.in_default.not-Some) at yields.is in
    record {
      ready = c.next.ensures.ready;
      on = subst (λ (to : ℕ). Continues answers old to) (sym t.2)
          (goes_calls_back answers old start span.from span.to t.1.0 c.loop-leaf.invariant.on t.0 leaf yields.answer t.1.1 yields.may is);
    }

pub returns-in-Fails-clause-item : goal.returns-in-Fails-clause-item
returns-in-Fails-clause-item g c =
    let reading = c.args.reading.now in
    let answers = answers_of g.C.Fn c.args.callback.now in
    let first = (start_of c.args.self.now.cursor) in
    let old = lexer_at reading c.args.callback.now first first in
    let start = (start_of c.loop-leaf.self.cursor) in
    let span = c.in-Fails.span in
    let t : IsTaken reading.code.now reading.input.now start (Fails span) (start_of c.next.new.self.cursor) = c.in-Fails.ensures.taken in (
      span.from,
      subst (λ (to : ℕ). Yields answers old (lexer_at reading c.args.callback.now span.from to) (item_of c.error.result)) (sym t.2)
          (item_fails answers old start span.from span.to t.1.0 c.loop-leaf.invariant.on t.0 (item_of c.error.result) t.1.1 c.error.ensures),
    )

pub returns-in-Ends-clause-item : goal.returns-in-Ends-clause-item
returns-in-Ends-clause-item g c =
    let reading = c.args.reading.now in
    let answers = answers_of g.C.Fn c.args.callback.now in
    let first = (start_of c.args.self.now.cursor) in
    let old = lexer_at reading c.args.callback.now first first in
    let start = (start_of c.loop-leaf.self.cursor) in
    let t : IsTaken reading.code.now reading.input.now start Ends (start_of c.next.new.self.cursor) = c.in-Ends.ensures.taken in
    items_end answers old start (start_of c.next.new.self.cursor) t.1.0 c.loop-leaf.invariant.on t.0 t.1.1
