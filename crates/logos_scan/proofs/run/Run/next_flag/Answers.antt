use Rattle.std.proofs.Common.{◌≡◌, ℕ, min, subst, sym, arith}
use Rattle.logos_scan.specs.Runs.{with_chunk}
use Rattle.logos_scan.specs.Attempts.{SkipsTo, skips_none}
use Rattle.logos_scan.proofs.LoadLemmas.{bytes_at, flag_found, moved, over_found, ready_run, skips_join, is_at_last}
use Rattle.logos_scan.specs.walk.Cursors.{start_at, start_of}
use Rattle.logos_scan.proofs.run.Run.next_flag.Goals as goal

pub loop-at-init : goal.loop-at-init
loop-at-init c = record {
  ready = c.requires.ready;
  skips = skips_none (start_of c.args.self.now.cursor);
}

pub returns-in-Some : goal.returns-in-Some
returns-in-Some c =
    let code = c.args.reading.now.code.now in
    let rows = c.args.reading.now.rows.now in
    let input = c.args.reading.now.input.now in
    let i = c.loop-at.invariant in
    let n = c.in-Some.ensures in
    let found = n.next in
    let now = start_at c.next.new.self c.in-Some.at in
    let old = start_of c.loop-at.self.cursor in
    let f = flag_found code rows c.requires.reading input (bytes_at input c.are_bytes.ensures) (with_chunk c.loop-at.chunk c.loop-at.self) c.next.new.self n.base n.is_at old c.in-Some.at now i.ready found.next found.starts in
    record {
      is_at = f.1;
      inside = f.0;
      token = (let t = found.next in t.token);
      after = found.after;
      word = found.word;
      skips = skips_join code input (start_of c.args.self.now.cursor) old now i.skips f.2;
      ended = found.ended;
    }

pub returns-then-base-reading : goal.returns-then-base-reading
returns-then-base-reading c =
    let code = c.args.reading.now.code.now in
    let rows = c.args.reading.now.rows.now in
    let input = c.args.reading.now.input.now in
    let i = c.loop-at.invariant in
    let n = c.in_default.ensures in
    let over = n.next in
    let o = over_found code rows c.requires.reading input (bytes_at input c.are_bytes.ensures) (with_chunk c.loop-at.chunk c.loop-at.self) c.next.new.self n.base n.is_at (start_of c.loop-at.self.cursor) c.next.new.self.word_start i.ready over.none over.starts in
    let r = o.0 in
    let ch = r.in_chunk in
    let within = ch.within in
    record {
      is_at = o.0;
      last = omega (arith, c.if-base-reading.true, within);
      after = over.after;
      skips = skips_join code input (start_of c.args.self.now.cursor) (start_of c.loop-at.self.cursor) c.next.new.self.word_start i.skips o.1;
    }

pub filled-run-requires-clause-is_at : goal.filled-run-requires-clause-is_at
filled-run-requires-clause-is_at c =
    let code = c.args.reading.now.code.now in
    let rows = c.args.reading.now.rows.now in
    let input = c.args.reading.now.input.now in
    let are = bytes_at input c.are_bytes.ensures in
    let n = c.in_default.ensures in
    let over = n.next in
    let o = over_found code rows c.requires.reading input are (with_chunk c.loop-at.chunk c.loop-at.self) c.next.new.self n.base n.is_at (start_of c.loop-at.self.cursor) c.next.new.self.word_start c.loop-at.invariant.ready over.none over.starts in
    is_at_last code rows c.requires.reading input are (moved (with_chunk c.loop-at.chunk c.loop-at.self) c.next.new.self) c.next.new.self.word_start o.0

pub loop-at-preserved : goal.loop-at-preserved
loop-at-preserved c =
    let code = c.args.reading.now.code.now in
    let rows = c.args.reading.now.rows.now in
    let input = c.args.reading.now.input.now in
    let i = c.loop-at.invariant in
    let n = c.in_default.ensures in
    let over = n.next in
    let f = c.filled-run.ensures in
    let o = over_found code rows c.requires.reading input (bytes_at input c.are_bytes.ensures) (with_chunk c.loop-at.chunk c.loop-at.self) c.next.new.self n.base n.is_at (start_of c.loop-at.self.cursor) c.next.new.self.word_start i.ready over.none over.starts in
    let first = start_of c.args.self.now.cursor in
    let zero : min c.filled-run.result.cursor.from c.filled-run.result.count ≡ 0 = omega (arith, f.from) in
    record {
      ready = ready_run code rows input (with_chunk c.filled-run.new.chunk c.filled-run.result) c.next.new.self.word_start 0 f.start zero f.run;
      skips = subst (λ (k : ℕ). SkipsTo code input first k) (sym f.start) (skips_join code input first (start_of c.loop-at.self.cursor) c.next.new.self.word_start i.skips o.1);
    }
