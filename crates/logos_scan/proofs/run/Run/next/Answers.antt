use Rattle.std.proofs.Common.{◌≡◌, ℕ, ◌+◌, ◌/◌, bit_and, min, slice_index, subst, sym, arith}
use Rattle.logos_automaton.specs.Munch.{matched}
use Rattle.logos_machine.specs.inside.Looks.{Attempted}
use Rattle.logos_scan.specs.Attempts.{SkipsTo}
use Rattle.logos_scan.specs.Runs.{with_chunk}
use Rattle.logos_scan.proofs.LoadLemmas.{bytes_at, calls_not, found_match, found_next, found_use, is_ended, leaf_is, ready_run, taken_after}
use Rattle.logos_scan.specs.walk.Cursors.{start_at, start_of}
use Rattle.logos_scan.proofs.run.Run.next.Goals as goal

pub returns-in_default-clause-taken : goal.returns-in_default-clause-taken
returns-in_default-clause-taken c =
    taken_after c.args.reading.now.code.now c.args.reading.now.input.now (start_of c.args.self.now.cursor) c.next_flag.new.self.cursor.word_start c.next_again.result
    (start_of c.next_again.new.self.cursor) c.in_default.ensures.skips c.next_again.ensures.taken

pub returns-then-ended-eq0-clause-taken : goal.returns-then-ended-eq0-clause-taken
returns-then-ended-eq0-clause-taken c =
    let code = c.args.reading.now.code.now in
    let input = c.args.reading.now.input.now in
    let first = start_of c.args.self.now.cursor in
    let f = c.in-Some.ensures in
    taken_after code input first c.start_before.result c.next_again-then-ended-eq0.result (start_of c.next_again-then-ended-eq0.new.self.cursor)
    (subst (λ (k : ℕ). SkipsTo code input first k) (sym c.start_before.ensures) f.skips) c.next_again-then-ended-eq0.ensures.taken

pub returns-then-calls-eq0-clause-ready : goal.returns-then-calls-eq0-clause-ready
returns-then-calls-eq0-clause-ready c =
    let code = c.args.reading.now.code.now in
    let rows = c.args.reading.now.rows.now in
    let input = c.args.reading.now.input.now in
    let n = with_chunk c.next_flag.new.chunk c.next_flag.new.self in
    let at = c.in-Some.at in
    let f = c.in-Some.ensures in
    let ended = is_ended (slice_index n.chunk.entries at) (omega (arith, c.if-ended-eq0.false)) in
    let point : min n.cursor.from n.count ≡ at + 1 = omega (arith, f.inside, f.after) in
    ready_run code rows input n (n.cursor.base + at) (at + 1) (f.ended ended) point
    (found_next code rows c.requires.reading input (bytes_at input c.are_bytes.ensures) n (start_at n.cursor at) at f.is_at f.inside ended)

pub returns-then-calls-eq0-clause-taken : goal.returns-then-calls-eq0-clause-taken
returns-then-calls-eq0-clause-taken c =
    let code = c.args.reading.now.code.now in
    let rows = c.args.reading.now.rows.now in
    let input = c.args.reading.now.input.now in
    let n = with_chunk c.next_flag.new.chunk c.next_flag.new.self in
    let at = c.in-Some.at in
    let f = c.in-Some.ensures in
    let are = bytes_at input c.are_bytes.ensures in
    let entry = slice_index n.chunk.entries at in
    let start = start_at n.cursor at in
    let back = sym c.start_before-from.ensures in
    let ended = is_ended entry (omega (arith, c.if-ended-eq0.false)) in
    let m = found_match code rows c.requires.reading input are n start at f.is_at f.inside ended in (
      subst (λ (k : ℕ). SkipsTo code input (start_of c.args.self.now.cursor) k) back f.skips,
      (m.0, subst (λ (k : ℕ). Attempted code input k (matched (bit_and (entry / 1048576) 511) (n.cursor.base + at)) m.0) back (rw (leaf_is entry) m.1)),
      rw (leaf_is entry) (found_use code rows c.requires.reading input are n start at f.is_at f.inside ended f.token (calls_not entry c.if-calls-eq0.true)),
      f.ended ended,
    )

pub returns-else-calls-eq0-clause-ready : goal.returns-else-calls-eq0-clause-ready
returns-else-calls-eq0-clause-ready c =
    let code = c.args.reading.now.code.now in
    let rows = c.args.reading.now.rows.now in
    let input = c.args.reading.now.input.now in
    let n = with_chunk c.next_flag.new.chunk c.next_flag.new.self in
    let at = c.in-Some.at in
    let f = c.in-Some.ensures in
    let ended = is_ended (slice_index n.chunk.entries at) (omega (arith, c.if-ended-eq0.false)) in
    let point : min n.cursor.from n.count ≡ at + 1 = omega (arith, f.inside, f.after) in
    ready_run code rows input n (n.cursor.base + at) (at + 1) (f.ended ended) point
    (found_next code rows c.requires.reading input (bytes_at input c.are_bytes.ensures) n (start_at n.cursor at) at f.is_at f.inside ended)

pub returns-else-calls-eq0-clause-taken : goal.returns-else-calls-eq0-clause-taken
returns-else-calls-eq0-clause-taken c =
    let code = c.args.reading.now.code.now in
    let rows = c.args.reading.now.rows.now in
    let input = c.args.reading.now.input.now in
    let n = with_chunk c.next_flag.new.chunk c.next_flag.new.self in
    let at = c.in-Some.at in
    let f = c.in-Some.ensures in
    let are = bytes_at input c.are_bytes.ensures in
    let entry = slice_index n.chunk.entries at in
    let start = start_at n.cursor at in
    let back = sym c.start_before-from-else-calls-eq0.ensures in
    let ended = is_ended entry (omega (arith, c.if-ended-eq0.false)) in
    let m = found_match code rows c.requires.reading input are n start at f.is_at f.inside ended in (
      subst (λ (k : ℕ). SkipsTo code input (start_of c.args.self.now.cursor) k) back f.skips,
      (m.0, subst (λ (k : ℕ). Attempted code input k (matched (bit_and (entry / 1048576) 511) (n.cursor.base + at)) m.0) back (rw (leaf_is entry) m.1)),
      f.ended ended,
    )
