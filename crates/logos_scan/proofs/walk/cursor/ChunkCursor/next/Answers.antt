use Rattle.std.proofs.Common.{◌≡◌, ◌<◌, ◌≤◌, ◌+◌, ◌*◌, ◌^◌, refl, sym, w64, arith}
use Rattle.std.specs.Int.{trailing_zeros}
use Rattle.std.proofs.lemmas.Nat.Bits.{bit_at-trailing_zeros}
use Rattle.logos_scan.specs.walk.Cursor.{start_by}
use Rattle.logos_scan.specs.walk.Cursors.{start_at, start_of}
use Rattle.logos_scan.proofs.walk.CursorLemmas.{left_none, none_left, next_lowest, next_later, none_later, is_at_after, start_ended, start_first, starts_at, starts_eq, starts_from, starts_join, starts_later, starts_whole}
use Rattle.logos_scan.proofs.walk.cursor.ChunkCursor.next.Goals as goal

abbrev pub returns-then-cursor-eq0-clause-is_at : goal.returns-then-cursor-eq0-clause-is_at
returns-then-cursor-eq0-clause-is_at c =
    let n = c.filled-cursor.result in
    let e = c.filled-cursor.ensures in
    let last : 64 * n.word + 64 ≡ 4608 = omega (arith, e.filled c.if-cursor-eq0.true) in
    record {
      within = e.is_at.within;
      far = omega (arith, last);
      tokens_left = left_none 30 c.args.chunk.now.entries n.word 4608 (omega (arith, last));
      first = 4608;
      near = omega (arith, last);
      order = omega arith;
      ends_left = left_none 31 c.args.chunk.now.entries n.word 4608 (omega (arith, last));
    }

pub returns-then-cursor-eq0-clause-next : goal.returns-then-cursor-eq0-clause-next
returns-then-cursor-eq0-clause-next c =
    let trace = c.args.chunk.now.entries in
    let old = c.args.self.now in
    let n = c.filled-cursor.result in
    let e = c.filled-cursor.ensures in
    let p = e.passes in
    let s = e.is_at in
    let last : 64 * n.word + 64 ≡ 4608 = omega (arith, e.filled c.if-cursor-eq0.true) in
    let near : 64 * n.word ≤ n.from = omega (arith, s.near, s.order) in
    let far : n.from ≤ 4608 = omega (arith, s.far, last) in
    let none = none_left trace n.word n.tokens n.from c.if-cursor-eq0.true near s.tokens_left in
    record {
      none = none_later trace old.from n.from 4608 p.none (λ k f h. none k f (omega (arith, h, last)));
      after = refl;
      start = start_first trace (record { base = n.base; from = 4608; word_start = c.start_after.result; word = n.word; tokens = 0; ends = 0 }) (returns-then-cursor-eq0-clause-is_at c) refl;
      starts = starts_join old.base trace old.from (start_of old) n.from (start_of n) 4608 c.start_after.result p.order far p.starts
          (starts_from n.base old.base trace n.from (start_of n) 4608 c.start_after.result p.base
          (starts_eq n.base trace n.from (start_of n) (64 * n.word + 64) (start_by (n.base + 64 * n.word) n.word_start n.ends) 4608 c.start_after.result last (sym c.start_after.ensures)
          (starts_whole trace n s (omega arith))));
    }

abbrev pub returns-clause-is_at : goal.returns-clause-is_at
returns-clause-is_at c =
    is_at_after c.args.chunk.now.entries c.filled-cursor.result (omega (arith, c.if-cursor-eq0.false)) (omega arith) c.filled-cursor.ensures.is_at

pub returns-clause-next : goal.returns-clause-next
returns-clause-next c =
    let trace = c.args.chunk.now.entries in
    let old = c.args.self.now in
    let n = c.filled-cursor.result in
    let e = c.filled-cursor.ensures in
    let p = e.passes in
    let s = e.is_at in
    let pos : 0 < n.tokens = omega (arith, c.if-cursor-eq0.false) in
    let fits : n.tokens < 2 ^ 64 = omega arith in
    let z = bit_at-trailing_zeros w64 n.tokens pos fits in
    let at = 64 * n.word + trailing_zeros w64 n.tokens in
    let near : 64 * n.word ≤ n.from = omega (arith, s.near, s.order) in
    let next = next_lowest trace n.word n.tokens n.from s.within pos fits near s.tokens_left in
    let low : 64 * n.word ≤ at = omega arith in
    let far : at ≤ 64 * n.word + 64 = omega (arith, z.0) in
    record {
      next = next_later trace old.from n.from at p.order p.none next;
      after = refl;
      word = (low, omega (arith, z.0));
      starts = starts_join old.base trace old.from (start_of old) n.from (start_of n) at (start_at n at) p.order next.after p.starts
          (starts_from n.base old.base trace n.from (start_of n) at (start_at n at) p.base (starts_later trace n s at (start_at n at) next.after (starts_at trace n s at low far)));
      ended = start_ended trace _ (returns-clause-is_at c) at (omega (arith, s.order, next.after)) low refl;
    }
