use Rattle.std.proofs.Common.{◌≡◌, ◌+◌, ◌-◌, ◌*◌, ◌^◌, ◌%◌, ◌∙◌, ap, bit_and, arith}
use Rattle.logos_scan.specs.walk.Cursor.{start_by}
use Rattle.logos_scan.proofs.walk.CursorLemmas.{one_bit}
use Rattle.logos_scan.proofs.walk.cursor.ChunkCursor.start_before.Goals as goal

pub returns : goal.returns
returns c =
    let s = c.args.self in
    let k = c.args.at % 64 in
    let same : k ≡ c.args.at - 64 * s.word = omega (arith, c.requires.word) in
    let one = one_bit k (omega arith) in
    let mask : 1 * 2 ^ k % 18446744073709551616 - 1 ≡ 2 ^ (c.args.at - 64 * s.word) - 1 = omega (arith, one.0, ap (λ n. 2 ^ n) same) in
    c.start_after.ensures ∙ ap (λ m. start_by (s.base + 64 * s.word) s.word_start (bit_and s.ends m)) mask
