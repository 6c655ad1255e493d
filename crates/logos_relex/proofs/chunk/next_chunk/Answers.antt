use Rattle.std.proofs.Common.{arith, take}
use Rattle.logos_machine.specs.LexerValue.{answers_of}
use Rattle.logos_relex.proofs.ChunkLemmas.{chunk_by, chunk_of_front}
use Rattle.logos_relex.proofs.chunk.next_chunk.Goals as goal

-- the items that were found in a window are found in all of the bytes
pub returns-in-Some : goal.returns-in-Some
returns-in-Some g c =
    let answers = answers_of g.C.Fn c.args.callback.now in
    let found = rw c.in-Some.is at c.in_ok-chunk.ensures in
    let same = chunk_by c.args.code.now _ answers (take c.loop-size.size c.args.bytes.now) c.in-Some.chunk (λ leaf slice answer w. (w.0, w.1, w.2.1)) (λ leaf slice answer w. (w.0, w.1, (record { 0 = leaf }, w.2))) found in
    chunk_of_front c.args.code.now answers c.args.bytes.now c.loop-size.size c.in-Some.chunk (grind (arith, c.loop-size-test.true)) same
