use Rattle.std.proofs.Common.{List, ◌-◌, take, drop, length, sym, subst}
use Rattle.logos_machine.specs.LexerValue.{answers_of}
use Rattle.logos_relex.specs.Chunks.{AreChunks}
use Rattle.logos_relex.specs.declared.chunk.Chunk.{Chunk}
use Rattle.logos_relex.proofs.ChunkLemmas.{chunk_taken}
use Rattle.logos_relex.proofs.anew.make.Goals as goal

-- one chunk more
pub loop-chunks-preserved : goal.loop-chunks-preserved
loop-chunks-preserved g c =
    let answers = answers_of g.C.Fn c.args.callback.now in
    let rest = c.loop-chunks.rest.now in
    let found = rw c.in-Some.is at c.in_ok-chunk.ensures in
    subst (λ (l : List Chunk). AreChunks c.args.code.now answers c.args.input.now l (take (length rest - c.length.result) (drop c.length.result rest))) (sym c.in_ok-push.ensures.items)
    (chunk_taken rest c.length.result c.args.code.now answers c.args.input.now c.loop-chunks.chunks.items c.in-Some.chunk c.length.ensures c.loop-chunks.invariant found)
