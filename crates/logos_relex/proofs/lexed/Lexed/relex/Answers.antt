use Rattle.std.proofs.Common.{List, arith, subst}
use Rattle.logos_machine.specs.LexerValue.{answers_of}
use Rattle.logos_relex.specs.Chunks.{LookBelow}
use Rattle.logos_relex.specs.Lexed.{IsLexed}
use Rattle.logos_relex.specs.inside.Anews.{IsBorder}
use Rattle.logos_relex.specs.declared.chunk.Chunk.{Chunk}
use Rattle.logos_relex.proofs.AnewLemmas.{known, relexed}
use Rattle.logos_relex.proofs.ChunkLemmas.{below_bytes}
use Rattle.logos_relex.proofs.PutLemmas.{from_ok}
use Rattle.logos_relex.proofs.TextLemmas.{made_text}
use Rattle.logos_relex.proofs.lexed.Lexed.relex.Goals as goal
use Rattle.std.proofs.Common.{take}

pub make_anew-requires-clause-within : goal.make_anew-requires-clause-within
make_anew-requires-clause-within g c =
    let start = c.untouched-start.result in
    let at = c.untouched-start.ensures.border.at in
    let below = below_bytes (take start.index c.deref.result.now) c.args.edit.replaced.from c.untouched-start.ensures.below in
    let n = (known c.args.code.now (answers_of g.C.Fn c.args.callback.now) c.args.self.now c.args.edit.input.now c.args.edit.replaced c.requires.former).2 in
    omega (arith, at, below, n)

pub make_anew-requires-clause-bytes : goal.make_anew-requires-clause-bytes
make_anew-requires-clause-bytes g c = (known c.args.code.now (answers_of g.C.Fn c.args.callback.now) c.args.self.now c.args.edit.input.now c.args.edit.replaced c.requires.former).1

-- the items that stay and the new ones are all items
pub returns-in-Ok-clause-lexed : goal.returns-in-Ok-clause-lexed
returns-in-Ok-clause-lexed g c =
    let start = c.untouched-start.result in
    let old = c.args.self.now in
    let border : IsBorder old.chunks.items start = subst (λ (l : List Chunk). IsBorder l start) c.deref.ensures.value c.untouched-start.ensures.border in
    let below : LookBelow c.args.edit.replaced.from (take start.index old.chunks.items) =
    subst (λ (l : List Chunk). LookBelow c.args.edit.replaced.from (take start.index l)) c.deref.ensures.value c.untouched-start.ensures.below in
    from_ok c.put.result _ _ (λ puts. relexed c.args.code.now (answers_of g.C.Fn c.args.callback.now) old c.put.new.self c.args.edit.input.now c.args.edit.replaced start c.in-Ok.made c.requires.former border below c.in-Ok.ensures puts) c.put.ensures.puts

-- and they are those of UTF-8
pub returns-in-Ok-clause-accepted : goal.returns-in-Ok-clause-accepted
returns-in-Ok-clause-accepted g c =
    let start = c.untouched-start.result in
    let old = c.args.self.now in
    let code = c.args.code.now in
    let answers = answers_of g.C.Fn c.args.callback.now in
    let border : IsBorder old.chunks.items start = subst (λ (l : List Chunk). IsBorder l start) c.deref.ensures.value c.untouched-start.ensures.border in
    let below : LookBelow c.args.edit.replaced.from (take start.index old.chunks.items) =
    subst (λ (l : List Chunk). LookBelow c.args.edit.replaced.from (take start.index l)) c.deref.ensures.value c.untouched-start.ensures.below in
    from_ok c.put.result _ _ (λ puts utf8.
    let lexed : IsLexed code answers c.args.edit.input.now c.put.new.self = relexed code answers old c.put.new.self c.args.edit.input.now c.args.edit.replaced start c.in-Ok.made c.requires.former border below c.in-Ok.ensures puts in
    made_text code answers utf8 c.args.edit.input.now c.put.new.self.chunks.items c.put.new.self.last.items lexed.made) c.put.ensures.puts
