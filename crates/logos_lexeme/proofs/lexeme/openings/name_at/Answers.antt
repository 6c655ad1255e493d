use Rattle.std.proofs.Common.{◌≡◌, ◌+◌, sym, ◌∙◌, arith, slice_index}
use Rattle.logos_lexeme.proofs.CharacterLaws.{boundary-after}
use Rattle.logos_lexeme.proofs.lexeme.openings.name_at.Goals as goal

pub char_at-requires : goal.char_at-requires
char_at-requires c =
    let e : slice_index c.args.source.now (c.args.at + 1) ≡ 35 = sym c.byte_at-then-byte_at-eq114.ensures ∙ c.if-byte_at-eq35.true in
    boundary-after c.args.source.now c.utf8.source (c.args.at + 1) (c.args.at + 2) (omega arith) (omega arith) (omega arith)
