use Rattle.std.proofs.Common.{◌≡◌, ◌+◌, sym, ◌∙◌, refl, arith, slice_index}
use Rattle.logos_lexeme.proofs.CharacterLaws.{boundary-after}
use Rattle.logos_lexeme.proofs.lexeme.openings.literal_opening.Goals as goal

pub character_opening-requires : goal.character_opening-requires
character_opening-requires c =
    let e : slice_index c.args.source.now c.args.at ≡ 39 = sym c.byte_at-byte.ensures ∙ c.if-byte-eq39.true in
    boundary-after c.args.source.now c.utf8.source c.args.at (c.args.at + 1) (omega arith) (omega arith) refl
