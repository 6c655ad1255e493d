use Rattle.std.proofs.Common.{◌≡◌, ◌+◌, get_or, refl, sym, ◌∙◌, ap, arith}
use Rattle.logos_lexeme.specs.LexemeCharacters.{past}
use Rattle.logos_lexeme.proofs.CharacterLaws.{boundary-after, inside_from_byte, past-moves}
use Rattle.logos_lexeme.proofs.OpeningLaws.{line_fits, is_between}
use Rattle.logos_lexeme.proofs.lexeme.ends.end_of.Goals as goal
use Rattle.logos_lexeme.proofs.lexeme.ends.end_of.Goals.{In-Character}

pub line_end-requires : goal.line_end-requires
line_end-requires c = line_fits c.args.source.now c.args.from c.in-Line.field-0 (sym c.requires.found ∙ c.in-Line.is)

between : (c : In-Character) → (get_or c.args.source.now c.args.from 0 ≡ 39) × (get_or c.args.source.now (past c.args.source.now (c.args.from + 1)) 0 ≡ 39)
between c = is_between c.args.source.now c.args.from (sym c.requires.found ∙ c.in-Character.is)

pub past-requires-in-Character-clause-inside : goal.past-requires-in-Character-clause-inside
past-requires-in-Character-clause-inside c =
    let b = (between c).1 in
    omega (arith, inside_from_byte c.args.source.now (past c.args.source.now (c.args.from + 1)) (omega arith), past-moves c.args.source.now (c.args.from + 1))

pub past-requires-in-Character-clause-boundary : goal.past-requires-in-Character-clause-boundary
past-requires-in-Character-clause-boundary c =
    let b = (between c).0 in
    boundary-after c.args.source.now c.utf8.source c.args.from (c.args.from + 1) (omega arith) (omega arith) refl

pub returns-in-Character : goal.returns-in-Character
returns-in-Character c =
    let b = between (goal.at.returns-in-Character c).In-Character in
    rw c.in-Character.is (record { quote = b.1; after = ap (λ n. n + 1) c.past-in-Character.ensures.value })
