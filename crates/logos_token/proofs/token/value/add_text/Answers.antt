use Rattle.std.proofs.Common.{◌≡◌, ◌⊎◌, get_or, arith}
use Rattle.logos_lexeme.specs.LiteralBodies.{bytes_of}
use Rattle.logos_lexeme.specs.declared.lexeme.openings.Content.TheVariants.{Text}
use Rattle.logos_token.proofs.values.ValueLaws.{rest-stuck, rest-piece, ascii_piece, represents-boundary, special_ascii}
use Rattle.logos_lexeme.proofs.BodyLaws.{Represents-moves}
use Rattle.logos_token.proofs.token.value.add_text.Goals as goal
use Rattle.logos_token.proofs.token.value.add_text.Goals.{In-Some}

pub returns-in_default : goal.returns-in_default
returns-in_default c = rest-stuck c.args.escapes Text c.args.source.now c.args.at c.args.to c.requires.before c.in_default.ensures

special : (c : In-Some) → (get_or c.args.source.now c.args.at 0 ≡ 13) ⊎ (get_or c.args.source.now c.args.at 0 ≡ 92)
special c =
    let end = c.plain_end-end.ensures in
    let e : c.plain_end-end.result ≡ c.args.at = let b = end.begun in let f = c.if-at-end.false in omega arith in
    rw e at (end.stops (let before = c.requires.before in omega arith))

pub push_text-requires : goal.push_text-requires
push_text-requires c = ascii_piece c.args.escapes c.args.source.now c.args.at c.in-Some.next c.in-Some.piece c.in-Some.ensures (special_ascii c.args.source.now c.args.at (special (goal.at.push_text-requires c).In-Some))

pub returns : goal.returns
returns c = record {
  first = bytes_of c.in-Some.piece;
  added = c.in_ok-push_text.ensures;
  rest = rest-piece c.args.escapes Text c.args.source.now c.args.at c.in-Some.next c.args.to (bytes_of c.in-Some.piece) c.in-Some.ensures c.requires.before;
  moves = Represents-moves c.args.escapes Text c.args.source.now c.args.at c.in-Some.next (bytes_of c.in-Some.piece) c.in-Some.ensures;
  boundary = represents-boundary c.args.escapes c.args.source.now c.utf8.source c.args.at c.in-Some.next (bytes_of c.in-Some.piece) c.in-Some.ensures (special (goal.at.returns c).In-Some);
}
