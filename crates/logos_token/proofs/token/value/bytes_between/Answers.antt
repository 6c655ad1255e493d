use Rattle.std.proofs.Common.{◌<◌, arith}
use Rattle.logos_lexeme.specs.LiteralBodies.{bytes_of}
use Rattle.logos_lexeme.specs.declared.lexeme.openings.Content.TheVariants.{Bytes}
use Rattle.logos_token.proofs.values.ValueLaws.{rest-piece, rest-join, rest-end, rest-past, rest-refuted, rest-stuck}
use Rattle.logos_token.proofs.token.value.bytes_between.Goals as goal

pub returns-in_default : goal.returns-in_default
returns-in_default c = rest-refuted c.args.escapes Bytes c.args.source.now c.args.from c.loop-at.at c.args.to c.loop-at.value.items c.loop-at.invariant
    (rest-stuck c.args.escapes Bytes c.args.source.now c.loop-at.at c.args.to c.loop-at-test.true c.in_default.ensures)

pub loop-at-preserved : goal.loop-at-preserved
loop-at-preserved c = rw c.in_ok-push_bytes.ensures
    (rest-join c.args.escapes Bytes c.args.source.now c.args.from c.loop-at.at c.in-Some.next c.args.to c.loop-at.value.items (bytes_of c.in-Some.piece) c.loop-at.invariant
    (rest-piece c.args.escapes Bytes c.args.source.now c.loop-at.at c.in-Some.next c.args.to (bytes_of c.in-Some.piece) c.in-Some.ensures c.loop-at-test.true))

pub returns-then-at-to : goal.returns-then-at-to
returns-then-at-to c =
    let apart = c.if-at-to.true in
    let past = c.loop-at-test.false in
    let ahead : c.args.to < c.loop-at.at = omega arith in
    rest-past c.args.escapes Bytes c.args.source.now c.args.from c.loop-at.at c.args.to c.loop-at.value.items ahead c.loop-at.invariant

pub returns : goal.returns
returns c = rest-end c.args.escapes Bytes c.args.source.now c.args.from c.loop-at.at c.args.to c.loop-at.value.items c.if-at-to.false c.loop-at.invariant
