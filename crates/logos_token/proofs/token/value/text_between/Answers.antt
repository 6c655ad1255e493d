use Rattle.std.proofs.Common.{◌<◌, arith, string_bytes}
use Rattle.logos_token.specs.inside.ValueReads.{IsAdded}
use Rattle.logos_lexeme.specs.declared.lexeme.openings.Content.TheVariants.{Text}
use Rattle.logos_token.proofs.values.ValueLaws.{rest-join, rest-end, rest-past}
use Rattle.logos_token.proofs.token.value.text_between.Goals as goal

pub loop-at-preserved : goal.loop-at-preserved
loop-at-preserved c =
    let a : IsAdded c.args.escapes c.args.source.now c.loop-at.at c.in-Some.next c.args.to (string_bytes c.loop-at.value) (string_bytes c.add_text.new.value) = rw c.in-Some.is at c.in_ok-next.ensures in
    record {
      boundary = a.boundary;
      rest = rw a.added (rest-join c.args.escapes Text c.args.source.now c.args.from c.loop-at.at c.in-Some.next c.args.to (string_bytes c.loop-at.value) a.first c.loop-at.invariant.rest a.rest);
    }

pub returns-then-at-to : goal.returns-then-at-to
returns-then-at-to c =
    let apart = c.if-at-to.true in
    let past = c.loop-at-test.false in
    let ahead : c.args.to < c.loop-at.at = omega arith in
    rest-past c.args.escapes Text c.args.source.now c.args.from c.loop-at.at c.args.to (string_bytes c.loop-at.value) ahead c.loop-at.invariant.rest

pub returns : goal.returns
returns c = rest-end c.args.escapes Text c.args.source.now c.args.from c.loop-at.at c.args.to (string_bytes c.loop-at.value) c.if-at-to.false c.loop-at.invariant.rest
