use Rattle.std.proofs.Common.{◌≡◌, ◌+◌, ◌-◌, true, false, sym, ◌∙◌, refl, arith, zero-add}
use Rattle.std.proofs.lemmas.Str.{IsCharBoundary-start}
use Rattle.logos_lexeme.specs.LexemeOpenings.{prefix_of}
use Rattle.logos_lexeme.specs.declared.lexeme.openings.Opening.TheVariants.{Quotes, Raw}
use Rattle.logos_lexeme.proofs.CharacterLaws.{boundary-after}
use Rattle.logos_lexeme.proofs.OpeningLaws.{quote_fits, raw_fits}
use Rattle.std.proofs.lemmas.Result.{IfOk-weaker}
use Rattle.logos_lexeme.specs.LexemeEnds.{body_of}
use Rattle.logos_token.specs.LiteralValues.{IsValue}
use Rattle.logos_token.specs.inside.ValueReads.{IsHeld}
use Rattle.logos_token.proofs.values.ValueLaws.{IsValue-quotes, IsValue-raw}
use Rattle.logos_token.proofs.token.value.string_value.Goals as goal

pub opening_at-opens-requires-clause-boundary : goal.opening_at-opens-requires-clause-boundary
opening_at-opens-requires-clause-boundary c = IsCharBoundary-start c.args.text.now c.utf8.text

pub end_of-requires-clause-boundary : goal.end_of-requires-clause-boundary
end_of-requires-clause-boundary c = IsCharBoundary-start c.args.text.now c.utf8.text

pub value_between-requires-clause-boundary : goal.value_between-requires-clause-boundary
value_between-requires-clause-boundary c =
    let quote = rw zero-add at (quote_fits c.args.text.now 0 c.in-Quotes.content (sym c.opening_at-opens.ensures ∙ c.in-Quotes.is)) in
    rw c.prefix_of-from.ensures (boundary-after c.args.text.now c.utf8.text (prefix_of c.in-Quotes.content) (prefix_of c.in-Quotes.content + 1) (omega arith) (omega arith) refl)

pub value_between-requires-in-Raw-clause-boundary : goal.value_between-requires-in-Raw-clause-boundary
value_between-requires-in-Raw-clause-boundary c =
    let quote = rw zero-add at (raw_fits c.args.text.now 0 c.in-Raw.content c.in-Raw.count (sym c.opening_at-opens.ensures ∙ c.in-Raw.is)) in
    rw c.prefix_of.ensures (boundary-after c.args.text.now c.utf8.text (prefix_of c.in-Raw.content + 1 + c.in-Raw.count) (prefix_of c.in-Raw.content + 1 + c.in-Raw.count + 1) (omega arith) (omega arith) refl)

pub returns-in-Quotes : goal.returns-in-Quotes
returns-in-Quotes c =
    let from : c.prefix_of-from.result + 1 ≡ body_of (Quotes c.in-Quotes.content) 0 = omega (arith, c.prefix_of-from.ensures) in
    IfOk-weaker c.value_between.result (λ value. IsHeld true c.in-Quotes.content c.args.text.now (c.prefix_of-from.result + 1) (c.in-Some.end - 1) value) (λ value. IsValue c.args.text.now value)
    (IsValue-quotes c.args.text.now c.in-Quotes.content c.in-Some.end (c.prefix_of-from.result + 1) (sym c.opening_at-opens.ensures ∙ c.in-Quotes.is) (rw c.in-Quotes.is at c.in-Some.ensures) from)
    c.value_between.ensures

pub returns-in-Raw : goal.returns-in-Raw
returns-in-Raw c =
    let from : c.prefix_of.result + 1 + c.in-Raw.count + 1 ≡ body_of (Raw c.in-Raw.content c.in-Raw.count) 0 = omega (arith, c.prefix_of.ensures) in
    IfOk-weaker c.value_between-in-Raw.result (λ value. IsHeld false c.in-Raw.content c.args.text.now (c.prefix_of.result + 1 + c.in-Raw.count + 1) (c.in-Some.end - 1 - c.in-Raw.count) value) (λ value. IsValue c.args.text.now value)
    (IsValue-raw c.args.text.now c.in-Raw.content c.in-Raw.count c.in-Some.end (c.prefix_of.result + 1 + c.in-Raw.count + 1) (sym c.opening_at-opens.ensures ∙ c.in-Raw.is) (rw c.in-Raw.is at c.in-Some.ensures) from)
    c.value_between-in-Raw.ensures
