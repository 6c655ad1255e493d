use Rattle.std.proofs.Common.{◌+◌, ℕ, sym, ◌∙◌, ap, inl, inr}
use Rattle.std.proofs.lemmas.Bool.{cases_eq}
use Rattle.logos_lexeme.specs.LexemeEnds.{InQuotes, escaped, plain}
use Rattle.logos_lexeme.proofs.EndLaws.{quote-on, quote-back, quote-here, no_quote}
use Rattle.logos_lexeme.proofs.lexeme.ends.quote_at.Goals as goal

pub returns-then-byte-quote : goal.returns-then-byte-quote
returns-then-byte-quote c = (c.loop-at-test.true, c.loop-at.invariant.on c.loop-at.at (quote-here c.args.quote c.args.source.now c.loop-at.at (sym c.byte_at-byte.ensures ∙ c.if-byte-quote.true)))

stepped : (c : goal.After-width_of-at) → InQuotes c.args.quote c.args.source.now c.loop-at.at (c.loop-at.at + c.width_of-at.result)
stepped c =
    let e = c.byte_at-byte.ensures in
    elim (cases_eq c.byte_at-byte.result 92) [
      | inl f ↦ escaped (sym e ∙ f) (ap (λ (n : ℕ). c.loop-at.at + n) (c.width_of-at.ensures.escaped f))
      | inr f ↦ plain c.loop-at-test.true (λ g. f (e ∙ g)) (λ g. c.if-byte-quote.false (e ∙ g)) (ap (λ (n : ℕ). c.loop-at.at + n) (c.width_of-at.ensures.plain f))
    ]

pub loop-at-preserved : goal.loop-at-preserved
loop-at-preserved c = record {
  on = λ to u. c.loop-at.invariant.on to (quote-on c.args.quote c.args.source.now c.loop-at.at _ to (stepped c) u);
  back = λ to u. quote-back c.args.quote c.args.source.now c.requires.no_backslash c.loop-at.at _ to (stepped c) (c.loop-at.invariant.back to u);
}

pub returns : goal.returns
returns c = λ to u. no_quote c.args.quote c.args.source.now c.requires.visible c.loop-at.at to c.loop-at-test.false (c.loop-at.invariant.back to u)
