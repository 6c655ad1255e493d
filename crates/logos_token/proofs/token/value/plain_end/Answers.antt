use Rattle.std.proofs.Common.{◌≡◌, ◌≢◌, ◌==◌, ◌&&◌, ◌||◌, Bool, ℕ, inl, inr, false, true, get_or, sym, ◌∙◌, arith}
use Rattle.std.proofs.lemmas.Bool.{or_parts, and_cases, eq-eqb, false≢true}
use Rattle.logos_token.proofs.values.ValueLaws.{rest-plain, rest-start}
use Rattle.logos_token.proofs.token.value.plain_end.Goals as goal

module _ (escapes : Bool) (byte : ℕ) (ordinary : false ≡ ((byte == 13) || (escapes && (byte == 92)))) where
  no_return : byte ≢ 13
  no_return e = false≢true (sym (or_parts (byte == 13) (escapes && (byte == 92)) (sym ordinary)).0 ∙ eq-eqb byte 13 e)

  no_escape : escapes ≡ true → byte ≢ 92
  no_escape t e = elim (and_cases escapes (byte == 92) (or_parts (byte == 13) (escapes && (byte == 92)) (sym ordinary)).1) [
    | inl f ↦ false≢true (sym f ∙ t)
    | inr f ↦ false≢true (sym f ∙ eq-eqb byte 92 e)
  ]

pub loop-end-init : goal.loop-end-init
loop-end-init c = record { begun = omega arith; ended = c.requires.inside; rest = rest-start c.args.escapes c.args.source.now c.args.from c.args.to }

pub loop-end-preserved : goal.loop-end-preserved
loop-end-preserved c =
    let i = c.loop-end.invariant in
    let ahead = c.loop-end-test.true in
    record {
      begun = let b = i.begun in omega arith;
      ended = omega arith;
      rest = rest-plain c.args.escapes c.args.source.now c.args.from c.loop-end.end c.args.to i.begun ahead c.requires.within
          (λ e. no_return c.args.escapes (get_or c.args.source.now c.loop-end.end 0) (rw c.byte_at.ensures at c.if-not-is_special.ensures) e)
          (λ t e. no_escape c.args.escapes (get_or c.args.source.now c.loop-end.end 0) (rw c.byte_at.ensures at c.if-not-is_special.ensures) t e)
          i.rest;
    }
