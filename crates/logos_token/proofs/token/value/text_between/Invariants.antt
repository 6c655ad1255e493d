use Rattle.std.proofs.Common.{◌-◌, string_bytes}
use Rattle.std.specs.Str.{IsCharBoundary}
use Rattle.logos_token.specs.inside.ValueReads.{IsRest}
use Rattle.logos_lexeme.specs.declared.lexeme.openings.Content.TheVariants.{Text}
use Rattle.logos_token.proofs.token.value.text_between.Given as goal

abbrev pub invariant-loop-at : goal.invariant-loop-at
invariant-loop-at l = record { boundary : IsCharBoundary l.source l.at; rest : IsRest l.escapes Text l.source l.from l.at l.to (string_bytes l.value) }

abbrev pub decreases-loop-at : goal.decreases-loop-at
decreases-loop-at l = l.to - l.at
