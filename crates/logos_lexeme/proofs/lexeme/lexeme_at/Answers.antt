use Rattle.std.proofs.Common.{refl, ◌∙◌, ap}
use Rattle.std.specs.Str.{IsCharBoundary}
use Rattle.logos_lexeme.specs.LexemeOpenings.{kind_of}
use Rattle.logos_lexeme.proofs.EndLaws.{Ends-boundary}
use Rattle.logos_lexeme.proofs.LexemeLaws.{no_suffix}
use Rattle.logos_lexeme.proofs.lexeme.lexeme_at.Goals as goal
use Rattle.logos_lexeme.proofs.lexeme.lexeme_at.Goals.{In-Some}

boundary : (c : In-Some) → IsCharBoundary c.args.source.now c.in-Some.end
boundary c = Ends-boundary c.args.source.now c.utf8.source c.args.from c.requires.inside c.requires.boundary c.opening_at-opens.result c.in-Some.end c.in-Some.ensures

pub is_sound-requires : goal.is_sound-requires
is_sound-requires c = record { inside = c.requires.inside; ends = c.in-Some.ensures; within = (boundary c).0 }

pub suffix_end-requires : goal.suffix_end-requires
suffix_end-requires c = boundary (goal.at.suffix_end-requires c).In-Some

pub returns-in_default-kind_of : goal.returns-in_default-kind_of
returns-in_default-kind_of c = record {
  ok = record {
    end = c.in-Some.end;
    ends = rw (← c.opening_at-opens.ensures) c.in-Some.ensures;
    sound = rw (← c.opening_at-opens.ensures) (c.if-not-is_sound.ensures.0 refl);
    is_kind = c.kind_of.ensures ∙ ap kind_of c.opening_at-opens.ensures;
    suffixed = no_suffix c.args.source.now c.kind_of.result c.in-Some.end c.in_default-kind_of.not-Literal;
    within = (boundary (goal.at.returns-in_default-kind_of c).In-Some).0;
  };
  err = tt;
}
