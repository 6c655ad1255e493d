use Rattle.std.proofs.Common.{sym, ◌∙◌, ap}
use Rattle.logos_lexeme.specs.LexemeCharacters.{is_continuing}
use Rattle.logos_lexeme.specs.LexemeRuns.{here, Passes}
use Rattle.logos_lexeme.proofs.RunLaws.{Steps-push}
use Rattle.logos_lexeme.proofs.lexeme.ends.letters_end.Goals as goal

pub loop-end-init : goal.loop-end-init
loop-end-init c = record { boundary = c.requires; so_far = here }

pub loop-end-preserved : goal.loop-end-preserved
loop-end-preserved c = record {
  boundary = c.past-end.ensures.next_boundary;
  so_far = Steps-push (Passes is_continuing c.args.source.now) c.loop-end.invariant.so_far (record {
    inside = c.loop-end-test.true;
    passes = ap is_continuing (sym c.char_at.ensures) ∙ sym c.is_continuing.ensures ∙ c.if-is_continuing.true;
    moves = c.past-end.ensures.value;
  });
}
