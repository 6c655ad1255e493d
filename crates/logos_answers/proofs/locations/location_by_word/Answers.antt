use Rattle.std.proofs.Common.{arith, ◌∙◌}
use Rattle.logos_answers.proofs.SplitLemmas.{no_split, one_split}
use Rattle.logos_answers.proofs.locations.location_by_word.Goals as goal

pub returns-in-Some : goal.returns-in-Some
returns-in-Some c =
    let found = c.in-Some.ensures.byte (omega arith) (λ w o f. f) in
    let location = rw (c.number_by_text-in-Some.ensures, c.number_by_text.ensures) at c.location_of.ensures in
    location ∙ one_split c.args.word.now _ _ found.0 found.1 found.2

pub returns-in-None : goal.returns-in-None
returns-in-None c = no_split c.args.word.now (c.in-None.ensures.byte (omega arith) (λ w o f. f))
