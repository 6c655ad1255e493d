use Rattle.std.proofs.Common.{arith}
use Rattle.logos_options.proofs.SplitLemmas.{no_split, one_split}
use Rattle.logos_options.proofs.argument_steps.split_at_equals.Goals as goal

pub returns-in-Some : goal.returns-in-Some
returns-in-Some c =
    let found = c.in-Some.ensures.byte (omega arith) (λ w o f. f) in
    one_split c.args.word.now _ _ found.0 found.1 found.2

pub returns-in-None : goal.returns-in-None
returns-in-None c = no_split c.args.word.now (c.in-None.ensures.byte (omega arith) (λ w o f. f))
