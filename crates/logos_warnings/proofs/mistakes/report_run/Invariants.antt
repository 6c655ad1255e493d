use Rattle.std.proofs.Common.{List, map}
use Rattle.logos_token.specs.Tokens.{count_of}
use Rattle.logos_token.specs.Views.{tokens_of}
use Rattle.logos_warnings.specs.Mistakes.{MistakeValue, RunAdds, mistake_value}
use Rattle.logos_warnings.proofs.mistakes.report_run.Given as goal

-- the warnings of the rest complete the warnings of the run
abbrev pub invariant-loop-attribute : goal.invariant-loop-attribute
invariant-loop-attribute l = (after : List MistakeValue) → RunAdds l.site (tokens_of l.rest) (map mistake_value l.warnings.items) after →
    RunAdds l.site (tokens_of l.run) (map mistake_value l.initial.warnings.items) after

abbrev pub decreases-loop-attribute : goal.decreases-loop-attribute
decreases-loop-attribute l = count_of (tokens_of l.rest)
