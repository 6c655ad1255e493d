use Rattle.std.proofs.Common.{◌≡◌, false}
use Rattle.logos_token.specs.Tokens.{count_of}
use Rattle.logos_token.specs.Views.{tokens_of}
use Rattle.logos_attribute.specs.Slices.{ident_slice}
use Rattle.logos_attribute.specs.Flags.{flags_report}
use Rattle.logos_attribute.proofs.flags.set_flags.Given as goal

abbrev pub invariant-loop-after : goal.invariant-loop-after
invariant-loop-after l = record {
  flags : flags_report (ident_slice l.name) false l.fn.ignore_case (tokens_of l.tokens) ≡ flags_report (ident_slice l.name) l.found l.ignore_case (tokens_of l.rest);
  errors : l.errors ≡ l.fn.errors;
}

abbrev pub decreases-loop-after : goal.decreases-loop-after
decreases-loop-after l = count_of (tokens_of l.rest)
