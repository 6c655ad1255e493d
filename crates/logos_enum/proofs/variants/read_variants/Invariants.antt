use Rattle.std.proofs.Common.{List, map}
use Rattle.logos_token.specs.Tokens.{count_of}
use Rattle.logos_token.specs.Views.{tokens_of}
use Rattle.logos_enum.specs.Enum.{variant}
use Rattle.logos_enum.specs.EnumValues.{VariantValue, variant_value}
use Rattle.logos_enum.specs.Marks.{is_none}
use Rattle.logos_enum.specs.Rules.{Outcome, Listed}
use Rattle.logos_enum.proofs.RuleLemmas.{joined}
use Rattle.logos_enum.proofs.variants.read_variants.Given as goal

abbrev pub invariant-loop-rest : goal.invariant-loop-rest
invariant-loop-rest l =
    (outcome : Outcome (List VariantValue)) → Listed is_none variant (tokens_of l.rest) outcome →
    Listed is_none variant (tokens_of l.tokens) (joined (map variant_value l.list.items) outcome)

abbrev pub decreases-loop-rest : goal.decreases-loop-rest
decreases-loop-rest l = count_of (tokens_of l.rest)
