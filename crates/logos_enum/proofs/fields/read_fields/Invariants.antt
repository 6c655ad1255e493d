use Rattle.std.proofs.Common.{List, map}
use Rattle.logos_token.specs.Tokens.{count_of}
use Rattle.logos_token.specs.Views.{tokens_of}
use Rattle.logos_enum.specs.Enum.{field}
use Rattle.logos_enum.specs.EnumValues.{FieldValue, field_value}
use Rattle.logos_enum.specs.Marks.{is_none}
use Rattle.logos_enum.specs.Rules.{Outcome, Listed}
use Rattle.logos_enum.proofs.RuleLemmas.{joined}
use Rattle.logos_enum.proofs.fields.read_fields.Given as goal

abbrev pub invariant-loop-rest : goal.invariant-loop-rest
invariant-loop-rest l =
    (outcome : Outcome (List FieldValue)) → Listed is_none (field l.named) (tokens_of l.rest) outcome →
    Listed is_none (field l.named) (tokens_of l.tokens) (joined (map field_value l.list.items) outcome)

abbrev pub decreases-loop-rest : goal.decreases-loop-rest
decreases-loop-rest l = count_of (tokens_of l.rest)
