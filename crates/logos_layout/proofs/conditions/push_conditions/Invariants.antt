use Rattle.std.proofs.Common.{◌≡◌, ◌++◌, string_bytes}
use Rattle.logos_token.specs.Tokens.{count_of}
use Rattle.logos_token.specs.Views.{tokens_of}
use Rattle.logos_layout.specs.Conditions.{conditions_text}
use Rattle.logos_layout.proofs.conditions.push_conditions.Given as goal

-- with the attributes that are left the text has all of them
abbrev pub invariant-loop-attribute : goal.invariant-loop-attribute
invariant-loop-attribute l = string_bytes l.text ++ conditions_text (tokens_of l.rest) ≡ string_bytes l.initial.text ++ conditions_text (tokens_of l.item)

abbrev pub decreases-loop-attribute : goal.decreases-loop-attribute
decreases-loop-attribute l = count_of (tokens_of l.rest)
