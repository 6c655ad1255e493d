-- Reading a bracket token by token, with the brackets that are open.
use Rattle.std.specs.Prelude.{ℕ, ◌+◌, max, Bool, false, List, [], ◌∷◌, length, Option, Some, None}
use Rattle.logos_pattern_tokens.specs.declared.token.Flags.{Flags}
use Rattle.logos_hir.specs.declared.sets.operands.SetOperator.{SetOperator}
use Rattle.logos_pattern_tokens.specs.declared.bracket.token.Lead.{Lead}
use Rattle.logos_pattern_tokens.specs.declared.bracket.token.BracketToken.{BracketToken}
use Rattle.logos_pattern_tokens.specs.declared.bracket.token.BracketToken.TheVariants.{Item, Open, Operator, Close}
use Rattle.logos_hir.specs.Sets.{Set, union}
use Rattle.logos_syntax.specs.bracket.Meaning.{set_or_complement, item_set, lead_set}
use Rattle.logos_hir.specs.Operands.{combination}

-- The inside of an open bracket, as far as it has been read.
pub record BracketFrame : Type 0 where
  pub negated : Bool
  -- The set of the operands before the last operator, and that operator.
  pub before : Option (Set × SetOperator)
  -- The operand that is being read.
  pub here : Set
  -- The depth of the bracket's innermost point in the whole pattern.
  pub inner : ℕ

-- The brackets that are open.
pub record Frames : Type 0 where
  pub top : BracketFrame
  -- The brackets around the innermost one, the innermost first.
  pub below : List BracketFrame

-- The inside of a bracket of which only the opening has been read.
abbrev pub fresh_frame : Bool → Lead → ℕ → BracketFrame
fresh_frame negated lead level = record { negated = negated; before = None; here = lead_set lead; inner = level }

-- The set combined with the operands before it, if there are any.
abbrev pub with_before : Option (Set × SetOperator) → Set → Set
with_before None set = set
with_before (Some before) set = combination before.1 before.0 set

-- The set of the operands that have been read.
abbrev pub value : BracketFrame → Set
value f = with_before f.before f.here

-- The set of the bracket, as if it ended here.
abbrev pub whole : Flags → BracketFrame → Set
whole flags f = set_or_complement flags f.negated (value f)

-- The brackets that are open after the innermost one is closed, unless it is the only one.
abbrev pub close : Flags → BracketFrame → List BracketFrame → Option Frames
close flags f [] = None
close flags f (g ∷ gs) = Some (record { top = record g { here = union g.here (whole flags f); inner = max g.inner f.inner }; below = gs })

-- The step of a token, with this number of groups and brackets around the whole bracket.
abbrev pub bracket_step : Flags → ℕ → Frames → BracketToken → Option Frames
bracket_step flags base s (Item item) = Some (record s { top = record s.top { here = union s.top.here (item_set flags item) } })
bracket_step flags base s (Open negated lead) = Some (record { top = fresh_frame negated lead (base + length s.below + 2); below = s.top ∷ s.below })
bracket_step flags base s (Operator op) = Some (record s { top = record s.top { before = Some (value s.top, op); here = λ c. false } })
bracket_step flags base s Close = close flags s.top s.below
