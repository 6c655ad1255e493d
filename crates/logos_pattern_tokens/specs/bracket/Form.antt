-- The parts of a bracket, from the left.
use Rattle.std.specs.Prelude.{Bool}
use Rattle.logos_pattern_tokens.specs.declared.bracket.token.BracketItem.{BracketItem}
use Rattle.logos_pattern_tokens.specs.declared.bracket.token.Lead.{Lead}
use Rattle.logos_hir.specs.declared.sets.operands.SetOperator.{SetOperator}

mutual
  -- Whether the bracket is negated, the literals at its front, and the operands after them.
  pub data Bracket : Type 0 where
    bracket : Bool → Lead → Operands → Bracket

  -- Operands with operators between them.
  pub data Operands : Type 0 where
    lone : Members → Operands
    joined : Operands → SetOperator → Members → Operands

  -- One operand: its elements and the nested brackets in it.
  pub data Members : Type 0 where
    nobody : Members
    member : Members → BracketItem → Members
    nested : Members → Bracket → Members
