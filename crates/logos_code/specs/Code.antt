-- A code value, which defines the steps of a lexer in each state.
use Rattle.std.specs.Prelude.{ℕ, Bool, List, Option}
use Rattle.logos_automaton.specs.Munch.{Use}
use Rattle.logos_byte_class.specs.Bytes.{Comparison}
use Rattle.logos_code.specs.declared.code.CodeLeaf.{CodeLeaf}
use Rattle.logos_code.specs.declared.code.Header.{Header}

-- The mark of a state: a match of `leaf` ends at the state, or one byte before it if `late` is
-- `true`.
pub record Mark : Type 0 where
  pub leaf : ℕ
  pub late : Bool

-- A condition on a byte.
pub data Condition : Type 0 where
  -- One of these comparisons holds.
  by_comparisons : List Comparison → Condition
  -- The test with this number.
  by_test : ℕ → Condition

-- The transitions of a state on bytes.
pub data Fork : Type 0 where
  -- A byte leads to the state of the first condition that holds for it.
  by_conditions : List (Condition × ℕ) → Fork
  -- A byte leads to its entry in a table.
  by_table : List (Option ℕ) → Fork

-- The steps of a state: its fast loop, its mark, its fork, and its end branch.
pub record CodeState : Type 0 where
  -- The test of the bytes on which the state does not change.
  pub fast_loop : Option ℕ
  pub mark : Option Mark
  pub fork : Fork
  -- The target of the end of the input.
  pub at_end : Option ℕ

-- A code value: its states, its tables, the uses of its leaves, and the header of the generated
-- code.
pub record CodeValue : Type 0 where
  pub states : List CodeState
  pub bit_tables : List (List ℕ)
  pub leaves : List Use
  pub root : ℕ
  pub utf8 : Bool
  -- The jump tables, which no run reads: a fork by a table holds the entries of its table.
  pub jump_tables : List (List ℕ)
  pub header : Header
  pub code_leaves : List CodeLeaf
