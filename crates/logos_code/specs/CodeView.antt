-- The views of a code value in contracts.
use Rattle.std.specs.Prelude.{◌≡◌, ℕ, ◌<◌, Bool, not, List, [], map, length, false, Option, Some, None, option_map, if◌then◌else◌, ◌==◌, is_some, slice_index, slice_index_or, slice_get}
use Rattle.std.specs.Int.Bits.{bit_and}
use Rattle.std.specs.Option.{option_map_or}
use Rattle.logos_pattern.specs.Leaf.{is_skip}
use Rattle.logos_automaton.specs.Munch.{Use}
use Rattle.logos_byte_class.specs.Bytes.{comparison_of}
use Rattle.logos_code.specs.Code.{CodeValue, CodeState, Mark, Condition, by_comparisons, by_test, Fork, by_conditions, by_table}
use Rattle.logos_code.specs.Headline.{IsSound}
use Rattle.logos_code.specs.declared.code.Mark.{Mark as TheMark}
use Rattle.logos_code.specs.declared.code.Condition.{Condition as TheCondition}
use Rattle.logos_code.specs.declared.code.Condition.TheVariants.{Comparisons, Test}
use Rattle.logos_code.specs.declared.code.Fork.{Fork as TheFork}
use Rattle.logos_code.specs.declared.code.Fork.TheVariants.{Conditions, Table}
use Rattle.logos_code.specs.declared.code.CodeState.{CodeState as TheState}
use Rattle.logos_code.specs.declared.code.CodeLeaf.{CodeLeaf}
use Rattle.logos_code.specs.declared.code.CodeParts.{CodeParts}

-- The mark that a value represents.
abbrev pub mark_of : TheMark → Mark
mark_of mark = record { leaf = mark.leaf.0; late = mark.late }

-- The condition that a value represents.
abbrev pub condition_of : TheCondition → Condition
condition_of (Comparisons all) = by_comparisons (map comparison_of all.items)
condition_of (Test k) = by_test k

-- The branch that a value represents.
abbrev pub branch_of : TheCondition × ℕ → Condition × ℕ
branch_of branch = (condition_of branch.0, branch.1)

-- An entry of a jump table is a state, or the number that represents none.
abbrev pub entry_of : ℕ → Option ℕ
entry_of entry = if entry == 4294967295 then None else Some entry

-- The targets in a jump table.
abbrev pub jumps_of : List ℕ → List (Option ℕ)
jumps_of table = map entry_of table

-- A fork, given the number of its jump table.
abbrev pub fork_of : List (List ℕ) → TheFork → Fork
fork_of tables (Conditions all) = by_conditions (map branch_of all.items)
fork_of tables (Table k) = by_table (jumps_of (slice_index_or tables k []))

-- The state that a value represents, given the jump tables.
abbrev pub state_of : List (List ℕ) → TheState → CodeState
state_of tables state = record {
  fast_loop = state.fast_loop;
  mark = option_map mark_of state.mark;
  fork = fork_of tables state.fork;
  at_end = state.at_end;
}

-- The use of the matches of a leaf.
abbrev pub use_of : CodeLeaf → Use
use_of leaf = record { skips = is_skip leaf.kind; calls_back = is_some leaf.callback }

-- The code value of these parts.
abbrev pub code_of : CodeParts → CodeValue
code_of code = record {
  states = map (state_of code.jump_tables.items) code.states.items;
  bit_tables = code.bit_tables.items;
  leaves = map use_of code.leaves.items;
  root = code.root;
  utf8 = code.utf8;
  jump_tables = code.jump_tables.items;
  header = code.header;
  code_leaves = code.leaves.items;
}

-- A state without steps, for numbers without a state.
abbrev pub no_state : CodeState
no_state = record { fast_loop = None; mark = None; fork = by_conditions []; at_end = None }

-- The state with this number, or a state without steps if there is none.
abbrev pub state_at : CodeValue → ℕ → CodeState
state_at code s = slice_index_or code.states s no_state

-- A callback is called for the matches of the leaf.
abbrev pub calls_back_for : CodeValue → ℕ → Bool
calls_back_for code leaf = option_map_or (λ use_of. use_of.calls_back) (slice_get code.leaves leaf) false

-- The matches of the leaf are skipped.
abbrev pub skips_over : CodeValue → ℕ → Bool
skips_over code leaf = option_map_or (λ use_of. use_of.skips) (slice_get code.leaves leaf) false

-- The table's entry for the byte has one of the mask's bits.
abbrev pub has_mask : List ℕ → ℕ → ℕ → Bool
has_mask table mask b = not (bit_and (slice_index table b) mask == 0)

-- No two of the tables are equal.
abbrev pub AreDifferent : List (List ℕ) → Type 0
AreDifferent tables = (i j : ℕ) → i < length tables → j < length tables → slice_get tables i ≡ slice_get tables j → i ≡ j

-- The parts that a code can have.
pub record IsValid (code : CodeParts) : Type 0 where
  pub sound : IsSound (code_of code)
  pub once : AreDifferent code.jump_tables.items
