-- The representation of the steps and the marks of a code in tables.
use Rattle.std.specs.Prelude.{◌≡◌, ℕ, zero, suc, ◌<◌, List, [], ◌∷◌, map, length, Option, Some, option_and_then, slice_get, slice_index, slice_index_or}
use Rattle.std.specs.List.{flat_map}
use Rattle.logos_code.specs.Code.{CodeValue}
use Rattle.logos_code.specs.CodeView.{state_at}
use Rattle.logos_tables.specs.Steps.{HasSteps, step_number}

-- A number `n` times.
abbrev pub times : ℕ → ℕ → List ℕ
times zero x = []
times (suc n) x = x ∷ times n x

-- The list that runs encode: each number, as often as its run requires.
abbrev pub spread : List (ℕ × ℕ) → List ℕ
spread runs = flat_map (λ run. times run.0 run.1) runs

-- The tables of the steps of a lexer.
pub record Tables : Type 0 where
  -- The class of each symbol.
  pub classes : List ℕ
  -- The classes of all symbols as runs: pairs of a count and a class.
  pub class_runs : List (ℕ × ℕ)
  -- Rows of steps, each with one step for each class.
  pub rows : List (List ℕ)
  -- The concatenated rows as runs: pairs of a count and a step.
  pub runs : List (ℕ × ℕ)
  -- The number of the row of each state.
  pub slots : List ℕ
  -- The number of classes.
  pub width : ℕ

-- The row of a state in the tables, if there is one.
abbrev pub row_in : Tables → ℕ → Option (List ℕ)
row_in tables state = option_and_then (slice_get tables.rows) (slice_get tables.slots state)

-- The step of a symbol in a state, from the tables: that of the symbol's class in the state's row,
-- if there is one.
abbrev pub step_in : Tables → ℕ → ℕ → Option ℕ
step_in tables state symbol =
    option_and_then (λ row. option_and_then (slice_get row) (slice_get tables.classes symbol)) (row_in tables state)

-- The tables hold the step of each symbol in each state of a code. The number of classes is the
-- number of symbols, and the number of row numbers is the number of states; each class is a column
-- of a row, and each row number is that of a row.
pub record Hold (code : CodeValue) (tables : Tables) : Type 0 where
  pub symbols : length tables.classes ≡ 257
  pub states : length tables.slots ≡ length code.states
  pub inside : (symbol : ℕ) → symbol < 257 → slice_index tables.classes symbol < tables.width
  pub there : (state : ℕ) → state < length code.states → slice_index tables.slots state < length tables.rows
  pub steps : (state symbol : ℕ) → state < length code.states → symbol < 257 →
      step_in tables state symbol ≡ Some (step_number code (state_at code state) symbol)
  pub wide : (i : ℕ) → i < length tables.rows → length (slice_index_or tables.rows i []) ≡ tables.width
  pub class_runs : spread tables.class_runs ≡ tables.classes
  pub runs : spread tables.runs ≡ flat_map (λ row. row) tables.rows

-- The rows of all states of a code.
pub record AreRows (code : CodeValue) (rows : List (List ℕ)) : Type 0 where
  pub count : length rows ≡ length code.states
  pub are : (state : ℕ) → state < length code.states → HasSteps code (state_at code state) (slice_index_or rows state [])

-- Two symbols have the same step in each of the rows.
abbrev pub HaveSameSteps : List (List ℕ) → ℕ → ℕ → Type 0
HaveSameSteps rows one other = (i : ℕ) → i < length rows → slice_index (slice_index_or rows i []) one ≡ slice_index (slice_index_or rows i []) other

-- The class `number` exists, and its symbol has the same steps as `symbol`.
abbrev pub IsClassOf : List (List ℕ) → List ℕ → ℕ → ℕ → Type 0
IsClassOf rows symbols symbol number = (number < length symbols) × HaveSameSteps rows (slice_index symbols number) symbol

-- The classes of the first `count` symbols, with one symbol of each class.
pub record Classify (rows : List (List ℕ)) (numbers symbols : List ℕ) (count : ℕ) : Type 0 where
  pub many : length numbers ≡ count
  pub are : (symbol : ℕ) → symbol < count → IsClassOf rows symbols symbol (slice_index numbers symbol)

abbrev pub AreClasses : List (List ℕ) → List ℕ → List ℕ → Type 0
AreClasses rows numbers symbols = Classify rows numbers symbols 257

-- A row by classes: the steps of one symbol of each class.
abbrev pub by_classes : List ℕ → List ℕ → List ℕ
by_classes symbols row = map (λ symbol. slice_index row symbol) symbols
