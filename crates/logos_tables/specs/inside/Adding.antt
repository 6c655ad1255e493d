-- Tables that are appended to a text.
use Rattle.std.specs.Prelude.{◌≡◌, ℕ, ◌<◌, List, ◌++◌, length, slice_index}
use Rattle.std.specs.List.{flat_map}
use Rattle.logos_code.specs.Code.{CodeValue}
use Rattle.logos_reduce.specs.Rows.{rows_at}
use Rattle.logos_tables.specs.Layout.{AreClasses, AreRows, Hold, Tables, by_classes, spread}
use Rattle.logos_tables.specs.Texts.{Sizes, joined, made_texts, numbers_texts, tables_text}

-- Exactly these texts are appended to a text.
pub record Appends (texts : List (List ℕ)) (old new : List ℕ) : Type 0 where
  pub is : new ≡ old ++ joined texts

-- Exactly the constants that the runtime computes from tables with these numbers of states and of
-- runs are appended to a text.
pub record AppendsNumbers (states runs : ℕ) (old new : List ℕ) : Type 0 where
  pub sizes : Sizes
  pub appends : Appends (numbers_texts states runs sizes) old new

-- Exactly the tables that hold the steps of the code are appended to a text.
pub record AppendsMade (code : CodeValue) (old new : List ℕ) : Type 0 where
  pub tables : Tables
  pub sizes : Sizes
  pub hold : Hold code tables
  pub appends : Appends (made_texts code tables sizes) old new

-- Exactly the implementation with tables that hold the steps of the code is appended to a text.
pub record AppendsTables (code : CodeValue) (old new : List ℕ) : Type 0 where
  pub tables : Tables
  pub sizes : Sizes
  pub hold : Hold code tables
  pub is : new ≡ old ++ tables_text code tables sizes

-- The rows, the classes and the runs of a code.
pub record AreMade (code : CodeValue) (numbers symbols slots : List ℕ) (distinct : List (List ℕ)) (class_runs runs : List (ℕ × ℕ)) : Type 0 where
  pub rows : AreRows code (rows_at slots distinct)
  pub placed : (i : ℕ) → i < length slots → slice_index slots i < length distinct
  pub classes : AreClasses distinct numbers symbols
  pub of_classes : spread class_runs ≡ numbers
  pub of_rows : spread runs ≡ flat_map (by_classes symbols) distinct
