-- The views of the uses of leaves in contracts.
use Rattle.std.specs.Prelude.{◌≡◌, ℕ, List, map}
use Rattle.logos_automaton.specs.Munch.{Use}
use Rattle.logos_code.specs.CodeView.{code_of, IsValid}
use Rattle.logos_code.specs.LastMarks.{AreLastMarks}
use Rattle.logos_code.specs.Masks.{AreMasks}
use Rattle.logos_code.specs.Rows.{AreRows, IsFirstRow}
use Rattle.logos_code.specs.Signs.{mark_by, AreSigns}
use Rattle.logos_code.specs.declared.code.CodeParts.{CodeParts}
use Rattle.logos_code.specs.declared.code.last_marks.LastMark.{LastMark}
use Rattle.logos_code.specs.declared.code.signs.Sign.{Sign}
use Rattle.logos_code.specs.declared.code.uses.LeafUse.{LeafUse}

-- The use that two flags represent.
abbrev pub use_by : LeafUse → Use
use_by flags = record { skips = flags.skips; calls_back = flags.calls_back }

-- The parts are valid, and the tables agree with them.
pub record IsWhole (parts : CodeParts) (first rows : List ℕ) (masks : List (List ℕ)) (signs : List Sign) (last_marks : List LastMark) (uses : List LeafUse) : Type 0 where
  pub valid : IsValid parts
  pub first_row : IsFirstRow (code_of parts) first
  pub all_rows : AreRows (code_of parts) rows
  pub all_masks : AreMasks (code_of parts) masks
  pub all_signs : AreSigns (code_of parts) (map mark_by signs)
  pub all_last_marks : AreLastMarks (code_of parts) last_marks
  pub all_uses : map use_by uses ≡ (code_of parts).leaves
