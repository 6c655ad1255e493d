-- The test of a subpattern's text.
use Rattle.std.specs.Prelude.{ℕ, Bool, true, false, List, chars}
use Rattle.logos_token.specs.Faults.{Fault}
use Rattle.logos_attribute.specs.Literals.{NamedLiteral}
use Rattle.logos_attribute.specs.Reports.{IsReport}
use Rattle.logos_leaf.specs.subpattern.PatternFaults.{Reading, Reads}
use Rattle.logos_leaf.specs.subpattern.Substitution.{Stored}
use Rattle.logos_leaf.specs.subpattern.Subpatterns.{reading_report}

-- A subpattern with this text was added. The earlier subpatterns have already been substituted in
-- the text.
pub record IsTested (utf8_mode : Bool) (sub : NamedLiteral) (text : List ℕ) (before after : List Stored) (old new : List Fault) : Type 0 where
  pub reading : Reading
  pub reads : Reads true false (chars text) reading
  pub reports : IsReport (reading_report utf8_mode sub text before reading) after old new
