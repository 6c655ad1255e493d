-- The match or the error around an offset of an input.
use Rattle.std.specs.Prelude.{◌≡◌, ◌<◌, ◌⊎◌, ℕ, List, [], ◌++◌, codes, decimal, length, max, min}
use Rattle.logos_answers.specs.Matches.{bytes_between}
use Rattle.logos_answers.specs.Names.{leaf_text}
use Rattle.logos_answers.specs.Quoting.{quoted}
use Rattle.logos_automaton.specs.Munch.{matched, failed}
use Rattle.logos_code.specs.Code.{CodeValue}
use Rattle.logos_code.specs.Rows.{IsUse}
use Rattle.logos_code.specs.Runs.{CodeFinds}
use Rattle.logos_code.specs.declared.code.rows.MatchUse.TheVariants.{Skips}
use Rattle.logos_lines.specs.Locations.{location_at}
use Rattle.logos_lines.specs.declared.location.Location.{Location}
use Rattle.logos_pattern.specs.declared.leaf.Leaf.{Leaf}
use Rattle.logos_attempts.specs.declared.around.Surrounding.{Surrounding}
use Rattle.logos_attempts.specs.declared.around.SurroundingKind.{SurroundingKind}
use Rattle.logos_attempts.specs.declared.around.SurroundingKind.TheVariants.{Skip, Leaf as OfLeaf, Error}

-- A match attempt from an offset finds this: a skipped match, a match of a leaf, or an error, up to
-- another offset.
abbrev pub FindsKind : CodeValue → List ℕ → ℕ → ℕ → SurroundingKind → Type 0
FindsKind code input from to Skip = (leaf : ℕ) × CodeFinds code input from (matched leaf to) × IsUse code leaf Skips
FindsKind code input from to (OfLeaf leaf) = CodeFinds code input from (matched leaf to)
FindsKind code input from to Error = CodeFinds code input from (failed to)

abbrev pub Finds : CodeValue → List ℕ → Surrounding → Type 0
Finds code input found = FindsKind code input found.from found.to found.kind

-- Match attempts, one after another, lead from the beginning of an input to an offset.
pub data LeadsTo (code : CodeValue) (input : List ℕ) : ℕ → Type 0 where
  begins : LeadsTo code input 0
  passes : (found : Surrounding) → LeadsTo code input found.from → Finds code input found → LeadsTo code input found.to

-- `found` begins before the offset and ends after it, and is the result of one of the match
-- attempts from the beginning of the input.
pub record IsAround (code : CodeValue) (input : List ℕ) (offset : ℕ) (found : Surrounding) : Type 0 where
  pub leads : LeadsTo code input found.from
  pub finds : Finds code input found
  pub begins_before : found.from < offset
  pub ends_after : offset < found.to

-- The location of an offset of an input, or of its end.
abbrev pub location_in : List ℕ → ℕ → Location
location_in input offset = location_at input (max 0 (min offset (length input)))

abbrev pub location_text : Location → List ℕ
location_text location = decimal location.line ++ (codes ":" ++ decimal location.column)

-- The kind of a match or an error, with its leaf.
abbrev pub kind_text : List Leaf → SurroundingKind → List ℕ
kind_text leaves Skip = codes "a skipped match"
kind_text leaves (OfLeaf leaf) = leaf_text leaves leaf
kind_text leaves Error = codes "an error"

-- The line of a match or an error.
abbrev pub around_text : List Leaf → List ℕ → Surrounding → List ℕ
around_text leaves input found =
    codes "inside " ++ (kind_text leaves found.kind ++ (codes " from " ++ (location_text (location_in input found.from) ++ (codes " to " ++
    (location_text (location_in input found.to) ++ (codes "  " ++ (quoted (bytes_between input found.from found.to) ++ codes "\n")))))))

-- The line of the match or the error around an offset, or an empty text.
abbrev pub IsAroundText : CodeValue → List Leaf → List ℕ → ℕ → List ℕ → Type 0
IsAroundText code leaves input offset text = (text ≡ []) ⊎ ((found : Surrounding) × IsAround code input offset found × (text ≡ around_text leaves input found))
