-- The output about lexers.
use Rattle.std.specs.Prelude.{◌≡◌, ◌≢◌, ℕ, Bool, List, ◌++◌, Option, codes, decimal, take}
use Rattle.std.specs.List.{flat_map}
use Rattle.std.specs.Io.KnownBytes.{Appends}
use Rattle.logos_answers.specs.Expecting.{timeless}
use Rattle.logos_answers.specs.Inputs.{input_line}
use Rattle.logos_answers.specs.Matches.{AreLines}
use Rattle.logos_answers.specs.Offsets.{IsOffsetOf}
use Rattle.logos_attempts.specs.Around.{IsAroundText}
use Rattle.logos_attempts.specs.Partials.{IsPartialText}
use Rattle.logos_code.specs.Code.{CodeValue}
use Rattle.logos_evidence.specs.Covering.{AreCoveringInputs}
use Rattle.logos_evidence.specs.Matching.{AreMatches}
use Rattle.logos_evidence.specs.declared.matches.Match.{Match}
use Rattle.logos_graph.specs.Graph.{GraphState}
use Rattle.logos_graph.specs.View.{rules_of}
use Rattle.logos_lines.specs.declared.location.Location.{Location}
use Rattle.logos_page.specs.Shown.{shown_text}
use Rattle.logos_pattern.specs.declared.leaf.Leaf.{Leaf}
use Rattle.logos_records.specs.Inputs.{AreInputRecords}
use Rattle.logos_records.specs.Matches.{AreMatchRecords}
use Rattle.logos_replies.specs.declared.replies.Agreement.{Agreement}
use Rattle.logos_replies.specs.declared.replies.Agreement.TheVariants.{Different, Same}

-- The line with the location of a point.
abbrev pub location_line : Location → List ℕ
location_line location = codes "from " ++ (decimal location.line ++ (codes ":" ++ (decimal location.column ++ codes "\n")))

-- The lines about all matches from a point of an input were written to standard output: after the
-- line of the match or the error around the point, and before the lines of partial matches.
pub record PrintsMatches (leaves : List Leaf) (code : CodeValue) (input : List ℕ) (location : Location) (old new : Option (List ℕ)) : Type 0 where
  pub from : ℕ
  pub at : IsOffsetOf input location from
  pub matches : List Match
  pub all : AreMatches (rules_of leaves) input from matches
  pub text : List ℕ
  pub lines : AreLines leaves input from matches text
  pub around : List ℕ
  pub found : IsAroundText code leaves input from around
  pub partial : List ℕ
  pub reads : IsPartialText leaves input from code partial
  pub printed : Appends old new (around ++ (location_line location ++ (text ++ partial)))

-- The lines of JSON about all matches from a point of an input were written to standard output.
pub record PrintsMatchRecords (leaves : List Leaf) (input : List ℕ) (location : Location) (old new : Option (List ℕ)) : Type 0 where
  pub from : ℕ
  pub at : IsOffsetOf input location from
  pub text : List ℕ
  pub lines : AreMatchRecords leaves input from text
  pub printed : Appends old new text

-- The first `most` inputs that together take all edges of a graph were written to standard output.
pub record PrintsInputs (graph : List GraphState) (utf8 : Bool) (most : ℕ) (old new : Option (List ℕ)) : Type 0 where
  pub inputs : List (List ℕ)
  pub covering : AreCoveringInputs graph utf8 inputs
  pub printed : Appends old new (flat_map input_line (take most inputs))

-- The first `most` inputs that together take all edges of a graph were written to standard output,
-- as lines of JSON.
pub record PrintsInputRecords (graph : List GraphState) (utf8 : Bool) (most : ℕ) (old new : Option (List ℕ)) : Type 0 where
  pub count : ℕ
  pub text : List ℕ
  pub lines : AreInputRecords graph utf8 most count text
  pub printed : Appends old new text

-- The outcome of comparing an answer with the stored one at a path was written to standard output.
abbrev pub PrintsAgreement : List ℕ → List ℕ → List ℕ → Agreement → Option (List ℕ) → Option (List ℕ) → Type 0
PrintsAgreement path stored made Same old new = (timeless stored ≡ timeless made) × Appends old new (codes "as expected\n")
PrintsAgreement path stored made Different old new = (timeless stored ≢ timeless made) × (rest : List ℕ) × Appends old new (shown_text path ++ rest)
