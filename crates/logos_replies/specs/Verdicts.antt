-- The verdict on two lexers, and the output about it.
use Rattle.std.specs.Prelude.{◌≡◌, ℕ, Bool, true, false, List, [], ◌∷◌, ◌++◌, Option, codes}
use Rattle.std.specs.Io.KnownBytes.{Appends}
use Rattle.json.specs.Token.{Token}
use Rattle.logos_answers.specs.Comparing.{IsCompared}
use Rattle.logos_answers.specs.Differences.{difference_line, mode_line}
use Rattle.logos_answers.specs.declared.comparison.Compared.{Compared}
use Rattle.logos_answers.specs.declared.comparison.Compared.TheVariants as compared
use Rattle.logos_answers.specs.declared.difference.Finding.{Finding}
use Rattle.logos_graph.specs.View.{GraphValue}
use Rattle.logos_json.specs.Lines.{AreLines, LinesValue, Puts}
use Rattle.logos_json.specs.Members.{bool_member, bytes_member, object}
use Rattle.logos_page.specs.Pages.{Gains, PageValue}
use Rattle.logos_records.specs.Comparing.{finding_member, mode_member}
use Rattle.logos_replies.specs.declared.replies.Agreement.{Agreement}
use Rattle.logos_replies.specs.declared.replies.Agreement.TheVariants.{Different, Same}

-- The outcome of a comparison: two lexers agree if they find equal matches and errors everywhere.
abbrev pub agreement_of : Compared → Agreement
agreement_of compared.Same = Same
agreement_of (compared.Differ input) = Different
agreement_of compared.OtherMode = Different

-- The object of an input on which two lexers differ, with their findings there.
abbrev pub difference_object : List ℕ → Finding → Finding → List Token
difference_object input one other =
    object (bool_member (codes "same") false ++ (bytes_member (codes "input") input ++ (finding_member (codes "old") one ++ finding_member (codes "new") other)))

module _ (one other : GraphValue) where
  -- The verdict as an object: that the lexers are the same; an input on which they differ; or the
  -- kinds of inputs that they read.
  abbrev pub IsVerdictObject : Compared → List Token → Type 0
  IsVerdictObject compared.Same tokens = tokens ≡ object (bool_member (codes "same") true)
  IsVerdictObject (compared.Differ input) tokens = (found found_by_other : Finding) × (tokens ≡ difference_object input.items found found_by_other)
  IsVerdictObject compared.OtherMode tokens = tokens ≡ object (bool_member (codes "same") false ++ (mode_member (codes "old") one.utf8 ++ mode_member (codes "new") other.utf8))

  -- The text is the line of JSON with the verdict.
  abbrev pub IsVerdictRecord : Compared → List ℕ → Type 0
  IsVerdictRecord verdict text = (tokens : List Token) × IsVerdictObject verdict tokens × AreLines (tokens ∷ []) text

  -- The line of the verdict was appended.
  abbrev pub PutsVerdict : Compared → LinesValue → LinesValue → Type 0
  PutsVerdict verdict old new = (tokens : List Token) × IsVerdictObject verdict tokens × Puts (tokens ∷ []) old new

  module _ (path other_path : List ℕ) where
    -- The verdict as lines of text: that the lexers are the same; an input on which they differ, in
    -- quotes, and after it their findings there; or the kinds of inputs that they read.
    abbrev pub IsVerdictText : Compared → List ℕ → Type 0
    IsVerdictText compared.Same text = text ≡ codes "the same lexer\n"
    IsVerdictText (compared.Differ input) text = (findings : List ℕ) × (text ≡ difference_line input.items ++ findings)
    IsVerdictText compared.OtherMode text = text ≡ mode_line path one.utf8 ++ mode_line other_path other.utf8

    -- The lines of the verdict were appended.
    abbrev pub ShowsVerdictText : Compared → PageValue → PageValue → Type 0
    ShowsVerdictText verdict old new = (text : List ℕ) × IsVerdictText verdict text × Gains text old new

    -- The verdict, as JSON or as text.
    abbrev pub ShowsVerdict : Bool → Compared → List ℕ → Type 0
    ShowsVerdict true verdict text = IsVerdictRecord verdict text
    ShowsVerdict false verdict text = IsVerdictText verdict text

    -- The two lexers, which the files at these paths have, were compared, and the verdict was
    -- written to standard output, as JSON or as text.
    pub record PrintsVerdict (is_json : Bool) (agreement : Agreement) (old new : Option (List ℕ)) : Type 0 where
      pub verdict : Compared
      pub is : IsCompared one other verdict
      pub agrees : agreement ≡ agreement_of verdict
      pub text : List ℕ
      pub shows : ShowsVerdict is_json verdict text
      pub printed : Appends old new text
