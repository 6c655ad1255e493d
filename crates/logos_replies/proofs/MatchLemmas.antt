-- The lines about the matches from a point, and those around them.
use Rattle.std.proofs.Common.{◌≡◌, ◌∙◌, ℕ, Bool, List, [], ◌++◌, Option, Result, Ok, Err, OnOk, IsTrue, ap, subst}
use Rattle.std.specs.Io.KnownBytes.{Appends}
use Rattle.logos_answers.specs.Matches.{ShowsMatches}
use Rattle.logos_answers.specs.Offsets.{IsOffsetOf}
use Rattle.logos_attempts.specs.Around.{IsAroundText}
use Rattle.logos_attempts.specs.Partials.{IsPartialText}
use Rattle.logos_code.specs.Code.{CodeValue}
use Rattle.logos_lines.specs.declared.location.Location.{Location}
use Rattle.logos_page.proofs.PageLemmas.{gains_then}
use Rattle.logos_page.specs.Pages.{Gains, PageValue}
use Rattle.logos_pattern.specs.declared.leaf.Leaf.{Leaf}
use Rattle.logos_replies.specs.Answers.{PrintsMatches, location_line}

module _ (leaves : List Leaf) (code : CodeValue) (input : List ℕ) (location : Location) (from : ℕ) (at : IsOffsetOf input location from) where
  -- a page that gained these lines, printed
  pub matches_printed : {G S B : Type 0} (named : List Leaf) → named ≡ leaves → (first around placed listed last : PageValue) → first.text ≡ [] →
      ((text : List ℕ) × IsAroundText code named input from text × Gains text first around) → Gains (location_line location) around placed → (G → S → B → ShowsMatches leaves input from placed listed) →
      ((text : List ℕ) × IsPartialText leaves input from code text × Gains text listed last) → IsTrue last.is_whole → (bytes : List ℕ) → bytes ≡ last.text → (old new : Option (List ℕ)) →
      {T E : Type 0} (result : Result T E) → OnOk result (Appends old new bytes) → OnOk result (G → S → B → PrintsMatches leaves code input location old new)
  matches_printed named same first around placed listed last empty a l m r whole bytes is old new (Ok x) h = λ of_leaves starts are.
      let shows = m of_leaves starts are in
      let gained = gains_then a.2 (gains_then l (gains_then shows.gained r.2)) in
      let whole_text = (gained.whole whole).1 in
      record {
        from = from;
        at = at;
        matches = shows.matches;
        all = shows.all;
        text = shows.text;
        lines = shows.lines;
        around = a.0;
        found = subst (λ ls. IsAroundText code ls input from a.0) same a.1;
        partial = r.0;
        reads = r.1;
        printed = subst (λ text. Appends old new text) (is ∙ whole_text ∙ ap (λ text. text ++ (a.0 ++ (location_line location ++ (shows.text ++ r.0)))) empty) h;
      }
  matches_printed named same first around placed listed last empty a l m r whole bytes is old new (Err e) h = tt
