-- The leaf of a definition, by the result of reading its text.
use Rattle.std.proofs.Common.{◌≡◌, ◌∙◌, ℕ, List, [], ◌++◌, Option, Some, None, refl, sym, ap, append-nil}
use Rattle.std.specs.Str.{chars}
use Rattle.logos_token.specs.Faults.{Fault}
use Rattle.logos_hir.specs.Tree.{Tree}
use Rattle.logos_pattern.specs.Leaf.{KindValue}
use Rattle.logos_attribute.specs.Reports.{Report, IsReport, and_then}
use Rattle.logos_definition.specs.Definitions.{DefinitionView}
use Rattle.logos_leaf.specs.subpattern.PatternFaults.{Reading, spelled, broken, too_deep, Reads, IsRead, tree_in, pattern_faults}
use Rattle.logos_leaf.specs.subpattern.Substitution.{Stored}
use Rattle.logos_leaf.specs.Leaves.{LeafView, is_string, greedy_faults, fitted_report, tree_report, reading_report, regex_priority, text_report, whole_report, IsRegexLeaf}
use Rattle.logos_leaf.specs.inside.Readings.{IsWholeLeaf}
use Rattle.logos_attribute.proofs.ReportLemmas.{listed_then, report_alone}

module _ (d : DefinitionView) (kind : KindValue) where
  -- a greedy dot is listed first
  pub fitted_is_report : (tree : Tree) (priority : Option ℕ) (leaf : Option LeafView) (old mid new : List Fault) → priority ≡ regex_priority d tree → mid ≡ old ++ greedy_faults d tree →
      IsReport (fitted_report d kind tree priority) leaf mid new → IsReport (tree_report d kind tree) leaf old new
  fitted_is_report tree priority leaf old mid new same greedy report =
      let value : leaf ≡ (fitted_report d kind tree priority).value = report.0 in (
        value ∙ ap (λ p. (fitted_report d kind tree p).value) same,
        listed_then old mid new (greedy_faults d tree) (fitted_report d kind tree (regex_priority d tree)).faults greedy
            (report.1 ∙ ap (λ p. mid ++ (fitted_report d kind tree p).faults) same),
      )

  module _ (text : List ℕ) where
    -- its text spells a tree
    pub spelled_whole : (tree : Tree) (leaf : Option LeafView) (old mid new : List Fault) → IsRead (is_string d.literal.held) d.ignore_case (chars text) d.literal.token.span (Some tree) old mid →
        IsReport (tree_report d kind tree) leaf mid new → IsWholeLeaf d kind text leaf old new
    spelled_whole tree leaf old mid new read report = go read.reading read.reads read.is_tree read.adds
      where
        go : (reading : Reading) → Reads (is_string d.literal.held) d.ignore_case (chars text) reading → Some tree ≡ tree_in reading → mid ≡ old ++ pattern_faults d.literal.token.span reading →
            IsWholeLeaf d kind text leaf old new
        go (spelled t) reads is lists =
            let same : tree ≡ t = cc in
            let here : mid ≡ old = lists ∙ append-nil old in
            record { reading = spelled t; reads = reads; reports = rw (same, here) at report }
        go (broken k at) reads is lists = absurd cc
        go too_deep reads is lists = absurd cc

    -- it spells none, which was reported
    pub unread_whole : (old new : List Fault) → IsRead (is_string d.literal.held) d.ignore_case (chars text) d.literal.token.span None old new → IsWholeLeaf d kind text None old new
    unread_whole old new read = go read.reading read.reads read.is_tree read.adds
      where
        go : (reading : Reading) → Reads (is_string d.literal.held) d.ignore_case (chars text) reading → None ≡ tree_in reading → new ≡ old ++ pattern_faults d.literal.token.span reading →
            IsWholeLeaf d kind text None old new
        go (spelled t) reads is lists = absurd cc
        go (broken k at) reads is lists = record { reading = broken k at; reads = reads; reports = (refl, lists) }
        go too_deep reads is lists = record { reading = too_deep; reads = reads; reports = (refl, lists) }

  module _ (names : List Stored) where
    -- all subpatterns are there
    pub whole_is_regex : (text : List ℕ) (leaf : Option LeafView) (old mid new : List Fault) → IsReport (whole_report d names) (Some text) old mid →
        IsWholeLeaf d kind text leaf mid new → IsRegexLeaf d kind names leaf old new
    whole_is_regex text leaf old mid new put whole =
        let value : Some text ≡ (whole_report d names).value = put.0 in
        let report = whole.reports in
        record {
          reading = whole.reading;
          reads = λ other e. (let same : text ≡ other = some_same (value ∙ e) in rw same at whole.reads);
          reports = by_report (whole_report d names) value put.1 report.0 report.1;
        }
      where
        some_same : {a b : List ℕ} → Some a ≡ Some b → a ≡ b
        some_same e = cc

        by_report : (report : Report (Option (List ℕ))) → Some text ≡ report.value → mid ≡ old ++ report.faults →
            leaf ≡ (reading_report d kind whole.reading).value → new ≡ mid ++ (reading_report d kind whole.reading).faults →
            IsReport (and_then report (text_report d kind whole.reading)) leaf old new
        by_report report e m is n = (
          is ∙ ap (λ t. (text_report d kind whole.reading t).value) e,
          listed_then old mid new report.faults (text_report d kind whole.reading report.value).faults m
              (n ∙ ap (λ t. mid ++ (text_report d kind whole.reading t).faults) e),
        )

    -- one is missing, which was reported
    pub missing_is_regex : (old new : List Fault) → IsReport (whole_report d names) None old new → IsRegexLeaf d kind names None old new
    missing_is_regex old new put =
        let value : None ≡ (whole_report d names).value = put.0 in
        record {
          reading = too_deep;
          reads = λ other e. absurd (some_none (value ∙ e));
          reports = by_report (whole_report d names) value put.1;
        }
      where
        some_none : {a : List ℕ} → None ≡ Some a → ⊥
        some_none e = cc

        by_report : (report : Report (Option (List ℕ))) → None ≡ report.value → new ≡ old ++ report.faults → IsReport (and_then report (text_report d kind too_deep)) None old new
        by_report report e n = (
          ap (λ t. (text_report d kind too_deep t).value) e,
          listed_then old new new report.faults (text_report d kind too_deep report.value).faults n
              (sym (append-nil new) ∙ ap (λ t. new ++ (text_report d kind too_deep t).faults) e),
        )

-- faults that are found alone, and are then appended to others
pub regex_alone : {d : DefinitionView} {kind : KindValue} {names : List Stored} {leaf : Option LeafView} (ahead none found all : List Fault) → none ≡ [] → IsRegexLeaf d kind names leaf none found →
    all ≡ ahead ++ found → IsRegexLeaf d kind names leaf ahead all
regex_alone ahead none found all n h e = record { reading = h.reading; reads = h.reads; reports = report_alone _ _ ahead none found all n h.reports e }
