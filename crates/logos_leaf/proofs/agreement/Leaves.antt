-- Leaves that are made without a fault.
use Rattle.std.proofs.Common.{◌≡◌, ℕ, List, [], ◌++◌, Bool, true, false, Option, Some, None, ◌∙◌, ap, refl, chars, if◌then◌else◌}
use Rattle.std.specs.Prelude.{option_map}
use Rattle.logos_token.specs.Faults.{Fault}
use Rattle.logos_type.specs.Parts.{Tree as TypeTree}
use Rattle.logos_hir.specs.Hir.{literal_tree}
use Rattle.logos_hir.specs.Tree.{Tree}
use Rattle.logos_enum.specs.Values.{Slice, ident_slice}
use Rattle.logos_pattern.specs.Leaf.{KindValue, plain, holding, skipped}
use Rattle.logos_attribute.specs.Reports.{Report, with_faults, without_faults, map_report}
use Rattle.logos_definition.specs.Definitions.{DefinitionView}
use Rattle.logos_leaf.specs.subpattern.PatternFaults.{Reading, spelled, broken, too_deep, Reads}
use Rattle.logos_leaf.specs.subpattern.Substitution.{Stored}
use Rattle.logos_leaf.specs.Leaves.{LeafView, bytes_of, is_string, escaped_of, leaf_with, token_priority, token_leaf, folded_report, IsTokenLeaf, greedy_faults, fitted_report, regex_priority, tree_report, reading_report, text_report, whole_report, regex_report, IsRegexLeaf}
use Rattle.logos_leaf.proofs.agreement.Report.{Agree, none_added, report_once, no_front, no_after}
use Rattle.logos_leaf.proofs.agreement.Subpatterns.{reading_once}

-- the result of a match: the name of a variant by its text and span, and its type
abbrev pub ShownKind : Type 0
ShownKind = Option (Slice × Option TypeTree)

abbrev pub shown_kind : KindValue → ShownKind
shown_kind kind = elim kind [ plain name ↦ Some (ident_slice name, None) | holding name type ↦ Some (ident_slice name, Some type) | skipped ↦ None ]

-- a leaf without its kind, and its kind
abbrev pub Shown : Type 0
Shown = LeafView × ShownKind

abbrev pub shown : LeafView → Shown
shown leaf = (record leaf { kind = skipped }, shown_kind leaf.kind)

abbrev pub shown_report : Report (Option LeafView) → Report (Option Shown)
shown_report report = map_report (option_map shown) report

module _ (d : DefinitionView) (kind other : KindValue) (alike : shown_kind kind ≡ shown_kind other) where
  leaf_alike : (is_token : Bool) (tree : Tree) (priority : ℕ) → shown (leaf_with is_token d kind tree priority) ≡ shown (leaf_with is_token d other tree priority)
  leaf_alike is_token tree priority = ap (λ (x : ShownKind). go x) alike
    where
      go : ShownKind → Shown
      go x = (leaf_with is_token d skipped tree priority, x)

  quiet_alike : (is_token : Bool) (tree : Tree) (priority : ℕ) → shown_report (without_faults (Some (leaf_with is_token d kind tree priority))) ≡ shown_report (without_faults (Some (leaf_with is_token d other tree priority)))
  quiet_alike is_token tree priority = ap (λ (x : Shown). without_faults (Some x)) (leaf_alike is_token tree priority)

  -- ---- `token`

  folded_same : (text : List ℕ) (unicode : Bool) (reading another : Reading) → (folded_report d kind reading).faults ≡ [] → Reads unicode true text reading → Reads unicode true text another →
      shown_report (folded_report d kind reading) ≡ shown_report (folded_report d other another)
  folded_same text unicode (spelled tree) another e r s =
      quiet_alike true tree (token_priority d) ∙ ap (λ (x : Reading). shown_report (folded_report d other x)) (reading_once unicode true text tree another r s)
  folded_same text unicode (broken what at) another e r s = absurd (no_front _ [] e)
  folded_same text unicode too_deep another e r s = absurd (no_front _ [] e)

  -- the report of a token, where letters match in either case or not
  abbrev token_by : Bool → KindValue → Reading → Report (Option LeafView)
  token_by folded k reading = if folded then folded_report d k reading else without_faults (Some (token_leaf d k (literal_tree (bytes_of d.literal.held))))

  abbrev ReadAs : Reading → Type 0
  ReadAs reading = Reads (is_string d.literal.held) true (chars (escaped_of d.literal.held)) reading

  token_same : (folded : Bool) (reading another : Reading) → (token_by folded kind reading).faults ≡ [] → (folded ≡ true → ReadAs reading) → (folded ≡ true → ReadAs another) →
      shown_report (token_by folded kind reading) ≡ shown_report (token_by folded other another)
  token_same true reading another e r s = folded_same (chars (escaped_of d.literal.held)) (is_string d.literal.held) reading another e (r refl) (s refl)
  token_same false reading another e r s = quiet_alike true (literal_tree (bytes_of d.literal.held)) (token_priority d)

  pub token_once : {leaf leaf' : Option LeafView} {old new old' new' : List Fault} → new ≡ [] → IsTokenLeaf d kind leaf old new → IsTokenLeaf d other leaf' old' new' →
      Agree (option_map shown leaf) (option_map shown leaf') old' new'
  token_once {old = old} n a b = report_once old (token_same d.ignore_case a.reading b.reading (none_added old a.reports.1 n) a.reads b.reads) n (ap (option_map shown) a.reports.0, a.reports.1) (ap (option_map shown) b.reports.0, b.reports.1)

  -- ---- `regex` and `skip`

  fitted_alike : (tree : Tree) (priority : Option ℕ) → shown_report (fitted_report d kind tree priority) ≡ shown_report (fitted_report d other tree priority)
  fitted_alike tree None = refl
  fitted_alike tree (Some priority) = quiet_alike false tree priority

  tree_alike : (tree : Tree) → shown_report (tree_report d kind tree) ≡ shown_report (tree_report d other tree)
  tree_alike tree = ap (λ (x : Report (Option Shown)). with_faults x.value (greedy_faults d tree ++ x.faults)) (fitted_alike tree (regex_priority d tree))

  whole_same : (text : List ℕ) (unicode ignore_case : Bool) (reading another : Reading) → (reading_report d kind reading).faults ≡ [] → Reads unicode ignore_case text reading →
      Reads unicode ignore_case text another → shown_report (reading_report d kind reading) ≡ shown_report (reading_report d other another)
  whole_same text unicode ignore_case (spelled tree) another e r s =
      tree_alike tree ∙ ap (λ (x : Reading). shown_report (reading_report d other x)) (reading_once unicode ignore_case text tree another r s)
  whole_same text unicode ignore_case (broken what at) another e r s = absurd (no_front _ [] e)
  whole_same text unicode ignore_case too_deep another e r s = absurd (no_front _ [] e)

  abbrev TextReadAs : Option (List ℕ) → Reading → Type 0
  TextReadAs text reading = (t : List ℕ) → text ≡ Some t → Reads (is_string d.literal.held) d.ignore_case (chars t) reading

  text_same : (text : Option (List ℕ)) (reading another : Reading) → (text_report d kind reading text).faults ≡ [] → TextReadAs text reading → TextReadAs text another →
      shown_report (text_report d kind reading text) ≡ shown_report (text_report d other another text)
  text_same None reading another e r s = refl
  text_same (Some text) reading another e r s = whole_same (chars text) (is_string d.literal.held) d.ignore_case reading another e (r text refl) (s text refl)

  regex_same : (names : List Stored) (reading another : Reading) → (regex_report d kind names reading).faults ≡ [] → TextReadAs (whole_report d names).value reading →
      TextReadAs (whole_report d names).value another → shown_report (regex_report d kind names reading) ≡ shown_report (regex_report d other names another)
  regex_same names reading another e r s =
      ap (λ (x : Report (Option Shown)). with_faults x.value ((whole_report d names).faults ++ x.faults))
      (text_same (whole_report d names).value reading another (no_after (whole_report d names).faults (text_report d kind reading (whole_report d names).value).faults e) r s)

  pub regex_once : {names : List Stored} {leaf leaf' : Option LeafView} {old new old' new' : List Fault} → new ≡ [] → IsRegexLeaf d kind names leaf old new →
      IsRegexLeaf d other names leaf' old' new' → Agree (option_map shown leaf) (option_map shown leaf') old' new'
  regex_once {names} {old = old} n a b = report_once old (regex_same names a.reading b.reading (none_added old a.reports.1 n) a.reads b.reads) n (ap (option_map shown) a.reports.0, a.reports.1) (ap (option_map shown) b.reports.0, b.reports.1)
