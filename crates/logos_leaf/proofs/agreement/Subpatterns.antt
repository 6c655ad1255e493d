-- Texts that are read as patterns, and subpatterns that are read without a fault.
use Rattle.std.proofs.Common.{◌≡◌, ℕ, List, [], ◌++◌, Bool, true, false, Option, Some, None, ◌∙◌, ap, sym, refl, arith, subst, chars, if◌then◌else◌}
use Rattle.logos_token.specs.Faults.{Fault}
use Rattle.logos_hir.specs.Tree.{Tree}
use Rattle.logos_syntax.specs.Grammar.{first_flags}
use Rattle.logos_syntax.proofs.patterns.Texts.{one}
use Rattle.logos_attribute.specs.Literals.{NamedLiteral}
use Rattle.logos_attribute.specs.Reports.{Report, with_faults, and_then, only}
use Rattle.logos_leaf.specs.subpattern.PatternFaults.{Reading, spelled, broken, too_deep, Reads}
use Rattle.logos_leaf.specs.subpattern.Substitution.{Stored}
use Rattle.logos_leaf.specs.subpattern.Subpatterns.{is_name, subpattern_name, test_report, text_report, reading_report, IsAdded, AreAdded, ended, further}
use Rattle.logos_leaf.proofs.agreement.Report.{Grows, Agree, grows_same, grows_then, report_grows, none_before, none_added, report_once, no_front, no_after}

-- a text that spells a tree is read so alone
pub reading_once : (unicode ignore_case : Bool) (text : List ℕ) (tree : Tree) (other : Reading) → Reads unicode ignore_case text (spelled tree) → Reads unicode ignore_case text other → spelled tree ≡ other
reading_once unicode ignore_case text tree (spelled other) (d, l, s) (e, m, t) = ap (λ (x : Tree). spelled x) (one (first_flags unicode ignore_case) text tree other d e s t).0
reading_once unicode ignore_case text tree (broken kind detail) (d, l, s) h = absurd (h.unspelled d (tree, s))
reading_once unicode ignore_case text tree too_deep (d, l, s) h = absurd (let k = h.deeper d (tree, s) in omega (arith, l, k))

module _ (utf8_mode : Bool) (sub : NamedLiteral) (names : List Stored) where
  abbrev TestedAs : List ℕ → Reading → Type 0
  TestedAs text reading = Reads true false (chars text) reading

  tested_same : (text : List ℕ) (reading other : Reading) → (reading_report utf8_mode sub text names reading).faults ≡ [] → TestedAs text reading → TestedAs text other →
      reading_report utf8_mode sub text names reading ≡ reading_report utf8_mode sub text names other
  tested_same text (spelled tree) other e r s = ap (λ (x : Reading). reading_report utf8_mode sub text names x) (reading_once true false (chars text) tree other r s)
  tested_same text (broken kind at) other e r s = absurd (no_front _ [] e)
  tested_same text too_deep other e r s = absurd (no_front _ [] e)

  text_same : (text : Option (List ℕ)) (reading other : Reading) → (text_report utf8_mode reading sub names text).faults ≡ [] → ((t : List ℕ) → text ≡ Some t → TestedAs t reading) →
      ((t : List ℕ) → text ≡ Some t → TestedAs t other) → text_report utf8_mode reading sub names text ≡ text_report utf8_mode other sub names text
  text_same None reading other e r s = refl
  text_same (Some text) reading other e r s = tested_same text reading other e (r text refl) (s text refl)

  -- the added subpattern, whether the name is that one or not
  abbrev report_by : Bool → Reading → Report (List Stored)
  report_by named reading = if named then and_then (test_report sub names) (text_report utf8_mode reading sub names) else with_faults names (only (subpattern_name sub.name))

  abbrev text_by : Bool → Option (List ℕ)
  text_by named = if named then (test_report sub names).value else None

  report_same : (named : Bool) (reading other : Reading) → (report_by named reading).faults ≡ [] → ((t : List ℕ) → text_by named ≡ Some t → TestedAs t reading) →
      ((t : List ℕ) → text_by named ≡ Some t → TestedAs t other) → report_by named reading ≡ report_by named other
  report_same false reading other e r s = refl
  report_same true reading other e r s =
      ap (λ (x : Report (List Stored)). with_faults x.value ((test_report sub names).faults ++ x.faults))
      (text_same (test_report sub names).value reading other (no_after (test_report sub names).faults (text_report utf8_mode reading sub names (test_report sub names).value).faults e) r s)

  added_once : {after other : List Stored} {old new old' new' : List Fault} → new ≡ [] → IsAdded utf8_mode sub names after old new → IsAdded utf8_mode sub names other old' new' →
      Agree after other old' new'
  added_once {old = old} n a b = report_once old (report_same (is_name sub.name.text) a.reading b.reading (none_added old a.reports.1 n) a.reads b.reads) n a.reports b.reports

pub are_added_grow : {utf8_mode : Bool} {list : List NamedLiteral} {before after : List Stored} {old new : List Fault} → AreAdded utf8_mode list before after old new → Grows old new
are_added_grow ended = grows_same refl
are_added_grow (further a rest) = grows_then (report_grows _ a.reports) (are_added_grow rest)

pub are_added_once : {utf8_mode : Bool} {list : List NamedLiteral} {before after before' after' : List Stored} {old new old' new' : List Fault} → before ≡ before' → new ≡ [] →
    AreAdded utf8_mode list before after old new → AreAdded utf8_mode list before' after' old' new' → Agree after after' old' new'
are_added_once e n ended ended = (refl, e)
are_added_once {utf8_mode} {before = before} e n (further {sub = sub} a rest) (further {middle = m} {old = l} {now = k} b others) =
    let h = added_once utf8_mode sub before (none_before (are_added_grow rest) n) a (subst (λ (x : List Stored). IsAdded utf8_mode sub x m l k) (sym e) b) in
    let j = are_added_once h.1 n rest others in (j.0 ∙ h.0, j.1)
