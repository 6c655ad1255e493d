-- Leaves that differ only in the spans of the names of their variants have the same rules, the same
-- faults and tokens of the same kinds.
use Rattle.std.proofs.Common.{◌≡◌, ℕ, Bool, true, false, not, List, [], ◌∷◌, ◌++◌, map, flat_map, codes, Option, Some, None, is_some, refl, sym, ◌∙◌, ap, if◌then◌else◌}
use Rattle.logos_token.specs.declared.error.fault_code.FaultCode.TheVariants.{Utf8Pattern}
use Rattle.logos_token.specs.Faults.{Fault as SourceFault}
use Rattle.logos_type.specs.Parts.{Tree as TypeTree}
use Rattle.logos_hir.specs.Measure.{is_text}
use Rattle.logos_enum.specs.Values.{Slice}
use Rattle.logos_pattern.specs.Leaf.{KindValue, plain, holding, skipped}
use Rattle.logos_attribute.specs.Reports.{fault, only}
use Rattle.logos_automaton.specs.Munch.{Rule}
use Rattle.logos_leaf.specs.Leaves.{LeafView}
use Rattle.logos_leaf.proofs.agreement.Leaves.{ShownKind, Shown, shown_kind, shown}
use Rattle.logos_parser.specs.Utf8Faults.{kind_name, leaf_faults, utf8_faults}
use Rattle.logos_parser.proofs.ModeLemmas.{text_by}
use Rattle.logos_codegen.specs.Rules.{skips, rule_of_view, rules_of_views}
use Rattle.logos_codegen.specs.Tokenizing.{kind_named, kind_given, kinds_of_views}
use Rattle.logos_codegen.specs.declared.expr.ExprKind.{ExprKind}
use Rattle.logos_codegen.specs.declared.expr.ExprKind.TheVariants.{Close}

abbrev rule_shown : Shown → Rule
rule_shown s = record { tree = s.0.tree; priority = s.0.priority; use_of = record { skips = not (is_some s.1); calls_back = is_some s.0.callback } }

skips_shown : (kind : KindValue) → skips kind ≡ not (is_some (shown_kind kind))
skips_shown (plain name) = refl
skips_shown (holding name type) = refl
skips_shown skipped = refl

rule_is_shown : (leaf : LeafView) → rule_of_view leaf ≡ rule_shown (shown leaf)
rule_is_shown leaf = ap (λ (b : Bool). record { tree = leaf.tree; priority = leaf.priority; use_of = record { skips = b; calls_back = is_some leaf.callback } }) (skips_shown leaf.kind)

rules_shown : (leaves : List LeafView) → rules_of_views leaves ≡ map rule_shown (map shown leaves)
rules_shown [] = refl
rules_shown (leaf ∷ leaves) = rw (rule_is_shown leaf, rules_shown leaves) refl

-- leaves that are shown alike have the same rules
pub same_rules : (leaves others : List LeafView) → map shown leaves ≡ map shown others → rules_of_views leaves ≡ rules_of_views others
same_rules leaves others e = rules_shown leaves ∙ ap (map rule_shown) e ∙ sym (rules_shown others)

abbrev name_typed : Slice → Option TypeTree → List ℕ
name_typed name None = codes "::" ++ name.text
name_typed name (Some type) = codes "::" ++ name.text ++ codes "(_)"

abbrev name_shown : ShownKind → List ℕ
name_shown None = codes "::<skip>"
name_shown (Some p) = name_typed p.0 p.1

names_shown : (kind : KindValue) → kind_name kind ≡ name_shown (shown_kind kind)
names_shown (plain name) = refl
names_shown (holding name type) = refl
names_shown skipped = refl

abbrev faults_shown : Shown → List SourceFault
faults_shown s = if is_text s.0.tree then [] else only (fault Utf8Pattern (text_by s.0.source (name_shown s.1)) s.0.span)

fault_is_shown : (leaf : LeafView) → leaf_faults leaf ≡ faults_shown (shown leaf)
fault_is_shown leaf = ap (λ (name : List ℕ). if is_text leaf.tree then [] else only (fault Utf8Pattern (text_by leaf.source name) leaf.span)) (names_shown leaf.kind)

all_shown : (leaves : List LeafView) → flat_map leaf_faults leaves ≡ flat_map faults_shown (map shown leaves)
all_shown [] = refl
all_shown (leaf ∷ leaves) = ap (λ (xs : List SourceFault). xs ++ flat_map leaf_faults leaves) (fault_is_shown leaf) ∙ ap (λ (xs : List SourceFault). faults_shown (shown leaf) ++ xs) (all_shown leaves)

-- leaves that are shown alike have the same faults in UTF-8 mode
pub same_faults : (mode : Bool) (leaves others : List LeafView) → map shown leaves ≡ map shown others → utf8_faults mode leaves ≡ utf8_faults mode others
same_faults false leaves others e = refl
same_faults true leaves others e = all_shown leaves ∙ ap (flat_map faults_shown) e ∙ sym (all_shown others)

-- the kind of the tokens of a leaf that is shown so
abbrev kind_shown : ShownKind → ExprKind
kind_shown None = Close
kind_shown (Some p) = kind_named p.0.text

kind_is_shown : (kind : KindValue) → kind_given kind ≡ kind_shown (shown_kind kind)
kind_is_shown (plain name) = refl
kind_is_shown (holding name type) = refl
kind_is_shown skipped = refl

kinds_shown : (leaves : List LeafView) → kinds_of_views leaves ≡ map (λ (s : Shown). kind_shown s.1) (map shown leaves)
kinds_shown [] = refl
kinds_shown (leaf ∷ leaves) = rw (kind_is_shown leaf.kind, kinds_shown leaves) refl

-- leaves that are shown alike give tokens of the same kinds
pub same_kinds : (leaves others : List LeafView) → map shown leaves ≡ map shown others → kinds_of_views leaves ≡ kinds_of_views others
same_kinds leaves others e = kinds_shown leaves ∙ ap (map (λ (s : Shown). kind_shown s.1)) e ∙ sym (kinds_shown others)
