-- The faults of leaves that can match invalid UTF-8, in UTF-8 mode.
use Rattle.std.specs.Prelude.{ℕ, Bool, true, false, List, [], ◌++◌, flat_map, codes, if◌then◌else◌}
use Rattle.logos_token.specs.declared.error.fault_code.FaultCode.TheVariants.{Utf8Pattern}
use Rattle.logos_token.specs.Faults.{Fault}
use Rattle.logos_hir.specs.Measure.{is_text}
use Rattle.logos_pattern.specs.Leaf.{KindValue, plain, holding, skipped}
use Rattle.logos_attribute.specs.Reports.{fault, only}
use Rattle.logos_leaf.specs.Leaves.{LeafView}

-- The variant of a leaf, as named in messages.
abbrev pub kind_name : KindValue → List ℕ
kind_name (plain name) = codes "::" ++ name.text.now
kind_name (holding name type) = codes "::" ++ name.text.now ++ codes "(_)"
kind_name skipped = codes "::<skip>"

-- The message for a leaf that can match invalid UTF-8.
abbrev pub utf8_text : LeafView → List ℕ
utf8_text leaf =
    codes "UTF-8 mode is requested, but the pattern " ++ leaf.source ++ codes " of variant `" ++ kind_name leaf.kind
    ++ codes "` can match invalid utf8.\nYou can disable UTF-8 mode with #[logos(utf8 = false)]"

-- The fault of a leaf that can match invalid UTF-8.
abbrev pub utf8_fault : LeafView → Fault
utf8_fault leaf = fault Utf8Pattern (utf8_text leaf) leaf.span

-- The fault of one leaf, if its tree can match invalid UTF-8.
abbrev pub leaf_faults : LeafView → List Fault
leaf_faults leaf = if is_text leaf.tree then [] else only (utf8_fault leaf)

-- The faults of all leaves whose trees can match invalid UTF-8, in UTF-8 mode.
abbrev pub utf8_faults : Bool → List LeafView → List Fault
utf8_faults false leaves = []
utf8_faults true leaves = flat_map leaf_faults leaves
