-- The text of the faults of a whole file, part by part.
use Rattle.std.specs.Prelude.{ℕ, Bool, List, [], ◌∷◌, ◌++◌, drop, take}
use Rattle.std.specs.List.{flat_map}
use Rattle.logos_token.specs.Faults.{Fault}
use Rattle.logos_token.specs.FaultView.{faults_of}
use Rattle.logos_report.specs.declared.file_report.FaultListing.{FaultListing}
use Rattle.logos_report.specs.declared.file_report.Refused.{Refused}
use Rattle.logos_report.specs.Faults.{texts_after}
use Rattle.logos_report.specs.Locations.{SourceValue}
use Rattle.logos_report.specs.Sets.{first_faults, sizes_of, starts_of}

-- All faults of these parts of a file, in order.
abbrev pub all_faults : List Refused → List Fault
all_faults parts = flat_map (λ part. part.errors) parts

-- All faults of a part and of those around it, in order.
abbrev pub listed_faults : FaultListing → List Fault
listed_faults listing = all_faults listing.earlier.now ++ (faults_of listing.faults.now ++ all_faults listing.later.now)

-- The texts of the faults of a part. `all` are the faults of all parts, and `front` those of the
-- parts before it.
abbrev pub part_texts : Bool → SourceValue → List Fault → List Fault → Refused → List (List ℕ)
part_texts is_colored source all front part = texts_after is_colored source part.offset (starts_of part.clues) all front (first_faults (sizes_of part.clues)) part.errors

-- The texts of the faults of several parts, one after another.
abbrev pub parts_texts : Bool → SourceValue → List Fault → List Fault → List Refused → List (List ℕ)
parts_texts is_colored source all front [] = []
parts_texts is_colored source all front (part ∷ rest) = part_texts is_colored source all front part ++ parts_texts is_colored source all (front ++ part.errors) rest

-- The texts of the faults of all parts of a file, in order: at most 50 of one code, and the number
-- of the others.
abbrev pub refused_texts : Bool → SourceValue → List Refused → List (List ℕ)
refused_texts is_colored source parts = parts_texts is_colored source (all_faults parts) [] parts

-- The texts of the faults of the parts, beginning with the part `number`.
abbrev pub texts_from : Bool → SourceValue → List Refused → ℕ → List (List ℕ)
texts_from is_colored source parts number = parts_texts is_colored source (all_faults parts) (all_faults (take number parts)) (drop number parts)
