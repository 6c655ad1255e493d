-- The destination of an enum's state diagram, as lists of bytes.
use Rattle.std.specs.Prelude.{◌++◌, ℕ, List, Option, Some, None, if◌then◌else◌, map, bytes_eq, codes}
use Rattle.std.specs.Char.{to_ascii_lowercase}
use Rattle.std.specs.Path.{dot, parent_dir, rsplit_once, extension_of_split, with_separator}
use Rattle.logos_host.specs.Paths.{file_name}
use Rattle.logos_commands.specs.declared.refusals.ExportRefusal.{ExportRefusal}
use Rattle.logos_commands.specs.declared.refusals.ExportRefusal.TheVariants.{NoPath, Dot, Extension}

-- The destination of a diagram: the file at this path, or none, since its path is refused.
pub data Destination : Type 0 where
  file_at : (path : List ℕ) → Destination
  refused : (why : ExportRefusal) → Destination

-- The part after the last dot of a name, if that is not its first byte; `..` has no extension.
abbrev pub extension : List ℕ → Option (List ℕ)
extension name = if bytes_eq name parent_dir then None else extension_of_split (rsplit_once dot name)

-- The file of a diagram in a folder: the enum's name, with its ASCII letters in lower case.
abbrev pub file_in : List ℕ → List ℕ → List ℕ
file_in folder name = with_separator folder ++ (map to_ascii_lowercase name ++ codes ".mmd")

-- The reason that a path with this extension, which is not `mmd`, is refused.
abbrev pub refusal_by : List ℕ → ExportRefusal
refusal_by extension = if bytes_eq extension (codes "dot") then Dot else Extension

-- The destination of a diagram for a path with this extension. A path without one is that of a
-- folder.
abbrev pub destination_by : Option (List ℕ) → List ℕ → List ℕ → Destination
destination_by None path name = file_at (file_in path name)
destination_by (Some extension) path name =
    if bytes_eq extension (codes "mmd") then file_at path else refused (refusal_by extension)

-- The destination of the diagram of an enum of this name, for the path of a file or of a folder.
abbrev pub destination : List ℕ → List ℕ → Destination
destination path name = destination_by (extension (file_name path)) path name

-- The destination of a diagram for the export path of a source, if it has one.
abbrev pub export_destination : Option (List ℕ) → List ℕ → Destination
export_destination None name = refused NoPath
export_destination (Some path) name = destination path name
