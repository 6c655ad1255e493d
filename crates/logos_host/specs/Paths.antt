-- The paths of files, as lists of bytes.
use Rattle.std.specs.Prelude.{ℕ, List, Option, Some, None}
use Rattle.std.specs.Path.{slash, rsplit_once}

-- The name at the end of a path, from its split at its last slash: the part after it, or the whole
-- path if it has no slash.
abbrev pub name_of_split : List ℕ → Option (List ℕ × List ℕ) → List ℕ
name_of_split path None = path
name_of_split path (Some split) = split.1

-- The name at the end of a path.
abbrev pub file_name : List ℕ → List ℕ
file_name path = name_of_split path (rsplit_once slash path)
