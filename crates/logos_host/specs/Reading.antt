-- The results of reads: `yields` relates the files before a read, the path, the bytes that are
-- read, and the files after it.
use Rattle.std.specs.Prelude.{ℕ, List}

-- A file is read, and `Holds` holds of its bytes and of the files after the read.
pub record Reads {F : Type 0} (yields : F → List ℕ → List ℕ → F → Type 0) (files : F) (path : List ℕ) (Holds : List ℕ → F → Type 0) : Type 0 where
  pub bytes : List ℕ
  pub after : F
  pub given : yields files path bytes after
  pub holds : Holds bytes after
