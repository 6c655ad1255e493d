-- The paths of enums in a file.
use Rattle.std.specs.Prelude.{◌≡◌, ◌++◌, IsCharBoundary, ℕ, List, [], Option, Some, None, codes, drop, take}
use Rattle.logos_lexeme.specs.declared.lexeme.Span.{Span}
use Rattle.logos_rust_file.specs.declared.finder.FoundEnum.{FoundEnum}

-- `name` is the name of an enum in a text: the text at its span, if that begins and ends between
-- characters. It is empty if the enum has none.
abbrev pub IsNameAt : List ℕ → Option Span → List ℕ → Type 0
IsNameAt text None name = name ≡ []
IsNameAt text (Some span) name = IsCharBoundary text span.to → IsCharBoundary (take span.to text) span.from → name ≡ drop span.from (take span.to text)

-- `path` is a path of an enum in a text: the names of modules, which are not determined here, and
-- the name of the enum.
pub record IsPathOf (text : List ℕ) (found : FoundEnum) (path : List ℕ) : Type 0 where
  pub modules : List ℕ
  pub name : List ℕ
  pub is_name : IsNameAt text found.name name
  pub is : path ≡ modules ++ name

-- A path ends with a shorter one.
abbrev pub EndsWithPath : List ℕ → List ℕ → Type 0
EndsWithPath path end = (front : List ℕ) × (path ≡ front ++ (codes "::" ++ end))
