-- A text with parts of it replaced.
use Rattle.std.specs.Prelude.{◌≤◌, ◌<◌, IsCharBoundary, ℕ, List, [], ◌∷◌, ◌++◌, length, slice_range, string_bytes}
use Rattle.logos_lexeme.specs.declared.lexeme.Span.{Span}
use Rattle.logos_rust_file.specs.declared.finder.FoundEnum.{FoundEnum}
use Rattle.logos_rust_file.specs.declared.replacement.Replacement.{Replacement}

-- The spans are nonempty and lie between two offsets, in order and without overlap.
abbrev pub AreInOrder : ℕ → List Span → ℕ → Type 0
AreInOrder from [] to = from ≤ to
AreInOrder from (span ∷ rest) to = (from ≤ span.from) × (span.from < span.to) × AreInOrder span.to rest to

-- The span of an enum.
abbrev pub found_span : FoundEnum → Span
found_span found = found.span

-- The span of a part.
abbrev pub part_span : Replacement → Span
part_span replacement = replacement.span

-- The text from an offset on, with these parts replaced.
abbrev pub replaced : List ℕ → ℕ → List Replacement → List ℕ
replaced text from [] = slice_range text from (length text)
replaced text from (one ∷ rest) = slice_range text from one.span.from ++ (string_bytes one.text ++ replaced text one.span.to rest)

-- A span begins and ends between characters.
abbrev pub IsCut : List ℕ → Span → Type 0
IsCut text span = IsCharBoundary text span.from × IsCharBoundary text span.to

-- An enum begins and ends between characters.
abbrev pub IsFoundCut : List ℕ → FoundEnum → Type 0
IsFoundCut text found = IsCut text found.span
