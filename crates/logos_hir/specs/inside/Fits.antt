-- The classes that the branches of an alternation can become.
use Rattle.std.specs.Prelude.{ℕ, Bool, is_some, List, Option}
use Rattle.std.specs.List.{list_all}
use Rattle.logos_hir.specs.declared.builder.branches.Fits.{Fits}
use Rattle.logos_hir.specs.Tree.{Tree}
use Rattle.logos_hir.specs.Build.{char_ranges_of, byte_ranges_of}

-- Each tree has ranges.
abbrev pub all_have : (Tree → Option (List (ℕ × ℕ))) → List Tree → Bool
all_have ranges_of ts = list_all (λ t. is_some (ranges_of t)) ts

-- The classes that the branches fit.
abbrev pub fits_of : List Tree → Fits
fits_of ts = record { chars = all_have char_ranges_of ts; bytes = all_have byte_ranges_of ts }
