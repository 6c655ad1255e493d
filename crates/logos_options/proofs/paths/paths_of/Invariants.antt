use Rattle.std.proofs.Common.{◌≡◌, ◌++◌, map, drop, string_bytes}
use Rattle.logos_options.specs.Paths.{paths_from, paths_of, texts_of}
use Rattle.logos_options.proofs.paths.paths_of.Given as goal

-- The paths in the remaining arguments complete those that were found.
abbrev pub invariant-loop-word : goal.invariant-loop-word
invariant-loop-word l = texts_of l.paths.items ++ paths_from l.progress (map string_bytes (drop l.word-index l.arguments)) ≡ paths_of (map string_bytes l.arguments)
