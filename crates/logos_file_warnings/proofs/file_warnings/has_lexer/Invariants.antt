use Rattle.std.proofs.Common.{◌≡◌, drop}
use Rattle.logos_file_warnings.specs.Added.{has_lexer}
use Rattle.logos_file_warnings.proofs.file_warnings.has_lexer.Given as goal

abbrev pub invariant-loop-one : goal.invariant-loop-one
invariant-loop-one l = has_lexer (drop l.one-index l.found) ≡ has_lexer l.found
