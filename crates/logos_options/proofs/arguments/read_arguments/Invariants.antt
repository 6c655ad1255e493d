use Rattle.std.proofs.Common.{◌≡◌, Some, map, drop, string_bytes}
use Rattle.logos_options.specs.Arguments.{with_arguments, nothing_given, arguments_value}
use Rattle.logos_options.proofs.arguments.read_arguments.Given as goal

-- The arguments that are left complete those that are read.
abbrev pub invariant-loop-word : goal.invariant-loop-word
invariant-loop-word l = with_arguments l.program (Some nothing_given) (map string_bytes l.arguments) ≡ with_arguments l.program (Some (arguments_value l.parsed)) (map string_bytes (drop l.word-index l.arguments))
