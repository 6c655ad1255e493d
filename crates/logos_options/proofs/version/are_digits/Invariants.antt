use Rattle.std.proofs.Common.{◌≡◌, drop}
use Rattle.std.specs.List.{list_all}
use Rattle.logos_options.specs.Commits.{is_hex_digit}
use Rattle.logos_options.proofs.version.are_digits.Given as goal

-- the bytes that are left decide
abbrev pub invariant-loop-byte : goal.invariant-loop-byte
invariant-loop-byte l = list_all is_hex_digit (drop l.byte-index l.bytes) ≡ list_all is_hex_digit l.bytes
