-- The views of a subpattern in contracts.
use Rattle.std.specs.Prelude.{string_bytes}
use Rattle.logos_leaf.specs.declared.subpattern.Subpattern.{Subpattern}
use Rattle.logos_leaf.specs.subpattern.Substitution.{Stored}

-- A subpattern as stored under its name.
abbrev pub stored_of : Subpattern → Stored
stored_of s = record { name = s.name.text.now; span = s.name.span; text = string_bytes s.pattern }
