use Rattle.std.proofs.Common.{◌≡◌, drop}
use Rattle.std.specs.List.{list_all}
use Rattle.logos_leaf.specs.subpattern.Substitution.{is_word}
use Rattle.logos_leaf.proofs.subpattern.are_words.Given as goal

abbrev pub invariant-loop-byte : goal.invariant-loop-byte
invariant-loop-byte l = list_all is_word l.bytes ≡ list_all is_word (drop l.byte-index l.bytes)
