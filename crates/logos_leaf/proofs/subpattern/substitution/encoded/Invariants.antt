use Rattle.std.proofs.Common.{◌≡◌, take, string_bytes}
use Rattle.logos_leaf.specs.subpattern.Substitution.{encoded}
use Rattle.logos_leaf.proofs.subpattern.substitution.encoded.Given as goal

abbrev pub invariant-loop-character : goal.invariant-loop-character
invariant-loop-character l = string_bytes l.text ≡ encoded (take l.character-index l.characters)
