use Rattle.std.proofs.Common.{◌≡◌, drop}
use Rattle.logos_show.specs.Choices.{first_deriving}
use Rattle.logos_show.proofs.ChoiceLemmas.{first_of}
use Rattle.logos_show.proofs.choice.first_enum.Given as goal

-- the remaining enums complete the first one
abbrev pub invariant-loop-one : goal.invariant-loop-one
invariant-loop-one l = first_of l.choice.first (drop l.one-index l.found) ≡ first_deriving l.found
