-- The core patterns of rules.
use Rattle.std.specs.Prelude.{Bool, List, [], ◌∷◌}
use Rattle.std.specs.List.{list_any}
use Rattle.logos_positions.specs.Core.{Core, IsFree}
use Rattle.logos_positions.specs.IsCore.{IsCoreOf}
use Rattle.logos_automaton.specs.Munch.{Rule}
use Rattle.logos_positions.specs.Positions.{has_look}

-- Each pattern is the core pattern of the tree of its rule.
abbrev pub AreRuleCores : List Rule → List Core → Type 0
AreRuleCores [] [] = Unit {0}
AreRuleCores [] (t ∷ ts) = ⊥
AreRuleCores (rule ∷ rules) [] = ⊥
AreRuleCores (rule ∷ rules) (t ∷ ts) = IsCoreOf rule.tree t × AreRuleCores rules ts

-- No pattern has a look-around assertion.
abbrev pub AreFree : List Core → Type 0
AreFree [] = Unit {0}
AreFree (t ∷ ts) = IsFree t × AreFree ts

-- Some tree has a look-around assertion.
abbrev pub some_look : List Rule → Bool
some_look rules = list_any (λ rule. has_look rule.tree) rules
