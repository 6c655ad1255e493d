-- The preconditions on trees before states are built.
use Rattle.std.specs.Prelude.{◌≡◌, ◌<◌, ◌^◌, false, List, map}
use Rattle.logos_automaton.specs.Rules.{AreFree}
use Rattle.logos_automaton.specs.inside.Alike.{AreKindBytes}
use Rattle.logos_automaton.specs.inside.Steps.{AreCached}
use Rattle.logos_automaton.specs.declared.cache.StepCache.{StepCache}
use Rattle.logos_automaton.specs.declared.trees.Trees.{Trees}
use Rattle.logos_positions.specs.Core.{Core}
use Rattle.logos_positions.specs.Node.{core_of, AreMeasured}
use Rattle.logos_positions.specs.Run.{width_of}
use Rattle.logos_positions.specs.Several.{AreStarts}

-- The core patterns of the trees.
abbrev pub cores_of : Trees → List Core
cores_of trees = map core_of trees.nodes.now

-- The positions of the trees are numbered, and the values that are computed from the trees are
-- correct.
pub record IsPrepared (trees : Trees) : Type 0 where
  pub fits : width_of (cores_of trees) < 2 ^ 64
  pub measured : AreMeasured trees.nodes.now
  pub starts : AreStarts trees.nodes.now trees.starts.now
  pub free : trees.looks ≡ false → AreFree (cores_of trees)
  pub kinds : AreKindBytes trees.kinds.now

-- The steps in the cache are steps of the trees.
abbrev pub IsCacheOf : Trees → StepCache → Type 0
IsCacheOf trees cache = AreCached trees.nodes.now trees.starts.now cache.states.keys cache.steps.items
