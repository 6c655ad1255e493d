-- Definitions that contracts cite: those of `Imports`, and those that name types of this crate.
pub use Rattle.logos_automaton.specs.Imports.{All, AllStart, AreAmbiguous, AreFaults, AreFree, AreMeasured, ArePassable, AreRuleCores, AreTopSets, Ascends, Core, Has, IsFirstFrom, IsReachable, IsRising, IsTopIn, IsTopSet, IsTotal, Node, ReadsOneByteLate, YieldsFirstBy, byte_in, core_of, dfa_next, disambiguation, empty_match, highest_of, is_in, is_measured, item_count, kind_of_byte, pairs, priority_of, range_with_len, reader_of, size_of, spelled, top_of, width_of, with_priority}
pub use Rattle.logos_automaton.specs.Building.{FailsFor, FailsOn, IsUnderway}
pub use Rattle.logos_automaton.specs.DfaView.{dfa_of}
pub use Rattle.logos_automaton.specs.Errors.{fault_of, numbers}
pub use Rattle.logos_automaton.specs.Keys.{AreDistinct, AreFirstIn, AreReached, AreRising, EndsIn, Extends, Grows, IsAt, IsBuilt, IsRow, LeadsTo, state_of}
pub use Rattle.logos_automaton.specs.View.{rules_of}
pub use Rattle.logos_automaton.specs.Walks.{children_left, matches_left, states_left}
pub use Rattle.logos_automaton.specs.declared.trees.Trees.{Trees}
pub use Rattle.logos_automaton.specs.inside.Alike.{AreChangesOf, AreFirstBytes, AreFirstOf, AreKindBytes, GoesAlike, IsCopyAlike, MayLeave, MayPass, OpensAlike, SetsFlags}
pub use Rattle.logos_automaton.specs.inside.Prepared.{IsCacheOf, IsPrepared, cores_of}
pub use Rattle.logos_automaton.specs.inside.Steps.{AreAlmostCached, AreCached, AreLive, AreStepsFrom, Foresees, HasSteps, IsNotStart, IsTreeState, Keeps, MakesFrom, state_after, step_of, tree_view, view_of, viewed}
