-- Definitions that contracts cite: those of `Imports`, and those that name types of this crate.
pub use Rattle.logos_generator.specs.Imports.{IsCodable, bit_tables_of, code_leaf_value, graph_state_of, leaf_value, left_out, ranges_of, state_number}
pub use Rattle.logos_generator.specs.NodeCalls.{Continues, MakesFork, MakesLoop, MakesLoopOver}
