-- Definitions that contracts cite: those of lower crates, and those of this crate that name none of
-- its types.
pub use Rattle.logos_automaton.specs.DfaView.{dfa_of}
pub use Rattle.logos_automaton.specs.Faults.{AllStart}
pub use Rattle.logos_automaton.specs.inside.TopSets.{highest_of, top_of}
pub use Rattle.logos_byte_class.specs.Bytes.{has_byte}
pub use Rattle.logos_graph.specs.FinishedGraph.{IsFinished}
pub use Rattle.logos_graph.specs.GraphOf.{IsGraphOf}
pub use Rattle.logos_graph.specs.GraphView.{edge_of, graph_state_of}
pub use Rattle.logos_graph.specs.View.{rules_of}
pub use Rattle.logos_hir.specs.ByteRanges.{is_in}
pub use Rattle.logos_hir.specs.Text.{IsBytes}
pub use Rattle.std.specs.List.Sorted.{IsStrictlyIncreasing}
pub use Rattle.std.specs.List.{list_any}
pub use Rattle.logos_evidence.specs.Comparing.{FindTheSame, IsShortestDifference}
pub use Rattle.logos_evidence.specs.Covering.{AreCoveringInputs}
pub use Rattle.logos_evidence.specs.Examples.{HasNoExample, IsShortestExample}
pub use Rattle.logos_evidence.specs.Losses.{IsShortestLoss, NeverLoses}
pub use Rattle.logos_evidence.specs.Meetings.{IsShortestMeeting, NeverMeet}
pub use Rattle.logos_evidence.specs.inside.Machines.{edge_goal, edge_next, example_goal, example_next, loss_goal, loss_next, meeting_goal, meeting_next, pair_goal, pair_next}
pub use Rattle.logos_evidence.specs.inside.Shown.{shown}
