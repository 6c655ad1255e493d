-- Definitions that contracts cite: those of lower crates, and those of this crate that name none of
-- its types.
pub use Rattle.logos_automaton.specs.Faults.{AllStart}
pub use Rattle.logos_evidence.specs.Losses.{IsShortestLoss, NeverLoses}
pub use Rattle.logos_graph.specs.GraphOf.{IsGraphOf}
pub use Rattle.logos_graph.specs.View.{rules_of}
pub use Rattle.logos_hir.specs.Text.{IsBytes}
pub use Rattle.logos_page.specs.Pages.{Gains}
pub use Rattle.std.specs.List.{flat_map}
pub use Rattle.logos_answers.specs.Counts.{CountsItem, code_variant, count_line, ends_text, next_shares_variant, is_same_name, line_after, lines_from, one_more, sum_after, time_line, title_line, totals_text, variant_line, variant_lines}
pub use Rattle.logos_answers.specs.Differences.{difference_line, mode_line}
pub use Rattle.logos_answers.specs.Expecting.{IsLineStart, ShowsAgreement, line_text, timeless}
pub use Rattle.logos_answers.specs.Inputs.{ShowsInputs, input_line}
pub use Rattle.logos_answers.specs.Matches.{IsVerdict, ShowsFirst, ShowsMatches, bytes_between, extent_text, first_text, has_rival, leaf_head, length_text, line_or_none, lines_of, longest_from, match_line, reason, winner_text}
pub use Rattle.logos_answers.specs.Names.{leaf_name, leaf_text, name_at, variant_name, variant_text}
pub use Rattle.logos_answers.specs.Offsets.{IsOffsetOf}
pub use Rattle.logos_answers.specs.Quoting.{continues, quoted}
pub use Rattle.logos_answers.specs.inside.Numbers.{AreDistinct, AreNumbers, Grows, IsNumberOf}
