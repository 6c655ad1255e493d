-- Definitions that contracts cite: those of `Imports`, and those that name types of this crate.
pub use Rattle.logos_token.specs.Imports.{EndsJoint, Holds, IsCharBoundary, IsNext, IsRestOf, IsRunOf, RunOccurs, Spells, SpellsAgain, TokenList, YieldsFirstBy, after_colon, after_path_mark, after_word, also, append, begins_with, bytes_of, closing_text, count_of, delimiter_limit, depth_of, encode_utf8, first_of, flat_map, gap_after, group, identifier, is_line_comment, is_path_mark, item_count, none, opening_text, print_part, printed, rest_of, run_span, source_limit, span_of}
pub use Rattle.logos_token.specs.FaultNames.{name_of}
pub use Rattle.logos_token.specs.FaultView.{fault_of, faults_of}
pub use Rattle.logos_token.specs.Faults.{Fault}
pub use Rattle.logos_token.specs.Flat.{IsFlat, flat_token, size_of, tokens_in, value_of}
pub use Rattle.logos_token.specs.Held.{held, held_value}
pub use Rattle.logos_token.specs.LiteralValues.{IsValue}
pub use Rattle.logos_token.specs.MaybePrinted.{maybe_printed}
pub use Rattle.logos_token.specs.Near.{IsNear}
pub use Rattle.logos_token.specs.PrinterViews.{printed_of}
pub use Rattle.logos_token.specs.Punctuation.{is_alone, unless_alone}
pub use Rattle.logos_token.specs.Refusals.{IsErrOf, IsRefusal, SpellsNothing}
pub use Rattle.logos_token.specs.Rendering.{rendered, rendered_fault}
pub use Rattle.logos_token.specs.Views.{inside_of, iter_rest, listed, stream_tokens, tokens_of, tree_of}
pub use Rattle.logos_token.specs.declared.token.reader.TokenError.TheVariants.{Memory}
pub use Rattle.logos_token.specs.inside.PrintingSteps.{LeavesFewer, PrintsOn, PrintsTree}
pub use Rattle.logos_token.specs.inside.Reading.{IsRead, ReadsOn, RefusesAt, RefusesAtEnd, SpellsAtEnd}
pub use Rattle.logos_token.specs.inside.ValueReads.{IsAdded, IsAscii, IsHeld, IsRest}
