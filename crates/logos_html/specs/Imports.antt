-- Definitions that contracts cite: those of lower crates, and those of this crate.
pub use Rattle.logos_automaton.specs.Automaton.{dfa_next}
pub use Rattle.logos_automaton.specs.DfaView.{dfa_of}
pub use Rattle.logos_automaton.specs.Faults.{AllStart}
pub use Rattle.logos_graph.specs.GraphOf.{IsGraphOf}
pub use Rattle.logos_graph.specs.View.{rules_of}
pub use Rattle.logos_hir.specs.Text.{IsBytes}
pub use Rattle.logos_host.specs.Failures.{IsNoMisuse}
pub use Rattle.logos_page.specs.Pages.{Gains}
pub use Rattle.logos_page.specs.Shown.{shown_text}
pub use Rattle.logos_html.specs.Escapes.{ReadsAs, escaped_char, escaped_line_char, escaped_lines, escaped_text, line_end, shown_lines}
pub use Rattle.logos_html.specs.Flows.{byte_escape, flowing_byte, flowing_bytes, flowing_char, flowing_others, flowing_text, hex_digit}
pub use Rattle.logos_html.specs.inside.Enough.{IsDead, IsEnough}
