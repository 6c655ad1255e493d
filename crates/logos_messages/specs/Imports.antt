-- Definitions that contracts cite: those of lower crates, and those of this crate that name none of
-- its types.
pub use Rattle.json.specs.Token.{begin_array, begin_object, boolean, end_array, end_object, key, null, number, string}
pub use Rattle.logos_json.specs.Lines.{Gains}
pub use Rattle.logos_json.specs.Members.{list_member}
pub use Rattle.logos_report.specs.Faults.{fault_texts, left_out, rest_line}
pub use Rattle.logos_report.specs.Reports.{InReport}
pub use Rattle.logos_report.specs.Parts.{all_faults, listed_faults}
pub use Rattle.logos_report.specs.Warnings.{shown_of, warning_texts}
pub use Rattle.logos_token.specs.FaultNames.{name_of}
pub use Rattle.logos_token.specs.FaultView.{fault_of, faults_of}
pub use Rattle.logos_messages.specs.Growing.{YieldsLineList, YieldsLines, YieldsMessage, YieldsNoteList, YieldsNotes, YieldsOther, YieldsSpan, YieldsSpanList}
pub use Rattle.logos_messages.specs.Messages.{AreMessages, AreRefusedMessages, PutsAfter, PutsCounted, PutsFault, PutsFrom, PutsRest}
pub use Rattle.logos_messages.specs.Shown.{HasLongLine, IsLongAt, first_column, last_column}
pub use Rattle.logos_messages.specs.Tokens.{bytes_tokens, code_member, error_tokens, fault_head, head_tokens, label_tokens, left_out_tokens, level_of, marked_tokens, message_tokens, note_tokens, nothing_tokens, locations_tokens, warning_head}
pub use Rattle.logos_messages.specs.Warnings.{AreWarnings, PutsWarning, PutsWarnings}
