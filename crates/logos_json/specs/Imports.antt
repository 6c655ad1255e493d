-- Definitions that contracts cite: those of lower crates, and those of this crate that name none of
-- its types.
pub use Rattle.std.specs.List.{flat_map}
pub use Rattle.json.specs.Token.{begin_array, begin_object, boolean, end_array, end_object, key, null, number, string}
pub use Rattle.logos_json.specs.Lines.{Ends, Finishes, Gains}
pub use Rattle.logos_json.specs.Members.{bool_member, byte_tokens, bytes_member, list_member, maybe_bytes, maybe_number, maybe_text, null_member, number_member, text_member}
