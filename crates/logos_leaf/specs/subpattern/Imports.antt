-- Definitions that contracts cite: those of lower crates, and those of this crate that name none of
-- its types.
pub use Rattle.logos_attribute.specs.LiteralViews.{literal_view, named_literal_view}
pub use Rattle.logos_attribute.specs.Reports.{AddsFault, IsReport, fault, only}
pub use Rattle.logos_attribute.specs.Slices.{ident_slice}
pub use Rattle.logos_pattern.specs.Leaf.{is_token, pattern_tree, source_of}
pub use Rattle.logos_pattern.specs.Literals.{token_of}
pub use Rattle.logos_type_params.specs.TypeParams.{previous}
pub use Rattle.std.specs.List.{list_all}
pub use denote.Ref.{Bor}
pub use Rattle.logos_leaf.specs.subpattern.PatternFaults.{IsDetail, IsRead, byte_in, detail_kind, front_in, kind_name, regex_fault, regex_text}
pub use Rattle.logos_leaf.specs.subpattern.Subpatterns.{AreAdded, IsAdded, flags_of, is_name, pattern_text, put_stored, stored_report, subpattern_name, subpattern_twice, tested_report, utf8_subpattern, utf8_text, wrapped}
pub use Rattle.logos_leaf.specs.subpattern.Substitution.{closed, encoded, is_word, name_report, part_report, parts, reference, stored_at, subpattern_missing, subst_report, text_of, word_front, word_rest}
pub use Rattle.logos_leaf.specs.subpattern.inside.Errors.{ReportsError}
pub use Rattle.logos_leaf.specs.subpattern.inside.Slots.{FindSlots, slot_in}
pub use Rattle.logos_leaf.specs.subpattern.inside.Tests.{IsTested}
