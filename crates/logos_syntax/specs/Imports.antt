-- Definitions that contracts cite: those of lower crates, and those of this crate that name none of
-- its types.
pub use Rattle.logos_hir.specs.Hir.{pairs, tree_of}
pub use Rattle.logos_hir.specs.Operands.{combination}
pub use Rattle.logos_hir.specs.RangeSets.{set_of}
pub use Rattle.logos_hir.specs.Sets.{in_range, members, only_chars, union}
pub use Rattle.logos_hir.specs.Simplest.{simplest_tree}
pub use Rattle.logos_hir.specs.Tree.{Tree, literal}
pub use Rattle.logos_pattern_tokens.specs.Flags.{flags_after}
pub use Rattle.logos_pattern_tokens.specs.Token.{Text, atom, bracketed, closes, opening_view, opens, repeats, sets, token_view}
pub use Rattle.logos_pattern_tokens.specs.bracket.Form.{Bracket}
pub use Rattle.logos_pattern_tokens.specs.bracket.Spelling.{code_of}
pub use Rattle.logos_pattern_tokens.specs.declared.token.Flags.{Flags}
pub use Rattle.std.specs.List.{list_any}
pub use Rattle.logos_syntax.specs.Grammar.{IsFound, Refuses, Spells, atom_fits, atom_tree, byte_tree, captures, character_tree, dot_set, end_look, group_tree, is_greedy, one_of, same_as, start_look}
pub use Rattle.logos_syntax.specs.Limits.{pattern_nesting}
pub use Rattle.logos_syntax.specs.Nesting.{IsTooDeep}
pub use Rattle.logos_syntax.specs.Written.{inner_flags}
pub use Rattle.logos_syntax.specs.bracket.Meaning.{bracket_depth, bracket_set, case_closure, is_negated, item_fits, item_set, item_test, last_of, lead_set, set_or_complement, symbol_fits}
pub use Rattle.logos_syntax.specs.inside.BracketStack.{fresh_frame, value, whole}
pub use Rattle.logos_syntax.specs.inside.Groups.{Group, State, all_branches, all_parts, fresh, next_branch, put, repeat, set, start, step, whole_tree}
