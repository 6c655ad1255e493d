-- Definitions that contracts cite: those of `Imports`, and those that name types of this crate.
pub use Rattle.logos_type_reader.specs.Imports.{IsRestOf, TokenList, Tree, also, closing, count_of, depth, inside_of, none, opening, rest_of, run_span, sign, sign_of, still, still_run, still_token, tokens_of, tree_of, trees, type_tree}
pub use Rattle.logos_type_reader.specs.FaultStages.{FaultStage, IsAt, SameSign}
pub use Rattle.logos_type_reader.specs.Reading.{IsMove, IsType, NoType, after_type, next_of}
pub use Rattle.logos_type_reader.specs.ReadingViews.{YieldsMove, YieldsParts, IfFault, IsFirst, IsStep, fault_of, outside_of, spot_of}
pub use Rattle.logos_type_reader.specs.Table.{Fault, Spot, after_bound, after_for, argued, argument_end_move, argument_word, arguments_move, needs, begin, begins_arrow, begins_bound, begins_colons, begins_dots, begins_mark, begins_parenthesis, bound_end_move, bound_lifetime_move, bound_move, braced_move, closes, colons_move, constrained_move, element_end_move, enclosed_end_move, equals_move, extern_move, first_span, for_end_move, for_lifetime_move, for_list_move, for_move, function_move, further_move, continues, input_end_move, inputs_move, is_reserved, keeps, keeps_type, length_move, lifetime_move, linked_move, list_end_move, list_move, macro_move, mark_first, mismatches, name_end, name_of, named_move, nests, next_at, one_taken_move, opens, outer, output_move, path_move, pointer_move, qualified_move, question_move, reference_first, reference_lifetime_first, referent_move, segments_move, self_closed_move, self_end_move, self_trait_end_move, taken_move, taken_value, to, too_deep, trait_move, typed_move, typing, unsafe_move, variadic_end_move, variadic_move, word_first, word_stage}
pub use Rattle.logos_type_reader.specs.TypeExprs.{IsTypeExpr, NoTypeExpr}
pub use Rattle.logos_type_reader.specs.Written.{Ending, Written, may_follow}
pub use Rattle.logos_type_reader.specs.declared.reader.TypeFault.TheVariants.{Memory}
pub use Rattle.logos_type_reader.specs.declared.table.stage.PathKind.TheVariants.{OfBound}
pub use Rattle.logos_type_reader.specs.inside.Actions.{IsAction, IsStart, Looks, acts, after_lead, begins_word, begun, first_text, is_in_bounds, lead_sign, opens_first, opens_type}
