-- Definitions that contracts cite: those of `Imports`, and those that name types of this crate.
pub use Rattle.logos_type_params.specs.Imports.{IfDeep, IfFault, IsTypeExpr, NoTypeExpr, Tree, exceeds, name, run_span, sign_of, tokens_of, tree_of, trees, type_tree, whole}
pub use Rattle.logos_type_params.specs.Generics.{and_fault, and_type, between_brackets, concrete_types, generics, generics_of, missing_types, no_concrete_type, type_at, type_of}
pub use Rattle.logos_type_params.specs.SelfFaults.{AreChecked}
pub use Rattle.logos_type_params.specs.SelfReference.{Leads, names, texts}
pub use Rattle.logos_type_params.specs.Substitution.{After, AllAfter, Params, Passes, SomePasses, given, given_first, given_type, param_value, set_sign}
pub use Rattle.logos_type_params.specs.TypeParams.{IsSet, ReadsValue, Value, about, about_with, former, given_faults, given_more, given_of, limit_type_nesting, many_lifetimes, named_of, own_lifetime, previous, type_nesting_text, type_syntax, value_of, with_lifetime, with_lifetimes}
pub use Rattle.logos_type_params.specs.WrittenTypes.{AreHeld, GetsType, params_with, types_of}
pub use Rattle.logos_type_params.specs.inside.Chains.{AreMarked, AreReached, Reaches}
pub use Rattle.logos_type_params.specs.inside.Checks.{NeedsName, ChecksName, CopiesName}
pub use Rattle.logos_type_params.specs.inside.Given.{params_of}
