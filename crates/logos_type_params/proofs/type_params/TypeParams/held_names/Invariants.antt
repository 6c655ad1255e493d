use Rattle.std.proofs.Common.{map, drop}
use Rattle.logos_type_params.specs.Substitution.{param_value}
use Rattle.logos_type_params.specs.SelfReference.{texts}
use Rattle.logos_type_params.specs.WrittenTypes.{given_names}
use Rattle.logos_type_params.proofs.HeldLemmas.{Needing}
use Rattle.logos_type_params.proofs.type_params.TypeParams.held_names.Given as goal

abbrev pub invariant-loop-at : goal.invariant-loop-at
invariant-loop-at l = Needing (map param_value l.fn.self.types.entries.items) (given_names (map param_value (drop l.at l.fn.self.types.entries.items))) (texts l.held.keys)
