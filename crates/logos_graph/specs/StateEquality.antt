-- The equality `==` of states, which ignores the states that lead to them.
use Rattle.std.specs.Prelude.{Bool}
use Rattle.std.specs.Cmp.{IsPartialEquivalence, on_per, and_per, partial_equiv_from_equiv}
use Rattle.std.specs.Cmp.Lexicographic.{pointwise, lists_per, options_equiv}
use Rattle.std.specs.Option.{option_eq}
use Rattle.std.specs.Ordering.{on, eq_of_both}
use Rattle.logos_byte_class.specs.contracts.byte_class.ByteClassPartialEq.TheImpl as class_eq
use Rattle.logos_byte_class.specs.contracts.byte_class.ByteClassPartialEq.TheImpl.Laws as class_laws
use Rattle.logos_graph.specs.contracts.graph.StatePartialEq.TheImpl as number_eq
use Rattle.logos_graph.specs.contracts.graph.StateEq.TheImpl.Laws as number_laws
use Rattle.logos_graph.specs.contracts.graph.StateTypePartialEq.TheImpl as type_eq
use Rattle.logos_graph.specs.contracts.graph.StateTypePartialEq.TheImpl.Laws as type_laws
use Rattle.logos_byte_class.specs.declared.byte_class.ByteClass.{ByteClass}
use Rattle.logos_graph.specs.declared.graph.State.{State}
use Rattle.logos_graph.specs.declared.graph.StateData.{StateData}

-- The same bytes lead to the same state.
abbrev pub same_edge : ByteClass × State → ByteClass × State → Bool
same_edge = eq_of_both (on (λ edge. edge.0) (class_eq.ghosts).eq) (on (λ edge. edge.1) (number_eq.ghosts).eq)

-- The states have the same type, the same edges and the same target of the end.
abbrev pub same_state : StateData → StateData → Bool
same_state =
    eq_of_both (on (λ state. state.state_type) (type_eq.ghosts).eq)
    (eq_of_both (on (λ state. state.normal.items) (pointwise same_edge)) (on (λ state. state.eoi) (option_eq (number_eq.ghosts).eq)))

-- The equality is symmetric and transitive.
pub same_state_laws : IsPartialEquivalence same_state
same_state_laws =
    and_per (on_per (λ (state : StateData). state.state_type) type_laws.laws-law)
    (and_per
    (on_per (λ (state : StateData). state.normal.items)
    (lists_per (and_per (on_per (λ (edge : ByteClass × State). edge.0) class_laws.laws-law) (on_per (λ (edge : ByteClass × State). edge.1) (partial_equiv_from_equiv number_laws.laws-law)))))
    (on_per (λ (state : StateData). state.eoi) (partial_equiv_from_equiv (options_equiv number_laws.laws-law))))
