-- The results of two worked graphs, by computing.
use Rattle.std.proofs.Common.{◌≡◌, List, [], ◌∷◌, Some, None, refl}
use Rattle.logos_graph.specs.Graph.{GraphState}
use Rattle.logos_graph.specs.inside.Walk.{last_mark, followed, edges_of}

-- `f(ee)?`: 0 (f to 1), 1 early(0) (e to 2), 2 (e to 3), 3 early(0)
abbrev fee : List GraphState
fee =
    record { state_type = record { accept = None; early = None }; normal = ((102, 102) ∷ [], 1) ∷ []; eoi = None }
    ∷ record { state_type = record { accept = None; early = Some 0 }; normal = ((101, 101) ∷ [], 2) ∷ []; eoi = None }
    ∷ record { state_type = record { accept = None; early = None }; normal = ((101, 101) ∷ [], 3) ∷ []; eoi = None }
    ∷ record { state_type = record { accept = None; early = Some 0 }; normal = []; eoi = None }
    ∷ []

fee_fe : last_mark (edges_of fee) 0 (102 ∷ 101 ∷ []) 0 None ≡ Some (0, 1)
fee_fe = refl

fee_fee : last_mark (edges_of fee) 0 (102 ∷ 101 ∷ 101 ∷ []) 0 None ≡ Some (0, 3)
fee_fee = refl

fee_e : last_mark (edges_of fee) 0 (101 ∷ []) 1 None ≡ None
fee_e = refl

fee_stop : followed (edges_of fee) 0 (101 ∷ []) ≡ 0
fee_stop = refl

-- `a*b`: 0 (a to 0, b to 1), 1 early(0)
abbrev ab : List GraphState
ab =
    record { state_type = record { accept = None; early = None }; normal = ((97, 97) ∷ [], 0) ∷ ((98, 98) ∷ [], 1) ∷ []; eoi = None }
    ∷ record { state_type = record { accept = None; early = Some 0 }; normal = []; eoi = None }
    ∷ []

ab_aaa : last_mark (edges_of ab) 0 (97 ∷ 97 ∷ 97 ∷ []) 0 None ≡ None
ab_aaa = refl

ab_stop : followed (edges_of ab) 0 (97 ∷ 97 ∷ 97 ∷ []) ≡ 3
ab_stop = refl

-- `a$`, marked late: 0 (a to 1), 1 (the end to 2), 2 late(0)
abbrev a_end : List GraphState
a_end =
    record { state_type = record { accept = None; early = None }; normal = ((97, 97) ∷ [], 1) ∷ []; eoi = None }
    ∷ record { state_type = record { accept = None; early = None }; normal = []; eoi = Some 2 }
    ∷ record { state_type = record { accept = Some 0; early = None }; normal = []; eoi = None }
    ∷ []

a_end_there : last_mark (edges_of a_end) 0 (97 ∷ []) 5 None ≡ Some (0, 6)
a_end_there = refl

a_end_on : last_mark (edges_of a_end) 0 (97 ∷ 98 ∷ []) 5 None ≡ None
a_end_on = refl
