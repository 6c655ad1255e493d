use Rattle.std.proofs.Common.{◌≡◌, map, length, arith, Vec, Global, ℕ}
use Rattle.logos_type_params.specs.Substitution.{param_value}
use Rattle.logos_type_params.proofs.ChainLemmas.{marked_by, as_many}
use Rattle.logos_type_params.proofs.self_reference.Chains.new.Goals as goal

pub invariant_of-result : goal.invariant_of-result
invariant_of-result c =
    let many : length c.in_ok-lists.lists.items ≡ length c.args.types.now.entries.items = as_many c.args.types.now.entries.items (λ (list : Vec ℕ Global). list.items) c.in_ok-lists.lists.items c.in_ok-lists.ensures in
    let marks = c.in_ok-held.ensures.length in
    let lists = c.as_slice.ensures.len in
    record { fits = omega (arith, many, marks, lists) }

pub returns-clause-marks : goal.returns-clause-marks
returns-clause-marks c =
    marked_by (map param_value c.args.types.now.entries.items) (λ (list : Vec ℕ Global). list.items) c.in_ok-lists.lists.items c.in_ok-lists.ensures c.in_ok-held.held.items
    (rw c.as_slice.ensures.value at c.in_ok-held.ensures.marks)
