use Rattle.std.proofs.Common.{◌<◌, arith, length, false}
use Rattle.std.proofs.lemmas.List.{length-map, get_or_read}
use Rattle.logos_type_params.specs.cycles.inside.Memberships.{graph}
use Rattle.logos_type_params.proofs.cycles.WalkLemmas.{walk_begun, walk_on, walk_ends, walk_smaller, none_found, nil_if_empty}
use Rattle.logos_type_params.proofs.cycles.reference.leads_back.Goals as goal

pub loop-from-init : goal.loop-from-init
loop-from-init c =
    let lists = c.args.lists.now in
    let is = c.in_ok-vec.ensures.items_if_clones_equal (λ y e. e) in
    let long = c.in_ok-vec.ensures.len in
    let same = length-map lists (λ v. v.items) in
    walk_begun (graph lists) c.args.node c.in_ok-vec.field-0.items c.add_targets.new.traversal.found.items c.add_targets.new.traversal.waiting.items
    (omega (arith, long, same)) (λ node h. none_found c.in_ok-vec.field-0.items (length lists) node is h)
    (rw c.new.ensures.items at c.in_ok-add_targets.ensures)

pub loop-from-preserved : goal.loop-from-preserved
loop-from-preserved c =
    walk_on (graph c.args.lists.now) c.args.node c.in-Some.from c.loop-from.traversal.found.items c.add_targets-in-Some.new.traversal.found.items
    c.loop-from.traversal.waiting.items c.pop.new.self.items c.add_targets-in-Some.new.traversal.waiting.items
    c.in-Some.ensures.items c.loop-from.invariant c.in_ok-add_targets-2.ensures

pub loop-from-smaller : goal.loop-from-smaller
loop-from-smaller c =
    walk_smaller c.loop-from.traversal.found.items c.add_targets-in-Some.new.traversal.found.items
    c.loop-from.traversal.waiting.items c.pop.new.self.items c.add_targets-in-Some.new.traversal.waiting.items c.in-Some.from
    c.in-Some.ensures.items c.in_ok-add_targets-2.ensures.left

pub returns : goal.returns
returns c =
    let found = c.loop-from.traversal.found.items in
    let waiting = c.loop-from.traversal.waiting.items in
    let same = length-map c.args.lists.now (λ v. v.items) in
    let within = c.requires in
    let lt : c.args.node < length (graph c.args.lists.now) = omega (arith, within, same) in
    walk_ends (graph c.args.lists.now) c.args.node found waiting (nil_if_empty waiting (let e = c.in_default.ensures.cases in omega (arith, e))) c.loop-from.invariant
    lt c.index.result.now (get_or_read found c.args.node c.index.result.now (let l = c.loop-from.invariant.long in omega (arith, l, lt)) c.index.ensures false)
