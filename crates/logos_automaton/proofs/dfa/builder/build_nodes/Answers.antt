use Rattle.std.proofs.Common.{◌≡◌, ℕ, Bool, List, length, map, subst, ◌∙◌, arith}
use Rattle.logos_automaton.specs.Building.{IsUnderway}
use Rattle.logos_automaton.specs.Keys.{AreRows, IsBuilt}
use Rattle.logos_automaton.specs.declared.key.Key.{Key}
use Rattle.logos_positions.specs.Core.{Core}
use Rattle.logos_positions.specs.Node.{core_of}
use Rattle.logos_automaton.proofs.runs.BuildingLemmas.{start_there, rows_wide, rows_within, ends_within}
use Rattle.logos_automaton.proofs.runs.ReachLemmas.{all_reachable}
use Rattle.logos_automaton.proofs.dfa.builder.build_nodes.Goals as goal

built : (ts : List Core) (looks : Bool) (ks : List Key) (rows : List (List ℕ)) (ends : List ℕ) → IsUnderway ts looks ks rows ends → length rows ≡ length ks → IsBuilt ts looks 0 ks rows ends
built ts looks ks rows ends u full = record {
  start_is = u.start_is;
  rows_count = full;
  ends_count = u.ends_count ∙ full;
  rows_are = subst (AreRows ts looks ks rows ends) full u.rows_are;
}

pub loop-trees-init : goal.loop-trees-init
loop-trees-init c = record {
  cached = c.new-cache.ensures _ _;
  underway = rw (c.new-rows.ensures.items, c.new-ends.ensures.items) (c.in_ok-states.ensures c.args.looks (map core_of c.args.nodes.now));
}

pub invariant_of-result : goal.invariant_of-result
invariant_of-result c =
    let ts = map core_of c.args.nodes.now in
    let u = c.loop-trees.invariant.underway in
    let ks = c.loop-trees.states.keys in
    let rows = c.loop-trees.rows.items in
    let ends = c.loop-trees.ends.items in
    let e = c.in_ok-ordered.ensures in
    record {
      rows_there = rw e (omega (arith, u.within));
      ends_there = rw e (omega (arith, u.within, u.ends_count));
      start_there = rw e (start_there ts c.args.looks ks rows ends u);
      wide = rows_wide ts c.args.looks ks rows ends u;
      leads = rw e (rows_within ts c.args.looks ks rows ends u);
      ends_within = rw e (ends_within ts c.args.looks ks rows ends u);
      reached = rw e (all_reachable ts c.args.looks ks rows ends (built ts c.args.looks ks rows ends u (omega (arith, u.within))) u.distinct u.reached);
    }
