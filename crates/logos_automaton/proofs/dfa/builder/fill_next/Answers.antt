use Rattle.std.proofs.Common.{◌≡◌, ℕ, ◌<◌, ◌≤◌, Bool, List, length, slice_index, subst, sym, arith}
use Rattle.logos_positions.specs.Core.{Core}
use Rattle.logos_automaton.specs.inside.Prepared.{cores_of}
use Rattle.logos_automaton.specs.Keys.{IsRow, EndsIn, LeadsTo}
use Rattle.logos_automaton.specs.declared.key.Key.{Key}
use Rattle.logos_automaton.proofs.runs.BuildingLemmas.{next_underway}
use Rattle.logos_automaton.proofs.runs.DfaLemmas.{at_within}
use Rattle.logos_automaton.proofs.dfa.builder.fill_next.Goals as goal

-- a row with the same targets is the row too
row_alike : (ts : List Core) (looks : Bool) (ks : List Key) (i : ℕ) (row other : List ℕ) → ((x : ℕ) → x < 256 → slice_index other x ≡ slice_index row x) →
    IsRow ts looks ks i row 256 → IsRow ts looks ks i other 256
row_alike ts looks ks i row other same all = λ x lt. subst (λ t. LeadsTo ts looks ks i x t) (sym (same x lt)) (all x lt)

pub narrowed-requires : goal.narrowed-requires
narrowed-requires c = λ byte lt.
    let leads = c.in_ok-row.ensures.row byte lt in
    let within = at_within c.row_of.new.states.keys (slice_index c.in_ok-row.row byte) leads.to leads.to_is in
    let longer = (c.in_ok-end.ensures.extends c.args.trees.now.looks).longer in
    let few : length c.end_after.new.states.keys ≤ 65536 = omega arith in
    omega (arith, within, longer, few)

pub returns-clause-underway : goal.returns-clause-underway
returns-clause-underway c =
    let ts = cores_of c.args.trees.now in
    let u = c.requires.underway in
    let few : length c.end_after.new.states.keys ≤ 65536 = omega arith in
    let left : length c.args.rows.now.items < length c.args.states.now.keys = omega arith in
    let here : c.len-state.result ≡ length c.args.rows.now.items = omega arith in
    rw (c.in_ok-push.ensures.items, c.in_ok-push-2.ensures.items)
    (next_underway ts c.args.trees.now.looks c.args.states.now.keys c.row_of.new.states.keys c.end_after.new.states.keys c.args.rows.now.items c.args.ends.now.items c.narrowed.result c.in_ok-end.end 257 1
    u c.in_ok-row.ensures.extends (c.in_ok-end.ensures.extends c.args.trees.now.looks) few left c.narrowed.ensures.wide
    (subst (λ k. IsRow ts c.args.trees.now.looks c.row_of.new.states.keys k c.narrowed.result 256) here
    (row_alike ts c.args.trees.now.looks c.row_of.new.states.keys c.len-state.result c.in_ok-row.row c.narrowed.result c.narrowed.ensures.same c.in_ok-row.ensures.row))
    (subst (λ k. EndsIn ts c.end_after.new.states.keys k c.in_ok-end.end) here c.in_ok-end.ensures.ends))

pub end_after-requires-clause-leads : goal.end_after-requires-clause-leads
end_after-requires-clause-leads c = c.in_ok-row.ensures.row 0 (omega arith)
