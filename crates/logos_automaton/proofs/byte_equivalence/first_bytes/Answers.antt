use Rattle.std.proofs.Common.{◌≡◌, ◌+◌, ◌≤◌, length, arith}
use Rattle.logos_automaton.proofs.keys.AlikeLemmas.{suffices_first, suffices_alike, suffices_pass, suffices_last}
use Rattle.logos_positions.proofs.steps.SeveralLemmas.{next_measured, start_fits}
use Rattle.logos_automaton.proofs.byte_equivalence.first_bytes.Goals as goal

pub mark_tree-requires-clause-fits : goal.mark_tree-requires-clause-fits
mark_tree-requires-clause-fits c =
    let p = c.requires.prepared in
    let fits = start_fits c.args.trees.now.nodes.now c.args.trees.now.starts.now p.starts c.loop-number.number c.index-nodes-number.result c.loop-number-test.true c.index-nodes-number.is in
    omega (arith, fits, p.fits)

pub mark_tree-requires-clause-measured : goal.mark_tree-requires-clause-measured
mark_tree-requires-clause-measured c = next_measured c.args.trees.now.nodes.now c.loop-number.number c.index-nodes-number.result c.loop-number-test.true c.index-nodes-number.is c.requires.prepared.measured

pub loop-number-init : goal.loop-number-init
loop-number-init c =
    let n = c.next_tree-number.ensures in
    let nodes = c.args.trees.now.nodes.now in
    let within : c.next_tree-number.result ≤ length nodes = omega (arith, n.bound, c.requires.prepared.starts.count) in
    record {
      within = within;
      kinds = c.first_by_kind-first.ensures;
      alike = λ b lt unmarked.
          suffices_pass nodes c.args.trees.now.starts.now c.requires.prepared.starts c.args.marks.now b (b + 1) c.args.entered 0 c.next_tree-number.result n.after within n.stays n.unmarked
          (suffices_first nodes c.args.trees.now.starts.now c.requires.prepared.starts c.args.marks.now b (b + 1) c.args.entered);
    }

pub loop-number-preserved : goal.loop-number-preserved
loop-number-preserved c =
    let n = c.next_tree-number-in-loop-number.ensures in
    let i = c.loop-number.invariant in
    let nodes = c.args.trees.now.nodes.now in
    let starts = c.args.trees.now.starts.now in
    let within : c.next_tree-number-in-loop-number.result ≤ length nodes = omega (arith, n.bound, c.requires.prepared.starts.count) in
    record {
      within = within;
      kinds = λ b lt unmarked. i.kinds b lt (c.mark_tree.ensures b lt unmarked).0;
      alike = λ b lt unmarked.
          let added = c.mark_tree.ensures b lt unmarked in
          suffices_pass nodes starts c.requires.prepared.starts c.args.marks.now b (b + 1) c.args.entered (c.loop-number.number + 1) c.next_tree-number-in-loop-number.result n.after within n.stays n.unmarked
          (suffices_alike nodes starts c.requires.prepared.starts c.args.marks.now b (b + 1) c.args.entered c.loop-number.number c.index-nodes-number.result c.loop-number-test.true c.index-nodes-number.is
          added.1.0 added.1.1 (i.alike b lt added.0));
    }

pub returns : goal.returns
returns c = λ b lt unmarked.
    let i = c.loop-number.invariant in
    let all : c.loop-number.number ≡ length c.args.trees.now.nodes.now = omega (arith, i.within, c.loop-number-test.false) in (
      suffices_last c.args.trees.now.nodes.now c.args.trees.now.starts.now c.requires.prepared.starts c.args.marks.now b (b + 1) c.args.entered c.loop-number.number all (i.alike b lt unmarked),
      i.kinds b lt unmarked,
    )
