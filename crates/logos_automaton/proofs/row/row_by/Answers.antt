use Rattle.std.proofs.Common.{rules, refl, set, replicate, ◌≡◌, ℕ, ◌+◌, ◌-◌, Bool, false, List, length-set, slice_index, slice_index_or, ◌∙◌, subst, arith}
use Rattle.logos_automaton.specs.Keys.{Grows, IsAt}
use Rattle.logos_automaton.specs.inside.Steps.{Foresees, state_after}
use Rattle.logos_automaton.specs.declared.cache.LiveTree.{LiveTree}
use Rattle.logos_automaton.specs.declared.key.Key.{Key}
use Rattle.logos_automaton.specs.declared.tree_steps.TreeSteps.{TreeSteps}
use Rattle.logos_positions.specs.Core.{Core}
use Rattle.logos_automaton.proofs.keys.TargetLemmas.{at_first, at_more, extends_both, extends_none}
use Rattle.logos_automaton.proofs.keys.TreeStepsLemmas.{if_known}
use Rattle.logos_automaton.proofs.row.row_by.Goals as goal

-- the states that the live trees determine, with more states
grown : {old new : List Key} (ts : List Core) (looks : Bool) (k : ℕ) (all : List TreeSteps) (lives : List LiveTree) → Grows old new → Foresees ts looks old k all lives →
    Foresees ts looks new k all lives
grown ts looks k all lives g h = record { from = h.from; from_is = g.keeps k h.from h.from_is; next = h.next }

pub known_or_target_by-requires-clause-known : goal.known_or_target_by-requires-clause-known
known_or_target_by-requires-clause-known c =
    let i = c.loop-byte.invariant in
    let byte = c.loop-byte.byte in
    let s = c.args.steps in
    let back : byte - 1 + 1 ≡ byte = omega (arith, c.loop-byte.auto.byte) in
    rw c.then_some-known.ensures
    (if_known (λ t. IsAt c.loop-byte.states.keys t (state_after s.looks s.steps.now s.lives.now byte)) (slice_index_or c.changes-first.result byte false) (slice_index c.loop-byte.row (byte - 1))
    (λ e. subst (λ k. IsAt c.loop-byte.states.keys (slice_index c.loop-byte.row (byte - 1)) (state_after s.looks s.steps.now s.lives.now k)) back
    (subst (IsAt c.loop-byte.states.keys (slice_index c.loop-byte.row (byte - 1))) (c.changes-first.ensures (byte - 1) (omega (arith, c.loop-byte-test.true, c.loop-byte.auto.byte)) (rw back e))
    (i.at (byte - 1) (omega (arith, c.loop-byte.auto.byte))))))

pub loop-byte-init : goal.loop-byte-init
loop-byte-init c =
    let s = c.args.steps in
    record {
      size = search rules;
      extends = λ ts k h. extends_none ts s.looks c.target_by.new.states.keys 1;
      grows = record { keeps = λ k t h. h };
      few = omega arith;
      at = at_first c.target_by.new.states.keys (set (replicate 256 0) 0 c.in_ok-row.field-0) (λ x. state_after s.looks s.steps.now s.lives.now x) c.in_ok-row.field-0 refl c.in_ok-row.ensures.at;
    }

pub loop-byte-preserved : goal.loop-byte-preserved
loop-byte-preserved c =
    let n = c.in_ok-row-2.ensures in
    let i = c.loop-byte.invariant in
    let s = c.args.steps in
    record {
      size = length-set c.loop-byte.row c.loop-byte.byte c.in_ok-row-2.field-0 ∙ i.size;
      extends = λ ts k h. extends_both ts s.looks c.target_by.new.states.keys c.loop-byte.states.keys c.known_or_target_by.new.states.keys c.loop-byte.byte 1 (i.extends ts k h) (n.extends ts k (grown ts s.looks k s.steps.now s.lives.now i.grows h));
      grows = record { keeps = λ k t h. n.grows.keeps k t (i.grows.keeps k t h) };
      few = omega (arith, n.few, i.few);
      at = at_more c.loop-byte.states.keys c.known_or_target_by.new.states.keys c.loop-byte.row (λ x. state_after s.looks s.steps.now s.lives.now x) c.loop-byte.byte c.in_ok-row-2.field-0
          n.grows (omega (arith, i.size, c.loop-byte-test.true)) i.at n.at;
    }

pub returns-clause-extends : goal.returns-clause-extends
returns-clause-extends c = λ ts i h.
    let s = c.args.steps in
    let first = c.in_ok-row.ensures in
    let all : c.loop-byte.byte ≡ 256 = omega arith in
    extends_both ts s.looks c.args.states.now.keys c.target_by.new.states.keys c.loop-byte.states.keys 1 256 (first.extends ts i h)
    (rw all at c.loop-byte.invariant.extends ts i (grown ts s.looks i s.steps.now s.lives.now first.grows h))

pub returns-clause-row : goal.returns-clause-row
returns-clause-row c = λ ts i h x lt.
    let all : c.loop-byte.byte ≡ 256 = omega arith in
    let inv = c.loop-byte.invariant in
    record {
      from = h.from;
      to = _;
      from_is = inv.grows.keeps i h.from (c.in_ok-row.ensures.grows.keeps i h.from h.from_is);
      to_is = inv.at x (omega (arith, all, lt));
      next = h.next x lt;
    }
