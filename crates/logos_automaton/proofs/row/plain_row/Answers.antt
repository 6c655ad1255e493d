use Rattle.std.proofs.Common.{◌≡◌, ℕ, ◌+◌, ◌-◌, ◌<◌, ◌≤◌, Bool, true, false, not, IfSome, List, length-set, slice_index, slice_index_or, refl, ◌∙◌, subst, arith}
use Rattle.std.specs.Bool.{then_some}
use Rattle.logos_positions.specs.Core.{Core}
use Rattle.logos_automaton.specs.Rules.{AreFree}
use Rattle.logos_automaton.specs.inside.Prepared.{cores_of}
use Rattle.logos_automaton.specs.Keys.{AreFirstIn, Grows, LeadsTo, IsRow}
use Rattle.logos_automaton.specs.declared.key.Key.{Key}
use Rattle.logos_automaton.proofs.keys.TargetLemmas.{extends_both, row_more, leads_alike}
use Rattle.logos_automaton.proofs.row.plain_row.Goals as goal

-- the target by the byte before
same_target : (ts : List Core) (looks : Bool) → (looks ≡ false → AreFree ts) → (first : List Bool) (old ks : List Key) (i : ℕ) (row : List ℕ) (byte : ℕ) → 1 ≤ byte → byte < 256 →
    AreFirstIn ts looks old i first → Grows old ks → IsRow ts looks ks i row byte → slice_index_or first byte false ≡ false → LeadsTo ts looks ks i byte (slice_index row (byte - 1))
same_target ts looks free first old ks i row byte some lt firsts grows all e =
    let back : byte - 1 + 1 ≡ byte = omega arith in
    let same = firsts.are (byte - 1) (omega arith) (rw back e) in
    subst (λ k. LeadsTo ts looks ks i k (slice_index row (byte - 1))) back
    (leads_alike ts looks free ks i (byte - 1) (byte - 1 + 1) (slice_index row (byte - 1)) firsts.state (grows.keeps i firsts.state firsts.at) same.0 same.1 (all (byte - 1) (omega arith)))

known_target : (P : ℕ → Type 0) (is_first : Bool) (before : ℕ) → (is_first ≡ false → P before) → IfSome (then_some (not is_first) before) P
known_target P true before same = tt
known_target P false before same = same refl

pub next_target-requires-clause-known : goal.next_target-requires-clause-known
next_target-requires-clause-known c =
    let ts = cores_of c.args.trees.now in
    let looks = c.args.trees.now.looks in
    let e = c.in_ok-row.ensures.extends in
    let i = c.loop-byte.invariant in
    let ks = c.loop-byte.states.keys in
    let byte = c.loop-byte.byte in
    let first = c.first_in-first.result in
    rw c.then_some-known.ensures
    (known_target (LeadsTo ts looks ks c.args.state byte) (slice_index_or first byte false) (slice_index c.loop-byte.row (byte - 1))
    (same_target ts looks c.requires.prepared.free first c.args.states.now.keys ks c.args.state c.loop-byte.row byte c.loop-byte.auto.byte c.loop-byte-test.true c.first_in-first.ensures
    (record { keeps = λ k s h. i.extends.grows.keeps k s (e.grows.keeps k s h) }) i.row))

pub loop-byte-preserved : goal.loop-byte-preserved
loop-byte-preserved c =
    let ts = cores_of c.args.trees.now in
    let n = c.in_ok-row-2.ensures in
    let i = c.loop-byte.invariant in
    record {
      size = length-set c.loop-byte.row c.loop-byte.byte c.in_ok-row-2.field-0 ∙ i.size;
      extends = extends_both ts c.args.trees.now.looks c.target_of.new.states.keys c.loop-byte.states.keys c.next_target.new.states.keys c.loop-byte.byte 1 i.extends n.extends;
      row = row_more ts c.args.trees.now.looks c.loop-byte.states.keys c.next_target.new.states.keys c.args.state c.loop-byte.row c.loop-byte.byte c.in_ok-row-2.field-0
          n.extends.grows (omega (arith, i.size)) i.row n.leads;
    }

pub returns-clause-extends : goal.returns-clause-extends
returns-clause-extends c =
    let ts = cores_of c.args.trees.now in
    let all : c.loop-byte.byte ≡ 256 = omega arith in
    extends_both ts c.args.trees.now.looks c.args.states.now.keys c.target_of.new.states.keys c.loop-byte.states.keys 1 256 c.in_ok-row.ensures.extends (rw all at c.loop-byte.invariant.extends)
