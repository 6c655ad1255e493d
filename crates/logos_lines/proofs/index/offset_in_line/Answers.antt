use Rattle.std.proofs.Common.{◌≡◌, ◌⊎◌, inl, inr, ◌<◌, ◌≤◌, true, IsCharBoundary, length, get_or, sym, ◌∙◌, arith}
use Rattle.logos_lines.specs.inside.Search.{ends_search}
use Rattle.logos_lines.proofs.LocationLemmas.{bounds, start_least, column_next, not_ended, boundary_here, further, found_once, found_never}
use Rattle.logos_lines.proofs.index.offset_in_line.Goals as goal
use Rattle.logos_lines.proofs.index.offset_in_line.Goals.{then-loop-at-test+else-not-ends_search, else-loop-at-test}

pub loop-at-init : goal.loop-at-init
loop-at-init c =
    rw c.as_bytes-bytes.ensures.value
    (record {
      inside = c.requires.boundary.0;
      location = c.requires.location;
      least = λ o b p. start_least c.args.text.now c.args.line c.args.start o c.args.column c.requires b p;
    })

pub next_column-reached-requires : goal.next_column-reached-requires
next_column-reached-requires c =
    let b = bounds c.as_bytes-bytes.result.now c.loop-at.at c.loop-at.invariant.inside in
    let column = rw c.loop-at.invariant.location at b.column in
    omega (arith, column, c.loop-at-test.true)

pub loop-at-preserved : goal.loop-at-preserved
loop-at-preserved c =
    let i = c.loop-at.invariant in
    let l = c.loop-at-test.true in
    let h = sym c.ends_search.ensures ∙ c.if-not-ends_search.true in
    let line = not_ended _ c.loop-at.reached c.args.column h in
    record {
      inside = omega (arith, l);
      location = rw c.next_column-reached.ensures (column_next _ c.loop-at.at c.args.line c.loop-at.reached l i.location line);
      least = λ o b p. further c.as_bytes-bytes.result.now c.loop-at.at c.args.line c.loop-at.reached c.args.column o l h i.location (i.least o b p) b p;
    }

boundary : (c : goal.Then-reached-column) → IsCharBoundary c.as_bytes-bytes.result.now c.loop-at.at
boundary c = elim c.loop-at-test.branch [
  | then-loop-at-test+else-not-ends_search w ↦ boundary_here c.as_bytes-bytes.result.now c.loop-at.at c.loop-at.reached c.args.column w.loop-at-test.true (sym w.ends_search.ensures ∙ w.if-not-ends_search.false)
  | else-loop-at-test w ↦ (c.loop-at.invariant.inside, λ l. absurd (omega (arith, l, w.loop-at-test.false)))
]

pub returns-then-reached-column-clause-every : goal.returns-then-reached-column-clause-every
returns-then-reached-column-clause-every c =
    let location = rw c.if-reached-column.true at c.loop-at.invariant.location in
    rw (← c.as_bytes-bytes.ensures.value) (λ o b q. found_once c.as_bytes-bytes.result.now c.loop-at.at c.args.line c.args.column o (boundary c) location b q)

way : (c : goal.Else-reached-column) → ((c.loop-at.at < length c.as_bytes-bytes.result.now) × (ends_search (get_or c.as_bytes-bytes.result.now c.loop-at.at 0) c.loop-at.reached c.args.column ≡ true)) ⊎ (length c.as_bytes-bytes.result.now ≤ c.loop-at.at)
way c = elim c.loop-at-test.branch [
  | then-loop-at-test+else-not-ends_search w ↦ inl (w.loop-at-test.true, sym w.ends_search.ensures ∙ w.if-not-ends_search.false)
  | else-loop-at-test w ↦ inr w.loop-at-test.false
]

pub returns-else-reached-column-clause-every : goal.returns-else-reached-column-clause-every
returns-else-reached-column-clause-every c =
    rw (← c.as_bytes-bytes.ensures.value)
    (λ o b q. absurd (found_never c.as_bytes-bytes.result.now c.loop-at.at c.args.line c.loop-at.reached c.args.column o (way c) c.if-reached-column.false c.loop-at.invariant.location (c.loop-at.invariant.least o b q) b q))
