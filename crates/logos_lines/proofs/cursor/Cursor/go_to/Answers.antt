use Rattle.std.proofs.Common.{◌≡◌, ℕ, ◌<◌, max, min, List, length, get_or, sym, ap, refl, ◌∙◌, arith}
use Rattle.logos_lines.specs.Locations.{after_byte}
use Rattle.logos_lines.specs.Cursors.{CursorValue}
use Rattle.logos_lines.proofs.LocationLemmas.{location_next, bounds}
use Rattle.logos_lines.proofs.cursor.Cursor.go_to.Goals as goal

same_cursor : (text other : List ℕ) (at there : ℕ) → text ≡ other → at ≡ there → ◌≡◌ {A = CursorValue} (record { text = text; at = at }) (record { text = other; at = there })
same_cursor text other at there e f = rw (e, f) refl

pub after-self-inside-requires-clause-line : goal.after-self-inside-requires-clause-line
after-self-inside-requires-clause-line c =
    let b = bounds c.loop-self.self-inside.bytes.now c.loop-self.self-inside.offset c.loop-self.invariant.inside in
    let line = rw (← c.loop-self.invariant.location) at b.line in
    omega (arith, line, c.loop-self-test.true, c.min-end.ensures, c.self.told.1)

pub after-self-inside-requires-clause-column : goal.after-self-inside-requires-clause-column
after-self-inside-requires-clause-column c =
    let b = bounds c.loop-self.self-inside.bytes.now c.loop-self.self-inside.offset c.loop-self.invariant.inside in
    let column = rw (← c.loop-self.invariant.location) at b.column in
    omega (arith, column, c.loop-self-test.true, c.min-end.ensures, c.self.told.1)

pub loop-self-preserved : goal.loop-self-preserved
loop-self-preserved c =
    let i = c.loop-self.invariant in
    let inside : c.loop-self.self-inside.offset < length c.loop-self.self-inside.bytes.now = omega (arith, c.loop-self-test.true, i.end_inside) in
    record {
      same = i.same;
      from = omega (arith, i.from);
      bounded = omega (arith, c.loop-self-test.true);
      inside = omega (arith, inside);
      end_inside = i.end_inside;
      location = c.after-self-inside.ensures ∙ ap (λ p. after_byte p (get_or c.loop-self.self-inside.bytes.now c.loop-self.self-inside.offset 0)) i.location
          ∙ sym (location_next c.loop-self.self-inside.bytes.now c.loop-self.self-inside.offset inside);
    }

pub returns : goal.returns
returns c =
    let i = c.loop-self.invariant in
    let at : c.loop-self.self-inside.offset ≡ max c.self.inside.offset (min c.args.offset (length c.self.inside.bytes.now)) =
    omega (arith, i.from, i.bounded, c.loop-self-test.false, c.min-end.ensures) in
    rw (← c.self.view_is) (same_cursor _ _ _ _ i.same at)
