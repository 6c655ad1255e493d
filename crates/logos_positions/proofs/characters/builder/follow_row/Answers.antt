use Rattle.std.proofs.Common.{◌≡◌, ℕ, ◌+◌, ◌-◌, ◌*◌, ◌/◌, ◌%◌, ◌<◌, ◌≤◌, length, vec_len, sym, subst, arith}
use Rattle.logos_positions.specs.Table as table
use Rattle.logos_positions.proofs.classes.TableLemmas.{cells_at, Grows-then, row_weight}
use Rattle.logos_positions.proofs.characters.builder.follow_row.Goals as goal

part_of : (row part : ℕ) → part < 64 → (row ≡ (64 * row + part) / 64) × (part ≡ (64 * row + part) % 64)
part_of row part lt = (omega arith, omega arith)

pub loop-part-preserved : goal.loop-part-preserved
loop-part-preserved c =
    let row = c.args.row in
    let part = c.loop-part.part in
    let i = c.loop-part.invariant in
    let e = part_of row part c.loop-part-test.true in
    let there : (64 * row + part) / 64 < length c.loop-part.rests.keys = omega (arith, e.0, c.requires.there, i.longer) in
    record {
      long = omega (arith, c.in_ok-push.ensures.len, i.long);
      rests = c.in_ok-to.ensures.rests;
      longer = omega (arith, i.longer, c.in_ok-to.ensures.longer);
      grows = Grows-then _ _ _ i.grows c.in_ok-to.ensures.grows;
      cells = rw (c.in_ok-push.ensures.items, c.in_ok-push.ensures.len)
          (cells_at c.loop-part.rests.keys _ c.loop-part.cells.items (vec_len c.loop-part.cells) (64 * row + part) c.in_ok-to.to
          (sym i.long) c.loop-part.cells.ok.0 there c.in_ok-to.ensures.grows i.cells
          (λ r at. let at' : table.IsAt c.loop-part.rests.keys row r = subst (λ k. table.IsAt c.loop-part.rests.keys k r) (sym e.0) at in
          subst (λ k. table.FindsNext c.next_for.new.rests.keys r r.left (0x80 + k) c.in_ok-to.to) e.1 (c.in_ok-to.ensures.finds r at')));
      weight = λ r at. let f = c.in_ok-to.ensures.weight r (i.grows.keeps row r at) (row + 1) in let g = i.weight r at in omega (arith, f, g);
    }

pub returns-clause-weight : goal.returns-clause-weight
returns-clause-weight c =
    let all : c.loop-part.part ≡ 64 = omega arith in
    row_weight c.args.rests.now.keys c.args.row c.loop-part.rests.keys c.requires.there
    (λ r at. subst (λ k. table.weight (c.args.row + 1) c.loop-part.rests.keys ≤ table.weight (c.args.row + 1) c.args.rests.now.keys + k * table.led_to (r.left - 1))
    all (c.loop-part.invariant.weight r at))
