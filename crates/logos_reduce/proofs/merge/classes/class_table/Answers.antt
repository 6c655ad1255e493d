use Rattle.std.proofs.Common.{◌<◌, vec_len, slice_index, option_map, ap, sym, ◌∙◌, arith}
use Rattle.logos_reduce.proofs.tables.EdgeLemmas.{led_target}
use Rattle.logos_reduce.proofs.merge.classes.class_table.Goals as goal

pub class_rows-requires-clause-few : goal.class_rows-requires-clause-few
class_rows-requires-clause-few c = λ s l.
    let w = c.args.classes.now.within s l in
    let f = c.args.classes.now.few in
    let small = c.args.table.now.few in
    omega (arith, w, f, small, c.requires.len)

pub class_rows-requires-clause-leaders : goal.class_rows-requires-clause-leaders
class_rows-requires-clause-leaders c = λ i l.
    let f = c.args.classes.now.few in
    let some : 0 < vec_len c.args.classes.now.of = omega (arith, l, f, c.in_ok-leaders.ensures.len) in
    let p = c.in_ok-leaders.ensures.inside some i in
    omega (arith, p, c.requires.len)

pub class_marks-requires : goal.class_marks-requires
class_marks-requires c = record {
  leaders = λ i l.
      let f = c.args.classes.now.few in
      let some : 0 < vec_len c.args.classes.now.of = omega (arith, l, f, c.in_ok-leaders.ensures.len) in
      let p = c.in_ok-leaders.ensures.inside some i in
      omega (arith, p, c.requires.len);
}

pub invariant_of-result : goal.invariant_of-result
invariant_of-result c =
    let classes = c.args.classes.now in
    let class = slice_index classes.of.items in
    let leader = slice_index c.in_ok-leaders.leaders.items in
    record {
      same_len = omega (arith, c.in_ok-rows.ensures.len, c.in_ok-marks.ensures.len);
      closed = λ s k t l e.
          let p = led_target c.args.table.now class (leader s) k t (sym (c.in_ok-rows.ensures.rows s k (omega (arith, l, c.in_ok-marks.ensures.len))) ∙ e) in
          let w = classes.within p.0 (let n = p.2 in omega (arith, n, c.requires.len)) in
          let q = p.3 in
          omega (arith, w, q, c.in_ok-marks.ensures.len, c.in_ok-leaders.ensures.len);
      few =
          let f = classes.few in
          let small = c.args.table.now.few in
          omega (arith, f, small, c.requires.len, c.in_ok-marks.ensures.len, c.in_ok-leaders.ensures.len);
    }

pub returns-clause-table : goal.returns-clause-table
returns-clause-table c =
    let classes = c.args.classes.now in
    let class = slice_index classes.of.items in
    let leader = slice_index c.in_ok-leaders.leaders.items in
    record {
      marks = λ s l.
          let n : s < vec_len classes.of = omega (arith, l, c.requires.len) in
          let q = c.in_ok-leaders.ensures.leaders s n in
          let w = classes.within s n in
          c.in_ok-marks.ensures.marks (class s) (omega (arith, w, c.in_ok-leaders.ensures.len)) ∙ c.requires.classes.marks (leader (class s)) s (omega (arith, q.0, c.requires.len)) l q.1;
      edges = λ s k l.
          let n : s < vec_len classes.of = omega (arith, l, c.requires.len) in
          let q = c.in_ok-leaders.ensures.leaders s n in
          let w = classes.within s n in
          c.in_ok-rows.ensures.rows (class s) k (omega (arith, w, c.in_ok-leaders.ensures.len)) ∙ ap (option_map class) (c.requires.classes.edges (leader (class s)) s k (omega (arith, q.0, c.requires.len)) l q.1);
    }
