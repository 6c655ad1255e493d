use Rattle.std.proofs.Common.{◌≡◌, ℕ, ◌<◌, ◌≤◌, Option, None, IfSome, length, refl, sym, ◌∙◌, ap, subst, arith, List, Vec, Global, vec_len}
use Rattle.std.proofs.lemmas.List.{get_or_past}
use Rattle.logos_automaton.specs.DfaView.{dfa_of}
use Rattle.logos_graph.specs.inside.RawTable.{IsMarkOf, AreRawRows}
use Rattle.logos_pattern.specs.declared.leaf.Leaf.{Leaf}
use Rattle.logos_graph.proofs.Automaton.{no_faults}
use Rattle.logos_graph.proofs.RawLemmas.{raw_closed, is_raw, raw_late}
use Rattle.logos_automaton.specs.Automaton.{Automaton}
use Rattle.logos_graph.specs.View.{rules_of}
use Rattle.logos_graph.proofs.raw_table.raw_table.Goals as goal
use Rattle.logos_reduce.specs.Table.{size, mark, mark_in}
use Rattle.logos_reduce.specs.declared.table.StateMarks.{StateMarks}
use Rattle.logos_reduce.specs.Rows.{AreWide}
use Rattle.logos_reduce.specs.RowsView.{rows_of}
use Rattle.logos_reduce.specs.declared.rows.Rows.{Rows}
use Rattle.logos_reduce.specs.declared.table.Table.{Table}
use Rattle.logos_reduce.proofs.tables.RowLemmas.{rows_wide}

wide : (rows : Rows) → AreWide (rows_of rows)
wide rows = rows_wide rows.slots.items rows.distinct.keys (λ i l. rows.placed i (omega arith)) rows.wide

no_state : (table : Table) (s : ℕ) → size table ≤ s → mark table s ≡ record { accept = None; early = None }
no_state table s l = get_or_past table.marks.items s (record { accept = None; early = None }) (omega (arith, l))

pub new-requires-clause-same_len : goal.new-requires-clause-same_len
new-requires-clause-same_len c = c.in_ok-rows.ensures.len ∙ sym c.in_ok-marks.ensures.len

pub new-requires-clause-closed : goal.new-requires-clause-closed
new-requires-clause-closed c =
    let n = c.in_ok-marks.ensures.len in
    let closed = raw_closed (dfa_of c.args.dfa.now) c.requires.total (rows_of c.in_ok-rows.rows) c.in_ok-rows.ensures (wide c.in_ok-rows.rows) in
    λ s k t l e. let w = closed s k t (omega (arith, l, n)) e in omega (arith, w, n)

-- the facts about the parts, of a table that has them
module _ (leaves : List Leaf) (dfa : Automaton) (marks : Vec StateMarks Global) (rows : Rows) (table : Table) (same_marks : table.marks ≡ marks) (same_rows : table.rows ≡ rows) where
  states : vec_len marks ≡ length dfa.matches → size table ≡ length dfa.matches
  states e = ap (λ (v : Vec StateMarks Global). vec_len v) same_marks ∙ e

  its_rows : AreRawRows dfa (rows_of rows) (length dfa.matches) → AreRawRows dfa (rows_of table.rows) (length dfa.matches)
  its_rows = subst (λ (r : Rows). AreRawRows dfa (rows_of r) (length dfa.matches)) (sym same_rows)

  its_marks : ((s : ℕ) → s < length dfa.matches → IsMarkOf (rules_of leaves) (length leaves) dfa s (mark_in marks.items s)) →
      (s : ℕ) → s < length dfa.matches → IsMarkOf (rules_of leaves) (length leaves) dfa s (mark table s)
  its_marks h s l = subst (λ (v : Vec StateMarks Global). IsMarkOf (rules_of leaves) (length leaves) dfa s (mark_in v.items s)) (sym same_marks) (h s l)

pub returns-clause-raw : goal.returns-clause-raw
returns-clause-raw c =
    let leaves = c.args.leaves.now in
    let dfa = dfa_of c.args.dfa.now in
    let m = c.in_ok-marks.marks in
    let r = c.in_ok-rows.rows in
    let table = c.new.result in
    let em = c.new.ensures.marks in
    let er = c.new.ensures.rows in
    is_raw leaves dfa c.requires.total refl table (states leaves dfa m r table em er c.in_ok-marks.ensures.len) (its_rows leaves dfa m r table em er c.in_ok-rows.ensures)
    (its_marks leaves dfa m r table em er c.in_ok-marks.ensures.marks) (no_state table)

pub returns-clause-late : goal.returns-clause-late
returns-clause-late c = λ reads none.
    let leaves = c.args.leaves.now in
    let dfa = dfa_of c.args.dfa.now in
    let m = c.in_ok-marks.marks in
    let r = c.in_ok-rows.rows in
    let table = c.new.result in
    let em = c.new.ensures.marks in
    let er = c.new.ensures.rows in
    raw_late leaves dfa c.requires.total refl table (states leaves dfa m r table em er c.in_ok-marks.ensures.len) (its_rows leaves dfa m r table em er c.in_ok-rows.ensures)
    (its_marks leaves dfa m r table em er c.in_ok-marks.ensures.marks) (no_state table) reads (no_faults (rules_of leaves) none).1

pub returns-clause-named : goal.returns-clause-named
returns-clause-named c = λ s l.
    let leaves = c.args.leaves.now in
    let dfa = dfa_of c.args.dfa.now in
    let m = c.in_ok-marks.marks in
    let r = c.in_ok-rows.rows in
    let table = c.new.result in
    let em = c.new.ensures.marks in
    let er = c.new.ensures.rows in
    let n = states leaves dfa m r table em er c.in_ok-marks.ensures.len in
    let k = its_marks leaves dfa m r table em er c.in_ok-marks.ensures.marks s (omega (arith, l, n)) in
    (k.2.named, subst (λ (o : Option ℕ). IfSome o (λ leaf. leaf < length leaves)) (sym k.2.early) tt)

pub returns-clause-size : goal.returns-clause-size
returns-clause-size c = ap (λ (v : Vec StateMarks Global). vec_len v) c.new.ensures.marks ∙ c.in_ok-marks.ensures.len
