use Rattle.std.proofs.Common.{ℕ, ◌-◌, ◌/◌, List, length, take, drop, get_or, sym, subst}
use Rattle.logos_code.specs.Code.{CodeValue}
use Rattle.logos_code.specs.CodeView.{code_of, state_at}
use Rattle.logos_code.specs.Rows.{IsEntry, IsRowStart}
use Rattle.logos_code.proofs.RowLemmas.{read_column}
use Rattle.logos_code.proofs.code.Code.entry.Goals as goal

pub returns : goal.returns
returns c =
    let code = code_of c.self.inside.parts in
    let row_start = c.args.row_start in
    let b = c.args.byte in
    let p : IsRowStart code row_start = rw (← c.self.view_is) at c.requires in
    let is = read_column code c.self.inside.rows.items row_start b c.self.invariant.all_rows p.0 p.1 c.ranges.byte.fits in
    subst (λ (code : CodeValue). IsEntry code (state_at code (row_start / 272)) b (get_or (take (length c.deref.result.now - b) (drop b c.deref.result.now)) row_start 0)) c.self.view_is
    (subst (λ (l : List ℕ). IsEntry code (state_at code (row_start / 272)) b (get_or (take (length l - b) (drop b l)) row_start 0)) (sym c.deref.ensures.value) is)
