use Rattle.std.proofs.Common.{◌≡◌, ◌/◌, subst}
use Rattle.logos_code.specs.Code.{CodeValue}
use Rattle.logos_code.specs.CodeView.{code_of}
use Rattle.logos_code.specs.LastMarks.{IsLastMark, last_mark_at}
use Rattle.logos_code.proofs.code.Code.last_mark.Goals as goal

pub returns : goal.returns
returns c =
    let is : IsLastMark (code_of c.self.inside.parts) (c.args.row_start / 272) (last_mark_at c.self.inside.last_marks.items (c.args.row_start / 272)) = c.self.invariant.all_last_marks (c.args.row_start / 272) in
    let same : c.last_mark_at.result ≡ last_mark_at c.self.inside.last_marks.items (c.args.row_start / 272) = rw c.deref.ensures.value at c.last_mark_at.ensures in
    rw same (subst (λ (code : CodeValue). IsLastMark code (c.args.row_start / 272) (last_mark_at c.self.inside.last_marks.items (c.args.row_start / 272))) c.self.view_is is)
