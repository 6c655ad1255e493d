use Rattle.std.proofs.Common.{◌-◌, ◌∙◌, length, drop, arith, get_or-drop}
use Rattle.std.proofs.lemmas.List.{get_or-take}
use Rattle.logos_scan.proofs.walk.entry_of.Goals as goal

pub returns : goal.returns
returns c =
    let rows = c.args.rows.now in
    let byte = c.args.byte in
    get_or-take (length rows - byte) (drop byte rows) c.args.row_start 0 (omega (arith, c.requires)) ∙ get_or-drop byte rows c.args.row_start 0
