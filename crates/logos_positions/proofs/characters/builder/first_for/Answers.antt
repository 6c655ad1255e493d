use Rattle.std.proofs.Common.{◌+◌, ◌≤◌, arith}
use Rattle.std.proofs.lemmas.Result.{on_ok_weaker}
use Rattle.logos_positions.specs.Table.{weight, led_to}
use Rattle.logos_positions.proofs.characters.builder.first_for.Goals as goal

pub returns-clause-weight : goal.returns-clause-weight
returns-clause-weight c =
    let fewer = c.in-Some.ensures.weight in
    on_ok_weaker _ (λ (h : weight 0 c.row_for.new.rests.keys ≤ weight 0 c.args.rests.now.keys + led_to c.in-Some.block.left). omega (arith, h, fewer)) (c.row_for.ensures.weight 0)
