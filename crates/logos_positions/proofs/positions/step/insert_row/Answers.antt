use Rattle.std.proofs.Common.{◌+◌, arith}
use Rattle.std.specs.Result.{OnOk}
use Rattle.std.specs.Prelude.{Result, Ok, Err}
use Rattle.logos_positions.proofs.steps.MarkLemmas.{IsSet-insert}
use Rattle.logos_positions.proofs.positions.step.insert_row.Goals as goal

on_both : {T E P Q R : Type 0} (r : Result T E) → (P → Q → R) → OnOk r P → OnOk r Q → OnOk r R
on_both (Ok x) f p q = f p q
on_both (Err e) f p q = tt

pub returns-clause-set : goal.returns-clause-set
returns-clause-set c =
    on_both c.insert_mark.result (IsSet-insert _ _ (c.args.base + c.args.rows) (c.args.base + c.in-Some.row) c.requires.set (omega arith))
    c.insert_mark.ensures.rising c.insert_mark.ensures.has
