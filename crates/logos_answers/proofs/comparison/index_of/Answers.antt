use Rattle.std.proofs.Common.{refl, arith}
use Rattle.logos_answers.proofs.NumberLemmas.{grows_by, stored_number}
use Rattle.logos_answers.proofs.comparison.index_of.Goals as goal

pub overflow_add-result : goal.overflow_add-result
overflow_add-result c = omega (arith, c.in-Ok.ensures.within, c.len.ensures.len)

pub returns-in-Ok : goal.returns-in-Ok
returns-in-Ok c =
    let stored = c.in-Ok.ensures.stored in
    record {
      number = stored_number _ c.args.name stored.0 c.in-Ok.index _ refl stored.1 stored.2;
      grows = grows_by _ _ c.args.name _ c.in-Ok.ensures.keys;
      distinct = c.in-Ok.ensures.unique;
    }
