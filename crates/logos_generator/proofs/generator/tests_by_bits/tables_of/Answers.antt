use Rattle.std.proofs.Common.{◌∙◌, arith}
use Rattle.logos_generator.proofs.BitLemmas.{tables_hold, tables_long}
use Rattle.logos_generator.proofs.NumberLemmas.{tables_more, tables_whole}
use Rattle.logos_generator.proofs.generator.tests_by_bits.tables_of.Goals as goal

pub loop-j-preserved : goal.loop-j-preserved
loop-j-preserved c = tables_more c.args.tests.now c.loop-j.j _ _ _ c.loop-j.invariant c.table_at.ensures c.in_ok-push.ensures.items

pub returns-clause-are : goal.returns-clause-are
returns-clause-are c =
    tables_whole c.args.tests.now c.loop-j.j _ c.loop-j.tables.items (omega (arith, c.loop-j-test.false, c.loop-j.auto.j-end) ∙ c.div_ceil-j-end.ensures) c.loop-j.invariant

pub returns-clause-tests : goal.returns-clause-tests
returns-clause-tests c =
    rw (tables_whole c.args.tests.now c.loop-j.j _ c.loop-j.tables.items (omega (arith, c.loop-j-test.false, c.loop-j.auto.j-end) ∙ c.div_ceil-j-end.ensures) c.loop-j.invariant)
    (tables_hold c.args.tests.now)

pub returns-clause-long : goal.returns-clause-long
returns-clause-long c =
    rw (tables_whole c.args.tests.now c.loop-j.j _ c.loop-j.tables.items (omega (arith, c.loop-j-test.false, c.loop-j.auto.j-end) ∙ c.div_ceil-j-end.ensures) c.loop-j.invariant)
    (tables_long c.args.tests.now)
