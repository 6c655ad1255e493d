use Rattle.logos_byte_class.specs.Bytes.{ranges_of}
use Rattle.logos_generator.proofs.NumberLemmas.{set_is, insert_grows}
use Rattle.logos_generator.proofs.generator.tests_by_bits.add_test.Goals as goal

pub returns-clause-grows : goal.returns-clause-grows
returns-clause-grows c = rw c.in_ok-k.ensures.keys (insert_grows c.args.tests.now.keys c.to_table.result)

pub returns-clause-is : goal.returns-clause-is
returns-clause-is c = rw c.in_ok-k.ensures.stored record { members = c.to_table.ensures }

pub returns-clause-numbers : goal.returns-clause-numbers
returns-clause-numbers c = rw (set_is c.to_table.result (ranges_of c.args.class.now) c.in_ok-k.ensures.long c.to_table.ensures) at c.in_ok-k.ensures.keys
