use Rattle.std.proofs.Common.{◌∙◌, ◌*◌, arith}
use Rattle.std.proofs.lemmas.List.{get_or_default}
use Rattle.logos_generator.specs.Numbering.{bits_from}
use Rattle.logos_generator.proofs.NumberLemmas.{listed}
use Rattle.logos_generator.proofs.generator.tests_by_bits.table_at.Goals as goal

pub returns : goal.returns
returns c =
    let n = c.loop-b.invariant.0 in
    let all = c.loop-b-test.false in
    listed c.loop-b.table (λ b. bits_from c.args.tests.now b (8 * c.args.j) 8) 256 n (λ k d h.
    get_or_default c.loop-b.table k d 0 (omega (arith, h, n)) ∙ c.loop-b.invariant.1 k (omega (arith, h, all)))
