use Rattle.std.proofs.Common.{subst, refl}
use Rattle.std.proofs.lemmas.Option.{slice_get_read}
use Rattle.logos_answers.specs.inside.Numbers.{IsNumberOf}
use Rattle.logos_answers.proofs.NumberLemmas.{grows_then, one_number}
use Rattle.logos_answers.proofs.comparison.numbers_of.Goals as goal

pub loop-leaf-preserved : goal.loop-leaf-preserved
loop-leaf-preserved c = record {
  numbers = one_number c.loop-leaf.table.keys c.number_of.new.table.keys c.args.leaves.now c.loop-leaf.leaf-index c.in_ok-number.number c.loop-leaf.numbers.items _ c.leaf-item.result c.in_ok-number.ensures.grows c.loop-leaf.invariant.numbers
      (slice_get_read c.args.leaves.now _ c.loop-leaf.leaf-index c.leaf-item.result refl c.loop-leaf-test.true c.leaf-item.is)
      (subst (λ v. IsNumberOf c.number_of.new.table.keys v c.in_ok-number.number) c.variant_of.ensures c.in_ok-number.ensures.number)
      c.in_ok-push.ensures.items;
  grows = grows_then c.args.table.now.keys c.loop-leaf.table.keys c.number_of.new.table.keys c.loop-leaf.invariant.grows c.in_ok-number.ensures.grows;
  distinct = λ d. c.in_ok-number.ensures.distinct (c.loop-leaf.invariant.distinct d);
}
