use Rattle.logos_layout.proofs.CompareLemmas.{same_by}
use Rattle.logos_layout.proofs.comparison.spell_same.Goals as goal

pub returns : goal.returns
returns c =
    same_by c.args.text.now c.args.other.now c.as_str.result.now c.as_str-2.result.now c.eq.result c.eq.ensures c.utf8.text c.utf8.other (rw c.as_str.ensures.value (rw c.in-Some.is at c.in_ok-one.ensures))
    (rw c.as_str-2.ensures.value (rw c.in-Some-2.is at c.in_ok-two.ensures))
