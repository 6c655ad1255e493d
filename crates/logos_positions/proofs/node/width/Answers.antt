use Rattle.std.proofs.Common.{◌∙◌, arith}
use Rattle.logos_positions.proofs.trees.NodeLemmas.{width-Literal, width-Cat, width-Alt, width-Repeat}
use Rattle.logos_positions.proofs.node.width.Goals as goal

pub overflow_mul-result : goal.overflow_mul-result
overflow_mul-result c =
    let h = rw c.in-Repeat.is at c.requires.measured in
    let e = width-Repeat _ _ _ _ h in
    let fits = rw c.in-Repeat.is at c.requires.fits in
    rw c.copy_count.ensures (omega (arith, e, fits))

pub returns-in-Literal : goal.returns-in-Literal
returns-in-Literal c = rw (c.in-Literal.is, c.len.ensures) (c.in-Literal.text.ok.0 ∙ width-Literal _)

pub returns-in-Cat : goal.returns-in-Cat
returns-in-Cat c = rw c.in-Cat.is (width-Cat _ _ _ (rw c.in-Cat.is at c.requires.measured))

pub returns-in-Alt : goal.returns-in-Alt
returns-in-Alt c = rw c.in-Alt.is (width-Alt _ _ _ (rw c.in-Alt.is at c.requires.measured))

pub returns-in-Repeat : goal.returns-in-Repeat
returns-in-Repeat c = rw (c.in-Repeat.is, c.copy_count.ensures) (width-Repeat _ _ _ _ (rw c.in-Repeat.is at c.requires.measured))
