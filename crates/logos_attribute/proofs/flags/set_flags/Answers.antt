use Rattle.std.proofs.Common.{◌∙◌, arith}
use Rattle.logos_attribute.specs.Slices.{ident_slice}
use Rattle.logos_attribute.proofs.flags.set_flags.Goals as goal

pub returns-in_default-2 : goal.returns-in_default-2
returns-in_default-2 c =
    let a = rw c.in-Some.is at c.in_ok-after.ensures in
    let b = rw c.in_default-2.is at (c.in_ok-next.ensures (ident_slice c.args.name)) in
    rw (c.loop-after.invariant.flags, a.0 c.loop-after.ignore_case) (rw (a.1, c.loop-after.invariant.errors) at b)

pub loop-after-smaller : goal.loop-after-smaller
loop-after-smaller c =
    let a = rw c.in-Some.is at c.in_ok-after.ensures in
    let b = rw c.in-Some-2.is at (c.in_ok-next.ensures (ident_slice c.args.name)) in
    omega (arith, a.2, b.2)

pub loop-after-preserved : goal.loop-after-preserved
loop-after-preserved c =
    let a = rw c.in-Some.is at c.in_ok-after.ensures in
    let b = rw c.in-Some-2.is at (c.in_ok-next.ensures (ident_slice c.args.name)) in
    record { flags = c.loop-after.invariant.flags ∙ a.0 c.loop-after.ignore_case ∙ b.0; errors = b.1 ∙ a.1 ∙ c.loop-after.invariant.errors }
