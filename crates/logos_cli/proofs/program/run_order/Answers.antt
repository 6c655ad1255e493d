use Rattle.std.proofs.Common.{inl, inr, refl}
use Rattle.logos_cli.proofs.program.run_order.Goals as goal

pub returns-in-Some-clause-touched : goal.returns-in-Some-clause-touched
returns-in-Some-clause-touched g c = inl refl

pub returns-clause-touched : goal.returns-clause-touched
returns-clause-touched g c = inr (c.in_default.ensures, c.carry_out.ensures.touched)
