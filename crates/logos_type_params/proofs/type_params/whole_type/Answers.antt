use Rattle.std.proofs.Common.{refl}
use Rattle.logos_type_params.specs.TypeParams.{is_type}
use Rattle.logos_type_params.proofs.ValueLemmas.{more_left}
use Rattle.logos_type_params.proofs.type_params.whole_type.Goals as goal

pub returns-then-is_empty-clause-ok : goal.returns-then-is_empty-clause-ok
returns-then-is_empty-clause-ok c = is_type (rw (c.is_empty.ensures.0 c.if-is_empty.true) at c.requires) refl

pub returns-clause-ok : goal.returns-clause-ok
returns-clause-ok c = more_left _ _ (λ e. let t = c.is_empty.ensures.1 e in let f = c.if-is_empty.false in absurd (cc)) c.requires c.in_ok-report_syntax.ensures.ok
