use Rattle.std.proofs.Common.{◌∙◌, append_assoc, append-nil, sym}
use Rattle.std.proofs.lemmas.List.{nil_from_length}
use Rattle.logos_parser.proofs.enum_type.push_arguments.Goals as goal

pub loop-argument-preserved : goal.loop-argument-preserved
loop-argument-preserved c = rw (c.in_ok-push_argument.ensures, append_assoc) (rw c.in-Some.ensures.steps.0 at c.loop-argument.invariant)

pub returns : goal.returns
returns c =
    let none = nil_from_length c.loop-argument.argument-iterator.rest.items (sym c.loop-argument.argument-iterator.rest.ok.0 ∙ c.in-None.ensures.steps.0) in
    rw append-nil at (rw none at c.loop-argument.invariant)
