use Rattle.std.proofs.Common.{◌∙◌, append-nil, sym}
use Rattle.std.proofs.lemmas.List.{nil_from_length}
use Rattle.logos_file_warnings.proofs.file_warnings.add_warnings.Goals as goal

pub returns : goal.returns
returns c =
    let none = nil_from_length c.loop-warning.warning-iterator.rest.items (sym c.loop-warning.warning-iterator.rest.ok.0 ∙ c.in-None.ensures.steps.0) in
    rw append-nil at (rw none at c.loop-warning.invariant)
