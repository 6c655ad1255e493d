use Rattle.std.proofs.Common.{refl}
use Rattle.logos_code.specs.CodeView.{code_of}
use Rattle.logos_code.proofs.LastMarkLemmas.{are_last_marks, no_last_marks}
use Rattle.logos_code.proofs.code.last_marks.last_marks_of.Goals as goal

pub returns-then-agree : goal.returns-then-agree
returns-then-agree c = are_last_marks (code_of c.args.parts.now) c.requires c.in_ok-found.found.items (rw c.deref.ensures.value at (c.if-agree.ensures refl))

pub returns : goal.returns
returns c = rw c.new.ensures.items (no_last_marks (code_of c.args.parts.now))
