use Rattle.std.proofs.Common.{drop}
use Rattle.logos_warnings.proofs.ShownLemmas.{IsAboutSoFar}
use Rattle.logos_warnings.proofs.messages.warnings_about.Given as goal

-- the warnings so far complete those about the other mistakes
abbrev pub invariant-loop-mistake : goal.invariant-loop-mistake
invariant-loop-mistake l = IsAboutSoFar l.name l.origin l.mistakes (drop l.mistake-index l.mistakes) l.warnings.items
