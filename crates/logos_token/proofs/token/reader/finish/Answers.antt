use Rattle.std.proofs.Common.{◌≡◌, ◌∙◌, [], arith}
use Rattle.std.proofs.lemmas.List.{nil_from_length}
use Rattle.logos_token.proofs.reading.RunLemmas.{IsFlat-from_flat, tokens_in-from_flat}
use Rattle.logos_token.proofs.reading.ReadingLemmas.{read-whole}
use Rattle.logos_token.proofs.reading.ClosingLemmas.{read-unclosed}
use Rattle.logos_token.proofs.token.reader.finish.Goals as goal
use Rattle.logos_token.proofs.token.reader.finish.Goals.{In-None}

pub returns-in-Some-clause-err : goal.returns-in-Some-clause-err
returns-in-Some-clause-err c = λ bytes r. read-unclosed bytes _ c.pop.new.self.items c.in-Some.group (rw c.in-Some.ensures.items at r)

no-groups : (c : In-None) → c.args.open_groups.items ≡ []
no-groups c = let e = c.in-None.ensures.cases in nil_from_length _ (omega arith)

pub from_entries-requires : goal.from_entries-requires
from_entries-requires c =
    let w = read-whole c.requires.0 _ (rw (no-groups c) at c.requires.1) in
    IsFlat-from_flat w.tokens c.args.entries.items w.is

pub returns-clause-ok : goal.returns-clause-ok
returns-clause-ok c = λ bytes r.
    let w = read-whole bytes _ (rw (no-groups (goal.at.returns-clause-ok c).In-None) at r) in
    let e = c.from_entries.ensures ∙ tokens_in-from_flat w.tokens c.args.entries.items w.is in
    rw e (w.spells, w.shallow)
