use Rattle.std.proofs.Common.{◌≡◌, ◌∙◌, [], sym, arith, eqb-true}
use Rattle.std.proofs.lemmas.List.{nil_from_length}
use Rattle.logos_expand.specs.declared.expansion.Expansion.{Expansion}
use Rattle.logos_expand.proofs.FileWarningLemmas.{file_warned}
use Rattle.logos_expand.proofs.GatherLemmas.{expanded_all, lexers_refused, some_left, wraps}
use Rattle.logos_expand.proofs.expansion.expand_enums.Goals as goal

pub accepted_file-requires-clause-order : goal.accepted_file-requires-clause-order
accepted_file-requires-clause-order c = rw c.deref-then-is_empty.ensures.value (rw c.text.ensures at c.in_ok-gathered.ensures.order)

pub accepted_file-requires-clause-warns : goal.accepted_file-requires-clause-warns
accepted_file-requires-clause-warns c =
    let gathered = c.in_ok-gathered.gathered in
    let none : gathered.refused.items ≡ [] =
    nil_from_length gathered.refused.items (omega (arith, gathered.refused.ok.0, eqb-true _ _ (sym c.is_empty.ensures ∙ c.if-is_empty.true))) in
    rw c.deref-then-is_empty-2.ensures.value
    (file_warned c.args.shape c.args.source.now.text c.args.file.now.found.items _ gathered.refused.items _ _ _ _ c.new-warned.ensures.items c.requires.enums none
    (rw (c.text.ensures, c.deref.ensures.value) at c.in_ok-gathered.ensures.warns) c.in_ok-add_passed.ensures (rw c.deref-3.ensures.value at c.in_ok-add_missing.ensures))

pub returns-then-is_empty-clause-done : goal.returns-then-is_empty-clause-done
returns-then-is_empty-clause-done c =
    let gathered = c.in_ok-gathered.gathered in
    let none : gathered.refused.items ≡ [] =
    nil_from_length gathered.refused.items (omega (arith, gathered.refused.ok.0, eqb-true _ _ (sym c.is_empty.ensures ∙ c.if-is_empty.true))) in
    wraps c.accepted_file.result (λ (made : Expansion) is. expanded_all c.args.shape c.args.source.now.path c.args.source.now.text made.bytes.items c.args.file.now.found.items gathered c.requires.enums
    (rw (c.text.ensures, c.deref.ensures.value) at c.in_ok-gathered.ensures.gathers) none is)
    (rw c.deref-then-is_empty.ensures.value at c.accepted_file.ensures.done)

pub returns-clause-denied : goal.returns-clause-denied
returns-clause-denied c =
    let gathered = c.in_ok-gathered.gathered in
    c.refused_file.ensures c.args.shape (rw c.deref-4.ensures.value (lexers_refused c.args.shape c.args.source.now.text c.args.file.now.found.items gathered c.requires.enums
    (rw (c.text.ensures, c.deref.ensures.value) at c.in_ok-gathered.ensures.gathers)
    (some_left gathered.refused.items gathered.refused.ok.0 (sym c.is_empty.ensures ∙ c.if-is_empty.false))))
