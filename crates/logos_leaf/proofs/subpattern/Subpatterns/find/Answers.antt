use Rattle.std.proofs.Common.{◌∙◌, Some, map, option_map, ap, sym, string_bytes}
use Rattle.logos_leaf.specs.declared.subpattern.Subpattern.{Subpattern}
use Rattle.logos_leaf.specs.subpattern.StoredViews.{stored_of}
use Rattle.logos_leaf.specs.subpattern.Substitution.{Stored}
use Rattle.logos_leaf.proofs.subpattern.SubpatternLemmas.{stored_nowhere, stored_there}
use Rattle.logos_leaf.proofs.subpattern.Subpatterns.find.Goals as goal

pub returns-in_err-slot : goal.returns-in_err-slot
returns-in_err-slot c =
    rw c.from_residual.ensures
    (sym (ap (option_map (λ (s : Stored). s.text)) (stored_nowhere (map stored_of c.args.self.now.list.items) c.args.name.now (sym c.in_err-slot.ensures.slot))))

pub returns : goal.returns
returns c =
    rw c.as_str.ensures.value
    (ap (λ (s : Subpattern). Some (string_bytes s.pattern)) c.index.ensures
    ∙ sym (ap (option_map (λ (s : Stored). s.text)) (stored_there c.args.self.now.list.items c.args.name.now c.in_ok-slot.slot c.index.result.now (sym c.in_ok-slot.ensures.slot))))
