use Rattle.std.proofs.Common.{◌∙◌, Some, map, set, ap, sym}
use Rattle.logos_leaf.specs.declared.subpattern.Subpattern.{Subpattern}
use Rattle.logos_leaf.specs.subpattern.StoredViews.{stored_of}
use Rattle.logos_leaf.proofs.subpattern.SubpatternLemmas.{stored_nowhere, stored_there, put_at_end, put_there, found_there}
use Rattle.logos_leaf.proofs.subpattern.Subpatterns.put.Goals as goal

pub returns-in_default-clause-former : goal.returns-in_default-clause-former
returns-in_default-clause-former c = sym (stored_nowhere (map stored_of c.args.self.now.list.items) c.args.subpattern.name.text.now (sym c.in_default.ensures.slot))

pub returns-in_default-clause-put : goal.returns-in_default-clause-put
returns-in_default-clause-put c =
    c.in_ok-push.ensures.ok ∙ sym (put_at_end (stored_of c.args.subpattern) (map stored_of c.args.self.now.list.items) (sym c.in_default.ensures.slot))

pub invariant_of-self : goal.invariant_of-self
invariant_of-self c = record {
  found = λ q.
      rw c.replace.ensures.after
      (c.args.self.now.found q ∙ found_there c.args.subpattern c.args.self.now.list.items c.in-Some.slot (sym c.in-Some.ensures.slot) q);
}

pub returns-clause-former : goal.returns-clause-former
returns-clause-former c =
    ap (λ (s : Subpattern). Some (stored_of s)) (c.replace.ensures.value ∙ c.index_mut.ensures.value)
    ∙ sym (stored_there c.args.self.now.list.items c.args.subpattern.name.text.now c.in-Some.slot c.index_mut.result.now (sym c.in-Some.ensures.slot))

pub returns-clause-put : goal.returns-clause-put
returns-clause-put c =
    ap (λ (s : Subpattern). map stored_of (set c.args.self.now.list.items c.in-Some.slot s)) c.replace.ensures.after
    ∙ put_there c.args.subpattern c.args.self.now.list.items c.in-Some.slot (sym c.in-Some.ensures.slot)
