use Rattle.std.proofs.Common.{◌≡◌, ◌∙◌, ◌++◌, ◌∷◌, [], Some, List, length, ap, arith}
use Rattle.std.proofs.lemmas.Map.Text.{hash_map_updates_str}
use Rattle.logos_leaf.specs.declared.subpattern.Subpattern.{Subpattern}
use Rattle.logos_leaf.proofs.subpattern.SubpatternLemmas.{found_more, if_ok_is}
use Rattle.logos_leaf.proofs.subpattern.Subpatterns.push.Goals as goal

pub invariant_of-self-2 : goal.invariant_of-self-2
invariant_of-self-2 c =
    let same = c.in_ok-reserve.ensures.items in
    let last : c.len.result ≡ length c.args.self.now.list.items = let l = ap length same in omega (arith, c.len.ensures, l) in
    let more : c.push.new.self.items ≡ c.args.self.now.list.items ++ c.args.subpattern ∷ [] =
    if_ok_is c.push.result _ _ _ (c.push.ensures.succeeds (let room = c.in_ok-reserve.ensures.ok in omega (arith, room))) c.push.ensures.items ∙ ap (λ (xs : List Subpattern). xs ++ c.args.subpattern ∷ []) same in
    record {
      found = λ q.
          hash_map_updates_str c.args.subpattern.name.text.now c.args.self.now.slots c.insert.new.self (Some c.len.result) c.in_ok-insert.ensures.updates q
          ∙ found_more c.args.subpattern c.args.self.now.list.items c.push.new.self.items c.args.self.now.slots.entries c.len.result last c.args.self.now.found c.requires more q;
    }
