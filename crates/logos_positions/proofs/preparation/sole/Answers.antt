use Rattle.std.proofs.Common.{◌≡◌, ◌+◌, ◌<◌, List, [], ◌∷◌, ◌++◌, map, length, refl, ap, arith}
use Rattle.logos_positions.specs.Node.{core_of}
use Rattle.logos_positions.specs.inside.Joined.{from_one, from_none}
use Rattle.logos_positions.specs.declared.node.Node.{Node}
use Rattle.logos_positions.proofs.preparation.sole.Goals as goal

the_last : (xs ys : List Node) (x : Node) → xs ≡ ys ++ x ∷ [] → length ys + 1 < 2 → xs ≡ x ∷ []
the_last xs [] x e few = e
the_last xs (y ∷ ys) x e few = absurd (omega (arith, few))

no_items : (xs : List Node) → length xs ≡ 0 → xs ≡ []
no_items [] e = refl
no_items (x ∷ xs) e = absurd (omega (arith, e))

pub returns-clause-occurs : goal.returns-clause-occurs
returns-clause-occurs c =
    let last = the_last c.args.nodes.items c.pop.new.self.items c.in-Some.node (rw c.in-Some.is at c.pop.ensures.items) (omega (arith, c.in-Some.ensures.len, c.requires.few)) in
    rw (ap (map core_of) last) (from_one (core_of c.in-Some.node))

pub returns-in_default-clause-occurs : goal.returns-in_default-clause-occurs
returns-in_default-clause-occurs c =
    let old : c.args.nodes.items ≡ [] = no_items c.args.nodes.items (omega (arith, rw c.in_default.is at c.pop.ensures.len, rw c.in_default.is at c.pop.ensures.cases)) in
    rw (ap (map core_of) old, c.none_of.ensures.occurs) from_none
