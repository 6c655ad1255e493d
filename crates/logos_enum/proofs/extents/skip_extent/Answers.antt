use Rattle.std.proofs.Common.{refl, ◌∙◌, arith}
use Rattle.logos_token.proofs.reading.CountLemmas.{IsRestOf-self, count_of-rest}
use Rattle.logos_enum.proofs.RuleLemmas.{IsRestOf-join, IsRestOf-token}
use Rattle.logos_enum.proofs.extents.skip_extent.Goals as goal

pub returns-then-count-eq0-clause-front : goal.returns-then-count-eq0-clause-front
returns-then-count-eq0-clause-front c = IsRestOf-self _

pub loop-next-init : goal.loop-next-init
loop-next-init c = record { same = refl; front = IsRestOf-self _; shorter = omega arith }

pub skip_token-requires : goal.skip_token-requires
skip_token-requires c = omega (arith, c.loop-next.invariant.shorter, c.count.ensures, c.count.type_inv)

pub loop-next-preserved : goal.loop-next-preserved
loop-next-preserved c =
    let s = c.in-Some.ensures in
    let less = count_of-rest _ s.token _ s.is in
    record {
      same = c.loop-next.invariant.same ∙ s.same;
      front = IsRestOf-join _ _ _ c.loop-next.invariant.front (IsRestOf-token _ _ _ s.is);
      shorter = omega (arith, less, s.deeper, c.loop-next.invariant.shorter);
    }
