use Rattle.std.proofs.Common.{◌≡◌, ℕ, Some, inl, inr, subst, arith}
use Rattle.std.proofs.lemmas.Bool.{cases_lt}
use Rattle.logos_evidence.specs.search.inside.Order.{IsByteAt}
use Rattle.logos_evidence.specs.search.inside.PendingPoints.{pending_next}
use Rattle.logos_evidence.proofs.search.OrderLemmas.{one_byte, placed}
use Rattle.logos_evidence.proofs.search.cover.cover_pending.Goals as goal

pub loop-site-preserved : goal.loop-site-preserved
loop-site-preserved g c =
    let i = c.loop-site.invariant in
    let made = c.in_ok-cover_byte.ensures in
    record {
      cover = made.cover;
      grows = λ step h. made.grows step (i.grows step h);
      covered = λ site b at l is there.
          elim (cases_lt site c.loop-site.site) [
            | inl m ↦ λ to step. made.grows _ (i.covered site b at m is there to step)
            | inr m ↦
                let same : site ≡ c.loop-site.site = omega arith in
                let byte : b ≡ c.byte_at-byte.result =
                one_byte c.loop-site.site b c.byte_at-byte.result (subst (λ (p : ℕ). IsByteAt p b) same is) c.byte_at-byte.ensures in
                λ to step. made.covered at there to (subst (λ (x : ℕ). pending_next (g.M.Machine.leads c.args.machine.now) c.args.explored.now.utf8 at x ≡ Some to) byte step)
          ];
    }

pub returns-clause-grows : goal.returns-clause-grows
returns-clause-grows g c = λ step h. c.in_ok-cover_end.ensures.grows step (c.loop-site.invariant.grows step h)

pub returns-clause-covered : goal.returns-clause-covered
returns-clause-covered g c = λ at there. record {
  bytes = λ b l to step.
      let p = placed b l in
      let small = p.1 in
      c.in_ok-cover_end.ensures.grows _ (c.loop-site.invariant.covered p.0 b at (omega (arith, small)) p.2 there to step);
  end = λ is. c.in_ok-cover_end.ensures.covered at there is;
}
