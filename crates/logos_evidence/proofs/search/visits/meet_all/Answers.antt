use Rattle.std.proofs.Common.{◌≡◌, ℕ, ◌+◌, inl, inr, Some, sym, ◌∙◌, subst, arith}
use Rattle.std.proofs.lemmas.Bool.{cases_lt}
use Rattle.std.proofs.lemmas.List.{get_or_default}
use Rattle.std.proofs.lemmas.Option.{same_Some}
use Rattle.logos_evidence.specs.search.inside.PendingPoints.{pending_next}
use Rattle.logos_evidence.specs.search.inside.Visits.{IsMet, no_visit, visit_at}
use Rattle.logos_evidence.specs.search.inside.Order.{IsByteAt}
use Rattle.logos_evidence.specs.declared.search.visits.PendingPoint.{PendingPoint}
use Rattle.logos_evidence.specs.declared.search.visits.Visit.{Visit}
use Rattle.logos_evidence.proofs.search.OrderLemmas.{one_byte, placed}
use Rattle.logos_evidence.proofs.search.VisitLemmas.{grows_on, met_on}
use Rattle.logos_evidence.proofs.search.visits.meet_all.Goals as goal

pub loop-site-preserved : goal.loop-site-preserved
loop-site-preserved g c = record {
  tree = c.in_ok-meet_next.ensures.tree;
  within = c.in_ok-meet_next.ensures.within;
  grows = grows_on _ _ _ _ _ _ c.loop-site.invariant.grows c.in_ok-meet_next.ensures.grows;
  met = λ site b to l at e.
      elim (cases_lt site c.loop-site.site) [
        | inl m ↦ met_on _ _ _ _ to _ c.in_ok-meet_next.ensures.grows (c.loop-site.invariant.met site b to m at e)
        | inr m ↦
            let same : site ≡ c.loop-site.site = omega arith in
            let byte : b ≡ c.byte_at-byte.result = one_byte c.loop-site.site b c.byte_at-byte.result (subst (λ (p : ℕ). IsByteAt p b) same at) c.byte_at-byte.ensures in
            c.in_ok-meet_next.ensures.met to (subst (λ (x : ℕ). pending_next (g.M.Machine.leads c.args.machine.now) c.args.utf8 c.pending_of-at.result x ≡ Some to) byte e)
      ];
}

pub returns-clause-met : goal.returns-clause-met
returns-clause-met g c = λ b from at is_byte to e.
    let p = placed b is_byte in
    let same : from ≡ c.pending_of-at.result = same_Some _ _ (sym at ∙ c.pending_of-at.ensures) in
    let step = subst (λ (s : PendingPoint). pending_next (g.M.Machine.leads c.args.machine.now) c.args.utf8 s b ≡ Some to) same e in
    let small = p.1 in
    let met = c.loop-site.invariant.met p.0 b to (omega (arith, small)) p.2 step in
    let ways = c.args.visits.now.ways.items in
    let inside = c.requires.there in
    let count = c.requires.tree.same in
    let way : c.index.result.now ≡ visit_at ways c.args.number = c.index.ensures ∙ get_or_default ways c.args.number c.index.result.now no_visit (omega (arith, inside, count)) in
    subst (λ (v : Visit). IsMet c.loop-site.visits.points.keys c.loop-site.visits.ways.items to (v.depth + 1)) way met
