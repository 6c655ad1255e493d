use Rattle.std.proofs.Common.{◌≡◌, ◌-◌, Bool, map, slice_get, ap, sym, ◌∙◌, inl, inr, subst, arith}
use Rattle.std.proofs.lemmas.Bool.{cases_lt}
use Rattle.logos_evidence.specs.search.Covering.{AreCovering}
use Rattle.logos_evidence.specs.declared.search.point.Point.{Point}
use Rattle.logos_evidence.proofs.search.CoverLemmas.{covers_all}
use Rattle.logos_evidence.proofs.search.cover.covering.Goals as goal

pub loop-number-preserved : goal.loop-number-preserved
loop-number-preserved g c =
    let i = c.loop-number.invariant in
    let made = c.in_ok-cover_pending.ensures in
    record {
      within = let l = i.within in omega (arith, l);
      cover = made.cover;
      covered = λ j at l there.
          elim (cases_lt j c.loop-number.number) [
            | inl m ↦
                let same : j ≡ c.loop-number.number - 1 = omega (arith, l, m) in
                made.covered at (ap (slice_get c.in_ok-explored.explored.visits.points.keys) (sym same) ∙ there)
            | inr m ↦
                let old = i.covered j at m there in
                record { bytes = λ b k to step. made.grows _ (old.bytes b k to step); end = λ is. made.grows _ (old.end is) }
          ];
    }

pub returns : goal.returns
returns g c =
    let next = g.M.Machine.leads c.args.machine.now in
    let is_goal = g.M.Machine.goal c.args.machine.now in
    let explored = c.in_ok-explored.explored in
    let made = c.in_ok-explored.ensures in
    let i = c.loop-number.invariant in
    let inputs = map (λ v. v.items) c.loop-number.cover.inputs.items in
    let all = covers_all next is_goal explored.utf8 explored.start explored.visits.points.keys explored.visits.ways.items made.explored
    c.loop-number.cover.steps.keys (λ j at there. i.covered j at (omega arith) there) inputs i.cover in
    subst (λ (m : Bool). AreCovering next is_goal m c.args.start inputs) made.mode
    (subst (λ (p : Point). AreCovering next is_goal explored.utf8 p inputs) made.start all)
