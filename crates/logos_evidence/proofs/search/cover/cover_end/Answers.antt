use Rattle.std.proofs.Common.{◌≡◌, true, false, List, map, sym, ◌∙◌, subst, arith}
use Rattle.std.specs.Prelude.{Contains}
use Rattle.std.proofs.lemmas.Option.{same_Some}
use Rattle.logos_evidence.specs.search.Covering.{end_at}
use Rattle.logos_evidence.specs.search.inside.Covers.{IsCover}
use Rattle.logos_evidence.specs.search.inside.PendingPoints.{pending_next, pending_goal}
use Rattle.logos_evidence.specs.declared.search.steps.InputStep.{InputStep}
use Rattle.logos_evidence.specs.declared.search.visits.PendingPoint.{PendingPoint}
use Rattle.logos_evidence.proofs.search.CoverLemmas.{input_to, cover_more}
use Rattle.logos_evidence.proofs.search.cover.cover_end.Goals as goal

pub way_to-requires-clause-there : goal.way_to-requires-clause-there
way_to-requires-clause-there g c =
    let there = c.requires.there in
    let same = c.requires.explored.tree.same in
    omega (arith, there, same)

pub way_to-requires-clause-down : goal.way_to-requires-clause-down
way_to-requires-clause-down g c = λ number p l.
    let tree = c.requires.explored.tree in
    let same = tree.same in
    (tree.reached number p (omega (arith, l, same))).before

pub returns-then-not-is_goal-clause-covered : goal.returns-then-not-is_goal-clause-covered
returns-then-not-is_goal-clause-covered g c = λ at there is.
    let same : c.pending_of-at.result ≡ at = same_Some _ _ (sym c.pending_of-at.ensures ∙ there) in
    let out : pending_goal (g.M.Machine.goal c.args.machine.now) c.pending_of-at.result ≡ false = sym c.is_goal.ensures ∙ c.if-not-is_goal.true in
    let clash : true ≡ false = sym is ∙ subst (λ (s : PendingPoint). pending_goal (g.M.Machine.goal c.args.machine.now) s ≡ false) same out in
    absurd (cc)

pub returns-then-not-is_new-clause-cover : goal.returns-then-not-is_new-clause-cover
returns-then-not-is_new-clause-cover g c =
    subst (λ (steps : List InputStep). IsCover (g.M.Machine.leads c.args.machine.now) c.args.explored.now.utf8 c.args.explored.now.start steps
    (map (λ v. v.items) c.args.cover.now.inputs.items)) (sym (c.in_ok-is_new.ensures.stays c.if-not-is_new.true)) c.requires.cover

pub returns-then-not-is_new-clause-covered : goal.returns-then-not-is_new-clause-covered
returns-then-not-is_new-clause-covered g c = λ at there is.
    let same : c.pending_of-at.result ≡ at = same_Some _ _ (sym c.pending_of-at.ensures ∙ there) in
    subst (λ (s : PendingPoint). Contains c.add_step.new.steps.keys (end_at s.point)) same c.in_ok-is_new.ensures.has

pub returns-clause-cover : goal.returns-clause-cover
returns-clause-cover g c =
    let next = g.M.Machine.leads c.args.machine.now in
    let is_goal = g.M.Machine.goal c.args.machine.now in
    let explored = c.args.explored.now in
    let at = c.pending_of-at.result in
    let way = c.in_ok-input.ensures (pending_next next explored.utf8) at c.requires.explored.tree c.pending_of-at.ensures in
    let goal_is : pending_goal is_goal at ≡ true = sym c.is_goal.ensures ∙ c.if-not-is_goal.false in
    let is = input_to next is_goal explored.utf8 explored.start explored.visits.points.keys explored.visits.ways.items c.requires.explored
    c.args.number at c.in_ok-input.input.items way goal_is in
    cover_more next explored.utf8 explored.start _ _ _ _ _ c.in_ok-input.input.items (end_at at.point) c.requires.cover c.in_ok-is_new.ensures.only
    c.in_ok-add_input.ensures.adds c.in_ok-add_input.ensures.input is

pub returns-clause-grows : goal.returns-clause-grows
returns-clause-grows g c = λ step h. c.in_ok-add_input.ensures.adds.grows step (c.in_ok-is_new.ensures.grows step h)

pub returns-clause-covered : goal.returns-clause-covered
returns-clause-covered g c = λ at there is.
    let same : c.pending_of-at.result ≡ at = same_Some _ _ (sym c.pending_of-at.ensures ∙ there) in
    subst (λ (s : PendingPoint). Contains c.add_input.new.cover.steps.keys (end_at s.point)) same (c.in_ok-add_input.ensures.adds.grows _ c.in_ok-is_new.ensures.has)
