use Rattle.std.proofs.Common.{◌≡◌, Some, None, List, map, sym, ◌∙◌, subst, arith}
use Rattle.std.specs.Prelude.{Contains}
use Rattle.std.proofs.lemmas.Option.{same_Some}
use Rattle.logos_evidence.specs.search.Covering.{step_to}
use Rattle.logos_evidence.specs.search.inside.Covers.{IsCover}
use Rattle.logos_evidence.specs.search.inside.PendingPoints.{pending_next}
use Rattle.logos_evidence.specs.declared.search.steps.InputStep.{InputStep}
use Rattle.logos_evidence.specs.declared.search.visits.PendingPoint.{PendingPoint}
use Rattle.logos_evidence.proofs.search.CoverLemmas.{input_by, cover_more}
use Rattle.logos_evidence.proofs.search.cover.cover_byte.Goals as goal

pub way_by-requires-clause-there : goal.way_by-requires-clause-there
way_by-requires-clause-there g c =
    let there = c.requires.there in
    let same = c.requires.explored.tree.same in
    omega (arith, there, same)

pub way_by-requires-clause-down : goal.way_by-requires-clause-down
way_by-requires-clause-down g c = λ number p l.
    let tree = c.requires.explored.tree in
    let same = tree.same in
    (tree.reached number p (omega (arith, l, same))).before

pub returns-in_default-clause-covered : goal.returns-in_default-clause-covered
returns-in_default-clause-covered g c = λ at there to leads.
    let next = pending_next (g.M.Machine.leads c.args.machine.now) c.args.explored.now.utf8 in
    let same : c.pending_of-at.result ≡ at = same_Some _ _ (sym c.pending_of-at.ensures ∙ there) in
    let none : next at c.args.reading.byte ≡ None = subst (λ (s : PendingPoint). next s c.args.reading.byte ≡ None) same (sym c.in_default.ensures) in
    absurd (let clash : None ≡ Some to = sym none ∙ leads in cc)

pub returns-then-not-is_new-clause-cover : goal.returns-then-not-is_new-clause-cover
returns-then-not-is_new-clause-cover g c =
    subst (λ (steps : List InputStep). IsCover (g.M.Machine.leads c.args.machine.now) c.args.explored.now.utf8 c.args.explored.now.start steps
    (map (λ v. v.items) c.args.cover.now.inputs.items)) (sym (c.in_ok-is_new.ensures.stays c.if-not-is_new.true)) c.requires.cover

pub returns-then-not-is_new-clause-covered : goal.returns-then-not-is_new-clause-covered
returns-then-not-is_new-clause-covered g c = λ at there to leads.
    let next = pending_next (g.M.Machine.leads c.args.machine.now) c.args.explored.now.utf8 in
    let same : c.pending_of-at.result ≡ at = same_Some _ _ (sym c.pending_of-at.ensures ∙ there) in
    let led : next at c.args.reading.byte ≡ Some c.in-Some.next = subst (λ (s : PendingPoint). next s c.args.reading.byte ≡ Some c.in-Some.next) same (sym c.in-Some.ensures) in
    let to_is : c.in-Some.next ≡ to = same_Some _ _ (sym led ∙ leads) in
    subst (λ (t : PendingPoint). Contains c.add_step.new.steps.keys (step_to at.point t.point)) to_is
    (subst (λ (s : PendingPoint). Contains c.add_step.new.steps.keys (step_to s.point c.in-Some.next.point)) same c.in_ok-is_new.ensures.has)

pub returns-clause-cover : goal.returns-clause-cover
returns-clause-cover g c =
    let next = g.M.Machine.leads c.args.machine.now in
    let explored = c.args.explored.now in
    let at = c.pending_of-at.result in
    let to = c.in-Some.next in
    let is = input_by next (g.M.Machine.goal c.args.machine.now) explored.utf8 explored.start explored.visits.points.keys explored.visits.ways.items c.requires.explored
    c.args.reading.number c.args.reading.byte at to c.in_ok-input.input.items c.pending_of-at.ensures (sym c.in-Some.ensures) c.requires.byte c.in_ok-input.ensures in
    cover_more next explored.utf8 explored.start _ _ _ _ _ c.in_ok-input.input.items (step_to at.point to.point) c.requires.cover c.in_ok-is_new.ensures.only
    c.in_ok-add_input.ensures.adds c.in_ok-add_input.ensures.input is

pub returns-clause-grows : goal.returns-clause-grows
returns-clause-grows g c = λ step h. c.in_ok-add_input.ensures.adds.grows step (c.in_ok-is_new.ensures.grows step h)

pub returns-clause-covered : goal.returns-clause-covered
returns-clause-covered g c = λ at there to leads.
    let next = pending_next (g.M.Machine.leads c.args.machine.now) c.args.explored.now.utf8 in
    let same : c.pending_of-at.result ≡ at = same_Some _ _ (sym c.pending_of-at.ensures ∙ there) in
    let led : next at c.args.reading.byte ≡ Some c.in-Some.next = subst (λ (s : PendingPoint). next s c.args.reading.byte ≡ Some c.in-Some.next) same (sym c.in-Some.ensures) in
    let to_is : c.in-Some.next ≡ to = same_Some _ _ (sym led ∙ leads) in
    subst (λ (t : PendingPoint). Contains c.add_input.new.cover.steps.keys (step_to at.point t.point)) to_is
    (subst (λ (s : PendingPoint). Contains c.add_input.new.cover.steps.keys (step_to s.point c.in-Some.next.point)) same (c.in_ok-add_input.ensures.adds.grows _ c.in_ok-is_new.ensures.has))
