use Rattle.std.proofs.Common.{◌≡◌, sym, ◌∙◌, subst}
use Rattle.std.proofs.lemmas.Option.{same_Some}
use Rattle.logos_evidence.specs.search.inside.PendingPoints.{pending_next}
use Rattle.logos_evidence.specs.search.inside.Visits.{IsMet}
use Rattle.logos_evidence.specs.declared.search.visits.PendingPoint.{PendingPoint}
use Rattle.logos_evidence.proofs.search.VisitLemmas.{added}
use Rattle.logos_evidence.proofs.search.visits.meet_next.Goals as goal

pub returns-clause-tree : goal.returns-clause-tree
returns-clause-tree g c =
    let next = pending_next (g.M.Machine.leads c.args.machine.now) c.args.utf8 in
    (added next _ _ c.in-Some.next c.args.way c.requires.tree c.args.at c.requires.there (sym c.in-Some.ensures) c.requires.byte c.requires.depth c.requires.within _ _ c.in_ok-meet.ensures).tree

pub returns-clause-within : goal.returns-clause-within
returns-clause-within g c =
    let next = pending_next (g.M.Machine.leads c.args.machine.now) c.args.utf8 in
    (added next _ _ c.in-Some.next c.args.way c.requires.tree c.args.at c.requires.there (sym c.in-Some.ensures) c.requires.byte c.requires.depth c.requires.within _ _ c.in_ok-meet.ensures).within

pub returns-clause-grows : goal.returns-clause-grows
returns-clause-grows g c =
    let next = pending_next (g.M.Machine.leads c.args.machine.now) c.args.utf8 in
    (added next _ _ c.in-Some.next c.args.way c.requires.tree c.args.at c.requires.there (sym c.in-Some.ensures) c.requires.byte c.requires.depth c.requires.within _ _ c.in_ok-meet.ensures).grows

pub returns-clause-met : goal.returns-clause-met
returns-clause-met g c = λ to e.
    let next = pending_next (g.M.Machine.leads c.args.machine.now) c.args.utf8 in
    let met = (added next _ _ c.in-Some.next c.args.way c.requires.tree c.args.at c.requires.there (sym c.in-Some.ensures) c.requires.byte c.requires.depth c.requires.within _ _ c.in_ok-meet.ensures).met in
    let same : c.in-Some.next ≡ to = same_Some _ _ (c.in-Some.ensures ∙ e) in
    subst (λ (s : PendingPoint). IsMet c.meet.new.visits.points.keys c.meet.new.visits.ways.items s c.args.way.depth) same met
