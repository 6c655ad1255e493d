use Rattle.std.proofs.Common.{Some, slice_get, sym, ap, ◌∙◌, refl}
use Rattle.logos_evidence.specs.search.inside.Visits.{known}
use Rattle.logos_evidence.proofs.search.MeetLemmas.{same_pending, stays}
use Rattle.logos_evidence.proofs.search.visits.meet.Goals as goal

pub returns-else-is_new : goal.returns-else-is_new
returns-else-is_new c =
    let stored = c.in_ok-is_new.ensures.stored in
    let same = stays _ _ _ _ c.in_ok-is_new.is_new c.in_ok-is_new.ensures.added c.if-is_new.false c.in_ok-is_new.ensures.keys in
    let pending = same_pending c.args.pending stored.0 stored.2 in
    known c.in_ok-is_new.field-0-0 (ap (λ ks. slice_get ks c.in_ok-is_new.field-0-0) (sym same) ∙ stored.1 ∙ ap Some pending) same refl
