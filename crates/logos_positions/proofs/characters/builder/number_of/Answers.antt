use Rattle.logos_positions.proofs.classes.TableLemmas.{same_row, grows, stay_rests}
use Rattle.logos_positions.proofs.characters.builder.number_of.Goals as goal

pub returns-clause-stored : goal.returns-clause-stored
returns-clause-stored c =
    let h = c.in_ok-i.ensures.stored in
    record { key = h.0; is = h.1; same = same_row c.args.rest h.0 h.2 }

pub returns-clause-grows : goal.returns-clause-grows
returns-clause-grows c = grows _ c.args.rest _ c.in_ok-i.ensures.keys

pub returns-clause-rests : goal.returns-clause-rests
returns-clause-rests c = stay_rests _ c.args.rest _ c.in_ok-i.ensures.keys
