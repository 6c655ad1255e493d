use Rattle.std.proofs.Common.{List, [], ◌∷◌, ◌++◌, ap, ◌∙◌, refl}
use Rattle.logos_positions.specs.declared.characters.ranges.CharRange.{CharRange}
use Rattle.logos_positions.proofs.classes.TableLemmas.{start_rows, start_weight}
use Rattle.logos_positions.proofs.characters.builder.start.Goals as goal

pub returns-clause-rests : goal.returns-clause-rests
returns-clause-rests c =
    let end : CharRange = record { first = 0; last = 0 } in
    start_rows _ _ _ end c.new-rests.ensures.empty c.in_ok-insert_full.ensures.keys refl
    (c.in_ok-push.ensures.items ∙ ap (λ (xs : List CharRange). xs ++ end ∷ []) c.new-offsets.ensures.items) refl

pub returns-clause-weight : goal.returns-clause-weight
returns-clause-weight c = start_weight _ _ _ c.new-rests.ensures.empty c.in_ok-insert_full.ensures.keys refl
