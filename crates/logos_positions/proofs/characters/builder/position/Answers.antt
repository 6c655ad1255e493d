use Rattle.std.proofs.Common.{sym, ◌∙◌, refl}
use Rattle.logos_positions.proofs.classes.TableLemmas.{row_is, end_is, some_items}
use Rattle.logos_positions.proofs.characters.builder.position.Goals as goal

pub returns-then-left-eq0-clause-finds : goal.returns-then-left-eq0-clause-finds
returns-then-left-eq0-clause-finds c =
    end_is c.args.rests.now.keys c.args.left _ c.args.offsets.items c.requires.rests c.if-left-eq0.true c.requires.parts
    (some_items _ _ c.args.offsets.ok.0 (sym c.is_empty.ensures ∙ c.if-is_empty.false)) (λ o lt. refl)

pub returns-clause-finds : goal.returns-clause-finds
returns-clause-finds c =
    row_is c.number_of.new.rests.keys c.args.left c.in_ok-i.i _ c.args.offsets.items c.in_ok-i.ensures.stored c.requires.parts
    (some_items _ _ c.args.offsets.ok.0 (sym c.is_empty.ensures ∙ c.if-is_empty.false)) (λ o lt. refl)
