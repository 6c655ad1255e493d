use Rattle.std.proofs.Common.{sym, ◌∙◌}
use Rattle.logos_pattern_tokens.proofs.Cutting.{found_slot, no_slot}
use Rattle.logos_pattern_tokens.proofs.counts.cut_at.Goals as goal

pub returns-in-Some : goal.returns-in-Some
returns-in-Some c = found_slot c.args.end c.in-Some.at c.args.text.now (sym c.in-Some.is ∙ c.slot_of.ensures)

pub returns-in-None : goal.returns-in-None
returns-in-None c = no_slot c.args.end c.args.text.now (sym c.in-None.is ∙ c.slot_of.ensures)
