use Rattle.std.proofs.Common.{refl}
use Rattle.logos_expand.proofs.expansion.push_refusal.Goals as goal

pub returns-in_ok-push-in-Errors : goal.returns-in_ok-push-in-Errors
returns-in_ok-push-in-Errors c = record {
  bad = record { offset = c.args.part.offset; errors = c.in-Errors.errors; clues = c.add_helps.new.clues };
  is_offset = refl;
  faults = rw c.in-Errors.is refl;
  known = c.in_ok-add_helps-in-Errors.ensures;
  are = c.in_ok-push-in-Errors.ensures.items;
}
