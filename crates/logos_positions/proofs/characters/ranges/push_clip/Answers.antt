use Rattle.std.proofs.Common.{◌||◌, ap, ◌∙◌}
use Rattle.logos_positions.specs.inside.Ranges.{in_ranges}
use Rattle.logos_positions.proofs.classes.RangeLemmas.{in_ranges-push, AreParts-push}
use Rattle.logos_positions.proofs.characters.ranges.push_clip.Goals as goal

pub returns-in_ok-push-in-Some-clause-members : goal.returns-in_ok-push-in-Some-clause-members
returns-in_ok-push-in-Some-clause-members c = λ o lt.
    rw c.in_ok-push-in-Some.ensures.items
    (in_ranges-push c.args.out.now.items c.in-Some.part o ∙ ap (λ b. in_ranges c.args.out.now.items o || b) (c.in-Some.ensures.clips.1 o lt))

pub returns-in_ok-push-in-Some-clause-parts : goal.returns-in_ok-push-in-Some-clause-parts
returns-in_ok-push-in-Some-clause-parts c = λ h.
    rw c.in_ok-push-in-Some.ensures.items (AreParts-push c.args.window.size c.args.out.now.items c.in-Some.part h c.in-Some.ensures.clips.0)
