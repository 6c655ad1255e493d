use Rattle.std.proofs.Common.{ap, ◌∙◌}
use Rattle.logos_lines.specs.Locations.{location_at}
use Rattle.logos_report.proofs.source.Part.location.Goals as goal

pub returns : goal.returns
returns c = c.location.ensures ∙ ap (location_at c.args.self.source.now.text) c.saturating_add.ensures
