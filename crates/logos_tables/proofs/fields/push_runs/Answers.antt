use Rattle.logos_tables.proofs.AddLemmas.{appends_both}
use Rattle.logos_tables.proofs.fields.push_runs.Goals as goal

pub returns : goal.returns
returns c = appends_both c.in_ok-push_lengths.ensures c.in_ok-push_steps.ensures
