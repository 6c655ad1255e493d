use Rattle.logos_tables.specs.Texts.{field_text}
use Rattle.logos_tables.proofs.AddLemmas.{appends_text}
use Rattle.logos_tables.proofs.fields.push_field.Goals as goal

pub returns : goal.returns
returns c = appends_text (field_text c.args.name.now c.args.numbers.now) c.in_ok-push_whole_field.ensures
