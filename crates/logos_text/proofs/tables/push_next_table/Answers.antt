use Rattle.logos_text.specs.Texts.{table_text}
use Rattle.logos_text.proofs.TextLemmas.{adds_text, grows_after}
use Rattle.logos_text.proofs.tables.push_next_table.Goals as goal

pub returns : goal.returns
returns c = grows_after (adds_text (table_text c.args.n c.args.entries.now) c.in_ok-push_table.ensures) c.in_ok-push.ensures
