use Rattle.std.specs.Str.{chars}
use Rattle.logos_html.proofs.EscapeLemmas.{text_reads}
use Rattle.logos_html.proofs.laws.escaped_text_reads_as_shown.Goals as goal

pub returns : goal.returns
returns c = λ text. text_reads (chars text)
