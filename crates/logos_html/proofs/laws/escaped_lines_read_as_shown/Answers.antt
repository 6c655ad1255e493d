use Rattle.std.specs.Str.{chars}
use Rattle.logos_html.proofs.EscapeLemmas.{lines_read}
use Rattle.logos_html.proofs.laws.escaped_lines_read_as_shown.Goals as goal

pub returns : goal.returns
returns c = λ text. lines_read (chars text)
