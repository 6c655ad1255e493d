use Rattle.std.specs.Str.{chars}
use Rattle.logos_diagram.proofs.LabelLemmas.{text_labels}
use Rattle.logos_diagram.proofs.laws.label_text_ends_no_label.Goals as goal

pub returns : goal.returns
returns c = λ text. text_labels (chars text)
