use Rattle.std.proofs.Common.{ap, sym, ◌∙◌, length}
use Rattle.std.specs.Str.{chars}
use Rattle.logos_hir.proofs.MeasureLemmas.{text_size-chars, text_size-bytes}
use Rattle.logos_hir.proofs.measures.text_size.Goals as goal

pub returns-in-Ok : goal.returns-in-Ok
returns-in-Ok c =
    c.char_count.ensures ∙ ap (λ t. length (chars t)) c.in-Ok.ensures.cases.0 ∙ sym (text_size-chars c.args.bytes.now c.in-Ok.ensures.cases.1)

pub returns-in-Err : goal.returns-in-Err
returns-in-Err c = sym (text_size-bytes c.args.bytes.now c.in-Err.ensures.cases.0)
