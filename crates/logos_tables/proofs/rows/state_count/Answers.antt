use Rattle.std.proofs.Common.{◌∙◌, length, ap, sym}
use Rattle.std.proofs.lemmas.List.{length-map}
use Rattle.logos_code.specs.Code.{CodeValue}
use Rattle.logos_code.specs.CodeView.{state_of}
use Rattle.logos_tables.proofs.rows.state_count.Goals as goal

pub returns : goal.returns
returns c =
    let parts = c.parts.result.now in
    c.len.ensures ∙ parts.states.ok.0 ∙ sym (length-map parts.states.items (state_of parts.jump_tables.items)) ∙ ap (λ (code : CodeValue). length code.states) c.parts.ensures.is
