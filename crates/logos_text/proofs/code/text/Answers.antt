use Rattle.std.proofs.Common.{string_bytes, subst}
use Rattle.logos_code.specs.Code.{CodeValue}
use Rattle.logos_text.specs.Occurrence.{OccurInOrder}
use Rattle.logos_text.specs.Texts.{texts_of}
use Rattle.logos_text.proofs.TextLemmas.{occur_whole}
use Rattle.logos_text.proofs.code.text.Goals as goal

pub returns : goal.returns
returns c =
    let code = rw c.new.ensures.shape at c.in_ok-push_code.ensures.adds in
    subst (λ (code : CodeValue). OccurInOrder (texts_of code) (string_bytes c.push_code.new.sink.text)) c.parts-parts.ensures.is (occur_whole c.new-sink.ensures.text code)
