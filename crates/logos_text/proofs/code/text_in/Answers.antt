use Rattle.std.proofs.Common.{[], string_bytes, subst}
use Rattle.logos_type.specs.Printed.{printed_type}
use Rattle.logos_type.specs.TypeTrees.{type_tree}
use Rattle.logos_code.specs.Code.{CodeValue}
use Rattle.logos_text.specs.Arounds.{around_value}
use Rattle.logos_text.specs.Fronts.{BeginsWith, opening_text, short_core}
use Rattle.logos_text.specs.FrontRuns.{text_runs}
use Rattle.logos_text.specs.Occurrence.{OccurInOrder}
use Rattle.logos_text.specs.Pieces.{ArePrinted}
use Rattle.logos_text.specs.Texts.{texts_of}
use Rattle.logos_text.proofs.FrontLemmas.{begins_text}
use Rattle.logos_text.proofs.PieceLemmas.{notes_adds, notes_both, notes_last, notes_of, whole_noted}
use Rattle.logos_text.proofs.TextLemmas.{adds_both, grows_after, occur_whole}
use Rattle.logos_text.proofs.code.text_in.Goals as goal

pub returns-clause-occur : goal.returns-clause-occur
returns-clause-occur c =
    let code = rw c.new-names.ensures.shape at c.in_ok-push_code.ensures.adds in
    let whole =
    occur_whole c.new-sink.ensures.text (grows_after (adds_both (notes_adds (notes_of c.in_ok-push_front.ensures)) code) (notes_adds (notes_of c.in_ok-push.ensures))) in
    subst (λ (code : CodeValue). OccurInOrder (texts_of code) (string_bytes c.push.new.self.text)) c.parts-parts.ensures.is whole

pub returns-clause-begins : goal.returns-clause-begins
returns-clause-begins c =
    let front = rw (c.new-names.ensures.this, c.deref.ensures, c.in_ok-this.ensures) at c.in_ok-push_front.ensures in
    let whole = begins_text c.new-sink.ensures front c.in_ok-push_code.ensures.adds c.in_ok-push.ensures in
    subst (λ (code : CodeValue). BeginsWith (opening_text [] short_core (around_value c.args.around) (printed_type (type_tree code.header.this))) (string_bytes c.push.new.self.text))
    c.parts-parts.ensures.is whole

pub returns-clause-pieces : goal.returns-clause-pieces
returns-clause-pieces c =
    let front = rw (c.new-names.ensures.this, c.new-names.ensures.name, c.deref.ensures, c.in_ok-this.ensures) at c.in_ok-push_front.ensures in
    let code = rw c.new-names.ensures.name at c.in_ok-push_code.ensures.notes in
    let whole = whole_noted c.new-sink.ensures (notes_last (notes_both (notes_of front) code) (notes_of c.in_ok-push.ensures)) in
    subst (λ (code : CodeValue). ArePrinted (text_runs (around_value c.args.around) code) 0 c.push.new.self.pieces.items (string_bytes c.push.new.self.text)) c.parts-parts.ensures.is whole
