use Rattle.std.proofs.Common.{◌∙◌, ap, sym, subst, List, map}
use Rattle.logos_code.specs.Items.{Item}
use Rattle.logos_code.specs.Runs.{CodeFinds, Runs}
use Rattle.logos_machine.specs.LexerValue.{answers_of, item_of}
use Rattle.logos_machine.proofs.ItemsLemmas.{lexes_by}
use Rattle.logos_relex.specs.Chunks.{item_at, offset_of}
use Rattle.logos_relex.specs.declared.chunk.ItemAt.{ItemAt}
use Rattle.logos_relex.proofs.ItemLemmas.{all_stored, run_slices}
use Rattle.logos_relex.proofs.chunk.last_items.Goals as goal

-- the stored form of the items determines the items
pub returns-clause-items : goal.returns-clause-items
returns-clause-items g c =
    let code = c.args.code.now in
    let bytes = c.args.bytes.now in
    let answers = answers_of g.C.Fn c.args.callback.now in
    let found = c.in_ok-found.found.items in
    let runs : Runs code answers bytes 0 (map item_of found) = lexes_by code.leaves bytes (CodeFinds code bytes) _ answers (λ leaf slice answer w. (w.0, w.1, w.2.1)) (rw c.in_ok-lexer.ensures.accepted.0 at c.in_ok-found.ensures) in
    let is = all_stored code.leaves answers bytes found (run_slices code.leaves answers bytes runs) in
    let offsets = c.in_ok-offsets.ensures ∙ ap (map offset_of) c.deref.ensures.value in
    subst (λ (l : List ItemAt). Runs code answers bytes 0 (map (item_at bytes) l)) (sym offsets) (subst (λ (l : List Item). Runs code answers bytes 0 l) (sym is) runs)

-- the lexer was made, so the bytes are UTF-8 where they have to be
pub returns-clause-accepted : goal.returns-clause-accepted
returns-clause-accepted g c = c.in_ok-lexer.ensures.accepted.1
