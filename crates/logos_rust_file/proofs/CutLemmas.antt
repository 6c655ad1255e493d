-- Tokens, and so the enums of a text, begin and end between characters.
use Rattle.std.proofs.Common.{ℕ, List, All, IsUtf8, sym}
use Rattle.std.proofs.lemmas.List.Elements.{All-nil, All-cons, All-append}
use Rattle.logos_token.specs.Tokens.{TokenList, also, IsRestOf}
use Rattle.logos_token.specs.Spelling.{Spells}
use Rattle.logos_token.proofs.reading.SpanLemmas.{RunCut, append_front, append_back, span_cut, spelled_cut}
use Rattle.logos_rust_file.specs.declared.finder.FoundEnum.{FoundEnum}
use Rattle.logos_rust_file.specs.Files.{Finds}
use Rattle.logos_rust_file.specs.Files.Finds.{done, finds, enters, passes}
use Rattle.logos_rust_file.specs.Fronts.{is_module, is_other}
use Rattle.logos_rust_file.specs.Replacing.{IsFoundCut}
use Rattle.logos_rust_file.proofs.FrontLemmas.{item_of, Shape, another, a_module}

rest_cut : (text : List ℕ) (run rest : TokenList) → IsRestOf run rest → RunCut text run → RunCut text rest
rest_cut text run rest r c = append_back text r.front rest (rw r.is at c)

-- the tokens inside a module, and the tokens after it
module_cut : (text : List ℕ) (at inside rest : TokenList) → Shape at (is_module inside rest) → RunCut text at → RunCut text inside × RunCut text rest
module_cut text _ inside rest (a_module) c = (c.1.1.0.1, c.1.1.1)

other_cut : (text : List ℕ) (at rest : TokenList) → Shape at (is_other rest) → RunCut text at → RunCut text rest
other_cut text _ rest (another) c = c.1

find_cut : (text : List ℕ) (run : TokenList) (found : List FoundEnum) → Finds run found → RunCut text run → All (IsFoundCut text) found
find_cut text _ _ (done k) c = All-nil (IsFoundCut text)
find_cut text _ _ (finds {run} {token} {tail} {rest} {found} {more} k e d f) c =
    let whole = rw e at c in
    All-cons (IsFoundCut text) found more (rw d.span (span_cut text token tail (append_front text (also token tail) rest whole))) (find_cut text rest more f (append_back text (also token tail) rest whole))
find_cut text _ _ (enters {run} {inside} {rest} {within} {more} k f g) c =
    let item = item_of run (is_module inside rest) (sym k) in
    let m = module_cut text item.at inside rest item.shape (rest_cut text run item.at item.front c) in
    All-append (IsFoundCut text) within more (find_cut text inside within f m.0) (find_cut text rest more g m.1)
find_cut text _ _ (passes {run} {rest} {more} k f) c =
    let item = item_of run (is_other rest) (sym k) in
    find_cut text rest more f (other_cut text item.at rest item.shape (rest_cut text run item.at item.front c))

pub text_cut : (text : List ℕ) (tokens : TokenList) (found : List FoundEnum) → IsUtf8 text → Spells text tokens → Finds tokens found → All (IsFoundCut text) found
text_cut text tokens found utf8 s f =
    find_cut text tokens found f (spelled_cut text tokens utf8 s)
