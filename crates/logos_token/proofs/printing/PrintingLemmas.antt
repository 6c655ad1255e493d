-- The text that is left to be printed, tree by tree.
use Rattle.std.proofs.Common.{◌≡◌, ◌+◌, ◌*◌, ◌<◌, List, [], ◌∷◌, ◌++◌, fold, arith, sym, ◌∙◌, ap, append_assoc}
use Rattle.std.proofs.lemmas.List.{append-nil}
use Rattle.std.proofs.lemmas.List.Sums.{fold-append}
use Rattle.logos_lexeme.specs.declared.lexeme.Span.{Span}
use Rattle.logos_token.specs.declared.token.printing.Outer.{Outer}
use Rattle.logos_token.specs.Tokens.{Token, group, TokenList, none, also, count_of}
use Rattle.logos_token.specs.Views.{tokens_of}
use Rattle.logos_token.specs.Printing.{opening_text, closing_text, spaced, token_parts, run_parts, Printed, print_part}
use Rattle.logos_token.specs.inside.PrintingSteps.{outer_parts, whole, outer_left, left_of}
use Rattle.logos_token.proofs.reading.CountLemmas.{token_count-positive}

outer_parts-push : (outer : List Outer) (o : Outer) → outer_parts (outer ++ o ∷ []) ≡ spaced (closing_text o.delimiter) ∷ (run_parts (tokens_of o.rest) ++ outer_parts outer)
outer_parts-push [] o = ap (λ ps. spaced (closing_text o.delimiter) ∷ ps) (sym (append-nil (run_parts (tokens_of o.rest))))
outer_parts-push (first ∷ outer) o =
    let last = spaced (closing_text first.delimiter) ∷ run_parts (tokens_of first.rest) in
    ap (λ ps. ps ++ last) (outer_parts-push outer o) ∙ ap (λ ps. spaced (closing_text o.delimiter) ∷ ps) (append_assoc (run_parts (tokens_of o.rest)) (outer_parts outer) last)

outer_left-push : (outer : List Outer) (o : Outer) → outer_left (outer ++ o ∷ []) ≡ outer_left outer + (2 * count_of (tokens_of o.rest) + 1)
outer_left-push [] o = omega arith
outer_left-push (first ∷ outer) o = omega (arith, outer_left-push outer o)

pub leaf-whole : (p : Printed) (token : Token) (afterward : TokenList) (outer : List Outer) → whole (fold print_part p (token_parts token)) outer afterward ≡ whole p outer (also token afterward)
leaf-whole p token afterward outer =
    sym (fold-append print_part p (token_parts token) (run_parts afterward ++ outer_parts outer)) ∙ ap (fold print_part p) (sym (append_assoc (token_parts token) (run_parts afterward) (outer_parts outer)))

pub leaf-left : (token : Token) (afterward : TokenList) (outer : List Outer) → left_of outer afterward < left_of outer (also token afterward)
leaf-left token afterward outer = omega (arith, token_count-positive token)

pub leave-whole : (p : Printed) (outer : List Outer) (o : Outer) → whole (print_part p (spaced (closing_text o.delimiter))) outer (tokens_of o.rest) ≡ whole p (outer ++ o ∷ []) none
leave-whole p outer o = sym (ap (fold print_part p) (outer_parts-push outer o))

pub leave-left : (outer : List Outer) (o : Outer) → left_of outer (tokens_of o.rest) < left_of (outer ++ o ∷ []) none
leave-left outer o = omega (arith, outer_left-push outer o)

pub enter-whole : (p : Printed) (span : Span) (inside : TokenList) (outer : List Outer) (o : Outer) →
    whole (print_part p (spaced (opening_text o.delimiter))) (outer ++ o ∷ []) inside ≡ whole p outer (also (group o.delimiter span inside) (tokens_of o.rest))
enter-whole p span inside outer o =
    let opening = spaced (opening_text o.delimiter) in
    let closing = spaced (closing_text o.delimiter) in
    let afterward = run_parts (tokens_of o.rest) in
    ap (λ ps. fold print_part (print_part p opening) (run_parts inside ++ ps)) (outer_parts-push outer o)
    ∙ ap (fold print_part (print_part p opening)) (sym (append_assoc (run_parts inside) (closing ∷ []) (afterward ++ outer_parts outer)) ∙ sym (append_assoc (run_parts inside ++ closing ∷ []) afterward (outer_parts outer)))

pub enter-left : (span : Span) (inside : TokenList) (outer : List Outer) (o : Outer) → left_of (outer ++ o ∷ []) inside < left_of outer (also (group o.delimiter span inside) (tokens_of o.rest))
enter-left span inside outer o = omega (arith, outer_left-push outer o)
