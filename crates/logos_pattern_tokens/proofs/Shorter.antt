-- Each token takes at least one character.
use Rattle.std.proofs.Common.{◌≡◌, ℕ, ◌<◌, ◌≤◌, Bool, List, [], ◌∷◌, ◌++◌, length, replicate, Option, Some, ap, subst, arith, length-append}
use Rattle.logos_pattern_tokens.specs.declared.token.Atom.{Atom}
use Rattle.logos_pattern_tokens.specs.declared.bracket.token.Symbol.{Symbol}
use Rattle.logos_pattern_tokens.specs.declared.bracket.token.Lead.{Lead}
use Rattle.logos_pattern_tokens.specs.declared.bracket.token.BracketToken.{BracketToken}
use Rattle.logos_pattern_tokens.specs.declared.bracket.token.BracketToken.TheVariants.{Close}
use Rattle.logos_pattern_tokens.specs.bracket.Form.{Bracket, bracket}
use Rattle.logos_pattern_tokens.specs.Token.{Text, Token}
use Rattle.logos_pattern_tokens.specs.Reader.{token_at}
use Rattle.logos_pattern_tokens.specs.Spelling.{Escapes, single, two_digits, four_digits, eight_digits, any_digits, boundary, property, named_property, Counts, star, plus, question, exactly, at_least, between, Takes, bare, escaped, dot, caret, dollar, branch, open_capture, open_named, open_python, open_plain, open_flags, setting, close_group, greedy, lazy}
use Rattle.logos_pattern_tokens.specs.bracket.Spelling.{Symbols, plain, escaped as escaped_symbol, escaped_byte, class_text, Leads, dashes, one_bracket, Opens, positive, negative, BracketTakes, BracketCuts, Encloses, operands_tokens, closes, operator, class, opens, one, range, perl, property as property_item}
use Rattle.logos_pattern_tokens.specs.bracket.Reader.{bracket_token_at}
use Rattle.logos_pattern_tokens.proofs.Picks.{IsTaken}
use Rattle.logos_pattern_tokens.proofs.TokenLemmas.{is_taken}
use Rattle.logos_pattern_tokens.proofs.BracketTokens.{bracket_token_taken}

escapes_some : (a : Atom) (text rest : Text) → Escapes a text rest → length rest < length text
escapes_some a text rest (single c x tail is) = omega arith
escapes_some a text rest (two_digits digits tail n size is) = omega (arith, length-append digits tail)
escapes_some a text rest (four_digits digits tail n size is) = omega (arith, length-append digits tail)
escapes_some a text rest (eight_digits digits tail n size is) = omega (arith, length-append digits tail)
escapes_some a text rest (any_digits letter digits tail n among some is) = omega (arith, length-append digits (125 ∷ tail))
escapes_some a text rest (boundary tail h) = omega arith
escapes_some a text rest (property negated c tail set ne is) = omega arith
escapes_some a text rest (named_property negated name tail set lacks is) = omega (arith, length-append name (125 ∷ tail))

symbols_some : (s : Symbol) (text rest : Text) → Symbols s text rest → length rest < length text
symbols_some s text rest (plain c tail ne) = omega arith
symbols_some s text rest (escaped_symbol c inner tail e) = let h = escapes_some _ inner tail e in omega arith
symbols_some s text rest (escaped_byte b inner tail e) = let h = escapes_some _ inner tail e in omega arith

leads_some : (lead : Lead) (text rest : Text) → Leads lead text rest → length rest ≤ length text
leads_some lead text rest (dashes n tail a b) = omega (arith, length-append (replicate n 45) tail)
leads_some lead text rest (one_bracket tail) = omega arith

opens_some : (negated : Bool) (lead : Lead) (text rest : Text) → Opens negated lead text rest → length rest ≤ length text
opens_some negated lead text rest (positive l t r none k) = leads_some l t r k
opens_some negated lead text rest (negative l t r k) = let h = leads_some l t r k in omega arith

bracket_some : (t : BracketToken) (text rest : Text) → BracketTakes t text rest → length rest < length text
bracket_some t text rest (closes tail) = omega arith
bracket_some t text rest (operator op tail) = omega arith
bracket_some t text rest (class name kind negated tail is) = omega (arith, length-append (class_text name negated) tail)
bracket_some t text rest (opens negated lead inner tail none o) = let h = opens_some negated lead inner tail o in omega arith
bracket_some t text rest (one s front tail item k e) = symbols_some s front tail k
bracket_some t text rest (range a b front after tail item k e l le) = let h = symbols_some a front (45 ∷ after) k in let i = symbols_some b after tail l in omega arith
bracket_some t text rest (perl kind negated inner tail k e) = let h = escapes_some _ inner tail k in omega arith
bracket_some t text rest (property_item set negated inner tail k e) = let h = escapes_some _ inner tail k in omega arith

pub shorter_bracket : (text rest : Text) (t : BracketToken) → bracket_token_at text ≡ Some (t, rest) → length rest < length text
shorter_bracket text rest t e = let h = subst (IsTaken BracketTakes text) e (bracket_token_taken text) in bracket_some t text rest h

some_count : (s : Text) (least : ℕ) (most : Option ℕ) → Counts s least most → 0 < length s
some_count s least most star = omega arith
some_count s least most plus = omega arith
some_count s least most question = omega arith
some_count s least most (exactly ds n w) = omega arith
some_count s least most (at_least ds n w) = omega arith
some_count s least most (between ds es n m w v le) = omega arith

pub takes_some : (t : Token) (text rest : Text) → Takes t text rest → length rest < length text
takes_some t text rest (bare c tail e) = omega arith
takes_some t text rest (escaped a inner tail e) = let h = escapes_some a inner tail e in omega arith
takes_some t text rest (dot tail) = omega arith
takes_some t text rest (caret tail) = omega arith
takes_some t text rest (dollar tail) = omega arith
takes_some t text rest (branch tail) = omega arith
takes_some t text rest (open_capture tail h) = omega arith
takes_some t text rest (open_named name tail lacks is) = omega (arith, length-append name (62 ∷ tail))
takes_some t text rest (open_python name tail lacks is) = omega (arith, length-append name (62 ∷ tail))
takes_some t text rest (open_plain tail) = omega arith
takes_some t text rest (open_flags letters tail change s) = omega (arith, length-append letters (58 ∷ tail))
takes_some t text rest (setting letters tail change s) = omega (arith, length-append letters (41 ∷ tail))
takes_some t text rest (close_group tail) = omega arith
takes_some t text rest (greedy s tail least most k h) = omega (arith, some_count s least most k, length-append s tail)
takes_some t text rest (lazy s tail least most k) = omega (arith, some_count s least most k, length-append s (63 ∷ tail))

pub shorter : (text rest : Text) (t : Token) → token_at text ≡ Some (t, rest) → length rest < length text
shorter text rest t e = let h = subst (IsTaken Takes text) e (is_taken text) in takes_some t text rest h

cuts_some : (ts : List BracketToken) (text rest : Text) → BracketCuts text ts rest → length rest ≤ length text
cuts_some [] text rest same = let e = ap length same in omega arith
cuts_some (t ∷ ts) text rest h = let k = bracket_some t text h.0 h.1 in let l = cuts_some ts h.0 rest h.2 in omega arith

pub encloses_some : (b : Bracket) (text rest : Text) → Encloses b text rest → length rest ≤ length text
encloses_some (bracket negated lead inside) text rest h =
    let k = opens_some negated lead text h.0 h.1 in
    let l = cuts_some (operands_tokens inside ++ Close ∷ []) h.0 rest h.2 in
    omega arith
