-- The conditions of an item, attribute by attribute.
use Rattle.std.proofs.Common.{◌≡◌, ℕ, List, [], ◌++◌, Option, Some, None, refl, sym, ap, ◌∙◌, append_assoc, subst, append-nil}
use Rattle.logos_lexeme.specs.declared.lexeme.Delimiter.TheVariants.{Parenthesis, Bracket, Brace}
use Rattle.logos_lexeme.specs.declared.lexeme.Span.{Span}
use Rattle.logos_token.specs.Tokens.{Token, identifier, punctuation, literal, doc, group, TokenList, none, also}
use Rattle.logos_enum.specs.AttributeValues.{SplitAttribute, attribute_in, bracketed}
use Rattle.logos_enum.specs.Groups.{bracket_in}
use Rattle.logos_layout.specs.Conditions.{attribute_condition, bracket_conditions, conditions_text}

-- the conditions of a run, by its first attribute
abbrev pub by_first : Option SplitAttribute → List ℕ
by_first None = []
by_first (Some read) = attribute_condition read.attribute ++ conditions_text read.rest

bracket_first : (mark : Span) (rest : TokenList) → bracket_conditions rest ≡ by_first (bracketed mark (bracket_in rest))
bracket_first mark none = refl
bracket_first mark (also (group Bracket span inside) rest) = refl
bracket_first mark (also (group Parenthesis span inside) rest) = refl
bracket_first mark (also (group Brace span inside) rest) = refl
bracket_first mark (also (identifier text span) rest) = refl
bracket_first mark (also (punctuation character spacing span) rest) = refl
bracket_first mark (also (literal text span) rest) = refl
bracket_first mark (also (doc text span) rest) = refl

conditions_first : (run : TokenList) → conditions_text run ≡ by_first (attribute_in run)
conditions_first none = refl
conditions_first (also (doc text span) rest) = refl
conditions_first (also (punctuation character spacing span) rest) = bracket_first span rest
conditions_first (also (identifier text span) rest) = refl
conditions_first (also (literal text span) rest) = refl
conditions_first (also (group delimiter span inside) rest) = refl

-- one attribute is appended
pub conditions_next : (run : TokenList) (read : SplitAttribute) (old new whole : List ℕ) → attribute_in run ≡ Some read → new ≡ old ++ attribute_condition read.attribute →
    old ++ conditions_text run ≡ whole → new ++ conditions_text read.rest ≡ whole
conditions_next run read old new whole e p all =
    ap (λ w. w ++ conditions_text read.rest) p ∙ append_assoc old (attribute_condition read.attribute) (conditions_text read.rest)
    ∙ ap (λ w. old ++ w) (sym (conditions_first run ∙ ap by_first e)) ∙ all

-- no attribute is left
pub conditions_end : (run : TokenList) (text whole : List ℕ) → attribute_in run ≡ None → text ++ conditions_text run ≡ whole → text ≡ whole
conditions_end run text whole e all = sym (append-nil text) ∙ ap (λ w. text ++ w) (sym (conditions_first run ∙ ap by_first e)) ∙ all
