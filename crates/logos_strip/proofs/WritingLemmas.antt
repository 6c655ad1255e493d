-- The tokens that remain, tree by tree.
use Rattle.std.proofs.Common.{◌≡◌, List, [], ◌∷◌, ◌++◌, Option, Some, None, refl, sym, ◌∙◌, ap}
use Rattle.logos_token.specs.Tokens.{Token, punctuation, TokenList, none, also, append}
use Rattle.logos_token.specs.Views.{tree_of}
use Rattle.logos_token.specs.declared.token.Punct.{Punct as PunctView}
use Rattle.logos_token.specs.declared.token.views.TokenTree.{TokenTree}
use Rattle.logos_token.specs.declared.token.views.TokenTree.TheVariants.{Ident, Punct, Literal, Doc, Group}
use Rattle.logos_strip.specs.Stripping.{in_front, left}
use Rattle.logos_strip.specs.inside.Writing.{held}

pub append-none : (run : TokenList) → append run none ≡ run
append-none none = refl
append-none (also token rest) = ap (also token) (append-none rest)

pub append-one : (run : TokenList) (token : Token) (rest : TokenList) → append (append run (also token none)) rest ≡ append run (also token rest)
append-one none token rest = refl
append-one (also first run) token rest = ap (also first) (append-one run token rest)

-- one more tree comes after all that is written
pub one-more : (run : TokenList) (back : Option PunctView) (token : Token) (pieces : List (Option Token)) →
    append (append run (left (held back ++ []))) (left (Some token ∷ pieces)) ≡ append run (left (held back ++ Some token ∷ pieces))
one-more run None token pieces = ap (λ r. append r (left (Some token ∷ pieces))) (append-none run)
one-more run (Some p) token pieces = append-one run (punctuation p.character p.spacing p.span) (left (Some token ∷ pieces))

-- a token other than punctuation is unchanged before removed tokens
in_front-gone : (tree : TokenTree) → ((punct : PunctView) → tree ≡ Punct punct → ⊥) → (pieces : List (Option Token)) → in_front pieces (tree_of tree) ≡ tree_of tree
in_front-gone (Ident i) other [] = refl
in_front-gone (Ident i) other (None ∷ pieces) = refl
in_front-gone (Ident i) other (Some t ∷ pieces) = refl
in_front-gone (Punct p) other pieces = absurd (other p refl)
in_front-gone (Literal l) other [] = refl
in_front-gone (Literal l) other (None ∷ pieces) = refl
in_front-gone (Literal l) other (Some t ∷ pieces) = refl
in_front-gone (Doc d) other [] = refl
in_front-gone (Doc d) other (None ∷ pieces) = refl
in_front-gone (Doc d) other (Some t ∷ pieces) = refl
in_front-gone (Group g) other [] = refl
in_front-gone (Group g) other (None ∷ pieces) = refl
in_front-gone (Group g) other (Some t ∷ pieces) = refl

-- and so it is written at once
pub other-more : (run next : TokenList) (back : Option PunctView) (tree : TokenTree) → ((punct : PunctView) → tree ≡ Punct punct → ⊥) →
    next ≡ append (append run (left (held back ++ []))) (also (tree_of tree) none) → (pieces : List (Option Token)) →
    append next (left pieces) ≡ append run (left (held back ++ Some (tree_of tree) ∷ pieces))
other-more run next back tree other is pieces =
    let before = append run (left (held back ++ [])) in
    ap (λ r. append r (left pieces)) is
    ∙ append-one before (tree_of tree) (left pieces)
    ∙ ap (λ t. append before (also t (left pieces))) (sym (in_front-gone tree other pieces))
    ∙ one-more run back (tree_of tree) pieces
