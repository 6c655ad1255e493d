-- The tokens that a buffer and its views represent.
use Rattle.std.specs.Prelude.{List, [], ◌∷◌}
use Rattle.logos_token.specs.declared.token.views.TokenStream.{TokenStream}
use Rattle.logos_token.specs.declared.token.views.Tokens.{Tokens}
use Rattle.logos_token.specs.declared.token.views.TokenIter.{TokenIter}
use Rattle.logos_token.specs.declared.token.views.Group.{Group as GroupView}
use Rattle.logos_token.specs.declared.token.views.TokenTree.{TokenTree}
use Rattle.logos_token.specs.declared.token.views.TokenTree.TheVariants.{Ident, Punct, Literal, Doc, Group}
use Rattle.logos_token.specs.Tokens.{Token, identifier, punctuation, literal, doc, group, TokenList, none, also}
use Rattle.logos_token.specs.Flat.{tokens_in}

-- All tokens of a buffer.
abbrev pub stream_tokens : TokenStream → TokenList
stream_tokens stream = tokens_in stream.entries.items

-- The tokens of a run.
abbrev pub tokens_of : Tokens → TokenList
tokens_of run = tokens_in run.entries.now

-- The tokens inside a group.
abbrev pub inside_of : GroupView → TokenList
inside_of g = tokens_of g.inside

-- A tree as a token.
abbrev pub tree_of : TokenTree → Token
tree_of (Ident i) = identifier i.text.now i.span
tree_of (Punct p) = punctuation p.character p.spacing p.span
tree_of (Literal l) = literal l.text.now l.span
tree_of (Doc d) = doc d.text.now d.span
tree_of (Group g) = group g.delimiter g.span (inside_of g)

-- The tokens of a run, as a list.
abbrev pub listed : TokenList → List Token
listed none = []
listed (also token rest) = token ∷ listed rest

-- The tokens that an iterator has not returned yet.
abbrev pub iter_rest : TokenIter → List Token
iter_rest iter = listed (tokens_of iter.rest)
