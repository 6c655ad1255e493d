-- The items of a file as runs of tokens: the attributes and the visibility before an item, and its
-- kind.
use Rattle.std.specs.Prelude.{ℕ, ◌==◌, if◌then◌else◌, Bool, true, false, codes, Option, Some, None}
use Rattle.std.specs.Str.{bytes_eq}
use Rattle.logos_lexeme.specs.declared.lexeme.Delimiter.TheVariants.{Bracket, Brace}
use Rattle.logos_lexeme.specs.declared.lexeme.Span.{Span}
use Rattle.logos_token.specs.Tokens.{Token, TokenList, identifier, punctuation, doc, group, none, also, rest_of}
use Rattle.logos_token.specs.Views.{tokens_of}
use Rattle.logos_enum.specs.Attributes.{after_visibility}
use Rattle.logos_enum.specs.Extents.{after_generics}
use Rattle.logos_enum.specs.Marks.{hash, is_outer}
use Rattle.logos_rust_file.specs.declared.fronts.ItemKind.{ItemKind}
use Rattle.logos_rust_file.specs.declared.fronts.ItemKind.TheVariants.{End, Enum, Module, Other}

-- The character `;`.
abbrev pub semicolon : ℕ
semicolon = 59

-- The beginning of a run of items: nothing, an enum, a module with the content of its body, or
-- another token; and the tokens after it.
pub data KindValue : Type 0 where
  ends : KindValue
  is_enum : (rest : TokenList) → KindValue
  is_module : (inside rest : TokenList) → KindValue
  is_other : (rest : TokenList) → KindValue

-- The view of the kind of an item, with tokens for its parts.
abbrev pub kind_value : ItemKind → KindValue
kind_value End = ends
kind_value (Enum rest) = is_enum (tokens_of rest)
kind_value (Module inside rest) = is_module (tokens_of inside) (tokens_of rest)
kind_value (Other rest) = is_other (tokens_of rest)

abbrev mutual
  -- The tokens after the leading attributes: each is `#` and brackets, or a documentation comment
  -- on the item that follows it.
  pub after_attributes : TokenList → TokenList
  after_attributes (also (doc text span) rest) = if is_outer text then after_attributes rest else also (doc text span) rest
  after_attributes (also (punctuation character spacing span) rest) =
      if character == hash then after_hash (punctuation character spacing span) rest else also (punctuation character spacing span) rest
  after_attributes run = run

  -- The tokens after the leading attributes, after the `#` of the first one. Without brackets
  -- nothing is skipped.
  pub after_hash : Token → TokenList → TokenList
  after_hash sign (also (group Bracket span inside) rest) = after_attributes rest
  after_hash sign run = also sign run

-- Whether a token ends an item.
abbrev pub ends_body : Token → Bool
ends_body (group Brace span inside) = true
ends_body (punctuation character spacing span) = character == semicolon
ends_body token = false

-- The tokens after the braces or the `;` that ends an item.
abbrev pub after_body : TokenList → TokenList
after_body none = none
after_body (also token rest) = if ends_body token then rest else after_body rest

-- The tokens after the name and the generic parameters of an enum, which may contain braces.
abbrev pub after_head : TokenList → TokenList
after_head (also (identifier text span) rest) = after_generics rest
after_head run = run

-- The kind of a module from the tokens after its name, if they begin with braces.
abbrev pub braced_in : TokenList → TokenList → KindValue
braced_in run (also (group Brace span inside) rest) = is_module inside rest
braced_in run after = is_other run

-- The kind of a module from the tokens after its `mod`, if they begin with a name and braces.
abbrev pub module_in : TokenList → KindValue
module_in (also (identifier text span) rest) = braced_in (also (identifier text span) rest) rest
module_in run = is_other run

-- The kind of an item, from the tokens after its visibility.
abbrev pub kind_at : TokenList → KindValue
kind_at none = ends
kind_at (also (identifier text span) rest) =
    if bytes_eq text (codes "enum") then is_enum (after_body (after_head rest))
    else (if bytes_eq text (codes "mod") then module_in rest
    else is_other rest)
kind_at (also token rest) = is_other rest

-- The kind of the first item.
abbrev pub kind_of : TokenList → KindValue
kind_of run = kind_at (after_visibility (after_attributes run))

-- The span of the first token, if it is an identifier.
abbrev pub name_at : TokenList → Option Span
name_at (also (identifier text span) rest) = Some span
name_at run = None

-- The span of the name of an enum with these tokens: of the identifier after `enum`, if there is
-- one.
abbrev pub name_of : TokenList → Option Span
name_of item = name_at (rest_of (after_visibility (after_attributes item)))
