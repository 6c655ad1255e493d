-- The parts of a pattern, from the left. Each prefix of a group's inside is itself the inside of a
-- group.
use Rattle.std.specs.Prelude.{◌≡◌, false, List, [], ◌∷◌, ◌++◌, bytes_eq}
use Rattle.std.specs.List.{list_any}
use Rattle.logos_pattern_tokens.specs.declared.token.Flags.{Flags}
use Rattle.logos_pattern_tokens.specs.declared.token.Change.{Change}
use Rattle.logos_pattern_tokens.specs.declared.token.Operator.{Operator}
use Rattle.logos_pattern_tokens.specs.declared.token.Atom.{Atom}
use Rattle.logos_pattern_tokens.specs.Flags.{flags_after}
use Rattle.logos_pattern_tokens.specs.Token.{Text, Opening, capturing, named, plain, Token, atom, bracketed, bar, opens, closes, sets, repeats}
use Rattle.logos_pattern_tokens.specs.bracket.Form.{Bracket}
use Rattle.logos_pattern_tokens.specs.bracket.Spelling.{Encloses}
use Rattle.logos_pattern_tokens.specs.Spelling.{Takes}

mutual
  -- The inside of a group: branches with `|` between them.
  pub data Branches : Type 0 where
    first : Items → Branches
    next : Branches → Items → Branches

  -- One branch: parts and flag settings.
  pub data Items : Type 0 where
    nothing : Items
    piece : Items → Piece → Items
    -- `(?flags)`
    setting : Items → Change → Items

  -- A part that can be repeated.
  pub data Piece : Type 0 where
    simple : Atom → Piece
    class : Bracket → Piece
    group : Opening → Branches → Piece
    repeated : Piece → Operator → Piece

-- ---- tokens.

abbrev mutual
  pub branches_tokens : Branches → List Token
  branches_tokens (first its) = items_tokens its
  branches_tokens (next bs its) = branches_tokens bs ++ bar ∷ items_tokens its

  pub items_tokens : Items → List Token
  items_tokens nothing = []
  items_tokens (piece its p) = items_tokens its ++ piece_tokens p
  items_tokens (setting its change) = items_tokens its ++ sets change ∷ []

  pub piece_tokens : Piece → List Token
  piece_tokens (simple a) = atom a ∷ []
  piece_tokens (class b) = bracketed b ∷ []
  piece_tokens (group opening bs) = opens opening ∷ branches_tokens bs ++ closes ∷ []
  piece_tokens (repeated p op) = piece_tokens p ++ repeats op ∷ []

-- The text begins with the token, and the rest follows it.
pub data Starts : Token → Text → Text → Type 0 where
  taken : (t : Token) (text rest : Text) → Takes t text rest → Starts t text rest
  enclosed : (b : Bracket) (text rest : Text) → Encloses b text rest → Starts (bracketed b) (91 ∷ text) rest

-- The text consists of these tokens, followed by the rest.
abbrev pub Cuts : Text → List Token → Text → Type 0
Cuts text [] rest = text ≡ rest
Cuts text (token ∷ tokens) rest = (after : Text) × Starts token text after × Cuts after tokens rest

-- ---- names.

-- The name of a group differs from all names before it.
abbrev pub IsNew : List Text → Token → Type 0
IsNew seen (opens (named name)) = list_any (bytes_eq name) seen ≡ false
IsNew seen _ = Unit {0}

-- The names of groups after a token.
abbrev pub with_name : List Text → Token → List Text
with_name seen (opens (named name)) = name ∷ seen
with_name seen _ = seen

-- No two groups have the same name, and no name is one of the earlier names.
abbrev pub NamesDiffer : List Text → List Token → Type 0
NamesDiffer seen [] = Unit {0}
NamesDiffer seen (token ∷ tokens) = IsNew seen token × NamesDiffer (with_name seen token) tokens

-- ---- flags.

-- The flags after a branch, or after a prefix of the inside of a group.
abbrev pub items_flags : Flags → Items → Flags
items_flags flags nothing = flags
items_flags flags (piece its p) = items_flags flags its
items_flags flags (setting its change) = flags_after change (items_flags flags its)

-- The flags after the inside of a group.
abbrev pub branches_flags : Flags → Branches → Flags
branches_flags flags (first its) = items_flags flags its
branches_flags flags (next bs its) = items_flags (branches_flags flags bs) its

-- The flags inside a group.
abbrev pub inner_flags : Opening → Flags → Flags
inner_flags capturing flags = flags
inner_flags (named name) flags = flags
inner_flags (plain change) flags = flags_after change flags
