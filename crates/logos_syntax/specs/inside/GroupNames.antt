-- The names of groups that a reader has read.
use Rattle.std.specs.Prelude.{◌≡◌, Bool, List, bytes_eq}
use Rattle.std.specs.Bool.{MatchBool}
use Rattle.std.specs.List.{list_any}
use Rattle.logos_syntax.specs.declared.names.GroupNames.{GroupNames}
use Rattle.logos_pattern_tokens.specs.Token.{Text, Token}
use Rattle.logos_syntax.specs.Written.{IsNew, with_name}

-- The set `names` consists of the names in `seen`.
abbrev pub HasNames : GroupNames → List Text → Type 0
HasNames names seen = (name : Text) → list_any (λ k. bytes_eq name k.items) names.seen.keys ≡ list_any (bytes_eq name) seen

-- Whether a token is allowed after these names, and the names after it.
abbrev pub Admits : List Text → Token → Bool → GroupNames → Type 0
Admits seen token admitted new = MatchBool admitted (IsNew seen token × HasNames new (with_name seen token)) (IsNew seen token → ⊥)
