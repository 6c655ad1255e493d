-- The tokens from which stripping removes an entry of a `derive`.
use Rattle.std.specs.Prelude.{◌||◌, Bool, true, false, if◌then◌else◌, Option, Some}
use Rattle.logos_token.specs.Tokens.{Token, group, TokenList, none, also}
use Rattle.logos_strip.specs.declared.spots.Scope.{Scope}
use Rattle.logos_strip.specs.declared.spots.Scope.TheVariants.{Enum, Derives}
use Rattle.logos_strip.specs.declared.spots.TokenSpot.{TokenSpot}
use Rattle.logos_strip.specs.declared.spots.TokenSpot.TheVariants.{Open}
use Rattle.logos_strip.specs.Spots.{goes, spot_after, scope_inside}

-- The tokens of this part are entries of a `derive`.
abbrev pub has_entries : Scope → Bool
has_entries Derives = true
has_entries scope = false

abbrev mutual
  -- An entry is removed from inside a token that remains.
  pub loses_inside : Option Scope → Token → Bool
  loses_inside (Some scope) (group delimiter span inside) = loses_entry scope Open inside
  loses_inside scope token = false

  -- An entry is removed from a run, from a spot on: a token of an entry is removed, or an entry is
  -- removed from inside a token that remains.
  pub loses_entry : Scope → TokenSpot → TokenList → Bool
  loses_entry scope spot none = false
  loses_entry scope spot (also token rest) =
      let gone = goes scope spot (also token rest) in
      (if gone then has_entries scope else loses_inside (scope_inside scope spot token rest) token) || loses_entry scope (spot_after scope spot gone token) rest

-- An entry of a `derive` is removed from the tokens of an enum.
abbrev pub loses_derive : TokenList → Bool
loses_derive tokens = loses_entry Enum Open tokens
