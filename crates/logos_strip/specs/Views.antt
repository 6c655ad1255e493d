-- Definitions that contracts cite: those of `Imports`, and those that name types of this crate.
pub use Rattle.logos_strip.specs.Imports.{EndsReading, EndsTokens, EnumValue, Fault, IsMemory, Refuses, Spells, SpellsAgain, Token, TokenList, bare, is_none, printed, source_limit, stream_tokens, tokens_of, too_long, tree_of}
pub use Rattle.logos_strip.specs.Results.{AreStripped, IsStripped, SpellsEnum}
pub use Rattle.logos_strip.specs.Spots.{after_attributed, after_hash, after_in_attribute, after_in_enum, after_part, after_start, begins_gone, goes, scope_inside, scope_of, spot_after}
pub use Rattle.logos_strip.specs.Stripping.{left, sorted, stripped, thinned}
pub use Rattle.logos_strip.specs.declared.spots.TokenSpot.TheVariants.{Open}
pub use Rattle.logos_strip.specs.inside.Writing.{completed, group_token, rank}
