-- The contracts of reading a whole pattern.
use Rattle.std.specs.Prelude.{◌≡◌, ℕ, ◌+◌, ◌<◌, List, [], ◌∷◌, length, Some, None, Result, Ok, Err}
use Rattle.std.specs.Borrow.{Bor}
use Rattle.logos_pattern_tokens.specs.declared.error.Stop.{Stop}
use Rattle.logos_pattern_tokens.specs.declared.error.Stop.TheVariants as stops
use Rattle.logos_pattern_tokens.specs.declared.token.Flags.{Flags}
use Rattle.logos_syntax.specs.declared.names.GroupNames.{GroupNames}
use Rattle.logos_pattern_tokens.specs.Token.{Text, Token}
use Rattle.logos_pattern_tokens.specs.Spelling.{Takes}
use Rattle.logos_syntax.specs.Written.{Starts, Cuts, IsNew, with_name, NamesDiffer}
use Rattle.logos_syntax.specs.Grammar.{TokenFits, IsSpelled}
use Rattle.logos_syntax.specs.Nesting.{BracketFront, IsTooDeep}
use Rattle.logos_syntax.specs.inside.Groups.{State, start, step, Runs, deepest}
use Rattle.logos_syntax.specs.inside.GroupNames.{HasNames}

-- ---- one token.

-- The text begins with a token that is allowed after these names, and the parser continues after
-- it.
pub record Continues (old : State) (seen : List Text) (text : Text) (new : State) (names : GroupNames) (rest : Text) : Type 0 where
  pub token : Token
  pub starts : Starts token text rest
  pub fits : TokenFits old.top.flags token
  pub is_new : IsNew seen token
  pub moves : step old token ≡ Some new
  pub has : HasNames names (with_name seen token)

-- The condition on the token at the front of the text under which the parser stops.
abbrev pub StopsAt : Stop → State → List Text → Token → Type 0
StopsAt (stops.Syntax kind left) old seen token = TokenFits old.top.flags token → IsNew seen token → step old token ≡ None
StopsAt stops.LimitPatternNesting old seen token = (new : State) × (step old token ≡ Some new) × (250 < deepest new)
StopsAt stops.Memory old seen token = Unit {0}

-- The parser exceeds the limit at the front of the text: after a token, or in a bracket.
pub data IsDeepAt (old : State) (seen : List Text) (names : GroupNames) : Text → Type 0 where
  token_deep : (text rest : Text) (new : State) → Continues old seen text new names rest → 250 < deepest new → IsDeepAt old seen names text
  bracket_deep : (following : Text) (count : ℕ) → BracketFront old.top.flags following count → 250 < length old.below + count → IsDeepAt old seen names (91 ∷ following)

-- If the parser stops at the limit, it exceeds the limit at the front of the text.
abbrev pub IfDeepToken : Stop → State → List Text → Text → GroupNames → Type 0
IfDeepToken (stops.Syntax kind left) old seen text names = Unit {0}
IfDeepToken stops.LimitPatternNesting old seen text names = IsDeepAt old seen names text
IfDeepToken stops.Memory old seen text names = Unit {0}

-- The contract of reading one token or bracket.
abbrev pub ReadsToken : State → List Text → Text → Result (Bor Text) Stop → State → GroupNames → Type 0
ReadsToken old seen text (Ok rest) new names = Continues old seen text new names rest.now
ReadsToken old seen text (Err stop) new names =
    ((token : Token) (rest : Text) → Starts token text rest → StopsAt stop old seen token)
    × IfDeepToken stop old seen text names

-- The contract of reading one token, for tokens that do not begin a bracket.
abbrev pub ReadsSimple : State → List Text → Text → Result (Bor Text) Stop → State → GroupNames → Type 0
ReadsSimple old seen text (Ok rest) new names = Continues old seen text new names rest.now
ReadsSimple old seen text (Err stop) new names =
    ((token : Token) (rest : Text) → Takes token text rest → StopsAt stop old seen token)
    × IfDeepToken stop old seen text names

-- ---- the whole text.

-- The names that have been read after more tokens.
abbrev pub names_after : List Text → List Token → List Text
names_after seen [] = seen
names_after seen (token ∷ tokens) = names_after (with_name seen token) tokens

-- Tokens of the text have been read, up to `rest`.
pub record HasRead (flags : Flags) (text rest : Text) (s : State) (names : GroupNames) : Type 0 where
  pub tokens : List Token
  pub cut : Cuts text tokens rest
  pub run : Runs (start flags) tokens s
  pub differ : NamesDiffer [] tokens
  pub has : HasNames names (names_after [] tokens)

-- The condition on the text under which reading stops.
abbrev pub StopsText : Flags → Text → Stop → Type 0
StopsText flags text (stops.Syntax kind left) = (depth : ℕ) → IsSpelled flags text depth → ⊥
StopsText flags text stops.LimitPatternNesting = (depth : ℕ) → IsSpelled flags text depth → 250 < depth
StopsText flags text stops.Memory = Unit {0}

-- The condition on the text under which reading stops at the limit.
abbrev pub IfDeepText : Flags → Text → Stop → Type 0
IfDeepText flags text (stops.Syntax kind left) = Unit {0}
IfDeepText flags text stops.LimitPatternNesting = IsTooDeep flags text
IfDeepText flags text stops.Memory = Unit {0}
