-- Lines of JSON, and the tokens that are appended to them.
use Rattle.std.specs.Prelude.{◌≡◌, ◌≤◌, ℕ, List, [], ◌∷◌, ◌++◌, Bool, IsTrue, ⊤}
use Rattle.std.specs.Str.{IsUtf8}
use Rattle.json.specs.Token.{Token, number}
use Rattle.json.specs.Lex.{tokens}
use Rattle.json.specs.Print.{print}

-- The view of lines: the bytes before the last line, the tokens of the last line, and whether no
-- token was lost.
pub record LinesValue : Type 0 where
  pub before : List ℕ
  pub tokens : List Token
  pub is_whole : Bool

-- No byte is a control character, such as LF, CR or ESC.
abbrev pub HasNoControl : List ℕ → Type 0
HasNoControl [] = ⊤
HasNoControl (byte ∷ bytes) = (32 ≤ byte) × HasNoControl bytes

-- The text of a number has no control characters. Those of other tokens never have any.
abbrev pub IsQuiet : Token → Type 0
IsQuiet (number text) = HasNoControl text
IsQuiet token = ⊤

abbrev pub AreQuiet : List Token → Type 0
AreQuiet [] = ⊤
AreQuiet (token ∷ tokens) = IsQuiet token × AreQuiet tokens

-- These tokens were appended to the last line, unless tokens were lost.
pub record Gains (tokens : List Token) (old new : LinesValue) : Type 0 where
  pub before : new.before ≡ old.before
  pub whole : IsTrue new.is_whole → IsTrue old.is_whole × (new.tokens ≡ old.tokens ++ tokens)
  pub quiet : AreQuiet tokens

-- The last line was ended, with its tokens as JSON without blanks.
pub record Ends (old new : LinesValue) : Type 0 where
  pub empty : new.tokens ≡ []
  pub whole : IsTrue new.is_whole → IsTrue old.is_whole × (new.before ≡ old.before ++ (print old.tokens ++ 10 ∷ []))
  pub reads : tokens (print old.tokens) ≡ old.tokens
  pub utf8 : IsUtf8 (print old.tokens)

-- `bytes` are the bytes of the lines, of which no token was lost, if the last line was ended.
pub record Finishes (lines : LinesValue) (bytes : List ℕ) : Type 0 where
  pub whole : IsTrue lines.is_whole
  pub is : lines.tokens ≡ [] → bytes ≡ lines.before

-- These bytes are a line of JSON: they end with LF and contain no other LF, and the line is read as
-- these tokens.
pub record IsLine (shown : List Token) (line : List ℕ) : Type 0 where
  pub is : line ≡ print shown ++ 10 ∷ []
  pub reads : tokens (print shown) ≡ shown
  pub quiet : HasNoControl (print shown)
  pub utf8 : IsUtf8 (print shown)

-- These bytes are lines of JSON, one for each of these runs of tokens.
abbrev pub AreLines : List (List Token) → List ℕ → Type 0
AreLines [] text = text ≡ []
AreLines (shown ∷ others) text = (line rest : List ℕ) × IsLine shown line × AreLines others rest × (text ≡ line ++ rest)

-- If no line was begun, these lines were appended, unless tokens were lost.
pub record Puts (lines : List (List Token)) (old new : LinesValue) : Type 0 where
  pub ended : old.tokens ≡ [] → new.tokens ≡ []
  pub whole : old.tokens ≡ [] → IsTrue new.is_whole → IsTrue old.is_whole × (text : List ℕ) × (new.before ≡ old.before ++ text) × AreLines lines text
