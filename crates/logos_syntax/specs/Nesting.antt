-- The nesting depth of groups, brackets and operators in a prefix of a text.
use Rattle.std.specs.Prelude.{ℕ, suc, ◌+◌, ◌<◌, max, Bool, List, [], ◌∷◌, ◌++◌}
use Rattle.logos_pattern_tokens.specs.declared.token.Flags.{Flags}
use Rattle.logos_pattern_tokens.specs.declared.bracket.token.BracketItem.{BracketItem as ItemValue}
use Rattle.logos_pattern_tokens.specs.declared.bracket.token.Lead.{Lead}
use Rattle.logos_hir.specs.declared.sets.operands.SetOperator.{SetOperator}
use Rattle.logos_pattern_tokens.specs.declared.bracket.token.BracketToken.{BracketToken}
use Rattle.logos_pattern_tokens.specs.declared.bracket.token.BracketToken.TheVariants as tokens
use Rattle.logos_pattern_tokens.specs.Token.{Text, Opening, Token, opens}
use Rattle.logos_pattern_tokens.specs.bracket.Spelling.{Opens, BracketCuts}
use Rattle.logos_syntax.specs.bracket.Meaning.{TokensFit}
use Rattle.logos_syntax.specs.Written.{Branches, branches_tokens, Cuts, NamesDiffer, branches_flags, inner_flags}
use Rattle.logos_syntax.specs.Grammar.{BranchesFit, branches_depth}

-- ---- groups.

-- The groups that are open, with the whole pattern as the outermost one: the contents of each, and
-- the opening of the next one.
pub data Around : Type 0 where
  outermost : Around
  within : (around : Around) (inside : Branches) (opening : Opening) → Around

-- The number of open groups.
abbrev pub groups_open : Around → ℕ
groups_open outermost = 0
groups_open (within around inside opening) = suc (groups_open around)

-- The tokens of the open groups, from the left.
abbrev pub around_tokens : Around → List Token
around_tokens outermost = []
around_tokens (within around inside opening) =
    (around_tokens around ++ branches_tokens inside) ++ opens opening ∷ []

-- The flags at the start of the innermost group.
abbrev pub around_flags : Flags → Around → Flags
around_flags flags outermost = flags
around_flags flags (within around inside opening) =
    inner_flags opening (branches_flags (around_flags flags around) inside)

-- The flags allow the contents of the groups.
abbrev pub AroundFits : Flags → Around → Type 0
AroundFits flags outermost = Unit {0}
AroundFits flags (within around inside opening) =
    AroundFits flags around × BranchesFit (around_flags flags around) inside

-- The greatest depth of a point in the contents of the groups, or 0.
abbrev pub around_depth : Around → ℕ
around_depth outermost = 0
around_depth (within around inside opening) =
    max (groups_open around + branches_depth inside) (around_depth around)

-- A prefix of the text is a prefix of a pattern, and the rest follows it.
pub record Front (flags : Flags) (text rest : Text) : Type 0 where
  pub around : Around
  -- The contents of the innermost group.
  pub inside : Branches
  pub cut : Cuts text (around_tokens around ++ branches_tokens inside) rest
  pub around_fits : AroundFits flags around
  pub inside_fits : BranchesFit (around_flags flags around) inside
  pub names : NamesDiffer [] (around_tokens around ++ branches_tokens inside)

-- The greatest number of groups, brackets and operators around one point of the prefix.
abbrev pub front_depth : {flags : Flags} {text rest : Text} → Front flags text rest → ℕ
front_depth front = max (groups_open front.around + branches_depth front.inside) (around_depth front.around)

-- The flags after the prefix.
abbrev pub front_flags : {flags : Flags} {text rest : Text} → Front flags text rest → Flags
front_flags {flags = flags} front = branches_flags (around_flags flags front.around) front.inside

-- ---- brackets.

-- After the tokens of a bracket, the second number of brackets is open, if the first number was
-- open before them. The outermost bracket stays open.
pub data LeavesOpen : ℕ → List BracketToken → ℕ → Type 0 where
  done : (n : ℕ) → LeavesOpen n [] n
  item : (n m : ℕ) (i : ItemValue) (others : List BracketToken) → LeavesOpen n others m → LeavesOpen n (tokens.Item i ∷ others) m
  operator : (n m : ℕ) (op : SetOperator) (others : List BracketToken) → LeavesOpen n others m → LeavesOpen n (tokens.Operator op ∷ others) m
  opening : (n m : ℕ) (negated : Bool) (lead : Lead) (others : List BracketToken) → LeavesOpen (suc n) others m →
      LeavesOpen n (tokens.Open negated lead ∷ others) m
  closing : (n m : ℕ) (others : List BracketToken) → LeavesOpen (suc n) others m → LeavesOpen (suc (suc n)) (tokens.Close ∷ others) m

-- A prefix of the text, which comes after the opening of a bracket, leaves this number of brackets
-- open.
pub record InsideFront (flags : Flags) (text : Text) (count : ℕ) : Type 0 where
  pub written : List BracketToken
  pub rest : Text
  pub cut : BracketCuts text written rest
  pub fits : TokensFit flags written
  pub leaves : LeavesOpen 1 written count

-- A prefix of the text, which comes after `[`, leaves this number of brackets open, including the
-- bracket of that `[`.
pub record BracketFront (flags : Flags) (text : Text) (count : ℕ) : Type 0 where
  pub negated : Bool
  pub lead : Lead
  pub following : Text
  pub opens : Opens negated lead text following
  pub inside : InsideFront flags following count

-- ---- the limit.

-- After a prefix of the text, more than 250 groups, brackets and operators are around one point.
pub data IsTooDeep (flags : Flags) (text : Text) : Type 0 where
  by_groups : (rest : Text) (front : Front flags text rest) → 250 < front_depth front → IsTooDeep flags text
  by_brackets : (following : Text) (front : Front flags text (91 ∷ following)) (count : ℕ) →
      BracketFront (front_flags front) following count → 250 < groups_open front.around + count → IsTooDeep flags text
