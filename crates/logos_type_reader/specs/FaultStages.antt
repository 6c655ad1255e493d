-- The spot of a fault: the tokens before it and the sign at it determine that the run does not
-- begin with a type.
use Rattle.std.specs.Prelude.{◌≡◌, ℕ, List, Bool}
use Rattle.logos_lexeme.specs.declared.lexeme.Span.{Span}
use Rattle.logos_lexeme.specs.declared.lexeme.Spacing.TheVariants.{Alone, Joint}
use Rattle.logos_lexeme.specs.declared.lexeme.Delimiter.{Delimiter}
use Rattle.logos_token.specs.Tokens.{Token, TokenList, identifier, punctuation, literal, doc, group, none, also, run_span}
use Rattle.logos_type_reader.specs.Table.{Fault, unsupported, mismatch, too_deep, first_span}
use Rattle.logos_type_reader.specs.Reading.{NoType}

-- The front of a spot in a run: the tokens before it, and the groups that are open there.
pub data Front : Type 0 where
  -- No tokens.
  start : Front
  -- A token followed by the rest of the front.
  past : Token → Front → Front
  -- An opening delimiter followed by the front of the spot inside the group.
  within : Delimiter → Front → Front

-- The front is before a spot of the run. The second run is the rest of the first, or of the group
-- that is open there.
pub data IsAt : Front → TokenList → TokenList → Type 0 where
  at_start : {run : TokenList} → IsAt start run run
  past_token : {front : Front} {token : Token} {rest left : TokenList} → IsAt front rest left → IsAt (past token front) (also token rest) left
  in_group : {front : Front} {delimiter : Delimiter} {span : Span} {inside rest left : TokenList} → IsAt front inside left →
      IsAt (within delimiter front) (also (group delimiter span inside) rest) left

-- Both runs begin with the same sign, or both are empty. A sign is a token, together with the next
-- sign after joint punctuation, such as `::`. The sign of a group is only its opening delimiter.
pub data SameSign : TokenList → TokenList → Type 0 where
  no_sign : SameSign none none
  same_name : {text : List ℕ} {span : Span} {rest other : TokenList} → SameSign (also (identifier text span) rest) (also (identifier text span) other)
  same_mark : {character : ℕ} {span : Span} {rest other : TokenList} →
      SameSign (also (punctuation character Alone span) rest) (also (punctuation character Alone span) other)
  same_joint : {character : ℕ} {span : Span} {rest other : TokenList} → SameSign rest other →
      SameSign (also (punctuation character Joint span) rest) (also (punctuation character Joint span) other)
  same_literal : {text : List ℕ} {span : Span} {rest other : TokenList} → SameSign (also (literal text span) rest) (also (literal text span) other)
  same_doc : {text : List ℕ} {span : Span} {rest other : TokenList} → SameSign (also (doc text span) rest) (also (doc text span) other)
  same_group : {delimiter : Delimiter} {span other_span : Span} {inside other_inside rest other : TokenList} →
      SameSign (also (group delimiter span inside) rest) (also (group delimiter other_span other_inside) other)

-- The front that consists of these tokens.
abbrev pub front_of : TokenList → Front
front_of none = start
front_of (also token rest) = past token (front_of rest)

-- The front followed by these tokens.
abbrev pub followed : Front → TokenList → Front
followed start run = front_of run
followed (past token front) run = past token (followed front run)
followed (within delimiter front) run = within delimiter (followed front run)

-- The front ends with tokens of this span.
pub record EndsWith (front : Front) (span : Span) : Type 0 where
  pub former : Front
  pub tokens : TokenList
  pub is : front ≡ followed former tokens
  pub spans : span ≡ run_span tokens

-- The fault is at this spot: a mismatch at the first token after it, or an unsupported type
-- directly before it.
abbrev pub OccursAt : Fault → Front → TokenList → Type 0
OccursAt (mismatch span) front left = span ≡ first_span left
OccursAt (unsupported span) front left = EndsWith front span
OccursAt too_deep front left = ⊥

-- The fault with its span adapted to these tokens after its spot.
abbrev pub fault_at : Fault → TokenList → Fault
fault_at (mismatch span) left = mismatch (first_span left)
fault_at (unsupported span) left = unsupported span
fault_at too_deep left = too_deep

-- A spot of the run at which the fault occurs. The front and the sign at the spot determine the
-- fault: each run that has both has this fault, regardless of the tokens after them.
pub record FaultStage (levels : ℕ) (plus : Bool) (run : TokenList) (fault : Fault) : Type 0 where
  pub front : Front
  pub left : TokenList
  pub is : IsAt front run left
  pub occurs : OccursAt fault front left
  pub decides : (other others_left : TokenList) → IsAt front other others_left → SameSign left others_left →
      NoType levels plus other (fault_at fault others_left)
