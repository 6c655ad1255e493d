-- The values of the bracket reader, and the contracts of its functions.
use Rattle.std.specs.Prelude.{◌≡◌, ℕ, ◌+◌, ◌<◌, ◌≤◌, Bool, true, false, [], ◌∷◌, ◌++◌, map, reverse, length, Some, Result, Ok, Err}
use Rattle.std.specs.Option.{option_map}
use Rattle.logos_pattern_tokens.specs.declared.error.Stop.{Stop}
use Rattle.logos_pattern_tokens.specs.declared.error.Stop.TheVariants as stops
use Rattle.logos_pattern_tokens.specs.declared.token.Flags.{Flags}
use Rattle.logos_pattern_tokens.specs.declared.bracket.token.BracketToken.{BracketToken}
use Rattle.logos_pattern_tokens.specs.declared.bracket.token.BracketToken.TheVariants.{Item, Open, Operator, Close}
use Rattle.logos_syntax.specs.declared.bracket.stack.BracketFrame.{BracketFrame as FrameValue}
use Rattle.logos_syntax.specs.declared.bracket.stack.Frames.{Frames as FramesValue}
use Rattle.logos_syntax.specs.declared.bracket.stack.BracketValue.{BracketValue}
use Rattle.logos_hir.specs.Hir.{pairs}
use Rattle.logos_hir.specs.Sets.{members}
use Rattle.logos_hir.specs.RangeSets.{set_of}
use Rattle.logos_hir.specs.Operands.{made_by}
use Rattle.logos_pattern_tokens.specs.Token.{Text}
use Rattle.std.specs.Borrow.{Bor}
use Rattle.logos_pattern_tokens.specs.declared.error.Fault.{Fault}
use Rattle.logos_pattern_tokens.specs.declared.error.Fault.TheVariants as faults
use Rattle.logos_pattern_tokens.specs.declared.bracket.token.Lead.{Lead}
use Rattle.logos_pattern_tokens.specs.bracket.Form.{Bracket, bracket, Operands}
use Rattle.logos_pattern_tokens.specs.bracket.Spelling.{operands_tokens, BracketCuts, Encloses}
use Rattle.logos_syntax.specs.bracket.Meaning.{bracket_set, item_fits, BracketFits, bracket_depth}
use Rattle.logos_syntax.specs.Nesting.{InsideFront, BracketFront}
use Rattle.logos_syntax.specs.inside.BracketStack.{BracketFrame, Frames, bracket_step}

-- The inside of an open bracket that a value represents.
abbrev pub frame_view : FrameValue → BracketFrame
frame_view f = record {
  negated = f.negated;
  before = option_map (λ op. (made_by f.before, op)) f.operator;
  here = members (pairs f.ranges.items);
  inner = f.inner;
}

-- The open brackets that a value represents.
abbrev pub frames_view : FramesValue → Frames
frames_view m = record { top = frame_view m.top; below = reverse (map frame_view m.below.items) }

-- The token makes no step: it is an element that the flags do not allow, or the end of the whole
-- bracket.
abbrev pub NoStep : Flags → Frames → BracketToken → Type 0
NoStep flags s (Item item) = item_fits flags item ≡ false
NoStep flags s (Open negated lead) = ⊥
NoStep flags s (Operator op) = ⊥
NoStep flags s Close = s.below ≡ []

-- The token opens a bracket that is nested too deeply.
abbrev pub TooDeep : ℕ → Frames → BracketToken → Type 0
TooDeep base s (Open negated lead) = 250 < base + length s.below + 2
TooDeep base s _ = ⊥

-- The flags allow the token.
abbrev pub MayOccur : Flags → BracketToken → Type 0
MayOccur flags (Item item) = item_fits flags item ≡ true
MayOccur flags _ = Unit {0}

-- The contract of the step of a token.
abbrev pub BracketSteps : Flags → ℕ → Frames → BracketToken → Result (Unit {0}) Stop → Frames → Type 0
BracketSteps flags base old token (Ok _) new = MayOccur flags token × (bracket_step flags base old token ≡ Some new)
BracketSteps flags base old token (Err (stops.Syntax kind left)) new = NoStep flags old token
BracketSteps flags base old token (Err stops.LimitPatternNesting) new = TooDeep base old token
BracketSteps flags base old token (Err stops.Memory) new = Unit {0}

-- The set and the depth of a bracket whose inside is at the front of the text.
pub record IsInside (flags : Flags) (base : ℕ) (negated : Bool) (lead : Lead) (text : Text) (found : BracketValue) (rest : Text) : Type 0 where
  pub inside : Operands
  pub cut : BracketCuts text (operands_tokens inside ++ Close ∷ []) rest
  pub fits : BracketFits flags (bracket negated lead inside)
  pub is_set : set_of found.set ≡ bracket_set flags (bracket negated lead inside)
  pub is_depth : found.depth ≡ base + bracket_depth (bracket negated lead inside)
  pub shallow : found.depth ≤ 250

-- The condition on a bracket under which reading stops.
abbrev pub Denies : Flags → ℕ → Stop → Bracket → Type 0
Denies flags base (stops.Syntax kind left) b = BracketFits flags b → ⊥
Denies flags base stops.LimitPatternNesting b = 250 < base + bracket_depth b
Denies flags base stops.Memory b = Unit {0}

-- If a reader stops at the limit, some prefix is nested too deeply.
abbrev pub IfDeepInside : Flags → ℕ → Stop → Text → Type 0
IfDeepInside flags base (stops.Syntax kind left) text = Unit {0}
IfDeepInside flags base stops.LimitPatternNesting text = (count : ℕ) × InsideFront flags text count × (250 < base + count)
IfDeepInside flags base stops.Memory text = Unit {0}

-- If the reader of a bracket stops at the limit, some prefix is nested too deeply.
abbrev pub IfDeepBracket : Flags → ℕ → Stop → Text → Type 0
IfDeepBracket flags base (stops.Syntax kind left) text = Unit {0}
IfDeepBracket flags base stops.LimitPatternNesting text = (count : ℕ) × BracketFront flags text count × (250 < base + count)
IfDeepBracket flags base stops.Memory text = Unit {0}

-- The contract of reading the inside of a bracket.
abbrev pub ReadsInside : Flags → ℕ → Bool → Lead → Text → Result (BracketValue × Bor Text) Stop → Type 0
ReadsInside flags base negated lead text (Ok x) = IsInside flags base negated lead text x.0 x.1.now
ReadsInside flags base negated lead text (Err e) =
    ((inside : Operands) (rest : Text) → BracketCuts text (operands_tokens inside ++ Close ∷ []) rest → Denies flags base e (bracket negated lead inside))
    × IfDeepInside flags base e text

-- The set and the depth of a bracket that is at the front of the text, without its `[`.
pub record IsBracketValue (flags : Flags) (base : ℕ) (text : Text) (found : BracketValue) (rest : Text) : Type 0 where
  pub written : Bracket
  pub encloses : Encloses written text rest
  pub fits : BracketFits flags written
  pub is_set : set_of found.set ≡ bracket_set flags written
  pub is_depth : found.depth ≡ base + bracket_depth written
  pub shallow : found.depth ≤ 250

-- The contract of reading a bracket.
abbrev pub ReadsBracket : Flags → ℕ → Text → Result (BracketValue × Bor Text) Stop → Type 0
ReadsBracket flags base text (Ok x) = IsBracketValue flags base text x.0 x.1.now
ReadsBracket flags base text (Err e) =
    ((b : Bracket) (rest : Text) → Encloses b text rest → Denies flags base e b)
    × IfDeepBracket flags base e text

-- The stop is the one for this fault.
abbrev pub IsStopOf : Fault → Stop → Type 0
IsStopOf (faults.Syntax kind) (stops.Syntax other left) = Unit {0}
IsStopOf (faults.Syntax kind) _ = ⊥
IsStopOf faults.Memory (stops.Memory) = Unit {0}
IsStopOf faults.Memory _ = ⊥
