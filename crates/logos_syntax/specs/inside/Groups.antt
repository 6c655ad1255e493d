-- Reading token by token, with the groups that are open.
use Rattle.std.specs.Prelude.{◌≡◌, ℕ, ◌+◌, max, Bool, false, List, [], ◌∷◌, ◌++◌, length, Option, Some, None}
use Rattle.std.specs.Option.{option_map}
use Rattle.logos_pattern_tokens.specs.declared.token.Flags.{Flags}
use Rattle.logos_pattern_tokens.specs.declared.token.Operator.{Operator}
use Rattle.logos_hir.specs.Tree.{Tree}
use Rattle.logos_hir.specs.Build.{repetition_of, concat_of, alternation_of}
use Rattle.logos_pattern_tokens.specs.Flags.{flags_after}
use Rattle.logos_pattern_tokens.specs.Token.{Token, atom, bracketed, bar, opens, closes, sets, repeats}
use Rattle.logos_syntax.specs.Written.{inner_flags}
use Rattle.logos_syntax.specs.bracket.Meaning.{bracket_depth}
use Rattle.logos_syntax.specs.Grammar.{atom_tree, class_tree, captures, group_tree, is_greedy, TokenFits}

-- A tree, and the depth of its innermost point in the whole pattern.
abbrev pub GroupPart : Type 0
GroupPart = Tree × ℕ

-- The inside of an open group, as far as it has been read.
pub record Group : Type 0 where
  pub flags : Flags
  pub captured : Bool
  pub branches : List Tree
  pub parts : List Tree
  -- The part that an operator would repeat.
  pub last : Option GroupPart
  pub inner : ℕ

-- The groups that are open.
pub record State : Type 0 where
  pub top : Group
  -- The groups around the innermost one, the innermost first.
  pub below : List Group

-- The inside of a group of which only the opening has been read.
abbrev pub fresh : Flags → Bool → ℕ → Group
fresh flags captured level = record { flags = flags; captured = captured; branches = []; parts = []; last = None; inner = level }

-- The state at the start of a pattern.
abbrev pub start : Flags → State
start flags = record { top = fresh flags false 0; below = [] }

-- The parts, with the last one after them if there is one.
abbrev pub with_last : List Tree → Option GroupPart → List Tree
with_last parts None = parts
with_last parts (Some part) = parts ++ part.0 ∷ []

-- All parts of the last branch.
abbrev pub all_parts : Group → List Tree
all_parts g = with_last g.parts g.last

-- The group with one more part, which an operator can repeat.
abbrev pub put : Group → GroupPart → Group
put g part = record g { parts = all_parts g; last = Some part; inner = max g.inner part.1 }

-- The group with other flags for the rest of it.
abbrev pub set : Group → Flags → Group
set g flags = record g { flags = flags; parts = all_parts g; last = None }

-- All branches of the group, as if it ended here.
abbrev pub all_branches : Group → List Tree
all_branches g = g.branches ++ concat_of (all_parts g) ∷ []

-- The group at the start of its next branch.
abbrev pub next_branch : Group → Group
next_branch g = record g { branches = all_branches g; parts = []; last = None }

-- The tree of the group, as if it ended here.
abbrev pub whole_tree : Group → Tree
whole_tree g = group_tree g.captured (alternation_of (all_branches g))

-- The repetition of a part.
abbrev pub repetition_part : Flags → Operator → GroupPart → GroupPart
repetition_part flags op part = (repetition_of op.least op.most (is_greedy flags op) part.0, part.1 + 1)

-- The state after the innermost group is closed, unless no group is open.
abbrev pub close : Group → List Group → Option State
close top [] = None
close top (g ∷ gs) = Some (record { top = put g (whole_tree top, top.inner); below = gs })

-- The group with its last part repeated, if it has one.
abbrev pub repeat : Group → Operator → Option GroupPart → Option Group
repeat g op None = None
repeat g op (Some part) = Some (record g { last = Some (repetition_part g.flags op part); inner = max g.inner (part.1 + 1) })

-- The step of a token that the flags allow.
abbrev pub step : State → Token → Option State
step s (atom a) = Some (record s { top = put s.top (atom_tree s.top.flags a, length s.below) })
step s (bracketed b) = Some (record s { top = put s.top (class_tree s.top.flags b, length s.below + bracket_depth b) })
step s bar = Some (record s { top = next_branch s.top })
step s (opens opening) = Some (record { top = fresh (inner_flags opening s.top.flags) (captures opening) (length s.below + 1); below = s.top ∷ s.below })
step s closes = close s.top s.below
step s (sets change) = Some (record s { top = set s.top (flags_after change s.top.flags) })
step s (repeats op) = option_map (λ g. record s { top = g }) (repeat s.top op s.top.last)

-- The parser reads tokens. The flags at the position of each token allow it.
pub data Runs : State → List Token → State → Type 0 where
  stays : (s : State) → Runs s [] s
  goes : (s t u : State) (token : Token) (tokens : List Token) → TokenFits s.top.flags token → step s token ≡ Some t → Runs t tokens u → Runs s (token ∷ tokens) u

-- The depth of the innermost point that has been read.
abbrev pub deepest_below : List Group → ℕ
deepest_below [] = 0
deepest_below (g ∷ gs) = max g.inner (deepest_below gs)

-- The greatest depth of a point that has been read.
abbrev pub deepest : State → ℕ
deepest s = max s.top.inner (deepest_below s.below)
