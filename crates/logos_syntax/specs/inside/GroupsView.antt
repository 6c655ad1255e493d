-- The values of the parser, and the contracts of its functions.
use Rattle.std.specs.Prelude.{◌≡◌, ◌≢◌, ◌<◌, ◌≤◌, [], map, reverse, Option, Some, None, Result, Ok, Err}
use Rattle.std.specs.Option.{option_map}
use Rattle.logos_pattern_tokens.specs.declared.error.Stop.{Stop}
use Rattle.logos_pattern_tokens.specs.declared.error.Stop.TheVariants as stops
use Rattle.logos_hir.specs.declared.hir.Hir.{Hir}
use Rattle.logos_syntax.specs.declared.groups.GroupPart.{GroupPart as PartValue}
use Rattle.logos_syntax.specs.declared.groups.OpenedGroup.{OpenedGroup}
use Rattle.logos_syntax.specs.declared.groups.Groups.{Groups}
use Rattle.logos_hir.specs.Hir.{tree_of}
use Rattle.logos_hir.specs.Simplest.{simplest_tree}
use Rattle.logos_pattern_tokens.specs.Token.{Token}
use Rattle.logos_syntax.specs.Grammar.{TokenFits}
use Rattle.logos_syntax.specs.inside.Groups.{GroupPart, Group, State, step, whole_tree, deepest}

-- The tree and the depth that a value represents.
abbrev pub part_view : PartValue → GroupPart
part_view p = (simplest_tree p.tree, p.depth)

-- The inside of an open group that a value represents.
abbrev pub group_view : OpenedGroup → Group
group_view l = record {
  flags = l.flags;
  captured = l.captured;
  branches = map simplest_tree l.branches.items;
  parts = map simplest_tree l.parts.items;
  last = option_map part_view l.last;
  inner = l.inner;
}

-- The state that the groups of a parser represent.
abbrev pub state_view : Groups → State
state_view m = record { top = group_view m.top; below = reverse (map group_view m.below.items) }

-- The result of a step, or the reason why there is none: the flags do not allow the token, or a
-- point is nested too deeply.
abbrev pub Steps : State → Token → Result (Unit {0}) Stop → State → Type 0
Steps old token (Ok _) new = TokenFits old.top.flags token × (step old token ≡ Some new)
Steps old token (Err (stops.Syntax kind left)) new = TokenFits old.top.flags token → step old token ≡ None
Steps old token (Err stops.LimitPatternNesting) new =
    TokenFits old.top.flags token × ((s : State) × (step old token ≡ Some s) × (250 < deepest s))
Steps old token (Err stops.Memory) new = Unit {0}

-- The contract of repeating the last part of a group.
abbrev pub Repeats : Result (Unit {0}) Stop → Option Group → Group → Type 0
Repeats (Ok _) read new = read ≡ Some new
Repeats (Err (stops.Syntax kind left)) read new = read ≡ None
Repeats (Err stops.LimitPatternNesting) read new = (g : Group) × (read ≡ Some g) × (250 < g.inner)
Repeats (Err stops.Memory) read new = Unit {0}

-- The tree of a parser that has no group open.
abbrev pub Ends : Result Hir Stop → State → Type 0
Ends (Ok hir) s = (s.below ≡ []) × (tree_of hir ≡ whole_tree s.top) × (s.top.inner ≤ 250)
Ends (Err (stops.Syntax kind left)) s = s.below ≢ []
Ends (Err stops.LimitPatternNesting) s = ⊥
Ends (Err stops.Memory) s = Unit {0}
