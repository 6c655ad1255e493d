-- Invariants that hold while tokens are printed.
use Rattle.std.specs.Prelude.{◌≡◌, ℕ, ◌+◌, ◌*◌, ◌<◌, List, [], ◌∷◌, ◌++◌, fold, Option, IfSome, MatchOption}
use Rattle.logos_token.specs.declared.token.printing.Outer.{Outer}
use Rattle.logos_token.specs.declared.token.views.Tokens.{Tokens}
use Rattle.logos_token.specs.declared.token.views.Group.{Group}
use Rattle.logos_token.specs.Tokens.{Token, group, TokenList, count_of}
use Rattle.logos_token.specs.Views.{tokens_of, inside_of}
use Rattle.logos_token.specs.Printing.{Part, opening_text, closing_text, spaced, token_parts, run_parts, Printed, print_part}

-- The lexemes to print after the open groups: their closing delimiters, and the tokens after them.
-- The innermost group is last in the list.
abbrev pub outer_parts : List Outer → List Part
outer_parts [] = []
outer_parts (o ∷ inner) = outer_parts inner ++ spaced (closing_text o.delimiter) ∷ run_parts (tokens_of o.rest)

-- The whole text that will be printed.
abbrev pub whole : Printed → List Outer → TokenList → Printed
whole printed outer rest = fold print_part printed (run_parts rest ++ outer_parts outer)

-- A termination measure of the groups that are open: twice the number of tokens left after each,
-- plus one.
abbrev pub outer_left : List Outer → ℕ
outer_left [] = 0
outer_left (o ∷ inner) = 2 * count_of (tokens_of o.rest) + 1 + outer_left inner

-- The measure of the open groups together with the run to print next.
abbrev pub left_of : List Outer → TokenList → ℕ
left_of outer rest = 2 * count_of rest + outer_left outer

-- A tree was printed. If it is a group, only its opening delimiter was printed, and the group is
-- returned.
abbrev pub PrintsTree : Printed → Token → Printed → Option Group → Type 0
PrintsTree before tree after inner =
    MatchOption inner (after ≡ fold print_part before (token_parts tree)) (λ g. (tree ≡ group g.delimiter g.span (inside_of g)) × (after ≡ print_part before (spaced (opening_text g.delimiter))))

-- A step leaves the text that will be printed unchanged. Printing is finished if no run comes next.
abbrev pub PrintsOn : Printed → List Outer → TokenList → Printed → List Outer → Option Tokens → Type 0
PrintsOn before outer rest after next_outer next =
    MatchOption next (after ≡ whole before outer rest) (λ run. whole after next_outer (tokens_of run) ≡ whole before outer rest)

-- A step decreases the measure of the tokens left to print.
abbrev pub LeavesFewer : List Outer → TokenList → List Outer → Option Tokens → Type 0
LeavesFewer outer rest next_outer next = IfSome next (λ run. left_of next_outer (tokens_of run) < left_of outer rest)
