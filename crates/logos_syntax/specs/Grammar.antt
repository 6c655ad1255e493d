-- The grammar: the tree that each text spells.
use Rattle.std.specs.Prelude.{◌≡◌, ℕ, ◌+◌, ◌<◌, ◌≤◌, max, Bool, true, false, not, ◌||◌, ◌&&◌, ◌==◌, nat_lt, List, [], ◌∷◌, ◌++◌, if◌then◌else◌, encode_utf8}
use Rattle.logos_pattern_tokens.specs.declared.error.PatternError.{PatternError}
use Rattle.logos_pattern_tokens.specs.declared.error.PatternError.TheVariants as errors
use Rattle.logos_hir.specs.declared.hir.Look.{Look}
use Rattle.logos_hir.specs.declared.hir.Look.TheVariants.{Start, End, StartLF, EndLF, StartCRLF, EndCRLF, WordAscii, WordAsciiNegate}
use Rattle.logos_pattern_tokens.specs.declared.token.Flags.{Flags}
use Rattle.logos_pattern_tokens.specs.declared.token.Operator.{Operator}
use Rattle.logos_pattern_tokens.specs.declared.token.Atom.{Atom}
use Rattle.logos_pattern_tokens.specs.declared.token.Atom.TheVariants.{Character, Byte, Dot, Caret, Dollar, TextStart, TextEnd, Boundary, Perl, Property}
use Rattle.unicode.specs.Sets.{in_set}
use Rattle.logos_hir.specs.Tree.{Tree, literal, look, capture}
use Rattle.logos_hir.specs.Sets.{Set, only_chars}
use Rattle.logos_hir.specs.Build.{one_char_of, one_byte_of, repetition_of, concat_of, alternation_of}
use Rattle.logos_pattern_tokens.specs.Token.{Text, Opening, capturing, named, plain, Token, atom, bracketed}
use Rattle.logos_hir.specs.Property.{perl_set}
use Rattle.logos_pattern_tokens.specs.bracket.Form.{Bracket}
use Rattle.logos_syntax.specs.bracket.Meaning.{case_closure, set_or_complement, bracket_set, BracketFits, bracket_depth}
use Rattle.logos_syntax.specs.Written.{Branches, first, next, Items, nothing, piece, setting, Piece, simple, class, group, repeated, branches_tokens, Cuts, NamesDiffer, items_flags, branches_flags, inner_flags}

-- ---- atoms.

-- The tree that matches one character, or one byte, of the set.
abbrev pub one_of : Flags → Set → Tree
one_of flags set = if flags.unicode then one_char_of set else one_byte_of set

-- The set that contains only the number. If `i` is on, it also contains the numbers that differ
-- from it only in case.
abbrev pub same_as : Flags → ℕ → Set
same_as flags c = case_closure flags (only_chars (λ d. d == c))

-- The tree of a character. Outside ASCII it has no other case if the pattern matches bytes.
abbrev pub character_tree : Flags → ℕ → Tree
character_tree flags c =
    if flags.ignore_case && (flags.unicode || nat_lt c 128) then one_of flags (same_as flags c) else literal (encode_utf8 c)

-- The tree of a byte, or of the character with its number if the pattern matches characters.
abbrev pub byte_tree : Flags → ℕ → Tree
byte_tree flags b =
    if flags.unicode then character_tree flags b
    else if flags.ignore_case then one_byte_of (same_as flags b)
    else literal (b ∷ [])

-- The set of a dot. LF is 10, CR is 13.
abbrev pub dot_set : Flags → Set
dot_set flags = only_chars (λ c. flags.dot_all || not ((c == 10) || (flags.crlf && (c == 13))))

-- The look-around assertion of `^`.
abbrev pub start_look : Flags → Look
start_look flags = if flags.multi_line then (if flags.crlf then StartCRLF else StartLF) else Start

-- The look-around assertion of `$`.
abbrev pub end_look : Flags → Look
end_look flags = if flags.multi_line then (if flags.crlf then EndCRLF else EndLF) else End

-- The tree of an atom.
abbrev pub atom_tree : Flags → Atom → Tree
atom_tree flags (Character c) = character_tree flags c
atom_tree flags (Byte b) = byte_tree flags b
atom_tree flags Dot = one_of flags (dot_set flags)
atom_tree flags Caret = look (start_look flags)
atom_tree flags Dollar = look (end_look flags)
atom_tree flags TextStart = look Start
atom_tree flags TextEnd = look End
atom_tree flags (Boundary negated) = look (if negated then WordAsciiNegate else WordAscii)
atom_tree flags (Perl kind negated) = one_of flags (set_or_complement flags negated (case_closure flags (only_chars (perl_set kind flags.unicode))))
atom_tree flags (Property set negated) = one_of flags (set_or_complement flags negated (case_closure flags (only_chars (in_set set))))

-- Whether the flags allow the atom. A word boundary is allowed if the pattern matches bytes, and a
-- property if it matches characters.
abbrev pub atom_fits : Flags → Atom → Bool
atom_fits flags (Character c) = true
atom_fits flags (Byte b) = true
atom_fits flags Dot = true
atom_fits flags Caret = true
atom_fits flags Dollar = true
atom_fits flags TextStart = true
atom_fits flags TextEnd = true
atom_fits flags (Boundary negated) = not flags.unicode
atom_fits flags (Perl kind negated) = true
atom_fits flags (Property set negated) = flags.unicode

-- The flags allow the token.
abbrev pub TokenFits : Flags → Token → Type 0
TokenFits flags (atom a) = atom_fits flags a ≡ true
TokenFits flags (bracketed b) = BracketFits flags b
TokenFits flags _ = Unit {0}

-- The tree of a bracket.
abbrev pub class_tree : Flags → Bracket → Tree
class_tree flags b = one_of flags (bracket_set flags b)

-- ---- trees.

-- The group is a capture.
abbrev pub captures : Opening → Bool
captures capturing = true
captures (named name) = true
captures (plain change) = false

-- The tree of a group, which is a capture if `captured` holds.
abbrev pub group_tree : Bool → Tree → Tree
group_tree captured tree = if captured then capture tree else tree

-- Whether an operator is greedy: one without `?`, or, with the flag `U`, one with `?`.
abbrev pub is_greedy : Flags → Operator → Bool
is_greedy flags op = if flags.swap_greed then op.lazy else not op.lazy

-- The tree of a pattern. A flag setting holds to the end of its group.
abbrev mutual
  pub branch_list : Flags → Branches → List Tree
  branch_list flags (first its) = concat_of (item_list flags its) ∷ []
  branch_list flags (next bs its) = branch_list flags bs ++ concat_of (item_list (branches_flags flags bs) its) ∷ []

  pub item_list : Flags → Items → List Tree
  item_list flags nothing = []
  item_list flags (piece its p) = item_list flags its ++ piece_tree (items_flags flags its) p ∷ []
  item_list flags (setting its change) = item_list flags its

  pub piece_tree : Flags → Piece → Tree
  piece_tree flags (simple a) = atom_tree flags a
  piece_tree flags (class b) = class_tree flags b
  piece_tree flags (group opening bs) = group_tree (captures opening) (alternation_of (branch_list (inner_flags opening flags) bs))
  piece_tree flags (repeated p op) = repetition_of op.least op.most (is_greedy flags op) (piece_tree flags p)

-- The tree of the inside of a group.
abbrev pub written_tree : Flags → Branches → Tree
written_tree flags bs = alternation_of (branch_list flags bs)

-- ---- the tokens that the flags allow.

abbrev mutual
  pub BranchesFit : Flags → Branches → Type 0
  BranchesFit flags (first its) = ItemsFit flags its
  BranchesFit flags (next bs its) = BranchesFit flags bs × ItemsFit (branches_flags flags bs) its

  pub ItemsFit : Flags → Items → Type 0
  ItemsFit flags nothing = Unit {0}
  ItemsFit flags (piece its p) = ItemsFit flags its × PieceFits (items_flags flags its) p
  ItemsFit flags (setting its change) = ItemsFit flags its

  pub PieceFits : Flags → Piece → Type 0
  PieceFits flags (simple a) = atom_fits flags a ≡ true
  PieceFits flags (class b) = BracketFits flags b
  PieceFits flags (group opening bs) = BranchesFit (inner_flags opening flags) bs
  PieceFits flags (repeated p op) = PieceFits flags p

-- ---- the greatest number of groups, brackets and repetitions around one point.

abbrev mutual
  pub branches_depth : Branches → ℕ
  branches_depth (first its) = items_depth its
  branches_depth (next bs its) = max (branches_depth bs) (items_depth its)

  pub items_depth : Items → ℕ
  items_depth nothing = 0
  items_depth (piece its p) = max (items_depth its) (piece_depth p)
  items_depth (setting its change) = items_depth its

  pub piece_depth : Piece → ℕ
  piece_depth (simple a) = 0
  piece_depth (class b) = bracket_depth b
  piece_depth (group opening bs) = branches_depth bs + 1
  piece_depth (repeated p op) = piece_depth p + 1

-- ---- the whole text.

-- The text spells the tree under the flags. `depth` is the greatest number of groups, brackets and
-- repetitions around one point.
pub record Spells (flags : Flags) (text : Text) (tree : Tree) (depth : ℕ) : Type 0 where
  pub written : Branches
  pub cut : Cuts text (branches_tokens written) []
  pub fit : BranchesFit flags written
  pub names : NamesDiffer [] (branches_tokens written)
  pub is_tree : written_tree flags written ≡ tree
  pub is_depth : branches_depth written ≡ depth

-- The text spells some tree.
abbrev pub IsSpelled : Flags → Text → ℕ → Type 0
IsSpelled flags text depth = (tree : Tree) × Spells flags text tree depth

-- The text spells the tree, and its nesting is within the limit.
abbrev pub IsFound : Flags → Text → Tree → Type 0
IsFound flags text tree = (depth : ℕ) × (depth ≤ 250) × Spells flags text tree depth

-- The condition on the text under which an error is returned.
abbrev pub Refuses : Flags → Text → PatternError → Type 0
Refuses flags text (errors.Syntax kind at) = (depth : ℕ) → IsSpelled flags text depth → ⊥
Refuses flags text errors.LimitPatternNesting = (depth : ℕ) → IsSpelled flags text depth → 250 < depth
Refuses flags text errors.Memory = Unit {0}

-- The flags at the start of a pattern.
abbrev pub first_flags : Bool → Bool → Flags
first_flags unicode ignore_case = record { unicode = unicode; ignore_case = ignore_case; multi_line = false; dot_all = false; swap_greed = false; crlf = false }
