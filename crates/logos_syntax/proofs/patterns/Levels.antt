-- The parser's states are those of patterns read so far: an open group's inside is itself a
-- pattern.
use Rattle.std.proofs.Common.{◌≡◌, ℕ, suc, ◌+◌, max, Bool, false, List, [], ◌∷◌, ◌++◌, length, Option, Some, None, refl, sym, ap, ◌∙◌, arith, option_map}
use Rattle.logos_pattern_tokens.specs.declared.token.Flags.{Flags}
use Rattle.logos_pattern_tokens.specs.declared.token.Change.{Change}
use Rattle.logos_pattern_tokens.specs.declared.token.Operator.{Operator}
use Rattle.logos_hir.specs.Tree.{Tree}
use Rattle.logos_hir.specs.Build.{repetition_of, concat_of, alternation_of}
use Rattle.logos_pattern_tokens.specs.Flags.{flags_after}
use Rattle.logos_pattern_tokens.specs.Token.{Opening, Token, atom, bracketed, bar, opens, closes, sets, repeats}
use Rattle.logos_syntax.specs.Written.{Branches, first, next, Items, nothing, piece, setting, Piece, simple, class, group, repeated, items_flags, branches_flags, inner_flags}
use Rattle.logos_syntax.specs.bracket.Meaning.{bracket_depth}
use Rattle.logos_syntax.specs.Grammar.{branch_list, item_list, piece_tree, branches_depth, items_depth, piece_depth, captures, group_tree, is_greedy}
use Rattle.logos_syntax.specs.inside.Groups.{GroupPart, Group, State, with_last, all_branches, put, set, next_branch, fresh, whole_tree, repeat, close, step}

-- the inside of a group so far: the branches before the last one, and the last one
pub record Level : Type 0 where
  pub before : Option Branches
  pub items : Items

-- the groups around a level, the innermost outside: the part of each that is read, and the opening
-- of the next one
pub data Stack : Type 0 where
  bottom : Stack
  over : Stack → Level → Opening → Stack

pub record Slot : Type 0 where
  pub level : Level
  pub stack : Stack

abbrev pub inside : Option Branches → Items → Branches
inside None its = first its
inside (Some bs) its = next bs its

abbrev pub branch_flags : Flags → Option Branches → Flags
branch_flags flags None = flags
branch_flags flags (Some bs) = branches_flags flags bs

abbrev pub earlier : Flags → Option Branches → List Tree
earlier flags None = []
earlier flags (Some bs) = branch_list flags bs

abbrev pub open_parts : Flags → Items → List Tree
open_parts flags nothing = []
open_parts flags (piece its p) = item_list flags its
open_parts flags (setting its change) = item_list flags its

abbrev pub open_last : ℕ → Flags → Items → Option GroupPart
open_last level flags nothing = None
open_last level flags (piece its p) = Some (piece_tree (items_flags flags its) p, level + piece_depth p)
open_last level flags (setting its change) = None

abbrev pub inside_depth : Option Branches → Items → ℕ
inside_depth None its = items_depth its
inside_depth (Some bs) its = max (branches_depth bs) (items_depth its)

abbrev pub level_flags : Flags → Level → Flags
level_flags flags l = items_flags (branch_flags flags l.before) l.items

abbrev pub level_inside : Level → Branches
level_inside l = inside l.before l.items

abbrev pub group_of : Flags → Bool → ℕ → Level → Group
group_of flags captured level l = record {
  flags = level_flags flags l;
  captured = captured;
  branches = earlier flags l.before;
  parts = open_parts (branch_flags flags l.before) l.items;
  last = open_last level (branch_flags flags l.before) l.items;
  inner = level + inside_depth l.before l.items;
}

abbrev pub size : Stack → ℕ
size bottom = 0
size (over k l opening) = suc (size k)

-- the flags at the front of the innermost level
abbrev pub front_flags : Flags → Stack → Flags
front_flags flags bottom = flags
front_flags flags (over k l opening) = inner_flags opening (level_flags (front_flags flags k) l)

abbrev pub is_captured : Stack → Bool
is_captured bottom = false
is_captured (over k l opening) = captures opening

abbrev pub top_of : Flags → Stack → Level → Group
top_of flags k l = group_of (front_flags flags k) (is_captured k) (size k) l

abbrev pub below_of : Flags → Stack → List Group
below_of flags bottom = []
below_of flags (over k l opening) = top_of flags k l ∷ below_of flags k

abbrev pub state_of : Flags → Slot → State
state_of flags p = record { top = top_of flags p.stack p.level; below = below_of flags p.stack }

abbrev pub with_piece : Level → Piece → Level
with_piece l p = record { before = l.before; items = piece l.items p }

abbrev pub repeated_items : Items → Operator → Option Items
repeated_items nothing op = None
repeated_items (piece its p) op = Some (piece its (repeated p op))
repeated_items (setting its change) op = None

-- another innermost level
abbrev pub with_level : Slot → Level → Slot
with_level p l = record p { level = l }

abbrev pub put_piece : Slot → Piece → Slot
put_piece p x = with_level p (with_piece p.level x)

abbrev pub close_level : Level → Stack → Option Slot
close_level l bottom = None
close_level l (over k outer opening) = Some (record { level = with_piece outer (group opening (level_inside l)); stack = k })

-- the corresponding step on patterns
abbrev pub advance : Slot → Token → Option Slot
advance p (atom a) = Some (put_piece p (simple a))
advance p (bracketed b) = Some (put_piece p (class b))
advance p bar = Some (with_level p (record { before = Some (level_inside p.level); items = nothing }))
advance p (opens opening) = Some (record { level = record { before = None; items = nothing }; stack = over p.stack p.level opening })
advance p closes = close_level p.level p.stack
advance p (sets change) = Some (with_level p (record { before = p.level.before; items = setting p.level.items change }))
advance p (repeats op) = option_map (λ its. with_level p (record { before = p.level.before; items = its })) (repeated_items p.level.items op)

-- ---- each step of the parser is a step on patterns

pub length-below_of : (flags : Flags) (k : Stack) → length (below_of flags k) ≡ size k
length-below_of flags bottom = refl
length-below_of flags (over k l opening) = ap suc (length-below_of flags k)

all_items : (level : ℕ) (flags : Flags) (its : Items) → with_last (open_parts flags its) (open_last level flags its) ≡ item_list flags its
all_items level flags nothing = refl
all_items level flags (piece its p) = refl
all_items level flags (setting its change) = refl

depth_piece : (b : Option Branches) (its : Items) (p : Piece) → inside_depth b (piece its p) ≡ max (inside_depth b its) (piece_depth p)
depth_piece None its p = refl
depth_piece (Some bs) its p = omega arith

depth_setting : (b : Option Branches) (its : Items) (change : Change) → inside_depth b (setting its change) ≡ inside_depth b its
depth_setting None its change = refl
depth_setting (Some bs) its change = refl

pub depth_inside : (b : Option Branches) (its : Items) → branches_depth (inside b its) ≡ inside_depth b its
depth_inside None its = refl
depth_inside (Some bs) its = refl

pub flags_inside : (flags : Flags) (b : Option Branches) (its : Items) → items_flags (branch_flags flags b) its ≡ branches_flags flags (inside b its)
flags_inside flags None its = refl
flags_inside flags (Some bs) its = refl

branches_inside : (flags : Flags) (b : Option Branches) (its : Items) → earlier flags b ++ concat_of (item_list (branch_flags flags b) its) ∷ [] ≡ branch_list flags (inside b its)
branches_inside flags None its = refl
branches_inside flags (Some bs) its = refl

pub all_branches_of : (flags : Flags) (captured : Bool) (level : ℕ) (l : Level) → all_branches (group_of flags captured level l) ≡ branch_list flags (level_inside l)
all_branches_of flags captured level l =
    ap (λ ps. earlier flags l.before ++ concat_of ps ∷ []) (all_items level (branch_flags flags l.before) l.items) ∙ branches_inside flags l.before l.items

pub finished_of : (flags : Flags) (captured : Bool) (level : ℕ) (l : Level) → whole_tree (group_of flags captured level l) ≡ group_tree captured (alternation_of (branch_list flags (level_inside l)))
finished_of flags captured level l = ap (λ bs. group_tree captured (alternation_of bs)) (all_branches_of flags captured level l)

put_is : (flags : Flags) (captured : Bool) (level : ℕ) (l : Level) (p : Piece) (t : Tree) (k : ℕ) → t ≡ piece_tree (level_flags flags l) p → k ≡ level + piece_depth p →
    put (group_of flags captured level l) (t, k) ≡ group_of flags captured level (with_piece l p)
put_is flags captured level l p t k tree depth =
    let make : List Tree → GroupPart → ℕ → Group = λ ps last inner. record { flags = level_flags flags l; captured = captured; branches = earlier flags l.before; parts = ps; last = Some last; inner = inner } in
    let parts = all_items level (branch_flags flags l.before) l.items in
    let d = depth_piece l.before l.items p in
    let inner : max (level + inside_depth l.before l.items) k ≡ level + inside_depth l.before (piece l.items p) = omega arith in
    let last : ◌≡◌ {A = GroupPart} (t, k) (piece_tree (level_flags flags l) p, level + piece_depth p) = ap (λ r. (r, k)) tree ∙ ap (λ n. (piece_tree (level_flags flags l) p, n)) depth in
    ap (λ ps. make ps (t, k) (max (level + inside_depth l.before l.items) k)) parts
    ∙ ap (λ x. make (item_list (branch_flags flags l.before) l.items) x (max (level + inside_depth l.before l.items) k)) last
    ∙ ap (make (item_list (branch_flags flags l.before) l.items) (piece_tree (level_flags flags l) p, level + piece_depth p)) inner

bar_is : (flags : Flags) (captured : Bool) (level : ℕ) (l : Level) → next_branch (group_of flags captured level l) ≡ group_of flags captured level (record { before = Some (level_inside l); items = nothing })
bar_is flags captured level l =
    let make : Flags → List Tree → ℕ → Group = λ f bs inner. record { flags = f; captured = captured; branches = bs; parts = []; last = None; inner = inner } in
    let d = depth_inside l.before l.items in
    let inner : level + inside_depth l.before l.items ≡ level + max (branches_depth (level_inside l)) 0 = omega arith in
    ap (λ f. make f (all_branches (group_of flags captured level l)) (level + inside_depth l.before l.items)) (flags_inside flags l.before l.items)
    ∙ ap (λ bs. make (branches_flags flags (level_inside l)) bs (level + inside_depth l.before l.items)) (all_branches_of flags captured level l)
    ∙ ap (make (branches_flags flags (level_inside l)) (branch_list flags (level_inside l))) inner

set_is : (flags : Flags) (captured : Bool) (level : ℕ) (l : Level) (change : Change) →
    set (group_of flags captured level l) (flags_after change (level_flags flags l)) ≡ group_of flags captured level (record { before = l.before; items = setting l.items change })
set_is flags captured level l change =
    let make : List Tree → ℕ → Group = λ ps inner. record { flags = flags_after change (level_flags flags l); captured = captured; branches = earlier flags l.before; parts = ps; last = None; inner = inner } in
    ap (λ ps. make ps (level + inside_depth l.before l.items)) (all_items level (branch_flags flags l.before) l.items)
    ∙ ap (λ d. make (item_list (branch_flags flags l.before) l.items) (level + d)) (sym (depth_setting l.before l.items change))

repeat_is : (flags : Flags) (captured : Bool) (level : ℕ) (b : Option Branches) (its : Items) (op : Operator) →
    let l : Level = record { before = b; items = its } in
    repeat (group_of flags captured level l) op (open_last level (branch_flags flags b) its) ≡ option_map (λ jts. group_of flags captured level (record { before = b; items = jts })) (repeated_items its op)
repeat_is flags captured level b nothing op = refl
repeat_is flags captured level b (setting its change) op = refl
repeat_is flags captured level b (piece its p) op =
    let g = branch_flags flags b in
    let tree = repetition_of op.least op.most (is_greedy (items_flags g its) op) (piece_tree (items_flags g its) p) in
    let make : ℕ → ℕ → Group = λ n inner. record { flags = items_flags g its; captured = captured; branches = earlier flags b; parts = item_list g its; last = Some (tree, n); inner = inner } in
    let d = depth_piece b its p in
    let e = depth_piece b its (repeated p op) in
    let n : (level + piece_depth p) + 1 ≡ level + (piece_depth p + 1) = omega arith in
    let inner : max (level + inside_depth b (piece its p)) ((level + piece_depth p) + 1) ≡ level + inside_depth b (piece its (repeated p op)) = omega arith in
    ap Some (ap (λ k. make k (max (level + inside_depth b (piece its p)) ((level + piece_depth p) + 1))) n ∙ ap (make (level + (piece_depth p + 1))) inner)

-- the innermost level becomes another one
to_level : (flags : Flags) (k : Stack) (g : Group) (l : Level) → g ≡ top_of flags k l →
    ◌≡◌ {A = Option State} (Some (record { top = g; below = below_of flags k })) (Some (state_of flags (record { level = l; stack = k })))
to_level flags k g l e = ap (λ (x : Group). Some (record { top = x; below = below_of flags k })) e

abbrev pub moved : Flags → Option Slot → Option State
moved flags o = option_map (λ z. state_of flags z) o

with_repeated : (flags : Flags) (p : Slot) (o : Option Items) →
    option_map (λ g. record { top = g; below = below_of flags p.stack }) (option_map (λ jts. top_of flags p.stack (record { before = p.level.before; items = jts })) o)
    ≡ moved flags (option_map (λ its. with_level p (record { before = p.level.before; items = its })) o)
with_repeated flags p None = refl
with_repeated flags p (Some its) = refl

step_closes : (flags : Flags) (l : Level) (k : Stack) → close (top_of flags k l) (below_of flags k) ≡ moved flags (close_level l k)
step_closes flags l bottom = refl
step_closes flags l (over k outer opening) =
    to_level flags k _ (with_piece outer (group opening (level_inside l)))
    (put_is (front_flags flags k) (is_captured k) (size k) outer (group opening (level_inside l)) _ _
    (finished_of (inner_flags opening (level_flags (front_flags flags k) outer)) (captures opening) (suc (size k)) l)
    (let d = depth_inside l.before l.items in omega arith))

pub step_is : (flags : Flags) (p : Slot) (t : Token) → step (state_of flags p) t ≡ moved flags (advance p t)
step_is flags p (atom a) =
    to_level flags p.stack _ (with_piece p.level (simple a)) (put_is (front_flags flags p.stack) (is_captured p.stack) (size p.stack) p.level (simple a) _ (length (below_of flags p.stack)) refl (length-below_of flags p.stack ∙ omega arith))
step_is flags p (bracketed b) =
    to_level flags p.stack _ (with_piece p.level (class b)) (put_is (front_flags flags p.stack) (is_captured p.stack) (size p.stack) p.level (class b) _ (length (below_of flags p.stack) + bracket_depth b) refl (let e = length-below_of flags p.stack in omega arith))
step_is flags p bar = to_level flags p.stack _ (record { before = Some (level_inside p.level); items = nothing }) (bar_is (front_flags flags p.stack) (is_captured p.stack) (size p.stack) p.level)
step_is flags p (opens opening) =
    let e = length-below_of flags p.stack in
    let n : length (below_of flags p.stack) + 1 ≡ suc (size p.stack) + 0 = omega arith in
    ap (λ (k : ℕ). Some (record { top = fresh (inner_flags opening (level_flags (front_flags flags p.stack) p.level)) (captures opening) k; below = top_of flags p.stack p.level ∷ below_of flags p.stack })) n
step_is flags p closes = step_closes flags p.level p.stack
step_is flags p (sets change) = to_level flags p.stack _ (record { before = p.level.before; items = setting p.level.items change }) (set_is (front_flags flags p.stack) (is_captured p.stack) (size p.stack) p.level change)
step_is flags p (repeats op) =
    ap (option_map (λ g. record { top = g; below = below_of flags p.stack })) (repeat_is (front_flags flags p.stack) (is_captured p.stack) (size p.stack) p.level.before p.level.items op) ∙ with_repeated flags p (repeated_items p.level.items op)
