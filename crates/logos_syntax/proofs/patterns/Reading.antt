-- A text that the parser reads is a pattern, and each pattern is read.
use Rattle.std.proofs.Common.{◌≡◌, ◌≤◌, false, List, [], ◌∷◌, ◌++◌, Option, Some, None, refl, sym, ap, subst, ◌∙◌, arith, append_assoc, append-nil, option_map, IfSome}
use Rattle.logos_pattern_tokens.specs.declared.token.Flags.{Flags}
use Rattle.logos_pattern_tokens.specs.declared.token.Operator.{Operator}
use Rattle.logos_pattern_tokens.specs.Token.{Token, atom, bracketed, bar, opens, closes, sets, repeats}
use Rattle.logos_syntax.specs.Written.{Branches, first, next, Items, nothing, piece, setting, Piece, simple, class, group, repeated, branches_tokens, items_tokens, piece_tokens}
use Rattle.logos_syntax.specs.Grammar.{branches_depth, written_tree, TokenFits, BranchesFit, ItemsFit, PieceFits}
use Rattle.logos_syntax.specs.inside.Groups.{GroupPart, Group, State, start, whole_tree, step, Runs, stays, goes, deepest, repeat, close}
use Rattle.logos_syntax.proofs.patterns.Levels.{Level, Stack, bottom, over, Slot, inside, branch_flags, level_flags, level_inside, with_level, with_piece, put_piece, front_flags, state_of, advance, close_level, moved, step_is, repeated_items, finished_of, inside_depth, depth_inside}

-- ---- runs

pub runs_on : (s t u : State) (xs ys : List Token) → Runs s xs t → Runs t ys u → Runs s (xs ++ ys) u
runs_on s t u xs ys (stays v) r = r
runs_on s t u xs ys (goes v w last token tokens fit moves k) r = goes v w u token (tokens ++ ys) fit moves (runs_on w last u tokens ys k r)

pub runs_once : (s t : State) (token : Token) → TokenFits s.top.flags token → step s token ≡ Some t → Runs s (token ∷ []) t
runs_once s t token fit moves = goes s t t token [] fit moves (stays t)

-- the first step of a run
pub record First (s : State) (token : Token) (tokens : List Token) (u : State) : Type 0 where
  pub then : State
  pub fit : TokenFits s.top.flags token
  pub moves : step s token ≡ Some then
  pub others : Runs then tokens u

pub first_of_runs : (s u : State) (token : Token) (tokens : List Token) → Runs s (token ∷ tokens) u → First s token tokens u
first_of_runs s u token tokens (goes a b c x xs fit moves k) = record { then = b; fit = fit; moves = moves; others = k }

pub no_runs : (s u : State) → Runs s [] u → s ≡ u
no_runs s u (stays t) = refl

-- a run on more tokens begins with a run on fewer
pub runs_after : (s t u : State) (xs ys : List Token) → Runs s xs t → Runs s (xs ++ ys) u → Runs t ys u
runs_after s t u xs ys (stays v) r = r
runs_after s t u xs ys (goes v w last token tokens fit moves k) r =
    let f = first_of_runs v u token (tokens ++ ys) r in
    let same : f.then ≡ w = (let h = f.moves in cc) in
    runs_after w last u tokens ys k (subst (λ z. Runs z (tokens ++ ys) u) same f.others)

-- ---- a text that is read is a pattern

-- the tokens that the groups around were read from, with the next opening
abbrev pub stack_tokens : Stack → List Token
stack_tokens bottom = []
stack_tokens (over k l opening) = (stack_tokens k ++ branches_tokens (level_inside l)) ++ opens opening ∷ []

abbrev pub tokens_of : Slot → List Token
tokens_of p = stack_tokens p.stack ++ branches_tokens (level_inside p.level)

-- the tokens that are read are allowed where they occur
abbrev pub StackFits : Flags → Stack → Type 0
StackFits flags bottom = Unit {0}
StackFits flags (over k l opening) = StackFits flags k × BranchesFit (front_flags flags k) (level_inside l)

abbrev pub SlotFits : Flags → Slot → Type 0
SlotFits flags p = StackFits flags p.stack × BranchesFit (front_flags flags p.stack) (level_inside p.level)

inside_more : (b : Option Branches) (its jts : Items) (ts : List Token) → items_tokens jts ≡ items_tokens its ++ ts → branches_tokens (inside b jts) ≡ branches_tokens (inside b its) ++ ts
inside_more None its jts ts e = e
inside_more (Some bs) its jts ts e =
    ap (λ (x : List Token). branches_tokens bs ++ bar ∷ x) e ∙ sym (append_assoc (branches_tokens bs) (bar ∷ items_tokens its) ts)

-- another innermost level
tokens_more : (p : Slot) (k : Level) (ts : List Token) → branches_tokens (level_inside k) ≡ branches_tokens (level_inside p.level) ++ ts → tokens_of (with_level p k) ≡ tokens_of p ++ ts
tokens_more p k ts e = ap (λ (x : List Token). stack_tokens p.stack ++ x) e ∙ sym (append_assoc (stack_tokens p.stack) (branches_tokens (level_inside p.level)) ts)

-- the inside of a group with its last branch changed
inside_fits : (flags : Flags) (b : Option Branches) (its jts : Items) → (ItemsFit (branch_flags flags b) its → ItemsFit (branch_flags flags b) jts) → BranchesFit flags (inside b its) → BranchesFit flags (inside b jts)
inside_fits flags None its jts g f = g f
inside_fits flags (Some bs) its jts g f = (f.0, g f.1)

piece_fits : (flags : Flags) (l : Level) (p : Piece) → PieceFits (level_flags flags l) p → BranchesFit flags (level_inside l) → BranchesFit flags (level_inside (with_piece l p))
piece_fits flags l p g f = inside_fits flags l.before l.items (piece l.items p) (λ h. (h, g)) f

-- the continuation of a step with the text that is read
record Adds (flags : Flags) (p : Slot) (t : Token) (z : Slot) : Type 0 where
  tokens : tokens_of z ≡ tokens_of p ++ t ∷ []
  fits : SlotFits flags p → TokenFits (state_of flags p).top.flags t → SlotFits flags z

adds_piece : (flags : Flags) (p : Slot) (x : Piece) (t : Token) → piece_tokens x ≡ t ∷ [] → (TokenFits (state_of flags p).top.flags t → PieceFits (level_flags (front_flags flags p.stack) p.level) x) → Adds flags p t (put_piece p x)
adds_piece flags p x t e g = record {
  tokens = tokens_more p (with_piece p.level x) (t ∷ []) (inside_more p.level.before p.level.items (piece p.level.items x) (t ∷ []) (ap (λ (y : List Token). items_tokens p.level.items ++ y) e));
  fits = λ f h. (f.0, piece_fits (front_flags flags p.stack) p.level x (g h) f.1);
}

adds_at : (flags : Flags) (p : Slot) (t : Token) (q z : Slot) → Adds flags p t q → ◌≡◌ {A = Option Slot} (Some q) (Some z) → Adds flags p t z
adds_at flags p t q z h e = let same : q ≡ z = cc in subst (Adds flags p t) same h

repeat_adds : (flags : Flags) (b : Option Branches) (its jts : Items) (op : Operator) → repeated_items its op ≡ Some jts →
    (items_tokens jts ≡ items_tokens its ++ repeats op ∷ []) × (ItemsFit (branch_flags flags b) its → ItemsFit (branch_flags flags b) jts)
repeat_adds flags b nothing jts op e = absurd cc
repeat_adds flags b (setting its change) jts op e = absurd cc
repeat_adds flags b (piece its p) jts op e =
    let same : piece its (repeated p op) ≡ jts = cc in
    (ap items_tokens (sym same) ∙ sym (append_assoc (items_tokens its) (piece_tokens p) (repeats op ∷ [])), λ f. subst (ItemsFit (branch_flags flags b)) same f)

close_adds : (flags : Flags) (l : Level) (k : Stack) (z : Slot) → close_level l k ≡ Some z → Adds flags (record { level = l; stack = k }) closes z
close_adds flags l bottom z e = absurd cc
close_adds flags l (over k outer opening) z e =
    let x : Piece = group opening (level_inside l) in
    let mid = branches_tokens (level_inside l) in
    let q : Slot = record { level = outer; stack = k } in
    adds_at flags (record { level = l; stack = over k outer opening }) closes (put_piece q x) z (record {
      tokens = tokens_more q (with_piece outer x) (opens opening ∷ mid ++ closes ∷ []) (inside_more outer.before outer.items (piece outer.items x) (opens opening ∷ mid ++ closes ∷ []) refl)
          ∙ sym (append_assoc (tokens_of q) (opens opening ∷ []) (mid ++ closes ∷ [])) ∙ sym (append_assoc (tokens_of q ++ opens opening ∷ []) mid (closes ∷ []));
      fits = λ f h. (f.0.0, piece_fits (front_flags flags k) outer x f.1 f.0.1);
    }) e

advance_adds : (flags : Flags) (p : Slot) (t : Token) (z : Slot) → advance p t ≡ Some z → Adds flags p t z
advance_adds flags p (atom a) z e = adds_at flags p (atom a) (put_piece p (simple a)) z (adds_piece flags p (simple a) (atom a) refl (λ h. h)) e
advance_adds flags p (bracketed b) z e = adds_at flags p (bracketed b) (put_piece p (class b)) z (adds_piece flags p (class b) (bracketed b) refl (λ h. h)) e
advance_adds flags p bar z e =
    let k : Level = record { before = Some (level_inside p.level); items = nothing } in
    adds_at flags p bar (with_level p k) z (record { tokens = tokens_more p k (bar ∷ []) refl; fits = λ f h. (f.0, (f.1, tt)) }) e
advance_adds flags p (opens opening) z e =
    adds_at flags p (opens opening) (record { level = record { before = None; items = nothing }; stack = over p.stack p.level opening }) z (record { tokens = append-nil (tokens_of p ++ opens opening ∷ []); fits = λ f h. (f, tt) }) e
advance_adds flags p closes z e = close_adds flags p.level p.stack z e
advance_adds flags p (sets change) z e =
    let k : Level = record { before = p.level.before; items = setting p.level.items change } in
    adds_at flags p (sets change) (with_level p k) z (record {
      tokens = tokens_more p k (sets change ∷ []) (inside_more p.level.before p.level.items (setting p.level.items change) (sets change ∷ []) refl);
      fits = λ f h. (f.0, inside_fits (front_flags flags p.stack) p.level.before p.level.items (setting p.level.items change) (λ g. g) f.1);
    }) e
advance_adds flags p (repeats op) z e = from (repeated_items p.level.items op) refl e
  where
    from : (o : Option Items) → repeated_items p.level.items op ≡ o → option_map (λ its. with_level p (record { before = p.level.before; items = its })) o ≡ Some z → Adds flags p (repeats op) z
    from None is h = absurd cc
    from (Some jts) is h =
        let k : Level = record { before = p.level.before; items = jts } in
        let r = repeat_adds (front_flags flags p.stack) p.level.before p.level.items jts op is in
        adds_at flags p (repeats op) (with_level p k) z (record {
          tokens = tokens_more p k (repeats op ∷ []) (inside_more p.level.before p.level.items jts (repeats op ∷ []) r.0);
          fits = λ f g. (f.0, inside_fits (front_flags flags p.stack) p.level.before p.level.items jts r.1 f.1);
        }) h

-- the text that the parser has read
pub record IsRead (flags : Flags) (ts : List Token) (s : State) : Type 0 where
  pub slot : Slot
  pub state : s ≡ state_of flags slot
  pub tokens : tokens_of slot ≡ ts
  pub fits : SlotFits flags slot

abbrev origin : Level
origin = record { before = None; items = nothing }

starts_read : (flags : Flags) → IsRead flags [] (start flags)
starts_read flags = record { slot = record { level = origin; stack = bottom }; state = refl; tokens = refl; fits = (tt, tt) }

-- one more token is read
reads_more : (flags : Flags) (ts : List Token) (s u : State) (t : Token) → IsRead flags ts s → TokenFits s.top.flags t → step s t ≡ Some u → IsRead flags (ts ++ t ∷ []) u
reads_more flags ts s u t r fit e = from (advance r.slot t) refl (sym (step_is flags r.slot t) ∙ ap (λ (x : State). step x t) (sym r.state) ∙ e)
  where
    from : (o : Option Slot) → advance r.slot t ≡ o → moved flags o ≡ Some u → IsRead flags (ts ++ t ∷ []) u
    from None is h = absurd cc
    from (Some z) is h =
        let a = advance_adds flags r.slot t z is in
        record {
          slot = z;
          state = (let same : state_of flags z ≡ u = cc in sym same);
          tokens = a.tokens ∙ ap (λ (x : List Token). x ++ t ∷ []) r.tokens;
          fits = a.fits r.fits (subst (λ f. TokenFits f t) (ap (λ (x : State). x.top.flags) r.state) fit);
        }

reads_all : (flags : Flags) (ts us : List Token) (s t : State) → IsRead flags ts s → Runs s us t → IsRead flags (ts ++ us) t
reads_all flags ts us s t r (stays u) = subst (λ x. IsRead flags x u) (sym (append-nil ts)) r
reads_all flags ts us s t r (goes a b c token tokens fit moves k) =
    subst (λ x. IsRead flags x c) (append_assoc ts (token ∷ []) tokens) (reads_all flags (ts ++ token ∷ []) tokens b c (reads_more flags ts a b token r fit moves) k)

pub is_read : (flags : Flags) (ts : List Token) (s : State) → Runs (start flags) ts s → IsRead flags ts s
is_read flags ts s r = reads_all flags [] ts (start flags) s (starts_read flags) r

-- ---- each pattern is read

abbrev at : Option Branches → Items → Level
at b its = record { before = b; items = its }

abbrev pub level_of : Branches → Level
level_of (first its) = at None its
level_of (next bs its) = at (Some bs) its

inside-level_of : (bs : Branches) → level_inside (level_of bs) ≡ bs
inside-level_of (first its) = refl
inside-level_of (next bs its) = refl

-- the state at a level over a stack
abbrev pub at_level : Flags → Stack → Level → State
at_level flags k l = state_of flags (record { level = l; stack = k })

go : (flags : Flags) (k : Stack) (l : Level) (t : Token) (z : Slot) → TokenFits (level_flags (front_flags flags k) l) t → advance (record { level = l; stack = k }) t ≡ Some z → Runs (at_level flags k l) (t ∷ []) (state_of flags z)
go flags k l t z fit e = runs_once (at_level flags k l) (state_of flags z) t fit (step_is flags (record { level = l; stack = k }) t ∙ ap (moved flags) e)

mutual
  branches_run : (bs : Branches) (flags : Flags) (k : Stack) → BranchesFit (front_flags flags k) bs → Runs (at_level flags k origin) (branches_tokens bs) (at_level flags k (level_of bs))
  branches_run (first its) flags k f = items_run its None flags k f
  branches_run (next bs its) flags k f =
      runs_on (at_level flags k origin) (at_level flags k (level_of bs)) (at_level flags k (at (Some bs) its)) (branches_tokens bs) (bar ∷ items_tokens its)
      (branches_run bs flags k f.0)
      (runs_on (at_level flags k (level_of bs)) (at_level flags k (at (Some bs) nothing)) (at_level flags k (at (Some bs) its)) (bar ∷ []) (items_tokens its)
      (subst (λ (b : Branches). Runs (at_level flags k (level_of bs)) (bar ∷ []) (at_level flags k (at (Some b) nothing))) (inside-level_of bs)
      (go flags k (level_of bs) bar (record { level = at (Some (level_inside (level_of bs))) nothing; stack = k }) tt refl))
      (items_run its (Some bs) flags k f.1))

  items_run : (its : Items) (b : Option Branches) (flags : Flags) (k : Stack) → ItemsFit (branch_flags (front_flags flags k) b) its → Runs (at_level flags k (at b nothing)) (items_tokens its) (at_level flags k (at b its))
  items_run nothing b flags k f = stays (at_level flags k (at b nothing))
  items_run (piece its p) b flags k f =
      runs_on (at_level flags k (at b nothing)) (at_level flags k (at b its)) (at_level flags k (at b (piece its p))) (items_tokens its) (piece_tokens p)
      (items_run its b flags k f.0) (piece_run p b its flags k f.1)
  items_run (setting its change) b flags k f =
      runs_on (at_level flags k (at b nothing)) (at_level flags k (at b its)) (at_level flags k (at b (setting its change))) (items_tokens its) (sets change ∷ [])
      (items_run its b flags k f) (go flags k (at b its) (sets change) (record { level = at b (setting its change); stack = k }) tt refl)

  piece_run : (p : Piece) (b : Option Branches) (its : Items) (flags : Flags) (k : Stack) → PieceFits (level_flags (front_flags flags k) (at b its)) p →
      Runs (at_level flags k (at b its)) (piece_tokens p) (at_level flags k (at b (piece its p)))
  piece_run (simple a) b its flags k f = go flags k (at b its) (atom a) (record { level = at b (piece its (simple a)); stack = k }) f refl
  piece_run (class c) b its flags k f = go flags k (at b its) (bracketed c) (record { level = at b (piece its (class c)); stack = k }) f refl
  piece_run (group opening bs) b its flags k f =
      let inner : Stack = over k (at b its) opening in
      runs_on (at_level flags k (at b its)) (at_level flags inner origin) (at_level flags k (at b (piece its (group opening bs)))) (opens opening ∷ []) (branches_tokens bs ++ closes ∷ [])
      (go flags k (at b its) (opens opening) (record { level = origin; stack = inner }) tt refl)
      (runs_on (at_level flags inner origin) (at_level flags inner (level_of bs)) (at_level flags k (at b (piece its (group opening bs)))) (branches_tokens bs) (closes ∷ [])
      (branches_run bs flags inner f)
      (subst (λ (x : Branches). Runs (at_level flags inner (level_of bs)) (closes ∷ []) (at_level flags k (at b (piece its (group opening x))))) (inside-level_of bs)
      (go flags inner (level_of bs) closes (record { level = at b (piece its (group opening (level_inside (level_of bs)))); stack = k }) tt refl)))
  piece_run (repeated p op) b its flags k f =
      runs_on (at_level flags k (at b its)) (at_level flags k (at b (piece its p))) (at_level flags k (at b (piece its (repeated p op)))) (piece_tokens p) (repeats op ∷ [])
      (piece_run p b its flags k f) (go flags k (at b (piece its p)) (repeats op) (record { level = at b (piece its (repeated p op)); stack = k }) tt refl)

-- the state of the parser after a whole pattern
pub whole_runs : (flags : Flags) (bs : Branches) → BranchesFit flags bs → Runs (start flags) (branches_tokens bs) (at_level flags bottom (level_of bs))
whole_runs flags bs f = branches_run bs flags bottom f

depth-level_of : (bs : Branches) → inside_depth (level_of bs).before (level_of bs).items ≡ branches_depth bs
depth-level_of (first its) = refl
depth-level_of (next bs its) = refl

pub whole_depth : (flags : Flags) (bs : Branches) → deepest (at_level flags bottom (level_of bs)) ≡ branches_depth bs
whole_depth flags bs = let e = depth-level_of bs in omega arith

-- ---- no step makes the parser less deep

abbrev IsDeeper : State → Option State → Type 0
IsDeeper s o = IfSome o (λ t. deepest s ≤ deepest t)

repeat_deeper : (g : Group) (gs : List Group) (op : Operator) (o : Option GroupPart) → IsDeeper (record { top = g; below = gs }) (option_map (λ h. record { top = h; below = gs }) (repeat g op o))
repeat_deeper g gs op None = tt
repeat_deeper g gs op (Some part) = omega arith

close_deeper : (g : Group) (gs : List Group) → IsDeeper (record { top = g; below = gs }) (close g gs)
close_deeper g [] = tt
close_deeper g (h ∷ gs) = omega arith

step_deeper : (s : State) (token : Token) → IsDeeper s (step s token)
step_deeper s (atom a) = omega arith
step_deeper s (bracketed b) = omega arith
step_deeper s bar = omega arith
step_deeper s (opens opening) = omega arith
step_deeper s closes = close_deeper s.top s.below
step_deeper s (sets change) = omega arith
step_deeper s (repeats op) = repeat_deeper s.top s.below op s.top.last

pub runs_deeper : (s : State) (ts : List Token) (t : State) → Runs s ts t → deepest s ≤ deepest t
runs_deeper s ts t (stays u) = omega arith
runs_deeper s ts t (goes a b c token tokens fit moves k) = from (step a token) moves (step_deeper a token) (runs_deeper b tokens c k)
  where
    from : (o : Option State) → o ≡ Some b → IsDeeper a o → deepest b ≤ deepest c → deepest a ≤ deepest c
    from None e d rest = absurd cc
    from (Some x) e d rest = let same : x ≡ b = cc in let deep : deepest x ≡ deepest b = ap deepest same in omega arith

-- ---- the tree at the end

pub record IsWhole (flags : Flags) (ts : List Token) (s : State) : Type 0 where
  pub branches : Branches
  pub tokens : branches_tokens branches ≡ ts
  pub fits : BranchesFit flags branches
  pub tree : whole_tree s.top ≡ written_tree flags branches
  pub depth : s.top.inner ≡ branches_depth branches

pub is_whole : (flags : Flags) (ts : List Token) (s : State) → s.below ≡ [] → IsRead flags ts s → IsWhole flags ts s
is_whole flags ts s ended r = from r.slot.level r.slot.stack r.state r.tokens r.fits
  where
    from : (l : Level) (k : Stack) → s ≡ at_level flags k l → tokens_of (record { level = l; stack = k }) ≡ ts → SlotFits flags (record { level = l; stack = k }) → IsWhole flags ts s
    from l bottom state tokens fits = record {
      branches = level_inside l;
      tokens = tokens;
      fits = fits.1;
      tree = ap (λ (x : State). whole_tree x.top) state ∙ finished_of flags false 0 l;
      depth = ap (λ (x : State). x.top.inner) state ∙ (let d = depth_inside l.before l.items in omega arith);
    }
    from l (over k outer opening) state tokens fits = let h = ap (λ (x : State). x.below) state in absurd cc

pub tree_level_of : (flags : Flags) (bs : Branches) → whole_tree (at_level flags bottom (level_of bs)).top ≡ written_tree flags bs
tree_level_of flags bs = finished_of flags false 0 (level_of bs) ∙ ap (written_tree flags) (inside-level_of bs)
