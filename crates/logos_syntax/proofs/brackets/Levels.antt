-- Brackets that have been read: the frames of open brackets are those of the written ones.
use Rattle.std.proofs.Common.{◌≡◌, ℕ, suc, ◌+◌, max, Bool, false, List, [], ◌∷◌, ◌++◌, length, Option, Some, None, refl, sym, ap, subst, ◌∙◌, arith, append_assoc, append-nil, option_map, option_and_then}
use Rattle.logos_pattern_tokens.specs.declared.token.Flags.{Flags}
use Rattle.logos_pattern_tokens.specs.declared.bracket.token.BracketItem.{BracketItem as ItemOf}
use Rattle.logos_hir.specs.declared.sets.operands.SetOperator.{SetOperator}
use Rattle.logos_pattern_tokens.specs.declared.bracket.token.Lead.{Lead}
use Rattle.logos_pattern_tokens.specs.declared.bracket.token.BracketToken.{BracketToken}
use Rattle.logos_pattern_tokens.specs.declared.bracket.token.BracketToken.TheVariants.{Item, Open, Operator, Close}
use Rattle.logos_hir.specs.Sets.{Set, union}
use Rattle.logos_pattern_tokens.specs.bracket.Form.{Bracket, bracket, Operands, lone, joined, Members, nobody, member, nested}
use Rattle.logos_pattern_tokens.specs.bracket.Spelling.{bracket_tokens, operands_tokens, members_tokens}
use Rattle.logos_syntax.specs.bracket.Meaning.{set_or_complement, item_set, lead_set, bracket_set, operands_set, members_set, bracket_depth, operands_depth, members_depth}
use Rattle.logos_syntax.specs.inside.BracketStack.{BracketFrame, Frames, fresh_frame, value, whole, close, bracket_step}
use Rattle.logos_syntax.specs.inside.BracketStack.{with_before}

-- a bracket that is open: the operands before the last one, with the operator after them, and the
-- last one
pub record Level : Type 0 where
  pub negated : Bool
  pub lead : Lead
  pub before : Option (Operands × SetOperator)
  pub members : Members

-- the brackets around it
pub data Stack : Type 0 where
  bottom : Stack
  over : Stack → Level → Stack

pub record Slot : Type 0 where
  pub level : Level
  pub stack : Stack

abbrev pub inside : Option (Operands × SetOperator) → Members → Operands
inside None ms = lone ms
inside (Some b) ms = joined b.0 b.1 ms

abbrev pub level_inside : Level → Operands
level_inside l = inside l.before l.members

abbrev pub level_bracket : Level → Bracket
level_bracket l = bracket l.negated l.lead (level_inside l)

abbrev pub before_set : Flags → Lead → Option (Operands × SetOperator) → Option (Set × SetOperator)
before_set flags lead None = None
before_set flags lead (Some b) = Some (operands_set flags lead b.0, b.1)

-- the start of the last operand
abbrev pub front_set : Lead → Option (Operands × SetOperator) → Set
front_set lead None = lead_set lead
front_set lead (Some b) = λ c. false

abbrev pub inside_depth : Option (Operands × SetOperator) → Members → ℕ
inside_depth None ms = members_depth ms
inside_depth (Some b) ms = max (operands_depth b.0) (members_depth ms)

abbrev pub frame_of : Flags → ℕ → Level → BracketFrame
frame_of flags level l = record {
  negated = l.negated;
  before = before_set flags l.lead l.before;
  here = members_set flags (front_set l.lead l.before) l.members;
  inner = level + inside_depth l.before l.members;
}

abbrev pub size : Stack → ℕ
size bottom = 0
size (over k l) = suc (size k)

abbrev pub below_of : Flags → ℕ → Stack → List BracketFrame
below_of flags base bottom = []
below_of flags base (over k l) = frame_of flags (base + size k + 1) l ∷ below_of flags base k

abbrev pub frames_of : Flags → ℕ → Slot → Frames
frames_of flags base p = record { top = frame_of flags (base + size p.stack + 1) p.level; below = below_of flags base p.stack }

abbrev pub with_members : Level → Members → Level
with_members l ms = record l { members = ms }

abbrev pub close_level : Level → Stack → Option Slot
close_level l bottom = None
close_level l (over k outer) = Some (record { level = with_members outer (nested outer.members (level_bracket l)); stack = k })

abbrev pub starting : Bool → Lead → Stack → Slot
starting negated lead k = record { level = record { negated = negated; lead = lead; before = None; members = nobody }; stack = k }

-- the corresponding step on brackets
abbrev pub advance : Slot → BracketToken → Option Slot
advance p (Item item) = Some (record p { level = with_members p.level (member p.level.members item) })
advance p (Open negated lead) = Some (starting negated lead (over p.stack p.level))
advance p (Operator op) = Some (record p { level = record p.level { before = Some (level_inside p.level, op); members = nobody } })
advance p Close = close_level p.level p.stack

abbrev pub walk : Slot → List BracketToken → Option Slot
walk p [] = Some p
walk p (token ∷ others) = option_and_then (λ q. walk q others) (advance p token)

-- ---- each step of the parser is a step on brackets

pub length-below_of : (flags : Flags) (base : ℕ) (k : Stack) → length (below_of flags base k) ≡ size k
length-below_of flags base bottom = refl
length-below_of flags base (over k l) = ap suc (length-below_of flags base k)

value_inside : (flags : Flags) (lead : Lead) (b : Option (Operands × SetOperator)) (ms : Members) → with_before (before_set flags lead b) (members_set flags (front_set lead b) ms) ≡ operands_set flags lead (inside b ms)
value_inside flags lead None ms = refl
value_inside flags lead (Some b) ms = refl

pub value_of : (flags : Flags) (level : ℕ) (l : Level) → value (frame_of flags level l) ≡ operands_set flags l.lead (level_inside l)
value_of flags level l = value_inside flags l.lead l.before l.members

pub whole_of : (flags : Flags) (level : ℕ) (l : Level) → whole flags (frame_of flags level l) ≡ bracket_set flags (level_bracket l)
whole_of flags level l = ap (set_or_complement flags l.negated) (value_of flags level l)

pub depth_inside : (b : Option (Operands × SetOperator)) (ms : Members) → operands_depth (inside b ms) ≡ inside_depth b ms
depth_inside None ms = refl
depth_inside (Some b) ms = refl

depth_member : (b : Option (Operands × SetOperator)) (ms : Members) (item : ItemOf) → inside_depth b (member ms item) ≡ inside_depth b ms
depth_member None ms item = refl
depth_member (Some b) ms item = refl

depth_nested : (b : Option (Operands × SetOperator)) (ms : Members) (x : Bracket) → inside_depth b (nested ms x) ≡ max (inside_depth b ms) (bracket_depth x)
depth_nested None ms x = refl
depth_nested (Some b) ms x = omega arith

-- the innermost frame becomes another one
abbrev to_frame : Flags → ℕ → Stack → BracketFrame → Option Frames
to_frame flags base k f = Some (record { top = f; below = below_of flags base k })

item_is : (flags : Flags) (level : ℕ) (l : Level) (item : ItemOf) → record (frame_of flags level l) { here = union (frame_of flags level l).here (item_set flags item) } ≡ frame_of flags level (with_members l (member l.members item))
item_is flags level l item =
    ap (λ (d : ℕ). record { negated = l.negated; before = before_set flags l.lead l.before; here = members_set flags (front_set l.lead l.before) (member l.members item); inner = level + d }) (sym (depth_member l.before l.members item))

operator_is : (flags : Flags) (level : ℕ) (l : Level) (op : SetOperator) →
    record (frame_of flags level l) { before = Some (value (frame_of flags level l), op); here = λ c. false } ≡ frame_of flags level (record l { before = Some (level_inside l, op); members = nobody })
operator_is flags level l op =
    let d = depth_inside l.before l.members in
    let inner : level + inside_depth l.before l.members ≡ level + max (operands_depth (level_inside l)) 0 = omega arith in
    ap (λ (s : Set). record { negated = l.negated; before = Some (s, op); here = λ c. false; inner = level + inside_depth l.before l.members }) (value_of flags level l)
    ∙ ap (λ (n : ℕ). record { negated = l.negated; before = Some (operands_set flags l.lead (level_inside l), op); here = λ c. false; inner = n }) inner

close_is : (flags : Flags) (base : ℕ) (l : Level) (k : Stack) → close flags (frame_of flags (base + size k + 1) l) (below_of flags base k) ≡ option_map (frames_of flags base) (close_level l k)
close_is flags base l bottom = refl
close_is flags base l (over k outer) =
    let level : ℕ = base + size k + 1 in
    let inner_level : ℕ = base + suc (size k) + 1 in
    let d = depth_inside l.before l.members in
    let e = depth_nested outer.before outer.members (level_bracket l) in
    let inner : max (level + inside_depth outer.before outer.members) (inner_level + inside_depth l.before l.members) ≡ level + inside_depth outer.before (nested outer.members (level_bracket l)) = omega arith in
    let here : Set = members_set flags (front_set outer.lead outer.before) outer.members in
    ap (λ (s : Set). to_frame flags base k (record { negated = outer.negated; before = before_set flags outer.lead outer.before; here = union here s; inner = max (level + inside_depth outer.before outer.members) (inner_level + inside_depth l.before l.members) })) (whole_of flags inner_level l)
    ∙ ap (λ (n : ℕ). to_frame flags base k (record { negated = outer.negated; before = before_set flags outer.lead outer.before; here = union here (bracket_set flags (level_bracket l)); inner = n })) inner

pub step_is : (flags : Flags) (base : ℕ) (p : Slot) (t : BracketToken) → bracket_step flags base (frames_of flags base p) t ≡ option_map (frames_of flags base) (advance p t)
step_is flags base p (Item item) = ap (to_frame flags base p.stack) (item_is flags (base + size p.stack + 1) p.level item)
step_is flags base p (Open negated lead) =
    let e = length-below_of flags base p.stack in
    let n : base + length (below_of flags base p.stack) + 2 ≡ base + suc (size p.stack) + 1 + 0 = omega arith in
    ap (λ (m : ℕ). Some (record { top = fresh_frame negated lead m; below = frame_of flags (base + size p.stack + 1) p.level ∷ below_of flags base p.stack })) n
step_is flags base p (Operator op) = ap (to_frame flags base p.stack) (operator_is flags (base + size p.stack + 1) p.level op)
step_is flags base p Close = close_is flags base p.level p.stack

-- ---- walks

pub walk_more : (p : Slot) (xs ys : List BracketToken) → walk p (xs ++ ys) ≡ option_and_then (λ q. walk q ys) (walk p xs)
walk_more p [] ys = refl
walk_more p (x ∷ xs) ys = from (λ q. walk_more q xs ys) (advance p x)
  where
    from : ((q : Slot) → walk q (xs ++ ys) ≡ option_and_then (λ r. walk r ys) (walk q xs)) → (o : Option Slot) → option_and_then (λ q. walk q (xs ++ ys)) o ≡ option_and_then (λ q. walk q ys) (option_and_then (λ q. walk q xs) o)
    from more None = refl
    from more (Some q) = more q

-- the tokens that a point was read from
abbrev pub tokens_at : Level → Stack → List BracketToken
tokens_at l bottom = operands_tokens (level_inside l)
tokens_at l (over k outer) = tokens_at outer k ++ Open l.negated l.lead ∷ operands_tokens (level_inside l)

inside_more : (b : Option (Operands × SetOperator)) (ms ns : Members) (ts : List BracketToken) → members_tokens ns ≡ members_tokens ms ++ ts → operands_tokens (inside b ns) ≡ operands_tokens (inside b ms) ++ ts
inside_more None ms ns ts e = e
inside_more (Some b) ms ns ts e =
    ap (λ (x : List BracketToken). operands_tokens b.0 ++ Operator b.1 ∷ x) e ∙ sym (append_assoc (operands_tokens b.0) (Operator b.1 ∷ members_tokens ms) ts)

level_more : (l m : Level) (k : Stack) (ts : List BracketToken) → m.negated ≡ l.negated → m.lead ≡ l.lead → operands_tokens (level_inside m) ≡ operands_tokens (level_inside l) ++ ts → tokens_at m k ≡ tokens_at l k ++ ts
level_more l m bottom ts n d e = e
level_more l m (over k outer) ts n d e =
    ap (λ (b : Bool). tokens_at outer k ++ Open b m.lead ∷ operands_tokens (level_inside m)) n
    ∙ ap (λ (x : Lead). tokens_at outer k ++ Open l.negated x ∷ operands_tokens (level_inside m)) d
    ∙ ap (λ (x : List BracketToken). tokens_at outer k ++ Open l.negated l.lead ∷ x) e
    ∙ sym (append_assoc (tokens_at outer k) (Open l.negated l.lead ∷ operands_tokens (level_inside l)) ts)

-- the outermost bracket is unchanged
abbrev pub outermost : Level → Stack → Bool × Lead
outermost l bottom = (l.negated, l.lead)
outermost l (over k outer) = outermost outer k

record Adds (p : Slot) (t : BracketToken) (q : Slot) : Type 0 where
  tokens : tokens_at q.level q.stack ≡ tokens_at p.level p.stack ++ t ∷ []
  same : outermost q.level q.stack ≡ outermost p.level p.stack

same_outermost : (l m : Level) (k : Stack) → m.negated ≡ l.negated → m.lead ≡ l.lead → outermost m k ≡ outermost l k
same_outermost l m bottom n d = ap (λ b. (b, m.lead)) n ∙ ap (λ x. (l.negated, x)) d
same_outermost l m (over k outer) n d = refl

adds_at : (p : Slot) (t : BracketToken) (q r : Slot) → Adds p t q → ◌≡◌ {A = Option Slot} (Some q) (Some r) → Adds p t r
adds_at p t q r h e = let same : q ≡ r = cc in subst (Adds p t) same h

close_adds : (l : Level) (k : Stack) (q : Slot) → close_level l k ≡ Some q → Adds (record { level = l; stack = k }) Close q
close_adds l bottom q e = absurd cc
close_adds l (over k outer) q e =
    let x = level_bracket l in
    let made : Level = with_members outer (nested outer.members x) in
    adds_at (record { level = l; stack = over k outer }) Close (record { level = made; stack = k }) q (record {
      tokens = level_more outer made k (bracket_tokens x) refl refl (inside_more outer.before outer.members (nested outer.members x) (bracket_tokens x) refl)
          ∙ sym (append_assoc (tokens_at outer k) (Open l.negated l.lead ∷ operands_tokens (level_inside l)) (Close ∷ []));
      same = same_outermost outer made k refl refl;
    }) e

advance_adds : (p : Slot) (t : BracketToken) (q : Slot) → advance p t ≡ Some q → Adds p t q
advance_adds p (Item item) q e =
    let made : Level = with_members p.level (member p.level.members item) in
    adds_at p (Item item) (record { level = made; stack = p.stack }) q (record {
      tokens = level_more p.level made p.stack (Item item ∷ []) refl refl (inside_more p.level.before p.level.members (member p.level.members item) (Item item ∷ []) refl);
      same = same_outermost p.level made p.stack refl refl;
    }) e
advance_adds p (Open negated lead) q e =
    adds_at p (Open negated lead) (starting negated lead (over p.stack p.level)) q (record { tokens = refl; same = refl }) e
advance_adds p (Operator op) q e =
    let made : Level = record p.level { before = Some (level_inside p.level, op); members = nobody } in
    adds_at p (Operator op) (record { level = made; stack = p.stack }) q (record {
      tokens = level_more p.level made p.stack (Operator op ∷ []) refl refl refl;
      same = same_outermost p.level made p.stack refl refl;
    }) e
advance_adds p Close q e = close_adds p.level p.stack q e

-- the end of a walk
pub record Walked (p : Slot) (ts : List BracketToken) (q : Slot) : Type 0 where
  pub tokens : tokens_at q.level q.stack ≡ tokens_at p.level p.stack ++ ts
  pub same : outermost q.level q.stack ≡ outermost p.level p.stack

pub walked : (p : Slot) (ts : List BracketToken) (q : Slot) → walk p ts ≡ Some q → Walked p ts q
walked p [] q e = let same : p ≡ q = cc in subst (Walked p []) same (record { tokens = sym (append-nil (tokens_at p.level p.stack)); same = refl })
walked p (t ∷ ts) q e = from (λ r h. walked r ts q h) (advance p t) refl e
  where
    from : ((r : Slot) → walk r ts ≡ Some q → Walked r ts q) → (o : Option Slot) → advance p t ≡ o → option_and_then (λ r. walk r ts) o ≡ Some q → Walked p (t ∷ ts) q
    from more None is h = absurd cc
    from more (Some r) is h =
        let a = advance_adds p t r is in
        let w = more r h in
        record { tokens = w.tokens ∙ ap (λ (x : List BracketToken). x ++ ts) a.tokens ∙ append_assoc (tokens_at p.level p.stack) (t ∷ []) ts; same = w.same ∙ a.same }

-- ---- each bracket is walked through

abbrev at : Bool → Lead → Option (Operands × SetOperator) → Members → Stack → Slot
at negated lead b ms k = record { level = record { negated = negated; lead = lead; before = b; members = ms }; stack = k }

abbrev pub slot_of : Bool → Lead → Operands → Stack → Slot
slot_of negated lead (lone ms) k = at negated lead None ms k
slot_of negated lead (joined os op ms) k = at negated lead (Some (os, op)) ms k

pub inside-slot_of : (negated : Bool) (lead : Lead) (os : Operands) (k : Stack) → level_inside (slot_of negated lead os k).level ≡ os
inside-slot_of negated lead (lone ms) k = refl
inside-slot_of negated lead (joined os op ms) k = refl

through : (p q r : Slot) (xs ys : List BracketToken) → walk p xs ≡ Some q → walk q ys ≡ Some r → walk p (xs ++ ys) ≡ Some r
through p q r xs ys a b = walk_more p xs ys ∙ ap (option_and_then (λ x. walk x ys)) a ∙ b

mutual
  pub operands_walk : (os : Operands) (negated : Bool) (lead : Lead) (k : Stack) → walk (starting negated lead k) (operands_tokens os) ≡ Some (slot_of negated lead os k)
  operands_walk (lone ms) negated lead k = members_walk ms negated lead None k
  operands_walk (joined os op ms) negated lead k =
      through (starting negated lead k) (slot_of negated lead os k) (at negated lead (Some (os, op)) ms k) (operands_tokens os) (Operator op ∷ members_tokens ms)
      (operands_walk os negated lead k)
      (operator_walk os op (members_tokens ms) negated lead k
      ∙ members_walk ms negated lead (Some (os, op)) k)

  operator_walk : (os : Operands) (op : SetOperator) (ts : List BracketToken) (negated : Bool) (lead : Lead) (k : Stack) → walk (slot_of negated lead os k) (Operator op ∷ ts) ≡ walk (at negated lead (Some (os, op)) nobody k) ts
  operator_walk (lone ms) op ts negated lead k = refl
  operator_walk (joined os p ms) op ts negated lead k = refl

  members_walk : (ms : Members) (negated : Bool) (lead : Lead) (b : Option (Operands × SetOperator)) (k : Stack) → walk (at negated lead b nobody k) (members_tokens ms) ≡ Some (at negated lead b ms k)
  members_walk nobody negated lead b k = refl
  members_walk (member ms item) negated lead b k =
      through (at negated lead b nobody k) (at negated lead b ms k) (at negated lead b (member ms item) k) (members_tokens ms) (Item item ∷ []) (members_walk ms negated lead b k) refl
  members_walk (nested ms x) negated lead b k =
      through (at negated lead b nobody k) (at negated lead b ms k) (at negated lead b (nested ms x) k) (members_tokens ms) (bracket_tokens x) (members_walk ms negated lead b k) (bracket_walk x negated lead b ms k)

  bracket_walk : (x : Bracket) (negated : Bool) (lead : Lead) (b : Option (Operands × SetOperator)) (ms : Members) (k : Stack) → walk (at negated lead b ms k) (bracket_tokens x) ≡ Some (at negated lead b (nested ms x) k)
  bracket_walk (bracket n d os) negated lead b ms k =
      let outer : Level = record { negated = negated; lead = lead; before = b; members = ms } in
      through (starting n d (over k outer)) (slot_of n d os (over k outer)) (at negated lead b (nested ms (bracket n d os)) k) (operands_tokens os) (Close ∷ [])
      (operands_walk os n d (over k outer)) (close_walk os n d outer k)

  close_walk : (os : Operands) (n : Bool) (d : Lead) (outer : Level) (k : Stack) → walk (slot_of n d os (over k outer)) (Close ∷ []) ≡ Some (record { level = with_members outer (nested outer.members (bracket n d os)); stack = k })
  close_walk (lone ms) n d outer k = refl
  close_walk (joined os op ms) n d outer k = refl
