-- The part of the text that has been read is a prefix of a pattern, and its nesting depth.
use Rattle.std.proofs.Common.{◌≡◌, ℕ, suc, ◌+◌, ◌<◌, max, List, [], ◌∷◌, ◌++◌, true, length, Some, Result, Ok, Err, IfErr, refl, sym, ap, subst, ◌∙◌, arith}
use Rattle.logos_pattern_tokens.specs.declared.error.Fault.{Fault}
use Rattle.logos_pattern_tokens.specs.declared.error.Fault.TheVariants as faults
use Rattle.logos_pattern_tokens.specs.declared.error.Stop.{Stop}
use Rattle.logos_pattern_tokens.specs.declared.error.Stop.TheVariants as stops
use Rattle.logos_pattern_tokens.specs.declared.token.Flags.{Flags}
use Rattle.logos_hir.specs.declared.hir.Hir.{Hir}
use Rattle.logos_pattern_tokens.specs.Token.{Text, Token, opens}
use Rattle.logos_pattern_tokens.specs.Reader.{token_at}
use Rattle.logos_syntax.specs.declared.names.GroupNames.{GroupNames}
use Rattle.logos_syntax.specs.Written.{branches_tokens, taken as start_taken, Cuts, NamesDiffer, branches_flags, inner_flags}
use Rattle.logos_syntax.specs.Grammar.{BranchesFit, branches_depth}
use Rattle.logos_syntax.specs.Nesting.{Around, outermost, within, groups_open, around_tokens, around_flags, AroundFits, around_depth, Front, front_flags, BracketFront, IsTooDeep, by_groups, by_brackets}
use Rattle.logos_syntax.specs.inside.Groups.{State, deepest, deepest_below}
use Rattle.logos_syntax.specs.inside.BracketView.{IsStopOf, IfDeepBracket}
use Rattle.logos_syntax.specs.inside.GroupsView.{Steps, Ends}
use Rattle.logos_syntax.specs.inside.GroupNames.{Admits}
use Rattle.logos_syntax.specs.inside.Reading.{IsDeepAt, token_deep, bracket_deep, IfDeepToken, IfDeepText, names_after, HasRead}
use Rattle.logos_syntax.proofs.patterns.Levels.{Stack, bottom, over, Slot, level_inside, state_of, below_of, size, length-below_of, flags_inside, depth_inside}
use Rattle.logos_syntax.proofs.patterns.Levels as levels
use Rattle.logos_syntax.proofs.patterns.Reading.{stack_tokens, tokens_of, StackFits, IsRead, is_read}
use Rattle.logos_syntax.proofs.patterns.Texts.{reads_on, taken_here}

abbrev around_of : Stack → Around
around_of bottom = outermost
around_of (over k l opening) = within (around_of k) (level_inside l) opening

tokens_around : (k : Stack) → around_tokens (around_of k) ≡ stack_tokens k
tokens_around bottom = refl
tokens_around (over k l opening) = ap (λ (ts : List Token). (ts ++ branches_tokens (level_inside l)) ++ opens opening ∷ []) (tokens_around k)

count_around : (k : Stack) → groups_open (around_of k) ≡ size k
count_around bottom = refl
count_around (over k l opening) = ap suc (count_around k)

flags_around : (flags : Flags) (k : Stack) → around_flags flags (around_of k) ≡ levels.front_flags flags k
flags_around flags bottom = refl
flags_around flags (over k l opening) =
    ap (λ (f : Flags). inner_flags opening (branches_flags f (level_inside l))) (flags_around flags k)
    ∙ ap (inner_flags opening) (sym (flags_inside (levels.front_flags flags k) l.before l.items))

fits_around : (flags : Flags) (k : Stack) → StackFits flags k → AroundFits flags (around_of k)
fits_around flags bottom h = tt
fits_around flags (over k l opening) h =
    (fits_around flags k h.0, subst (λ f. BranchesFit f (level_inside l)) (sym (flags_around flags k)) h.1)

depth_around : (flags : Flags) (k : Stack) → deepest_below (below_of flags k) ≡ around_depth (around_of k)
depth_around flags bottom = refl
depth_around flags (over k l opening) =
    let e = depth_around flags k in
    let n = count_around k in
    let d = depth_inside l.before l.items in
    omega arith

-- the text that is read, as a prefix of the text
abbrev front_of : (flags : Flags) (text rest : Text) (ts : List Token) (p : Slot) → tokens_of p ≡ ts → StackFits flags p.stack → BranchesFit (levels.front_flags flags p.stack) (level_inside p.level) →
    Cuts text ts rest → NamesDiffer [] ts → Front flags text rest
front_of flags text rest ts p is stack_fits fits cut differ =
    let e : around_tokens (around_of p.stack) ++ branches_tokens (level_inside p.level) ≡ ts = ap (λ (x : List Token). x ++ branches_tokens (level_inside p.level)) (tokens_around p.stack) ∙ is in
    record {
      around = around_of p.stack;
      inside = level_inside p.level;
      cut = subst (λ x. Cuts text x rest) (sym e) cut;
      around_fits = fits_around flags p.stack stack_fits;
      inside_fits = subst (λ f. BranchesFit f (level_inside p.level)) (sym (flags_around flags p.stack)) fits;
      names = subst (NamesDiffer []) (sym e) differ;
    }

module _ (flags : Flags) (text rest : Text) (s : State) (names : GroupNames) (r : HasRead flags text rest s names) where
  abbrev read : IsRead flags r.tokens s
  read = is_read flags r.tokens s r.run

  abbrev front : Front flags text rest
  front = front_of flags text rest r.tokens read.slot read.tokens read.fits.0 read.fits.1 r.cut r.differ

  -- it is as deep as the parser is
  pub deep_groups : 250 < deepest s → IsTooDeep flags text
  deep_groups deep =
      let e : deepest s ≡ deepest (state_of flags read.slot) = ap deepest read.state in
      let b = depth_around flags read.slot.stack in
      let n = count_around read.slot.stack in
      let d = depth_inside read.slot.level.before read.slot.level.items in
      let k = read.slot.stack in
      let l = read.slot.level in
      let goal : 250 < max (groups_open (around_of k) + branches_depth (level_inside l)) (around_depth (around_of k)) = omega arith in
      by_groups rest front goal

  open_groups : groups_open front.around ≡ length s.below
  open_groups = count_around read.slot.stack ∙ sym (ap (λ (x : State). length x.below) read.state ∙ length-below_of flags read.slot.stack)

  flags_here : s.top.flags ≡ front_flags front
  flags_here =
      ap (λ (x : State). x.top.flags) read.state
      ∙ flags_inside (levels.front_flags flags read.slot.stack) read.slot.level.before read.slot.level.items
      ∙ ap (λ (f : Flags). branches_flags f (level_inside read.slot.level)) (sym (flags_around flags read.slot.stack))

-- a bracket in it opens too deep
pub deep_brackets : (flags : Flags) (text following : Text) (s : State) (names : GroupNames) → (r : HasRead flags text (91 ∷ following) s names) → (count : ℕ) → BracketFront s.top.flags following count →
    250 < length s.below + count → IsTooDeep flags text
deep_brackets flags text following s names r count b deep =
    let n = open_groups flags text (91 ∷ following) s names r in
    by_brackets following (front flags text (91 ∷ following) s names r) count
    (subst (λ f. BracketFront f following count) (flags_here flags text (91 ∷ following) s names r) b) (omega arith)

-- the meaning of a stop at a token for the text
pub deep_text : (flags : Flags) (text rest : Text) (s : State) (names others : GroupNames) (stop : Stop) → (r : HasRead flags text rest s names) → IfDeepToken stop s (names_after [] r.tokens) rest others → IfDeepText flags text stop
deep_text flags text rest s names others (stops.Syntax kind left) r h = tt
deep_text flags text rest s names others stops.Memory r h = tt
deep_text flags text rest s names others stops.LimitPatternNesting r h = from rest r h
  where
    from : (rest : Text) → (r : HasRead flags text rest s names) → IsDeepAt s (names_after [] r.tokens) others rest → IsTooDeep flags text
    from rest r (token_deep text2 after new g deep) = deep_groups flags text after new others (reads_on flags text rest after s new names others r g) deep
    from rest r (bracket_deep following count b deep) = deep_brackets flags text following s names r count b deep

-- a fault is not a stop at the limit
pub shallow_token : (fault : Fault) (stop : Stop) (s : State) (seen : List Text) (text : Text) (names : GroupNames) → IsStopOf fault stop → IfDeepToken stop s seen text names
shallow_token (faults.Syntax kind) (stops.Syntax other left) s seen text names h = tt
shallow_token (faults.Syntax kind) stops.LimitPatternNesting s seen text names h = absurd h
shallow_token (faults.Syntax kind) stops.Memory s seen text names h = tt
shallow_token faults.Memory (stops.Syntax other left) s seen text names h = tt
shallow_token faults.Memory stops.LimitPatternNesting s seen text names h = absurd h
shallow_token faults.Memory stops.Memory s seen text names h = tt

-- the meaning of a bracket that stops
pub bracket_is_deep : (s : State) (seen : List Text) (text : Text) (names : GroupNames) (flags : Flags) (base : ℕ) (stop : Stop) → flags ≡ s.top.flags → base ≡ length s.below → IfDeepBracket flags base stop text → IfDeepToken stop s seen (91 ∷ text) names
bracket_is_deep s seen text names flags base (stops.Syntax kind left) set is h = tt
bracket_is_deep s seen text names flags base stops.Memory set is h = tt
bracket_is_deep s seen text names flags base stops.LimitPatternNesting set is h =
    bracket_deep text h.0 (subst (λ f. BracketFront f text h.0) set h.1) (let deep = h.2 in omega arith)

-- the meaning of a step that stops
pub step_is_deep : (s u : State) (seen : List Text) (text rest : Text) (token : Token) (names : GroupNames) (stop : Stop) → token_at text ≡ Some (token, rest) → Admits seen token true names → Steps s token (Err stop) u → IfDeepToken stop s seen text names
step_is_deep s u seen text rest token names (stops.Syntax kind left) is new h = tt
step_is_deep s u seen text rest token names stops.Memory is new h = tt
step_is_deep s u seen text rest token names stops.LimitPatternNesting is new h =
    token_deep text rest h.1.0 (record {
      token = token;
      starts = start_taken token text rest (taken_here text rest token is);
      fits = h.0;
      is_new = new.0;
      moves = h.1.1;
      has = new.1;
    }) h.1.2

-- the end is not too deep
pub ended_is_deep : (flags : Flags) (text : Text) (s : State) (r : Result Hir Stop) → Ends r s → IfErr r (IfDeepText flags text)
ended_is_deep flags text s (Ok hir) h = tt
ended_is_deep flags text s (Err (stops.Syntax kind left)) h = tt
ended_is_deep flags text s (Err stops.LimitPatternNesting) h = absurd h
ended_is_deep flags text s (Err stops.Memory) h = tt
