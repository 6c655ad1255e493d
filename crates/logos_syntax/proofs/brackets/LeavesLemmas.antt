-- A beginning of a bracket, and the number of brackets that it leaves open.
use Rattle.std.proofs.Common.{◌≡◌, ℕ, suc, ◌≤◌, Bool, Err, List, [], ◌∷◌, ◌++◌, length, Some, refl, ap, subst, ◌∙◌, arith, option_and_then}
use Rattle.logos_pattern_tokens.specs.declared.token.Flags.{Flags}
use Rattle.logos_pattern_tokens.specs.declared.bracket.token.Lead.{Lead}
use Rattle.logos_pattern_tokens.specs.declared.bracket.token.BracketToken.{BracketToken}
use Rattle.logos_pattern_tokens.specs.declared.bracket.token.BracketToken.TheVariants.{Item, Open, Operator, Close}
use Rattle.logos_pattern_tokens.specs.declared.error.Fault.{Fault}
use Rattle.logos_pattern_tokens.specs.declared.error.Fault.TheVariants as faults
use Rattle.logos_pattern_tokens.specs.declared.error.Stop.{Stop}
use Rattle.logos_pattern_tokens.specs.declared.error.Stop.TheVariants as stops
use Rattle.logos_pattern_tokens.specs.Token.{Text}
use Rattle.logos_pattern_tokens.specs.bracket.Reader.{open_at, bracket_token_at}
use Rattle.logos_pattern_tokens.proofs.BracketTokens.{open_taken}
use Rattle.logos_syntax.specs.Nesting.{LeavesOpen, done, item, operator, opening, closing, InsideFront}
use Rattle.logos_syntax.specs.inside.BracketStack.{Frames}
use Rattle.logos_syntax.specs.inside.BracketView.{IsStopOf, BracketSteps, IfDeepInside, IfDeepBracket}
use Rattle.logos_syntax.proofs.brackets.Levels.{Level, Stack, bottom, over, Slot, size, starting, walk, walk_more, length-below_of}
use Rattle.logos_syntax.proofs.brackets.Texts.{InBracket, cuts_more, taken, fits_more}

abbrev at : Stack → Level → Slot
at k l = record { level = l; stack = k }

-- a walk leaves as many brackets open as its last point is in
walk_leaves : (k : Stack) (l : Level) (ts : List BracketToken) (q : Slot) → walk (at k l) ts ≡ Some q → LeavesOpen (suc (size k)) ts (suc (size q.stack))
walk_leaves k l [] q e =
    let same : at k l ≡ q = cc in
    subst (λ (x : Slot). LeavesOpen (suc (size k)) [] (suc (size x.stack))) same (done (suc (size k)))
walk_leaves k l (Item i ∷ ts) q e = item _ _ i ts (walk_leaves k _ ts q e)
walk_leaves k l (Operator op ∷ ts) q e = operator _ _ op ts (walk_leaves k _ ts q e)
walk_leaves k l (Open negated lead ∷ ts) q e = opening _ _ negated lead ts (walk_leaves (over k l) _ ts q e)
walk_leaves bottom l (Close ∷ ts) q e = absurd cc
walk_leaves (over k outer) l (Close ∷ ts) q e = closing _ _ ts (walk_leaves k _ ts q e)

module _ (flags : Flags) (base : ℕ) (negated : Bool) (lead : Lead) (text here : Text) (s : Frames) (r : InBracket flags base negated lead text here s) where
  -- one more bracket opens here
  opens_here : (n : Bool) (d : Lead) (after : Text) → bracket_token_at here ≡ Some (Open n d, after) → InsideFront flags text (suc (suc (size r.slot.stack)))
  opens_here n d after e =
      let ts = r.walked_to.tokens in
      let q : Slot = starting n d (over r.slot.stack r.slot.level) in
      let w : walk (starting negated lead bottom) (ts ++ Open n d ∷ []) ≡ Some q =
      walk_more (starting negated lead bottom) ts (Open n d ∷ []) ∙ ap (option_and_then (λ x. walk x (Open n d ∷ []))) r.walked_to.walks in
      record {
        written = ts ++ Open n d ∷ [];
        rest = after;
        cut = cuts_more text ts here (Open n d) after r.walked_to.cut (taken here after (Open n d) e);
        fits = fits_more flags ts (Open n d) r.fits tt;
        leaves = walk_leaves bottom (starting negated lead bottom).level (ts ++ Open n d ∷ []) q w;
      }

  -- the meaning of a stopped step for the text
  pub deep_inside : (token : BracketToken) (after : Text) (stop : Stop) (new : Frames) → bracket_token_at here ≡ Some (token, after) → BracketSteps flags base s token (Err stop) new → IfDeepInside flags base stop text
  deep_inside token after (stops.Syntax kind left) new e h = tt
  deep_inside token after stops.Memory new e h = tt
  deep_inside (Item i) after stops.LimitPatternNesting new e none = absurd none
  deep_inside (Operator op) after stops.LimitPatternNesting new e none = absurd none
  deep_inside Close after stops.LimitPatternNesting new e none = absurd none
  deep_inside (Open n d) after stops.LimitPatternNesting new e deep =
      let below : length s.below ≡ size r.slot.stack = ap (λ (x : Frames). length x.below) r.frames ∙ length-below_of flags base r.slot.stack in
      (_, opens_here n d after e, omega arith)

-- a fault is not a stop at the limit
pub shallow_inside : (flags : Flags) (base : ℕ) (text : Text) (fault : Fault) (stop : Stop) → IsStopOf fault stop → IfDeepInside flags base stop text
shallow_inside flags base text (faults.Syntax kind) (stops.Syntax other left) h = tt
shallow_inside flags base text (faults.Syntax kind) stops.LimitPatternNesting h = absurd h
shallow_inside flags base text (faults.Syntax kind) stops.Memory h = tt
shallow_inside flags base text faults.Memory (stops.Syntax other left) h = tt
shallow_inside flags base text faults.Memory stops.LimitPatternNesting h = absurd h
shallow_inside flags base text faults.Memory stops.Memory h = tt

-- the bracket itself is too deep
pub deep_at_once : (flags : Flags) (base : ℕ) (text : Text) → 250 ≤ base → IfDeepBracket flags base stops.LimitPatternNesting text
deep_at_once flags base text h = (
  1,
  record {
    negated = (open_at text).0;
    lead = (open_at text).1;
    following = (open_at text).2;
    opens = open_taken text;
    inside = record { written = []; rest = (open_at text).2; cut = refl; fits = tt; leaves = done 1 };
  },
  omega arith,
)
