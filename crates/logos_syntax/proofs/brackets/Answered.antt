-- The meaning of the bracket reader's results for the text.
use Rattle.std.proofs.Common.{◌≡◌, ℕ, ◌+◌, ◌<◌, ◌≤◌, Bool, true, [], ◌∷◌, length, Some, None, Result, Ok, Err, eqb, refl, sym, ap, subst, ◌∙◌, arith}
use Rattle.logos_pattern_tokens.specs.declared.error.Fault.{Fault}
use Rattle.logos_pattern_tokens.specs.declared.error.Fault.TheVariants as faults
use Rattle.logos_pattern_tokens.specs.declared.error.Stop.{Stop}
use Rattle.logos_pattern_tokens.specs.declared.error.Stop.TheVariants as stops
use Rattle.logos_pattern_tokens.specs.declared.token.Flags.{Flags}
use Rattle.logos_pattern_tokens.specs.declared.bracket.token.Lead.{Lead}
use Rattle.logos_pattern_tokens.specs.declared.bracket.token.BracketToken.{BracketToken}
use Rattle.logos_pattern_tokens.specs.declared.bracket.token.BracketToken.TheVariants.{Item, Open, Operator, Close}
use Rattle.logos_pattern_tokens.specs.Token.{Text, Yields}
use Rattle.std.specs.Borrow.{Bor}
use Rattle.logos_syntax.specs.declared.bracket.stack.BracketValue.{BracketValue}
use Rattle.logos_pattern_tokens.specs.bracket.Form.{Bracket, bracket}
use Rattle.logos_pattern_tokens.specs.bracket.Spelling.{Opens, Encloses}
use Rattle.logos_syntax.specs.bracket.Meaning.{BracketFits, bracket_depth}
use Rattle.logos_pattern_tokens.specs.bracket.Reader.{open_at, bracket_token_at}
use Rattle.logos_syntax.specs.inside.BracketStack.{Frames}
use Rattle.logos_syntax.specs.inside.BracketView.{IsStopOf, Denies, NoStep, TooDeep, BracketSteps, ReadsInside, ReadsBracket, IfDeepInside, IfDeepBracket}
use Rattle.std.proofs.lemmas.Bool.{eqb-true}
use Rattle.logos_pattern_tokens.proofs.BracketTokens.{open_taken}
use Rattle.logos_syntax.proofs.brackets.Levels.{length-below_of, size}
use Rattle.logos_syntax.proofs.brackets.Texts.{InBracket, Refuted, refuted, no_token, no_fit, too_deep, too_deep_at_once}

nothing_there : bracket_token_at [] ≡ None
unfolding bracket_token_at
nothing_there = refl

module _ (flags : Flags) (base : ℕ) (negated : Bool) (lead : Lead) (text here : Text) (s : Frames) (r : InBracket flags base negated lead text here s) where
  -- there is no token
  pub no_token_here : bracket_token_at here ≡ None → Refuted (λ b. BracketFits flags b → ⊥) negated lead text
  no_token_here none = no_token (λ b. BracketFits flags b → ⊥) negated lead text here r.slot r.walked_to none

  -- nothing is left
  pub unclosed : here ≡ [] → Refuted (λ b. BracketFits flags b → ⊥) negated lead text
  unclosed e = no_token_here (ap bracket_token_at e ∙ nothing_there)

  pub faulted : (fault : Fault) (stop : Stop) → Yields {X = BracketToken × Text} (λ x. x) (Err fault) (bracket_token_at here) → IsStopOf fault stop → Refuted (Denies flags base stop) negated lead text
  faulted (faults.Syntax kind) (stops.Syntax other left) none is = no_token_here none
  faulted (faults.Syntax kind) stops.LimitPatternNesting none is = absurd is
  faulted (faults.Syntax kind) stops.Memory none is = absurd is
  faulted faults.Memory (stops.Syntax other left) none is = absurd is
  faulted faults.Memory stops.LimitPatternNesting none is = absurd is
  faulted faults.Memory stops.Memory none is = λ inside rest k. tt

  -- the step stopped
  no_step : (token : BracketToken) (after : Text) → bracket_token_at here ≡ Some (token, after) → (token ≡ Close → s.below ≡ [] → ⊥) → NoStep flags s token → Refuted (λ b. BracketFits flags b → ⊥) negated lead text
  no_step (Item item) after e inner unfit = no_fit flags negated lead text here after r.slot item r.walked_to e unfit
  no_step (Open n d) after e inner none = absurd none
  no_step (Operator op) after e inner none = absurd none
  no_step Close after e inner last = absurd (inner refl last)

  deep_step : (token : BracketToken) (after : Text) → bracket_token_at here ≡ Some (token, after) → TooDeep base s token → Refuted (λ b. 250 < base + bracket_depth b) negated lead text
  deep_step (Item item) after e none = absurd none
  deep_step (Open n d) after e deep =
      let below : length s.below ≡ size r.slot.stack = ap (λ (x : Frames). length x.below) r.frames ∙ length-below_of flags base r.slot.stack in
      too_deep flags base negated lead text here after r.slot n d r.walked_to e (omega arith)
  deep_step (Operator op) after e none = absurd none
  deep_step Close after e none = absurd none

  pub stopped : (token : BracketToken) (after : Text) (stop : Stop) (new : Frames) → bracket_token_at here ≡ Some (token, after) → (token ≡ Close → s.below ≡ [] → ⊥) → BracketSteps flags base s token (Err stop) new → Refuted (Denies flags base stop) negated lead text
  stopped token after (stops.Syntax kind left) new e inner h = no_step token after e inner h
  stopped token after stops.LimitPatternNesting new e inner h = deep_step token after e h
  stopped token after stops.Memory new e inner h = λ inside rest k. tt

pub empty_text : (t : Text) → true ≡ eqb (length t) 0 → t ≡ []
empty_text [] e = refl
empty_text (c ∷ t) e = let h = eqb-true (length (c ∷ t)) 0 (sym e) in absurd (omega arith)

-- the inside after an opening is a bracket
whole_bracket : (flags : Flags) (base : ℕ) (text : Text) (n : Bool) (d : Lead) (rest : Text) (r : Result (BracketValue × Bor Text) Stop) → Opens n d text rest → ReadsInside flags base n d rest r → ReadsBracket flags base text r
whole_bracket flags base text n d rest (Ok x) o h = record {
  written = bracket n d h.inside;
  encloses = (rest, o, h.cut);
  fits = h.fits;
  is_set = h.is_set;
  is_depth = h.is_depth;
  shallow = h.shallow;
}
whole_bracket flags base text n d rest (Err e) o h = (refuted (Denies flags base e) n d text rest o h.0, is_deep e h.1)
  where
    is_deep : (e : Stop) → IfDeepInside flags base e rest → IfDeepBracket flags base e text
    is_deep (stops.Syntax kind left) i = tt
    is_deep stops.LimitPatternNesting i = (i.0, record { negated = n; lead = d; following = rest; opens = o; inside = i.1 }, i.2)
    is_deep stops.Memory i = tt

pub bracket_at : (flags : Flags) (base : ℕ) (text : Text) (n : Bool) (d : Lead) (rest : Text) (r : Result (BracketValue × Bor Text) Stop) → n ≡ (open_at text).0 → d ≡ (open_at text).1 → rest ≡ (open_at text).2 → ReadsInside flags base n d rest r → ReadsBracket flags base text r
bracket_at flags base text n d rest r en ed er h =
    let o : Opens n d text rest = subst (λ x. Opens x d text rest) (sym en) (subst (λ x. Opens (open_at text).0 x text rest) (sym ed) (subst (λ x. Opens (open_at text).0 (open_at text).1 text x) (sym er) (open_taken text))) in
    whole_bracket flags base text n d rest r o h

pub deep_bracket : (flags : Flags) (base : ℕ) (text : Text) → 250 ≤ base → (b : Bracket) (rest : Text) → Encloses b text rest → 250 < base + bracket_depth b
deep_bracket flags base text h b rest e = too_deep_at_once base b h
