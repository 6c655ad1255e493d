-- Whole brackets: the cutting of a text into their tokens, and the meaning of the parser's results
-- for the text.
use Rattle.std.proofs.Common.{◌≡◌, ℕ, ◌+◌, ◌<◌, ◌≤◌, max, Bool, false, ◌⊎◌, inl, inr, List, [], ◌∷◌, ◌++◌, Option, Some, None, refl, sym, ap, subst, ◌∙◌, arith, append_assoc, append-nil, option_map, option_and_then, IfSome}
use Rattle.logos_pattern_tokens.specs.declared.token.Flags.{Flags}
use Rattle.logos_pattern_tokens.specs.declared.bracket.token.BracketItem.{BracketItem as ItemOf}
use Rattle.logos_pattern_tokens.specs.declared.bracket.token.Lead.{Lead}
use Rattle.logos_pattern_tokens.specs.declared.bracket.token.Lead.TheVariants.{Dashes}
use Rattle.logos_pattern_tokens.specs.declared.bracket.token.BracketToken.{BracketToken}
use Rattle.logos_pattern_tokens.specs.declared.bracket.token.BracketToken.TheVariants.{Item, Open, Operator, Close}
use Rattle.logos_pattern_tokens.specs.Token.{Text}
use Rattle.logos_pattern_tokens.specs.bracket.Form.{Bracket, bracket, Operands, lone, joined}
use Rattle.logos_pattern_tokens.specs.bracket.Spelling.{operands_tokens, BracketTakes, BracketCuts, Opens, Encloses}
use Rattle.logos_syntax.specs.bracket.Meaning.{bracket_set, item_fits, TokensFit, BracketFits, bracket_depth}
use Rattle.logos_pattern_tokens.specs.bracket.Reader.{bracket_token_at}
use Rattle.logos_syntax.specs.inside.BracketStack.{BracketFrame, Frames, whole, close, bracket_step, fresh_frame}
use Rattle.logos_syntax.specs.inside.BracketView.{MayOccur}
use Rattle.logos_pattern_tokens.proofs.Picks.{IsTaken}
use Rattle.logos_pattern_tokens.proofs.BracketTokens.{open_is, bracket_token_taken, bracket_token_is}
use Rattle.logos_syntax.proofs.brackets.Levels.{Level, Stack, bottom, over, Slot, frames_of, size, starting, advance, walk, walk_more, Walked, walked, tokens_at, outermost, level_inside, depth_inside, slot_of, inside-slot_of, operands_walk, step_is, whole_of}

-- ---- lists

no_append : {A : Type 0} (xs ys : List A) → xs ++ ys ≡ [] → (xs ≡ []) × (ys ≡ [])
no_append [] ys e = (refl, e)
no_append (x ∷ xs) ys e = absurd cc

-- a list with one more at its end, cut in two
pub snoc_split : {A : Type 0} (xs ts : List A) (c : A) (others : List A) → xs ++ c ∷ [] ≡ ts ++ others →
    ((others ≡ []) × (ts ≡ xs ++ c ∷ [])) ⊎ ((front : List A) × (others ≡ front ++ c ∷ []) × (xs ≡ ts ++ front))
snoc_split xs [] c others e = inr (xs, sym e, refl)
snoc_split [] (t ∷ ts) c others e =
    let same : c ≡ t = cc in
    let rest : [] ≡ ts ++ others = cc in
    let empty = no_append ts others (sym rest) in
    inl (empty.1, ap (λ x. x ∷ ts) (sym same) ∙ ap (λ x. c ∷ x) empty.0)
snoc_split {A = A} (x ∷ xs) (t ∷ ts) c others e = from (snoc_split xs ts c others (let rest : xs ++ c ∷ [] ≡ ts ++ others = cc in rest)) (let same : x ≡ t = cc in same)
  where
    from : (((others ≡ []) × (ts ≡ xs ++ c ∷ [])) ⊎ ((front : List A) × (others ≡ front ++ c ∷ []) × (xs ≡ ts ++ front))) → x ≡ t →
        ((others ≡ []) × (t ∷ ts ≡ x ∷ xs ++ c ∷ [])) ⊎ ((front : List A) × (others ≡ front ++ c ∷ []) × (x ∷ xs ≡ t ∷ ts ++ front))
    from (inl h) same = inl (h.0, ap (λ y. y ∷ ts) (sym same) ∙ ap (λ y. x ∷ y) h.1)
    from (inr h) same = inr (h.0, h.1, ap (λ y. y ∷ xs) same ∙ ap (λ y. t ∷ y) h.2)

-- ---- cuts

pub taken : (text rest : Text) (t : BracketToken) → bracket_token_at text ≡ Some (t, rest) → BracketTakes t text rest
taken text rest t e = let h = subst (IsTaken BracketTakes text) e (bracket_token_taken text) in h

abbrev Front : Type 0
Front = BracketToken × Text

pub one_token : (text : Text) (t u : BracketToken) (rest after : Text) → BracketTakes t text rest → BracketTakes u text after → (t ≡ u) × (rest ≡ after)
one_token text t u rest after a b =
    let e : ◌≡◌ {A = Option Front} (Some (t, rest)) (Some (u, after)) = sym (bracket_token_is t text rest a) ∙ bracket_token_is u text after b in
    let same : ◌≡◌ {A = Front} (t, rest) (u, after) = cc in
    (ap (λ (x : Front). x.0) same, ap (λ (x : Front). x.1) same)

pub cuts_more : (text : Text) (ts : List BracketToken) (rest : Text) (t : BracketToken) (after : Text) → BracketCuts text ts rest → BracketTakes t rest after → BracketCuts text (ts ++ t ∷ []) after
cuts_more text [] rest t after same e = (after, subst (λ x. BracketTakes t x after) (sym same) e, refl)
cuts_more text (u ∷ us) rest t after h e = (h.0, h.1, cuts_more h.0 us rest t after h.2 e)

-- of two cuts of a text one begins with the other
pub compare : (xs ys : List BracketToken) (text here rest : Text) → BracketCuts text xs here → BracketCuts text ys rest →
    ((others : List BracketToken) × (ys ≡ xs ++ others) × BracketCuts here others rest) ⊎ ((t : BracketToken) × (others : List BracketToken) × (xs ≡ ys ++ t ∷ others))
compare [] ys text here rest same h = inl (ys, refl, subst (λ x. BracketCuts x ys rest) same h)
compare (u ∷ us) [] text here rest h same = inr (u, us, refl)
compare (u ∷ us) (t ∷ ts) text here rest h k =
    let same = one_token text u t h.0 k.0 h.1 k.1 in
    from same.0 (compare us ts h.0 here rest h.2 (subst (λ x. BracketCuts x ts rest) (sym same.1) k.2))
  where
    from : u ≡ t → (((others : List BracketToken) × (ts ≡ us ++ others) × BracketCuts here others rest) ⊎ ((v : BracketToken) × (others : List BracketToken) × (us ≡ ts ++ v ∷ others))) →
        ((others : List BracketToken) × (t ∷ ts ≡ u ∷ us ++ others) × BracketCuts here others rest) ⊎ ((v : BracketToken) × (others : List BracketToken) × (u ∷ us ≡ t ∷ ts ++ v ∷ others))
    from same (inl r) = inl (r.0, ap (λ x. x ∷ ts) (sym same) ∙ ap (λ x. u ∷ x) r.1, r.2)
    from same (inr r) = inr (r.0, r.1, ap (λ x. x ∷ us) same ∙ ap (λ x. t ∷ x) r.2)

-- ---- walks of whole brackets

close_at_bottom : (negated : Bool) (lead : Lead) (os : Operands) (ts : List BracketToken) → walk (slot_of negated lead os bottom) (Close ∷ ts) ≡ None
close_at_bottom negated lead (lone ms) ts = refl
close_at_bottom negated lead (joined os op ms) ts = refl

-- nothing is walked after a whole bracket
ends_there : (negated : Bool) (lead : Lead) (os : Operands) (ts : List BracketToken) → walk (starting negated lead bottom) ((operands_tokens os ++ Close ∷ []) ++ ts) ≡ None
ends_there negated lead os ts =
    ap (walk (starting negated lead bottom)) (append_assoc (operands_tokens os) (Close ∷ []) ts)
    ∙ walk_more (starting negated lead bottom) (operands_tokens os) (Close ∷ ts)
    ∙ ap (option_and_then (λ q. walk q (Close ∷ ts))) (operands_walk os negated lead bottom)
    ∙ close_at_bottom negated lead os ts

-- a walk of all operands continues from each point on it
continues : (negated : Bool) (lead : Lead) (os : Operands) (ts front : List BracketToken) (p : Slot) → operands_tokens os ≡ ts ++ front → walk (starting negated lead bottom) ts ≡ Some p → walk p front ≡ Some (slot_of negated lead os bottom)
continues negated lead os ts front p e w =
    sym (ap (option_and_then (λ q. walk q front)) w) ∙ sym (walk_more (starting negated lead bottom) ts front) ∙ ap (walk (starting negated lead bottom)) (sym e) ∙ operands_walk os negated lead bottom

-- ---- the part of a bracket that a reader has read, at a point inside of it

pub record HasWalked (negated : Bool) (lead : Lead) (text here : Text) (p : Slot) : Type 0 where
  pub tokens : List BracketToken
  pub cut : BracketCuts text tokens here
  pub walks : walk (starting negated lead bottom) tokens ≡ Some p

-- the continuation of a whole bracket there
pub record Onward (inside : Operands) (here rest : Text) (ts : List BracketToken) : Type 0 where
  pub token : BracketToken
  pub after : Text
  pub others : List BracketToken
  pub takes : BracketTakes token here after
  pub is_rest : operands_tokens inside ++ Close ∷ [] ≡ ts ++ token ∷ others

pub onward : (negated : Bool) (lead : Lead) (text here rest : Text) (p : Slot) (inside : Operands) → (h : HasWalked negated lead text here p) → BracketCuts text (operands_tokens inside ++ Close ∷ []) rest → Onward inside here rest h.tokens
onward negated lead text here rest p inside h k = from (compare h.tokens (operands_tokens inside ++ Close ∷ []) text here rest h.cut k)
  where
    past : (ts : List BracketToken) → h.tokens ≡ (operands_tokens inside ++ Close ∷ []) ++ ts → Onward inside here rest h.tokens
    past ts e = let w = h.walks in let none : walk (starting negated lead bottom) h.tokens ≡ None = ap (walk (starting negated lead bottom)) e ∙ ends_there negated lead inside ts in absurd cc

    first : (others : List BracketToken) → operands_tokens inside ++ Close ∷ [] ≡ h.tokens ++ others → BracketCuts here others rest → Onward inside here rest h.tokens
    first [] e cut = past [] (sym (append-nil h.tokens) ∙ sym e ∙ sym (append-nil (operands_tokens inside ++ Close ∷ [])))
    first (t ∷ others) e cut = record { token = t; after = cut.0; others = others; takes = cut.1; is_rest = e }

    from : (((others : List BracketToken) × (operands_tokens inside ++ Close ∷ [] ≡ h.tokens ++ others) × BracketCuts here others rest) ⊎ ((t : BracketToken) × (others : List BracketToken) × (h.tokens ≡ (operands_tokens inside ++ Close ∷ []) ++ t ∷ others))) → Onward inside here rest h.tokens
    from (inl r) = first r.0 r.1 r.2
    from (inr r) = past (r.0 ∷ r.1) r.2

-- ---- two brackets at one point

same_inside : (os qs : Operands) → operands_tokens os ≡ operands_tokens qs → os ≡ qs
same_inside os qs e =
    let slots : ◌≡◌ {A = Option Slot} (Some (slot_of false (Dashes 0) os bottom)) (Some (slot_of false (Dashes 0) qs bottom)) =
    sym (operands_walk os false (Dashes 0) bottom) ∙ ap (walk (starting false (Dashes 0) bottom)) e ∙ operands_walk qs false (Dashes 0) bottom in
    let same : slot_of false (Dashes 0) os bottom ≡ slot_of false (Dashes 0) qs bottom = cc in
    sym (inside-slot_of false (Dashes 0) os bottom) ∙ ap (λ (p : Slot). level_inside p.level) same ∙ inside-slot_of false (Dashes 0) qs bottom

-- the tokens of a whole bracket are no front of those of another
same_whole : (os qs : Operands) (text rest after : Text) → BracketCuts text (operands_tokens os ++ Close ∷ []) rest → BracketCuts text (operands_tokens qs ++ Close ∷ []) after → (os ≡ qs) × (rest ≡ after)
same_whole os qs text rest after h k = from (compare (operands_tokens os ++ Close ∷ []) (operands_tokens qs ++ Close ∷ []) text rest after h k)
  where
    -- the one continues after the other's end
    longer : (xs ys : Operands) (t : BracketToken) (others : List BracketToken) → operands_tokens ys ++ Close ∷ [] ≡ (operands_tokens xs ++ Close ∷ []) ++ t ∷ others → ⊥
    longer xs ys t others e = of_split (snoc_split (operands_tokens ys) (operands_tokens xs ++ Close ∷ []) Close (t ∷ others) e)
      where
        of_split : (((t ∷ others ≡ []) × (operands_tokens xs ++ Close ∷ [] ≡ operands_tokens ys ++ Close ∷ [])) ⊎ ((front : List BracketToken) × (t ∷ others ≡ front ++ Close ∷ []) × (operands_tokens ys ≡ (operands_tokens xs ++ Close ∷ []) ++ front))) → ⊥
        of_split (inl r) = let none = r.0 in absurd cc
        of_split (inr r) =
            let none : walk (starting false (Dashes 0) bottom) (operands_tokens ys) ≡ None = ap (walk (starting false (Dashes 0) bottom)) r.2 ∙ ends_there false (Dashes 0) xs r.0 in
            let some = operands_walk ys false (Dashes 0) bottom in
            absurd cc

    at_once : (others : List BracketToken) → operands_tokens qs ++ Close ∷ [] ≡ (operands_tokens os ++ Close ∷ []) ++ others → BracketCuts rest others after → (os ≡ qs) × (rest ≡ after)
    at_once [] e cut = of_split (snoc_split (operands_tokens qs) (operands_tokens os) Close (Close ∷ []) (e ∙ append-nil (operands_tokens os ++ Close ∷ [])))
      where
        of_split : (((Close ∷ [] ≡ []) × (operands_tokens os ≡ operands_tokens qs ++ Close ∷ [])) ⊎ ((front : List BracketToken) × (Close ∷ [] ≡ front ++ Close ∷ []) × (operands_tokens qs ≡ operands_tokens os ++ front))) → (os ≡ qs) × (rest ≡ after)
        of_split (inl r) = let none = r.0 in absurd cc
        of_split (inr r) = (same_inside os qs (sym (append-nil (operands_tokens os)) ∙ ap (λ (x : List BracketToken). operands_tokens os ++ x) (sym (no_front r.0 r.1)) ∙ sym r.2), cut)
          where
            no_front : (front : List BracketToken) → Close ∷ [] ≡ front ++ Close ∷ [] → front ≡ []
            no_front [] f = refl
            no_front (x ∷ xs) f = let tail : [] ≡ xs ++ Close ∷ [] = cc in let none = (no_append xs (Close ∷ []) (sym tail)).1 in absurd cc
    at_once (t ∷ others) e cut = absurd (longer os qs t others e)

    from : (((others : List BracketToken) × (operands_tokens qs ++ Close ∷ [] ≡ (operands_tokens os ++ Close ∷ []) ++ others) × BracketCuts rest others after) ⊎ ((t : BracketToken) × (others : List BracketToken) × (operands_tokens os ++ Close ∷ [] ≡ (operands_tokens qs ++ Close ∷ []) ++ t ∷ others))) → (os ≡ qs) × (rest ≡ after)
    from (inl r) = at_once r.0 r.1 r.2
    from (inr r) = absurd (longer qs os r.0 r.1 r.2)

-- the openings agree
record SameOpening (n m : Bool) (d e : Lead) (rest after : Text) : Type 0 where
  sign : n ≡ m
  lead : d ≡ e
  following : rest ≡ after

one_opening : (n m : Bool) (d e : Lead) (text rest after : Text) → Opens n d text rest → Opens m e text after → SameOpening n m d e rest after
one_opening n m d e text rest after a b =
    let same : ◌≡◌ {A = Bool × Lead × Text} (n, d, rest) (m, e, after) = sym (open_is n d text rest a) ∙ open_is m e text after b in
    record { sign = ap (λ (x : Bool × Lead × Text). x.0) same; lead = ap (λ (x : Bool × Lead × Text). x.1) same; following = ap (λ (x : Bool × Lead × Text). x.2) same }

-- a text begins with at most one bracket
pub one_bracket : (a b : Bracket) (text rest after : Text) → Encloses a text rest → Encloses b text after → (a ≡ b) × (rest ≡ after)
one_bracket (bracket n d os) (bracket m e qs) text rest after h k =
    let o = one_opening n m d e text h.0 k.0 h.1 k.1 in
    let w = same_whole os qs h.0 rest after h.2 (subst (λ x. BracketCuts x (operands_tokens qs ++ Close ∷ []) after) (sym o.following) k.2) in
    (ap (λ x. bracket x d os) o.sign ∙ ap (λ x. bracket m x os) o.lead ∙ ap (bracket m e) w.0, w.1)

-- ---- refusals

-- the property of each bracket that is written at the text and whose opening is read
abbrev pub Refuted : (Bracket → Type 0) → Bool → Lead → Text → Type 0
Refuted Claim negated lead text = (inside : Operands) (rest : Text) → BracketCuts text (operands_tokens inside ++ Close ∷ []) rest → Claim (bracket negated lead inside)

-- after the opening, and as a whole
pub refuted : (Claim : Bracket → Type 0) (negated : Bool) (lead : Lead) (text after : Text) → Opens negated lead text after → Refuted Claim negated lead after →
    (b : Bracket) (rest : Text) → Encloses b text rest → Claim b
refuted Claim negated lead text after o h (bracket m e os) rest k =
    let same = one_opening negated m lead e text after k.0 o k.1 in
    subst (λ x. Claim (bracket x e os)) same.sign (subst (λ x. Claim (bracket negated x os)) same.lead
    (h os rest (subst (λ x. BracketCuts x (operands_tokens os ++ Close ∷ []) rest) (sym same.following) k.2)))

-- there is no token
pub no_token : (Claim : Bracket → Type 0) (negated : Bool) (lead : Lead) (text here : Text) (p : Slot) → HasWalked negated lead text here p → bracket_token_at here ≡ None → Refuted Claim negated lead text
no_token Claim negated lead text here p h none inside rest k =
    let o = onward negated lead text here rest p inside h k in
    let e = bracket_token_is o.token here o.after o.takes in
    absurd cc

fits_at : (flags : Flags) (xs ys : List BracketToken) (t : BracketToken) → TokensFit flags (xs ++ t ∷ ys) → TokensFit flags (t ∷ ys)
fits_at flags [] ys t f = f
fits_at flags (Item item ∷ xs) ys t f = fits_at flags xs ys t f.1
fits_at flags (Open n d ∷ xs) ys t f = fits_at flags xs ys t f
fits_at flags (Operator op ∷ xs) ys t f = fits_at flags xs ys t f
fits_at flags (Close ∷ xs) ys t f = fits_at flags xs ys t f

-- an element that is not allowed there
pub no_fit : (flags : Flags) (negated : Bool) (lead : Lead) (text here after : Text) (p : Slot) (item : ItemOf) → HasWalked negated lead text here p → bracket_token_at here ≡ Some (Item item, after) → item_fits flags item ≡ false →
    Refuted (λ b. BracketFits flags b → ⊥) negated lead text
no_fit flags negated lead text here after p item h e unfit inside rest k fit =
    let o = onward negated lead text here rest p inside h k in
    let same = one_token here o.token (Item item) o.after after o.takes (taken here after (Item item) e) in
    let f = fits_at flags h.tokens o.others o.token (subst (TokensFit flags) o.is_rest fit) in
    let g : TokensFit flags (Item item ∷ o.others) = subst (λ x. TokensFit flags (x ∷ o.others)) same.0 f in
    let is = g.0 in
    cc

-- ---- depth

abbrev deepest_below : List BracketFrame → ℕ
deepest_below [] = 0
deepest_below (g ∷ gs) = max g.inner (deepest_below gs)

abbrev pub deepest : Frames → ℕ
deepest s = max s.top.inner (deepest_below s.below)

abbrev Deeper : Frames → Option Frames → Type 0
Deeper s o = IfSome o (λ t. deepest s ≤ deepest t)

close_deeper : (flags : Flags) (f : BracketFrame) (gs : List BracketFrame) → Deeper (record { top = f; below = gs }) (close flags f gs)
close_deeper flags f [] = tt
close_deeper flags f (g ∷ gs) = omega arith

step_deeper : (flags : Flags) (base : ℕ) (s : Frames) (t : BracketToken) → Deeper s (bracket_step flags base s t)
step_deeper flags base s (Item item) = omega arith
step_deeper flags base s (Open n d) = omega arith
step_deeper flags base s (Operator op) = omega arith
step_deeper flags base s Close = close_deeper flags s.top s.below

walk_deeper : (flags : Flags) (base : ℕ) (p : Slot) (ts : List BracketToken) (q : Slot) → walk p ts ≡ Some q → deepest (frames_of flags base p) ≤ deepest (frames_of flags base q)
walk_deeper flags base p [] q e = let same : p ≡ q = cc in subst (λ x. deepest (frames_of flags base p) ≤ deepest (frames_of flags base x)) same (omega arith)
walk_deeper flags base p (t ∷ ts) q e = from (λ r h. walk_deeper flags base r ts q h) (advance p t) refl e
  where
    from : ((r : Slot) → walk r ts ≡ Some q → deepest (frames_of flags base r) ≤ deepest (frames_of flags base q)) → (o : Option Slot) → advance p t ≡ o → option_and_then (λ r. walk r ts) o ≡ Some q → deepest (frames_of flags base p) ≤ deepest (frames_of flags base q)
    from deep None is h = absurd cc
    from deep (Some r) is h =
        let one : IfSome (option_map (frames_of flags base) (Some r)) (λ t. deepest (frames_of flags base p) ≤ deepest t) =
        subst (λ x. IfSome (option_map (frames_of flags base) x) (λ t. deepest (frames_of flags base p) ≤ deepest t)) is (subst (λ x. IfSome x (λ t. deepest (frames_of flags base p) ≤ deepest t)) (step_is flags base p t) (step_deeper flags base (frames_of flags base p) t)) in
        let rest = deep r h in
        omega (arith, one)

slot_depth : (flags : Flags) (base : ℕ) (negated : Bool) (lead : Lead) (os : Operands) → deepest (frames_of flags base (slot_of negated lead os bottom)) ≡ base + bracket_depth (bracket negated lead os)
slot_depth flags base negated lead (lone ms) = omega arith
slot_depth flags base negated lead (joined os op ms) = omega arith

-- a nested bracket that is too deep
pub too_deep : (flags : Flags) (base : ℕ) (negated : Bool) (lead : Lead) (text here after : Text) (p : Slot) (n : Bool) (d : Lead) → HasWalked negated lead text here p → bracket_token_at here ≡ Some (Open n d, after) → 250 < base + size p.stack + 2 →
    Refuted (λ b. 250 < base + bracket_depth b) negated lead text
too_deep flags base negated lead text here after p n d h e deep inside rest k =
    let o = onward negated lead text here rest p inside h k in
    let same = one_token here o.token (Open n d) o.after after o.takes (taken here after (Open n d) e) in
    of_split o.others (snoc_split (operands_tokens inside) h.tokens Close (Open n d ∷ o.others) (o.is_rest ∙ ap (λ x. h.tokens ++ x ∷ o.others) same.0))
  where
    next : (front others : List BracketToken) → Open n d ∷ others ≡ front ++ Close ∷ [] → operands_tokens inside ≡ h.tokens ++ front → 250 < base + bracket_depth (bracket negated lead inside)
    next [] others f g = absurd cc
    next (t ∷ front) others f g =
        let is : Open n d ≡ t = cc in
        let w = continues negated lead inside h.tokens (t ∷ front) p g h.walks in
        let v : walk p (Open n d ∷ front) ≡ Some (slot_of negated lead inside bottom) = ap (λ x. walk p (x ∷ front)) is ∙ w in
        let grown = walk_deeper flags base (starting n d (over p.stack p.level)) front (slot_of negated lead inside bottom) v in
        let total = slot_depth flags base negated lead inside in
        omega arith

    of_split : (others_of : List BracketToken) → (((Open n d ∷ others_of ≡ []) × (h.tokens ≡ operands_tokens inside ++ Close ∷ [])) ⊎ ((front : List BracketToken) × (Open n d ∷ others_of ≡ front ++ Close ∷ []) × (operands_tokens inside ≡ h.tokens ++ front))) → 250 < base + bracket_depth (bracket negated lead inside)
    of_split others_of (inl r) = let none = r.0 in absurd cc
    of_split others_of (inr r) = next r.0 others_of r.1 r.2

pub too_deep_at_once : (base : ℕ) (b : Bracket) → 250 ≤ base → 250 < base + bracket_depth b
too_deep_at_once base (bracket n d os) h = omega arith

-- ---- the text that a reader has read

-- the inside of the bracket up to a point, and the frames there
pub record InBracket (flags : Flags) (base : ℕ) (negated : Bool) (lead : Lead) (text here : Text) (s : Frames) : Type 0 where
  pub slot : Slot
  pub walked_to : HasWalked negated lead text here slot
  pub fits : TokensFit flags walked_to.tokens
  pub frames : s ≡ frames_of flags base slot

pub at_opening : (flags : Flags) (base : ℕ) (negated : Bool) (lead : Lead) (text : Text) (s : Frames) → s ≡ record { top = fresh_frame negated lead (base + 1); below = [] } → InBracket flags base negated lead text text s
at_opening flags base negated lead text s e = record {
  slot = starting negated lead bottom;
  walked_to = record { tokens = []; cut = refl; walks = refl };
  fits = tt;
  frames = e ∙ ap (λ (n : ℕ). record { top = fresh_frame negated lead n; below = [] }) (let m : base + 1 ≡ base + 0 + 1 + 0 = omega arith in m);
}

pub fits_more : (flags : Flags) (ts : List BracketToken) (t : BracketToken) → TokensFit flags ts → MayOccur flags t → TokensFit flags (ts ++ t ∷ [])
fits_more flags [] (Item item) f m = (m, tt)
fits_more flags [] (Open n d) f m = tt
fits_more flags [] (Operator op) f m = tt
fits_more flags [] Close f m = tt
fits_more flags (Item item ∷ ts) t f m = (f.0, fits_more flags ts t f.1 m)
fits_more flags (Open n d ∷ ts) t f m = fits_more flags ts t f m
fits_more flags (Operator op ∷ ts) t f m = fits_more flags ts t f m
fits_more flags (Close ∷ ts) t f m = fits_more flags ts t f m

pub one_step : (flags : Flags) (base : ℕ) (negated : Bool) (lead : Lead) (text here after : Text) (s u : Frames) (t : BracketToken) → InBracket flags base negated lead text here s → bracket_token_at here ≡ Some (t, after) →
    MayOccur flags t → bracket_step flags base s t ≡ Some u → InBracket flags base negated lead text after u
one_step flags base negated lead text here after s u t r e may moves =
    from (advance r.slot t) refl (sym (step_is flags base r.slot t) ∙ ap (λ (x : Frames). bracket_step flags base x t) (sym r.frames) ∙ moves)
  where
    from : (o : Option Slot) → advance r.slot t ≡ o → option_map (frames_of flags base) o ≡ Some u → InBracket flags base negated lead text after u
    from None is h = absurd cc
    from (Some q) is h = record {
      slot = q;
      walked_to = record {
        tokens = r.walked_to.tokens ++ t ∷ [];
        cut = cuts_more text r.walked_to.tokens here t after r.walked_to.cut (taken here after t e);
        walks = walk_more (starting negated lead bottom) r.walked_to.tokens (t ∷ []) ∙ ap (option_and_then (λ x. walk x (t ∷ []))) r.walked_to.walks ∙ ap (option_and_then (λ x. walk x [])) is;
      };
      fits = fits_more flags r.walked_to.tokens t r.fits may;
      frames = (let same : frames_of flags base q ≡ u = cc in sym same);
    }

-- the end of the whole bracket
pub record Closed (flags : Flags) (base : ℕ) (negated : Bool) (lead : Lead) (text after : Text) (s : Frames) : Type 0 where
  pub inside : Operands
  pub cut : BracketCuts text (operands_tokens inside ++ Close ∷ []) after
  pub fits : BracketFits flags (bracket negated lead inside)
  pub is_set : whole flags s.top ≡ bracket_set flags (bracket negated lead inside)
  pub is_depth : s.top.inner ≡ base + bracket_depth (bracket negated lead inside)

pub closed : (flags : Flags) (base : ℕ) (negated : Bool) (lead : Lead) (text here after : Text) (s : Frames) → InBracket flags base negated lead text here s → s.below ≡ [] → bracket_token_at here ≡ Some (Close, after) → Closed flags base negated lead text after s
closed flags base negated lead text here after s r last e = from r.slot.level r.slot.stack r.frames (walked (starting negated lead bottom) r.walked_to.tokens r.slot r.walked_to.walks) refl refl
  where
    from : (l : Level) (k : Stack) → s ≡ frames_of flags base (record { level = l; stack = k }) → Walked (starting negated lead bottom) r.walked_to.tokens r.slot → r.slot.level ≡ l → r.slot.stack ≡ k → Closed flags base negated lead text after s
    from l (over k outer) frames w el ek = let h = ap (λ (x : Frames). x.below) frames in absurd cc
    from l bottom frames w el ek =
        let tokens : operands_tokens (level_inside l) ≡ r.walked_to.tokens = ap (λ (x : Level). tokens_at x bottom) (sym el) ∙ ap (tokens_at r.slot.level) (sym ek) ∙ w.tokens in
        let same : ◌≡◌ {A = Bool × Lead} (l.negated, l.lead) (negated, lead) = ap (λ (x : Level). outermost x bottom) (sym el) ∙ ap (outermost r.slot.level) (sym ek) ∙ w.same in
        let b : bracket l.negated l.lead (level_inside l) ≡ bracket negated lead (level_inside l) = ap (λ (x : Bool × Lead). bracket x.0 x.1 (level_inside l)) same in
        record {
          inside = level_inside l;
          cut = subst (λ x. BracketCuts text (x ++ Close ∷ []) after) (sym tokens) (cuts_more text r.walked_to.tokens here Close after r.walked_to.cut (taken here after Close e));
          fits = subst (TokensFit flags) (ap (λ (x : List BracketToken). x ++ Close ∷ []) (sym tokens)) (fits_more flags r.walked_to.tokens Close r.fits tt);
          is_set = ap (λ (x : Frames). whole flags x.top) frames ∙ whole_of flags (base + 0 + 1) l ∙ ap (bracket_set flags) b;
          is_depth = ap (λ (x : Frames). x.top.inner) frames ∙ (let d = depth_inside l.before l.members in omega arith);
        }
