-- A whole text: its cutting into tokens, and the meaning of the parser's results for it.
use Rattle.std.proofs.Common.{◌≡◌, ◌≢◌, ℕ, ◌+◌, ◌<◌, ◌≤◌, true, false, List, [], ◌∷◌, ◌++◌, length, Option, Some, None, Result, Ok, Err, IfOk, IfErr, refl, sym, ap, subst, ◌∙◌, arith, append-nil}
use lib.ListN.{get_or}
use Rattle.logos_pattern_tokens.specs.declared.error.Stop.{Stop}
use Rattle.logos_pattern_tokens.specs.declared.error.Stop.TheVariants as stops
use Rattle.logos_pattern_tokens.specs.declared.token.Flags.{Flags}
use Rattle.logos_syntax.specs.declared.names.GroupNames.{GroupNames}
use Rattle.logos_syntax.specs.declared.bracket.stack.BracketValue.{BracketValue as FoundSet}
use Rattle.logos_hir.specs.declared.hir.Hir.{Hir}
use Rattle.logos_hir.specs.Hir.{tree_of}
use Rattle.logos_hir.specs.Tree.{Tree}
use Rattle.logos_hir.specs.RangeSets.{set_of}
use Rattle.std.specs.Borrow.{Bor}
use Rattle.logos_pattern_tokens.specs.declared.error.PatternError.{PatternError}
use Rattle.logos_pattern_tokens.specs.declared.error.PatternError.TheVariants as errors
use Rattle.logos_pattern_tokens.specs.declared.error.Fault.{Fault}
use Rattle.logos_pattern_tokens.specs.declared.error.Fault.TheVariants as faults
use Rattle.logos_pattern_tokens.specs.Token.{Yields, Text, Token, bracketed}
use Rattle.logos_pattern_tokens.specs.Reader.{token_at}
use Rattle.logos_pattern_tokens.specs.Spelling.{Takes}
use Rattle.logos_pattern_tokens.specs.bracket.Form.{Bracket}
use Rattle.logos_pattern_tokens.specs.bracket.Spelling.{Encloses}
use Rattle.logos_syntax.specs.bracket.Meaning.{bracket_set, BracketFits, bracket_depth}
use Rattle.logos_syntax.specs.inside.BracketView.{IsBracketValue, Denies, IsStopOf}
use Rattle.logos_syntax.specs.Written.{Branches, branches_tokens, Starts, taken, enclosed, Cuts, IsNew, with_name, NamesDiffer}
use Rattle.logos_syntax.specs.Grammar.{written_tree, branches_depth, TokenFits, Spells, IsSpelled, IsFound, Refuses}
use Rattle.logos_syntax.specs.inside.Groups.{State, start, whole_tree, step, Runs, stays, deepest}
use Rattle.logos_syntax.specs.inside.GroupsView.{Steps, Ends}
use Rattle.logos_syntax.specs.inside.GroupNames.{HasNames, Admits}
use Rattle.logos_syntax.specs.inside.Reading.{Continues, StopsAt, ReadsToken, ReadsSimple, names_after, HasRead, StopsText}
use Rattle.logos_pattern_tokens.proofs.Picks.{IsTaken}
use Rattle.logos_pattern_tokens.proofs.TokenLemmas.{is_taken, taken_is}
use Rattle.logos_syntax.proofs.brackets.Texts.{one_bracket}
use Rattle.logos_pattern_tokens.proofs.Shorter.{takes_some, encloses_some}
use Rattle.logos_syntax.proofs.patterns.Levels.{bottom}
use Rattle.logos_syntax.proofs.patterns.Reading.{runs_on, runs_once, first_of_runs, no_runs, runs_after, is_read, whole_runs, whole_depth, runs_deeper, is_whole, level_of, tree_level_of, at_level}

abbrev Taken : Type 0
Taken = Token × Text

-- ---- one token

no_bracket : (text : Text) → token_at (91 ∷ text) ≡ None
unfolding token_at
no_bracket text = refl

no_simple : (t : Token) (text rest : Text) → Takes t (91 ∷ text) rest → ⊥
no_simple t text rest h = let e = taken_is t (91 ∷ text) rest h in let n = no_bracket text in let same : ◌≡◌ {A = Option Taken} (Some (t, rest)) None = sym e ∙ n in absurd cc

pub one_taken : (text : Text) (t u : Token) (rest after : Text) → Takes t text rest → Takes u text after → (t ≡ u) × (rest ≡ after)
one_taken text t u rest after a b =
    let e : ◌≡◌ {A = Option Taken} (Some (t, rest)) (Some (u, after)) = sym (taken_is t text rest a) ∙ taken_is u text after b in
    let same : ◌≡◌ {A = Taken} (t, rest) (u, after) = cc in
    (ap (λ (x : Taken). x.0) same, ap (λ (x : Taken). x.1) same)

pub taken_here : (text rest : Text) (t : Token) → token_at text ≡ Some (t, rest) → Takes t text rest
taken_here text rest t e = let h = subst (IsTaken Takes text) e (is_taken text) in h

-- two tokens at the front of a text are one
pub one_start : (text : Text) (t u : Token) (rest after : Text) → Starts t text rest → Starts u text after → (t ≡ u) × (rest ≡ after)
one_start text t u rest after (taken v x r h) k = from u x after k h
  where
    from : (u : Token) (x after : Text) → Starts u x after → Takes t x rest → (t ≡ u) × (rest ≡ after)
    from u x after (taken w y s l) h = one_taken y t w rest s h l
    from u x after (enclosed b y s l) h = absurd (no_simple t y rest h)
one_start text t u rest after (enclosed a x r h) k = from u after k
  where
    from : (u : Token) (after : Text) → Starts u (91 ∷ x) after → (bracketed a ≡ u) × (rest ≡ after)
    from u after (taken w y s l) = absurd (no_simple w x s l)
    from u after (enclosed b y s l) = let e = one_bracket a b x rest s h l in (ap bracketed e.0, e.1)

pub start_some : (t : Token) (text rest : Text) → Starts t text rest → length rest < length text
start_some t text rest (taken u x r h) = takes_some u x r h
start_some t text rest (enclosed b x r h) = let e = encloses_some b x r h in omega arith

nothing_starts : (t : Token) (rest : Text) → Starts t [] rest → ⊥
nothing_starts t rest h = let e = start_some t [] rest h in omega arith

-- ---- cuts

pub cuts_more : (text : Text) (ts : List Token) (rest : Text) (t : Token) (after : Text) → Cuts text ts rest → Starts t rest after → Cuts text (ts ++ t ∷ []) after
cuts_more text [] rest t after same e = (after, subst (λ x. Starts t x after) (sym same) e, refl)
cuts_more text (u ∷ us) rest t after h e = (h.0, h.1, cuts_more h.0 us rest t after h.2 e)

-- a whole cut of a text begins with each front
pub cuts_split : (front ts : List Token) (text rest : Text) → Cuts text front rest → Cuts text ts [] → (more : List Token) × (ts ≡ front ++ more) × Cuts rest more []
cuts_split [] ts text rest same h = (ts, refl, subst (λ x. Cuts x ts []) same h)
cuts_split (u ∷ us) [] text rest h ended = absurd (nothing_starts u h.0 (subst (λ x. Starts u x h.0) ended h.1))
cuts_split (u ∷ us) (t ∷ ts) text rest h k =
    let same = one_start text u t h.0 k.0 h.1 k.1 in
    let later = cuts_split us ts h.0 rest h.2 (subst (λ x. Cuts x ts []) (sym same.1) k.2) in
    (later.0, ap (λ (x : Token). x ∷ ts) (sym same.0) ∙ ap (λ (x : List Token). u ∷ x) later.1, later.2)

pub no_cut : (ts : List Token) → Cuts [] ts [] → ts ≡ []
no_cut [] h = refl
no_cut (u ∷ us) h = absurd (nothing_starts u h.0 h.1)

-- ---- names

pub names_more : (seen : List Text) (ts : List Token) (t : Token) → names_after seen (ts ++ t ∷ []) ≡ with_name (names_after seen ts) t
names_more seen [] t = refl
names_more seen (u ∷ us) t = names_more (with_name seen u) us t

pub differ_more : (seen : List Text) (ts : List Token) (t : Token) → NamesDiffer seen ts → IsNew (names_after seen ts) t → NamesDiffer seen (ts ++ t ∷ [])
differ_more seen [] t h k = (k, tt)
differ_more seen (u ∷ us) t h k = (h.0, differ_more (with_name seen u) us t h.1 k)

differ_after : (seen : List Text) (ts us : List Token) → NamesDiffer seen (ts ++ us) → NamesDiffer (names_after seen ts) us
differ_after seen [] us h = h
differ_after seen (t ∷ ts) us h = differ_after (with_name seen t) ts us h.1

-- ---- the text that the parser has read

pub nothing_read : (flags : Flags) (text : Text) (s : State) (names : GroupNames) → s ≡ start flags → HasNames names [] → HasRead flags text text s names
nothing_read flags text s names is has = record { tokens = []; cut = refl; run = subst (Runs (start flags) []) (sym is) (stays (start flags)); differ = tt; has = has }

pub reads_on : (flags : Flags) (text rest after : Text) (s u : State) (names others : GroupNames) → (r : HasRead flags text rest s names) → Continues s (names_after [] r.tokens) rest u others after → HasRead flags text after u others
reads_on flags text rest after s u names others r g = record {
  tokens = r.tokens ++ g.token ∷ [];
  cut = cuts_more text r.tokens rest g.token after r.cut g.starts;
  run = runs_on (start flags) s u r.tokens (g.token ∷ []) r.run (runs_once s u g.token g.fits g.moves);
  differ = differ_more [] r.tokens g.token r.differ g.is_new;
  has = subst (HasNames others) (sym (names_more [] r.tokens g.token)) g.has;
}

-- the text after the tokens that are read, in a pattern
record Later (flags : Flags) (rest : Text) (s : State) (names : List Text) (written : Branches) : Type 0 where
  more : List Token
  cut : Cuts rest more []
  run : Runs s more (at_level flags bottom (level_of written))
  differ : NamesDiffer names more

later : (flags : Flags) (text rest : Text) (s : State) (names : GroupNames) (r : HasRead flags text rest s names) (tree : Tree) (depth : ℕ) → (p : Spells flags text tree depth) → Later flags rest s (names_after [] r.tokens) p.written
later flags text rest s names r tree depth p =
    let split = cuts_split r.tokens (branches_tokens p.written) text rest r.cut p.cut in
    record {
      more = split.0;
      cut = split.2;
      run = runs_after (start flags) s (at_level flags bottom (level_of p.written)) r.tokens split.0 r.run (subst (λ x. Runs (start flags) x (at_level flags bottom (level_of p.written))) split.1 (whole_runs flags p.written p.fit));
      differ = differ_after [] r.tokens split.0 (subst (NamesDiffer []) split.1 p.names);
    }

-- ---- refusals

-- the meaning of the parser's stop for the text
pub stopped : (flags : Flags) (text rest : Text) (s : State) (names : GroupNames) (stop : Stop) → (r : HasRead flags text rest s names) → 0 < length rest → ((t : Token) (after : Text) → Starts t rest after → StopsAt stop s (names_after [] r.tokens) t) → StopsText flags text stop
stopped flags text rest s names (stops.Syntax kind left) r some stop = λ depth spelled. let l = later flags text rest s names r spelled.0 depth spelled.1 in from _ l.more l.cut l.run l.differ
  where
    from : (u : State) (more : List Token) → Cuts rest more [] → Runs s more u → NamesDiffer (names_after [] r.tokens) more → ⊥
    from u [] ended run differ = let e = ap length ended in omega arith
    from u (t ∷ ts) cut run differ =
        let f = first_of_runs s u t ts run in
        let none = stop t cut.0 cut.1 f.fit differ.0 in
        let some = f.moves in
        absurd cc
stopped flags text rest s names stops.LimitPatternNesting r some stop = λ depth spelled. let l = later flags text rest s names r spelled.0 depth spelled.1 in from spelled.1.written depth spelled.1.is_depth l.more l.cut l.run
  where
    from : (bs : Branches) (depth : ℕ) → branches_depth bs ≡ depth → (more : List Token) → Cuts rest more [] → Runs s more (at_level flags bottom (level_of bs)) → 250 < depth
    from bs depth is [] ended run = let e = ap length ended in omega arith
    from bs depth is (t ∷ ts) cut run =
        let f = first_of_runs s (at_level flags bottom (level_of bs)) t ts run in
        let deep = stop t cut.0 cut.1 in
        let same : f.then ≡ deep.0 = (let a = f.moves in let b = deep.1 in cc) in
        let grown = runs_deeper f.then ts (at_level flags bottom (level_of bs)) f.others in
        let final = whole_depth flags bs in
        let equal : deepest f.then ≡ deepest deep.0 = ap deepest same in
        let far = deep.2 in
        omega arith
stopped flags text rest s names stops.Memory r some stop = tt

-- a group is open at the end
pub still_open : (flags : Flags) (text : Text) (s : State) (names : GroupNames) → HasRead flags text [] s names → (s.below ≡ [] → ⊥) → (depth : ℕ) → IsSpelled flags text depth → ⊥
still_open flags text s names r shut depth spelled =
    let l = later flags text [] s names r spelled.0 depth spelled.1 in
    let ran = subst (λ x. Runs s x (at_level flags bottom (level_of spelled.1.written))) (no_cut l.more l.cut) l.run in
    shut (ap (λ (x : State). x.below) (no_runs s (at_level flags bottom (level_of spelled.1.written)) ran))

-- ---- the result

pub found : (flags : Flags) (text : Text) (s : State) (names : GroupNames) (tree : Tree) → HasRead flags text [] s names → s.below ≡ [] → tree ≡ whole_tree s.top → s.top.inner ≤ 250 → IsFound flags text tree
found flags text s names tree r ended is shallow =
    let w = is_whole flags r.tokens s ended (is_read flags r.tokens s r.run) in (
      s.top.inner,
      shallow,
      record {
        written = w.branches;
        cut = subst (λ x. Cuts text x []) (sym w.tokens) r.cut;
        fit = w.fits;
        names = subst (NamesDiffer []) (sym w.tokens) r.differ;
        is_tree = sym (is ∙ w.tree);
        is_depth = sym w.depth;
      },
    )

-- ---- a text has one tree

pub one : (flags : Flags) (text : Text) (a b : Tree) (m n : ℕ) → Spells flags text a m → Spells flags text b n → (a ≡ b) × (m ≡ n)
one flags text a b m n p q =
    let split = cuts_split (branches_tokens p.written) (branches_tokens q.written) text [] p.cut q.cut in
    let tokens : branches_tokens q.written ≡ branches_tokens p.written = split.1 ∙ ap (λ (x : List Token). branches_tokens p.written ++ x) (no_cut split.0 split.2) ∙ append-nil (branches_tokens p.written) in
    let last = at_level flags bottom (level_of p.written) in
    let end = at_level flags bottom (level_of q.written) in
    let ran : Runs (start flags) (branches_tokens p.written ++ []) end = subst (λ x. Runs (start flags) x end) (tokens ∙ sym (append-nil (branches_tokens p.written))) (whole_runs flags q.written q.fit) in
    let states : last ≡ end = no_runs last end (runs_after (start flags) last end (branches_tokens p.written) [] (whole_runs flags p.written p.fit) ran) in
    let trees : written_tree flags p.written ≡ written_tree flags q.written = sym (tree_level_of flags p.written) ∙ ap (λ (s : State). whole_tree s.top) states ∙ tree_level_of flags q.written in
    let depths : branches_depth p.written ≡ branches_depth q.written = sym (whole_depth flags p.written) ∙ ap deepest states ∙ whole_depth flags q.written in
    (sym p.is_tree ∙ trees ∙ q.is_tree, sym p.is_depth ∙ depths ∙ q.is_depth)

-- ---- the facts from reading a bracket

pub bracket_stops : (s : State) (seen : List Text) (text : Text) (flags : Flags) (base : ℕ) (stop : Stop) → flags ≡ s.top.flags → base ≡ length s.below → ((b : Bracket) (rest : Text) → Encloses b text rest → Denies flags base stop b) → (t : Token) (rest : Text) → Starts t (91 ∷ text) rest → StopsAt stop s seen t
bracket_stops s seen text flags base stop set is h t rest (taken u x r k) = absurd (no_simple u text r k)
bracket_stops s seen text flags base (stops.Syntax kind left) set is h t rest (enclosed b x r k) = λ fit new. absurd (h b r k (subst (λ f. BracketFits f b) (sym set) fit))
bracket_stops s seen text flags base stops.LimitPatternNesting set is h t rest (enclosed b x r k) = (_, refl, (let deep = h b r k in omega arith))
bracket_stops s seen text flags base stops.Memory set is h t rest (enclosed b x r k) = tt

pub bracket_goes : (s u : State) (seen : List Text) (names : GroupNames) (text rest : Text) (flags : Flags) (base : ℕ) (f : FoundSet) → flags ≡ s.top.flags → base ≡ length s.below → HasNames names seen → IsBracketValue flags base text f rest →
    ((b : Bracket) → set_of f.set ≡ bracket_set s.top.flags b → f.depth ≡ length s.below + bracket_depth b → step s (bracketed b) ≡ Some u) → Continues s seen (91 ∷ text) u names rest
bracket_goes s u seen names text rest flags base f set is has b h = record {
  token = bracketed b.written;
  starts = enclosed b.written text rest b.encloses;
  fits = subst (λ x. BracketFits x b.written) set b.fits;
  is_new = tt;
  moves = h b.written (b.is_set ∙ ap (λ x. bracket_set x b.written) set) (b.is_depth ∙ ap (λ x. x + bracket_depth b.written) is);
  has = has;
}

-- ---- the facts from reading another token

pub faulted : {X : Type 0} (view : X → Taken) (s : State) (seen : List Text) (text : Text) (fault : Fault) (stop : Stop) → Yields view (Err fault) (token_at text) → IsStopOf fault stop → (t : Token) (rest : Text) → Takes t text rest → StopsAt stop s seen t
faulted view s seen text (faults.Syntax kind) (stops.Syntax other left) none is t rest h = let e = taken_is t text rest h in absurd cc
faulted view s seen text (faults.Syntax kind) stops.LimitPatternNesting none is t rest h = absurd is
faulted view s seen text (faults.Syntax kind) stops.Memory none is t rest h = absurd is
faulted view s seen text faults.Memory (stops.Syntax other left) none is t rest h = absurd is
faulted view s seen text faults.Memory stops.LimitPatternNesting none is t rest h = absurd is
faulted view s seen text faults.Memory stops.Memory none is t rest h = tt

pub twice : (s : State) (seen : List Text) (text rest : Text) (token : Token) (new : GroupNames) → token_at text ≡ Some (token, rest) → Admits seen token false new → (t : Token) (after : Text) → Takes t text after → TokenFits s.top.flags t → IsNew seen t → step s t ≡ None
twice s seen text rest token new is known t after h fit fresh =
    let e = one_taken text t token after rest h (taken_here text rest token is) in
    absurd (known (subst (IsNew seen) e.0 fresh))

pub step_stops : (s u : State) (seen : List Text) (text rest : Text) (token : Token) (stop : Stop) → token_at text ≡ Some (token, rest) → Steps s token (Err stop) u → (t : Token) (after : Text) → Takes t text after → StopsAt stop s seen t
step_stops s u seen text rest token stop is h t after k = let e = one_taken text token t rest after (taken_here text rest token is) k in subst (StopsAt stop s seen) e.0 (from stop h)
  where
    from : (stop : Stop) → Steps s token (Err stop) u → StopsAt stop s seen token
    from (stops.Syntax kind left) h = λ fit fresh. h fit
    from stops.LimitPatternNesting h = h.1
    from stops.Memory h = tt

pub simple_goes : (s u : State) (seen : List Text) (text rest : Text) (token : Token) (names : GroupNames) (r : Unit {0}) → token_at text ≡ Some (token, rest) → Admits seen token true names → Steps s token (Ok r) u → Continues s seen text u names rest
simple_goes s u seen text rest token names r is new h = record {
  token = token;
  starts = taken token text rest (taken_here text rest token is);
  fits = h.0;
  is_new = new.0;
  moves = h.1;
  has = new.1;
}

pub not_bracket : (s u : State) (seen : List Text) (text : Text) (r : Result (Bor Text) Stop) (names : GroupNames) → ((x : Text) → text ≡ 91 ∷ x → ⊥) → ReadsSimple s seen text r u names → ReadsToken s seen text r u names
not_bracket s u seen text (Ok rest) names other h = h
not_bracket s u seen text (Err stop) names other h = (λ t rest k. from t text rest k other h.0, h.1)
  where
    from : (t : Token) (text rest : Text) → Starts t text rest → ((x : Text) → text ≡ 91 ∷ x → ⊥) → ((t : Token) (rest : Text) → Takes t text rest → StopsAt stop s seen t) → StopsAt stop s seen t
    from t text rest (taken v x r k) other h = h v r k
    from t text rest (enclosed b x r k) other h = absurd (other x refl)

pub no_first : (text : Text) → length text < 1 → (x : Text) → text ≡ 91 ∷ x → ⊥
no_first text short x e = let n = ap length e in omega arith

pub other_first : (c : ℕ) (text : Text) → c ≡ get_or text 0 c → c ≢ 91 → (x : Text) → text ≡ 91 ∷ x → ⊥
other_first c text is ne x e = ne (is ∙ ap (λ t. get_or t 0 c) e)

pub refused_as : (flags : Flags) (text : Text) (depth : ℕ) (e : PatternError) → depth ≤ 250 → IsSpelled flags text depth → Refuses flags text e → e ≡ errors.Memory
refused_as flags text depth (errors.Syntax kind at) small spelled h = absurd (h depth spelled)
refused_as flags text depth errors.LimitPatternNesting small spelled h = absurd (too_far depth small (h depth spelled))
  where
    too_far : (n : ℕ) → n ≤ 250 → 250 < n → ⊥
    too_far n small deep = omega arith
refused_as flags text depth errors.Memory small spelled h = refl

-- ---- the end

pub ended : (flags : Flags) (text rest : Text) (s : State) (names : GroupNames) (r : Result Hir Stop) → rest ≡ [] → HasRead flags text rest s names → Ends r s → IfOk r (λ hir. IsFound flags text (tree_of hir)) × IfErr r (StopsText flags text)
ended flags text rest s names r none read h = from r h (subst (λ x. HasRead flags text x s names) none read)
  where
    from : (r : Result Hir Stop) → Ends r s → HasRead flags text [] s names → IfOk r (λ hir. IsFound flags text (tree_of hir)) × IfErr r (StopsText flags text)
    from (Ok hir) h read = (found flags text s names (tree_of hir) read h.0 h.1 h.2, tt)
    from (Err (stops.Syntax kind left)) h read = (tt, still_open flags text s names read h)
    from (Err stops.LimitPatternNesting) h read = absurd h
    from (Err stops.Memory) h read = (tt, tt)
