-- The longest match of each leaf.
use Rattle.std.proofs.Common.{◌≡◌, ◌<◌, ◌≤◌, ◌+◌, ◌++◌, ◌==◌, ℕ, suc, Option, Some, None, List, [], ◌∷◌, if◌then◌else◌, length, get_or, drop, sym, ap, ◌∙◌, refl, subst, arith}
use Rattle.std.proofs.lemmas.List.{at_drop_more, at_drop_all}
use Rattle.logos_evidence.specs.declared.matches.Match.{Match}
use Rattle.logos_evidence.specs.Matching.{AreMatches}
use Rattle.logos_graph.specs.View.{rules_of}
use Rattle.logos_pattern.specs.declared.leaf.Leaf.{Leaf}
use Rattle.logos_page.specs.Pages.{Gains, PageValue}
use Rattle.logos_page.proofs.PageLemmas.{gains_then}
use Rattle.logos_answers.specs.Matches.{IsVerdict, ShowsMatches, last_of, lines_of, longest_from}

-- one match more
pub last_more : (matches : List Match) (k : ℕ) (leaf : ℕ) (d : Match) (before after : Option Match) → k < length matches →
    after ≡ (if (get_or matches k d).leaf == leaf then Some (get_or matches k d) else before) → last_of leaf after (drop (k + 1) matches) ≡ last_of leaf before (drop k matches)
last_more matches k leaf d before after l is =
    ap (λ x. last_of leaf x (drop (k + 1) matches)) is
    ∙ sym (at_drop_more (last_of leaf before) matches k d l)

-- no match is left
pub last_none : (matches : List Match) (k : ℕ) (leaf : ℕ) (found : Option Match) → length matches ≤ k → last_of leaf found (drop k matches) ≡ found
last_none matches k leaf found l = at_drop_all (last_of leaf found) matches k l

pub longest_is : (matches : List Match) (longest : List (Option Match)) (from : ℕ) → ((k : ℕ) → k < length longest → get_or longest k None ≡ last_of (from + k) None matches) →
    longest ≡ longest_from matches from (length longest)
longest_is matches [] from h = refl
longest_is matches (x ∷ xs) from h =
    let here : from + 0 ≡ from = omega arith in
    let first : x ≡ last_of from None matches = subst (λ n. x ≡ last_of n None matches) here (h 0 (omega arith)) in
    let rest = longest_is matches xs (suc from) (later h) in
    ap (λ y. y ∷ xs) first ∙ ap (λ ys. last_of from None matches ∷ ys) rest
  where
    later : ((k : ℕ) → k < length (x ∷ xs) → get_or (x ∷ xs) k None ≡ last_of (from + k) None matches) → (k : ℕ) → k < length xs → get_or xs k None ≡ last_of (suc from + k) None matches
    later h k l =
        let on : from + suc k ≡ suc from + k = omega arith in
        subst (λ n. get_or xs k None ≡ last_of n None matches) on (h (suc k) (omega (arith, l)))

-- the lines of all leaves and the verdict, by other names of the lists that they are about
pub matches_shown : (leaves given : List Leaf) (input : List ℕ) (from : ℕ) (matches listed judged : List Match) (longest lined : List (Option Match)) (old middle new : PageValue) →
    given ≡ leaves → listed ≡ matches → judged ≡ matches → lined ≡ longest → AreMatches (rules_of leaves) input from matches → longest ≡ longest_from listed 0 (length given) →
    Gains (lines_of given input from lined) old middle → ((text : List ℕ) × IsVerdict given judged text × Gains text middle new) → ShowsMatches leaves input from old new
matches_shown leaves given input from matches listed judged longest lined old middle new same_leaves same_matches same_judged same_longest all is lines verdict =
    let best : lined ≡ longest_from matches 0 (length leaves) = same_longest ∙ is ∙ ap (λ ms. longest_from ms 0 (length given)) same_matches ∙ ap (λ (ls : List Leaf). longest_from matches 0 (length ls)) same_leaves in
    let shown : Gains (lines_of leaves input from (longest_from matches 0 (length leaves))) old middle =
    subst (λ found. Gains (lines_of leaves input from found) old middle) best (subst (λ ls. Gains (lines_of ls input from lined) old middle) same_leaves lines) in
    let decided : IsVerdict leaves matches verdict.0 = subst (λ ms. IsVerdict leaves ms verdict.0) same_judged (subst (λ ls. IsVerdict ls judged verdict.0) same_leaves verdict.1) in
    record {
      matches = matches;
      all = all;
      text = lines_of leaves input from (longest_from matches 0 (length leaves)) ++ verdict.0;
      lines = record { verdict = verdict.0; decided = decided; is = refl };
      gained = gains_then shown verdict.2;
    }
