-- The objects of matches.
use Rattle.std.proofs.Common.{◌≡◌, ◌⊎◌, ℕ, List, [], Option, length, inl, inr, ap, ◌∙◌, subst}
use Rattle.std.specs.List.{flat_map}
use Rattle.logos_answers.specs.Matches.{longest_from}
use Rattle.logos_evidence.specs.declared.matches.Match.{Match}
use Rattle.logos_evidence.specs.Matching.{AreMatches, IsWinner}
use Rattle.logos_graph.specs.View.{rules_of}
use Rattle.logos_json.proofs.LineLemmas.{put_text}
use Rattle.logos_json.specs.Lines.{AreLines, Finishes, LinesValue, Puts}
use Rattle.logos_pattern.specs.declared.leaf.Leaf.{Leaf}
use Rattle.logos_records.specs.Matches.{AreMatchRecords, PutsMatches, match_lines}

-- The objects of all matches, by other names of the lists that they are about.
pub matches_put : (leaves given counted : List Leaf) (input : List ℕ) (from : ℕ) (matches listed judged : List Match) (longest lined : List (Option Match)) (best : Match) {old new : LinesValue} →
    given ≡ leaves → counted ≡ leaves → listed ≡ matches → judged ≡ matches → lined ≡ longest → AreMatches (rules_of leaves) input from matches → longest ≡ longest_from listed 0 (length counted) →
    IsWinner judged best → Puts (flat_map (match_lines given input from best.leaf) lined) old new → PutsMatches leaves input from old new
matches_put leaves given counted input from matches listed judged longest lined best {old} {new} same_leaves same_count same_matches same_judged same_longest all is wins put =
    let which : lined ≡ longest_from matches 0 (length leaves) =
    same_longest ∙ is ∙ ap (λ ms. longest_from ms 0 (length counted)) same_matches ∙ ap (λ (ls : List Leaf). longest_from matches 0 (length ls)) same_count in
    let shown : Puts (flat_map (match_lines leaves input from best.leaf) (longest_from matches 0 (length leaves))) old new =
    subst (λ found. Puts (flat_map (match_lines leaves input from best.leaf) found) old new) which (subst (λ ls. Puts (flat_map (match_lines ls input from best.leaf) lined) old new) same_leaves put) in
    record { matches = matches; all = all; put = inr (best, subst (λ ms. IsWinner ms best) same_judged wins, shown) }

-- The bytes of these objects.
pub matches_written : (leaves : List Leaf) (input : List ℕ) (from : ℕ) (first last : LinesValue) (bytes : List ℕ) → first.before ≡ [] → first.tokens ≡ [] → PutsMatches leaves input from first last → Finishes last bytes →
    AreMatchRecords leaves input from bytes
matches_written leaves input from first last bytes e t puts finishes = record { matches = puts.matches; all = puts.all; lines = go puts.put }
  where
    go : ((puts.matches ≡ []) × (last ≡ first)) ⊎ ((m : Match) × IsWinner puts.matches m × Puts (flat_map (match_lines leaves input from m.leaf) (longest_from puts.matches 0 (length leaves))) first last) →
        ((puts.matches ≡ []) × (bytes ≡ [])) ⊎ ((m : Match) × IsWinner puts.matches m × AreLines (flat_map (match_lines leaves input from m.leaf) (longest_from puts.matches 0 (length leaves))) bytes)
    go (inl none) = inl (none.0, finishes.is (ap (λ v. v.tokens) none.1 ∙ t) ∙ ap (λ v. v.before) none.1 ∙ e)
    go (inr one) = inr (one.0, one.1, put_text (flat_map (match_lines leaves input from one.0.leaf) (longest_from puts.matches 0 (length leaves))) first last bytes e t one.2 finishes)
