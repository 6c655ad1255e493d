-- The matches from an offset are those of the bytes on which they depend.
use Rattle.std.proofs.Common.{◌≡◌, ◌≤◌, ◌<◌, ◌+◌, ◌⊎◌, inl, inr, ℕ, List, [], ◌∷◌, ◌++◌, Contains, Option, Some, IsTrue, length, take, drop, sym, ap, ◌∙◌, subst, arith}
use Rattle.std.proofs.Math.Seq.{take-length}
use Rattle.std.proofs.lemmas.List.{drop-take, length-take-le, take-append-drop}
use Rattle.std.proofs.lemmas.List.Elements.{All-take}
use Rattle.logos_answers.specs.Matches.{ShowsMatches}
use Rattle.logos_attempts.specs.Partials.{IsPartialText}
use Rattle.logos_automaton.proofs.munch.Outside.{rule_inside}
use Rattle.logos_automaton.specs.Automaton.{Automaton, ReadsOneByteLate, dfa_after, dfa_next}
use Rattle.logos_automaton.specs.Faults.{AllStart}
use Rattle.logos_automaton.specs.Munch.{Rule, priority_of}
use Rattle.logos_code.specs.Code.{CodeValue}
use Rattle.logos_evidence.proofs.InputLemmas.{bytes_on}
use Rattle.logos_evidence.proofs.MatchingLemmas.{matches_are}
use Rattle.logos_evidence.specs.Matching.{AreMatches}
use Rattle.logos_evidence.specs.declared.matches.Match.{Match}
use Rattle.logos_evidence.specs.inside.Listed.{listed, matches_at, matches_in}
use Rattle.logos_graph.specs.GraphOf.{IsGraphOf}
use Rattle.logos_graph.specs.View.{GraphValue, rules_of}
use Rattle.logos_hir.specs.Text.{IsBytes}
use Rattle.logos_page.proofs.PageLemmas.{gains_then}
use Rattle.logos_page.specs.Pages.{Gains, PageValue}
use Rattle.logos_html.specs.Descriptions.{IsDescription}
use Rattle.logos_html.specs.inside.Enough.{EndsDead, IsDead, IsEnough}

module _ (dfa : Automaton) (p : ℕ → ℕ) where
  -- a dead state has no matches
  nothing : (s end : ℕ) → IsDead dfa s → matches_at dfa p end (Some s) ≡ []
  nothing s end dead = ap (matches_in dfa p end) dead.lists

  dead_lists : (s end : ℕ) (rest : List ℕ) → IsDead dfa s → IsBytes rest → listed dfa p end (Some s) rest ≡ []
  dead_lists s end [] dead are = ap (matches_at dfa p end) dead.at_end ∙ nothing s end dead
  dead_lists s end (b ∷ rest) dead are =
      let step : dfa_next dfa (Some s) b ≡ Some s = dead.next b (are 0 0 (omega arith)) in
      ap (λ (o : Option ℕ). matches_at dfa p end o ++ listed dfa p (end + 1) o rest) step ∙ ap (λ (ms : List Match). ms ++ listed dfa p (end + 1) (Some s) rest) (nothing s end dead) ∙
      dead_lists s (end + 1) rest dead (bytes_on (b ∷ rest) 1 are)

  -- bytes after those that lead there change nothing
  lists_no_more : (s end : ℕ) (o : Option ℕ) (w rest : List ℕ) → IsDead dfa s → dfa_after dfa o w ≡ Some s → IsBytes rest → listed dfa p end o w ≡ listed dfa p end o (w ++ rest)
  lists_no_more s end o [] rest dead e are =
      let none : IsBytes [] = λ k d l. absurd (omega (arith, l)) in
      ap (λ (x : Option ℕ). listed dfa p end x []) e ∙ dead_lists s end [] dead none ∙ sym (dead_lists s end rest dead are) ∙ ap (λ (x : Option ℕ). listed dfa p end x rest) (sym e)
  lists_no_more s end o (b ∷ w) rest dead e are =
      ap (λ (ms : List Match). matches_at dfa p end (dfa_next dfa o b) ++ ms) (lists_no_more s (end + 1) (dfa_next dfa o b) w rest dead e are)

  enough_lists : (end count : ℕ) (rest : List ℕ) → IsEnough dfa rest count → IsBytes rest → listed dfa p end (Some dfa.start) (take count rest) ≡ listed dfa p end (Some dfa.start) rest
  enough_lists end count rest enough are = go enough.decides
    where
      go : (count ≡ length rest) ⊎ EndsDead dfa (take count rest) → listed dfa p end (Some dfa.start) (take count rest) ≡ listed dfa p end (Some dfa.start) rest
      go (inl e) = ap (λ (n : ℕ). listed dfa p end (Some dfa.start) (take n rest)) e ∙ ap (listed dfa p end (Some dfa.start)) (take-length rest)
      go (inr ends) = lists_no_more ends.state end (Some dfa.start) (take count rest) (drop count rest) ends.dead ends.after (bytes_on rest count are) ∙
          ap (listed dfa p end (Some dfa.start)) (take-append-drop count rest)

module _ (rules : List Rule) (dfa : Automaton) (late : ReadsOneByteLate rules dfa) (starts : AllStart rules) (bytes : List ℕ) (are : IsBytes bytes) (from count : ℕ) where
  -- the matches in a prefix that has enough bytes are all matches
  pub all_matches : from + count ≤ length bytes → IsEnough dfa (drop from bytes) count → (ms : List Match) → AreMatches rules (take (from + count) bytes) from ms → AreMatches rules bytes from ms
  all_matches within enough ms in_window =
      let size : length (take (from + count) bytes) ≡ from + count = length-take-le (from + count) bytes within in
      let p = priority_of rules in
      let same : listed dfa p from (Some dfa.start) (drop from (take (from + count) bytes)) ≡ listed dfa p from (Some dfa.start) (drop from bytes) =
      ap (listed dfa p from (Some dfa.start)) (drop-take from count bytes) ∙ enough_lists dfa p from count (drop from bytes) enough (bytes_on bytes from are) in
      let a = matches_are rules dfa late starts from (take (from + count) bytes) (omega (arith, size)) (All-take (λ b. b < 256) (from + count) bytes are) in
      let b = matches_are rules dfa late starts from bytes (omega (arith, within)) are in
      record {
        in_order = in_window.in_order;
        exactly = λ m. (
          λ c. (b.exactly m).0 (subst (λ (xs : List Match). Contains xs m) same ((a.exactly m).1 ((in_window.exactly m).0 c))),
          λ i. (in_window.exactly m).1 ((a.exactly m).0 (subst (λ (xs : List Match). Contains xs m) (sym same) ((b.exactly m).1 i))),
        );
      }

  -- and they end in it
  pub all_end : from + count ≤ length bytes → (ms : List Match) → AreMatches rules (take (from + count) bytes) from ms → (m : Match) → Contains ms m → m.end ≤ from + count
  all_end within ms in_window m c =
      let size : length (take (from + count) bytes) ≡ from + count = length-take-le (from + count) bytes within in
      let inside = rule_inside rules m.leaf (take (from + count) bytes) from m.end starts.1 ((in_window.exactly m).0 c).matches in
      omega (arith, size, inside.1)

-- lines about an offset of such a prefix
pub described : (graph : GraphValue) (code : CodeValue) (bytes prefix : List ℕ) (from count : ℕ) → from + count ≤ length bytes → prefix ≡ take (from + count) bytes → (empty lines last : PageValue) → empty.text ≡ [] →
    (IsGraphOf graph.leaves graph.utf8 graph → AllStart (rules_of graph.leaves) → IsBytes prefix → ShowsMatches graph.leaves prefix from empty lines) →
    ((text : List ℕ) × IsPartialText graph.leaves prefix from code text × Gains text lines last) → IsTrue last.is_whole → (text : List ℕ) → text ≡ last.text →
    IsGraphOf graph.leaves graph.utf8 graph → AllStart (rules_of graph.leaves) → IsBytes bytes → IsEnough graph.automaton (drop from bytes) count → IsDescription graph.leaves code bytes from text
described graph code bytes prefix from count within front empty lines last none shows reads whole text is of_leaves starts are enough =
    let rules = rules_of graph.leaves in
    let late = of_leaves.late starts in
    let found = rw front at (shows of_leaves starts (subst IsBytes (sym front) (All-take (λ b. b < 256) (from + count) bytes are))) in
    let gained = gains_then found.gained reads.2 in
    record {
      matches = found.matches;
      all = all_matches rules graph.automaton late starts bytes are from count within enough found.matches found.all;
      end = from + count;
      covers = all_end rules graph.automaton late starts bytes are from count within found.matches found.all;
      lines = found.text;
      are = found.lines;
      partial = reads.0;
      reads = subst (λ (xs : List ℕ). IsPartialText graph.leaves xs from code reads.0) front reads.1;
      is = is ∙ (gained.whole whole).1 ∙ ap (λ (xs : List ℕ). xs ++ (found.text ++ reads.0)) none;
    }
