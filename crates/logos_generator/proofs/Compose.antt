-- The layers compose by their public clauses alone.
use Rattle.std.proofs.Common.{◌≡◌, ◌↔◌, ℕ, Bool, List, [], ◌∷◌, map, refl, ap, ◌∙◌}
use Rattle.logos_pattern.specs.declared.leaf.Leaf.{Leaf}
use Rattle.logos_graph.specs.View.{GraphValue, rule_of, rules_of}
use Rattle.logos_automaton.specs.Munch.{Use, Rule, IsInput, Found, ended, matched, failed, Finds}
use Rattle.logos_code.specs.Code.{CodeValue}
use Rattle.logos_code.specs.Runs.{CodeFinds, Runs, RunsOn}
use Rattle.logos_code.specs.Items.{Callback, Search, Item, Items, IsNext, Lexes, over, match, fault, NextItem, passes, yields, fails}
use Rattle.logos_graph.specs.Graph.{GraphState}
use Rattle.logos_graph.specs.Found.{FindsTheLongest}
use Rattle.logos_code.specs.Headline.{IsLexer}
use Rattle.logos_generator.specs.Runs.{RunsAs}

-- from the graph's and the generator's contracts to the headline
pub is_lexer : (rules : List Rule) (utf8 : Bool) (graph : List GraphState) (code : CodeValue) →
    FindsTheLongest rules utf8 graph → RunsAs graph utf8 code → code.utf8 ≡ utf8 → code.leaves ≡ map (λ rule. rule.use_of) rules →
    IsLexer rules utf8 code
is_lexer rules utf8 graph code longest runs mode uses = record {
  mode = mode;
  uses = uses;
  finds = λ bytes from found input. (
    λ f. (longest bytes from found input).0 ((runs.same bytes from found input.0).0 f),
    λ f. (runs.same bytes from found input.0).1 ((longest bytes from found input).1 f),
  );
  steps = runs.steps;
}

uses_of_rules : (leaves : List Leaf) → map (λ leaf. (rule_of leaf).use_of) leaves ≡ map (λ rule. rule.use_of) (rules_of leaves)
uses_of_rules [] = refl
uses_of_rules (leaf ∷ leaves) = ap (λ uses. (rule_of leaf).use_of ∷ uses) (uses_of_rules leaves)

-- the lemma above for a graph with its leaves
pub is_lexer_of : (graph : GraphValue) (code : CodeValue) →
    FindsTheLongest (rules_of graph.leaves) graph.utf8 graph.states → RunsAs graph.states graph.utf8 code → code.utf8 ≡ graph.utf8 →
    code.leaves ≡ map (λ leaf. (rule_of leaf).use_of) graph.leaves → IsLexer (rules_of graph.leaves) graph.utf8 code
is_lexer_of graph code longest runs mode uses = is_lexer (rules_of graph.leaves) graph.utf8 graph.states code longest runs mode (uses ∙ uses_of_rules graph.leaves)

-- the same items, if a search finds no more
pub lexes_by : (uses : List Use) (callback : Callback) (bytes : List ℕ) (search other : Search) →
    ((from : ℕ) (found : Found) → search from found → other from found) →
    {from : ℕ} {items : List Item} → Lexes uses callback bytes search from items → Lexes uses callback bytes other from items
lexes_by uses callback bytes search other h (over from s) = over from (h from ended s)
lexes_by uses callback bytes search other h (match from to leaf answer rest s a l) =
    match from to leaf answer rest (h from (matched leaf to) s) a (lexes_by uses callback bytes search other h l)
lexes_by uses callback bytes search other h (fault from to rest s l) =
    fault from to rest (h from (failed to) s) (lexes_by uses callback bytes search other h l)

-- each run of such a code is a list of items of maximal munch, and each such list of items is a run
-- of it
pub runs_iff : (rules : List Rule) (utf8 : Bool) (code : CodeValue) (callback : Callback) (bytes : List ℕ) (from : ℕ) (items : List Item) →
    IsLexer rules utf8 code → IsInput utf8 bytes →
    Runs code callback bytes from items ↔ Items rules callback utf8 bytes from items
runs_iff rules utf8 code callback bytes from items lexer input = (there, back)
  where
    uses : code.leaves ≡ map (λ rule. rule.use_of) rules
    uses = lexer.uses

    there : Runs code callback bytes from items → Items rules callback utf8 bytes from items
    there r = rw (← uses) (lexes_by code.leaves callback bytes (CodeFinds code bytes) (Finds rules utf8 bytes) (λ at found f. (lexer.finds bytes at found input).0 f) r)

    back : Items rules callback utf8 bytes from items → Runs code callback bytes from items
    back r = lexes_by code.leaves callback bytes (Finds rules utf8 bytes) (CodeFinds code bytes) (λ at found f. (lexer.finds bytes at found input).1 f) (rw uses r)

next_by : (uses : List Use) (callback : Callback) (bytes : List ℕ) (search other : Search) → ((from : ℕ) (found : Found) → search from found → other from found) →
    {from : ℕ} {item : Item} {end : ℕ} → NextItem uses callback bytes search from item end → NextItem uses callback bytes other from item end
next_by uses callback bytes search other h (passes from to leaf answer item end s a e l) =
    passes from to leaf answer item end (h from (matched leaf to) s) a e (next_by uses callback bytes search other h l)
next_by uses callback bytes search other h (yields from to leaf answer item s a e) = yields from to leaf answer item (h from (matched leaf to) s) a e
next_by uses callback bytes search other h (fails from to s) = fails from to (h from (failed to) s)

-- the next item of a run is the next one of maximal munch
pub next_iff : (rules : List Rule) (utf8 : Bool) (code : CodeValue) (callback : Callback) (bytes : List ℕ) (from : ℕ) (item : Item) (end : ℕ) →
    IsLexer rules utf8 code → IsInput utf8 bytes → RunsOn code callback bytes from item end ↔ IsNext rules callback utf8 bytes from item end
next_iff rules utf8 code callback bytes from item end lexer input = (there, back)
  where
    uses : code.leaves ≡ map (λ rule. rule.use_of) rules
    uses = lexer.uses

    there : RunsOn code callback bytes from item end → IsNext rules callback utf8 bytes from item end
    there r = rw (← uses) (next_by code.leaves callback bytes (CodeFinds code bytes) (Finds rules utf8 bytes) (λ at found f. (lexer.finds bytes at found input).0 f) r)

    back : IsNext rules callback utf8 bytes from item end → RunsOn code callback bytes from item end
    back r = next_by code.leaves callback bytes (Finds rules utf8 bytes) (CodeFinds code bytes) (λ at found f. (lexer.finds bytes at found input).1 f) (rw uses r)
