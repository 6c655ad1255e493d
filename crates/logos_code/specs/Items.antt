-- The items of a whole input.
use Rattle.std.specs.Prelude.{◌≡◌, ℕ, Bool, List, map, [], ◌∷◌, ◌++◌, Option, Some, None, MatchBool, if◌then◌else◌, slice_get, slice_range, false}
use Rattle.std.specs.Option.{option_map_or}
use Rattle.logos_code.specs.declared.action.Action.{Action}
use Rattle.logos_code.specs.declared.action.Action.TheVariants.{Emit, Skip, Error}
use Rattle.logos_automaton.specs.Munch.{Use, Rule, Found, ended, matched, failed, Finds}

-- An item, its span, and the input at its span.
pub data Item : Type 0 where
  token : (leaf from to : ℕ) (slice : List ℕ) → Item
  error : (leaf : Option ℕ) (from to : ℕ) (slice : List ℕ) → Item

-- A callback, as the relation between a leaf, a slice and the possible actions.
abbrev pub Callback : Type 1
Callback = ℕ → List ℕ → Action → Type 0

-- The relation between a point and the result of a match attempt from there.
abbrev pub Search : Type 1
Search = ℕ → Found → Type 0

-- Uses of the leaves by number, a callback, and the input.
module _ (uses : List Use) (callback : Callback) (bytes : List ℕ) where
  abbrev pub calls_back : ℕ → Bool
  calls_back leaf = option_map_or (λ use_of. use_of.calls_back) (slice_get uses leaf) false

  abbrev pub skips : ℕ → Bool
  skips leaf = option_map_or (λ use_of. use_of.skips) (slice_get uses leaf) false

  -- The possible actions for a match. A leaf without a callback emits.
  abbrev pub MayAnswer : ℕ → List ℕ → Action → Type 0
  MayAnswer leaf slice answer = MatchBool (calls_back leaf) (callback leaf slice answer) (answer ≡ Emit)

  -- The items of a match.
  abbrev pub items_of : Action → ℕ → ℕ → ℕ → List Item
  items_of Emit leaf from to = if skips leaf then [] else token leaf from to (slice_range bytes from to) ∷ []
  items_of Skip leaf from to = []
  items_of Error leaf from to = error (Some leaf) from to (slice_range bytes from to) ∷ []

  -- The items from a point on, where a search determines the result at each point.
  pub data Lexes (search : Search) : ℕ → List Item → Type 0 where
    over : (from : ℕ) → search from ended → Lexes search from []
    match : (from to leaf : ℕ) (answer : Action) (rest : List Item) →
        search from (matched leaf to) → MayAnswer leaf (slice_range bytes from to) answer →
        Lexes search to rest → Lexes search from (items_of answer leaf from to ++ rest)
    fault : (from to : ℕ) (rest : List Item) →
        search from (failed to) → Lexes search to rest →
        Lexes search from (error None from to (slice_range bytes from to) ∷ rest)

  -- The next item from a point on, and the point after it. Matches without an item are skipped.
  pub data NextItem (search : Search) : ℕ → Item → ℕ → Type 0 where
    passes : (from to leaf : ℕ) (answer : Action) (item : Item) (end : ℕ) →
        search from (matched leaf to) → MayAnswer leaf (slice_range bytes from to) answer → items_of answer leaf from to ≡ [] →
        NextItem search to item end → NextItem search from item end
    yields : (from to leaf : ℕ) (answer : Action) (item : Item) →
        search from (matched leaf to) → MayAnswer leaf (slice_range bytes from to) answer → items_of answer leaf from to ≡ item ∷ [] →
        NextItem search from item to
    fails : (from to : ℕ) → search from (failed to) → NextItem search from (error None from to (slice_range bytes from to)) to

-- The items of maximal munch, from a point on.
abbrev pub Items : List Rule → Callback → Bool → List ℕ → ℕ → List Item → Type 0
Items rules callback utf8 bytes = Lexes (map (λ rule. rule.use_of) rules) callback bytes (Finds rules utf8 bytes)

-- The next item of maximal munch from a point on, and the point after it.
abbrev pub IsNext : List Rule → Callback → Bool → List ℕ → ℕ → Item → ℕ → Type 0
IsNext rules callback utf8 bytes = NextItem (map (λ rule. rule.use_of) rules) callback bytes (Finds rules utf8 bytes)
