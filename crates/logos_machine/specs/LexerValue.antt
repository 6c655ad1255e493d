-- The views of a lexer in contracts.
use Rattle.std.specs.Prelude.{◌≡◌, ℕ, ◌+◌, ◌-◌, ◌<◌, ◌≤◌, Bool, false, List, [], ◌∷◌, length, map, slice_get, slice_range, Option, option_map, IsTrue}
use Rattle.std.specs.Option.{option_map_or, option_to_list}
use denote.Param.Members.{Shared}
use denote.Ref.{Bor}
use Rattle.logos_code.specs.Code.{CodeValue}
use Rattle.logos_code.specs.CodeView.{calls_back_for}
use Rattle.logos_automaton.specs.Munch.{Found, Rule, Use}
use Rattle.logos_code.specs.Items.{Callback, Item, token, error, MayAnswer, items_of}
use Rattle.logos_code.specs.Runs.{Runs, RunsOn, Attempts}
use Rattle.logos_code.specs.declared.action.Action.{Action}
use Rattle.logos_hir.specs.declared.leaf.LeafId.{LeafId}
use Rattle.logos_machine.specs.declared.machine.Item.{Item as TheItem}
use Rattle.logos_machine.specs.declared.machine.Item.TheVariants.{Token, Error}

-- A lexer: its code, its input, its callback, the span of its last item, and the number of states
-- that its last attempt entered.
pub record LexerValue (C : Type 0) : Type 0 where
  pub code : CodeValue
  pub input : List ℕ
  pub callback : C
  pub from : ℕ
  pub to : ℕ
  pub steps : ℕ

-- A lexer before its first item.
abbrev pub begun : {C : Type 0} → CodeValue → List ℕ → C → LexerValue C
begun code input callback = record { code = code; input = input; callback = callback; from = 0; to = 0; steps = 0 }

-- The possible actions of the closure for a leaf and a slice.
abbrev pub answers_of : {C : Type 0} → Shared C (LeafId × (Bor (List ℕ) × Unit {0})) Action → C → Callback
answers_of g f leaf slice answer = (shown : Bor (List ℕ)) × (shown.now ≡ slice) × g.post f (record { 0 = leaf }, (shown, tt)) answer

-- The leaf has a callback, according to the uses of all leaves.
abbrev pub has_callback : List Use → ℕ → Bool
has_callback uses leaf = option_map_or (λ use_of. use_of.calls_back) (slice_get uses leaf) false

-- The closure can be called with a leaf and a slice.
abbrev pub Takes : {C : Type 0} → Shared C (LeafId × (Bor (List ℕ) × Unit {0})) Action → C → LeafId → List ℕ → Type 0
Takes g f leaf slice = (shown : Bor (List ℕ)) → shown.now ≡ slice → g.pre f (leaf, (shown, tt))

-- The closure can be called with each leaf of the code that has a callback, and with each slice.
abbrev pub TakesMatches : {C : Type 0} → Shared C (LeafId × (Bor (List ℕ) × Unit {0})) Action → CodeValue → C → Type 0
TakesMatches g code f = (leaf : LeafId) (slice : List ℕ) → IsTrue (calls_back_for code leaf.0) → Takes g f leaf slice

-- The closure can be called with each leaf that has a callback, according to the rules, and with
-- each slice.
abbrev pub TakesMatchesOf : {C : Type 0} → Shared C (LeafId × (Bor (List ℕ) × Unit {0})) Action → List Rule → C → Type 0
TakesMatchesOf g rules f = (leaf : LeafId) (slice : List ℕ) → IsTrue (has_callback (map (λ rule. rule.use_of) rules) leaf.0) → Takes g f leaf slice

-- A span of the input.
abbrev pub HasSpan : {C : Type 0} → LexerValue C → Item → Type 0
HasSpan lexer (token leaf from to slice) = (lexer.from ≡ from) × (lexer.to ≡ to)
HasSpan lexer (error leaf from to slice) = (lexer.from ≡ from) × (lexer.to ≡ to)

-- An item in the definitions.
abbrev pub item_of : TheItem → Item
item_of (Token leaf span slice) = token leaf.0 span.from span.to slice.now
item_of (Error leaf span slice) = error (option_map (λ l. l.0) leaf) span.from span.to slice.now

-- The contract of a call of `next` that returns an item: it is the next item of the run, and the
-- lexer is after it.
pub record Yields {C : Type 0} (callback : Callback) (old new : LexerValue C) (item : Item) : Type 0 where
  pub span : HasSpan new item
  -- The item is after the last one, is not empty, and ends within the input.
  pub after : old.to ≤ new.from
  pub nonempty : new.from < new.to
  pub within : new.to ≤ length new.input
  -- It is the next item from the old point on, regardless of the bytes after it.
  pub is : RunsOn old.code callback old.input old.to item new.to
  pub next : (rest : List Item) → Runs new.code callback new.input new.to rest → Runs old.code callback old.input old.to (item ∷ rest)

-- The contract of a call of `next` at the end of the input, where the lexer remains.
pub record Ends {C : Type 0} (callback : Callback) (old new : LexerValue C) : Type 0 where
  pub from : new.from ≡ length new.input
  pub to : new.to ≡ length new.input
  pub over : Runs old.code callback old.input old.to []

-- Code, input and callback are unchanged. `steps` is the number of states that the last attempt
-- entered, which is at most two more than the number of bytes from the span's start on.
pub record Keeps {C : Type 0} (old new : LexerValue C) : Type 0 where
  pub code : new.code ≡ old.code
  pub input : new.input ≡ old.input
  pub callback : new.callback ≡ old.callback
  pub steps : (found : Found) × Attempts new.code new.input new.from found new.steps
  pub few : new.steps ≤ (length new.input - new.from) + 2

-- The result of a match: an item, if the action yields one.
pub record MatchYields (code : CodeValue) (callback : Callback) (bytes : List ℕ) (leaf from to : ℕ) (item : Option Item) : Type 0 where
  pub answer : Action
  pub may : MayAnswer code.leaves callback bytes leaf (slice_range bytes from to) answer
  pub is : items_of code.leaves callback bytes answer leaf from to ≡ option_to_list item
