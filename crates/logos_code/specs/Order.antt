-- The order of items.
use Rattle.std.specs.Prelude.{◌≡◌, ℕ, ◌<◌, ◌≤◌, List, [], ◌∷◌, map, Option, slice_range}
use Rattle.logos_automaton.specs.Munch.{Use, Rule, IsBest}
use Rattle.logos_code.specs.declared.action.Action.{Action}
use Rattle.logos_code.specs.Items.{Callback, Item, token, error, MayAnswer, items_of}

-- The spans are between the point and the end, none is empty, and each starts no earlier than the
-- one before it ends.
abbrev pub AreInOrder : (end : ℕ) → (at : ℕ) → List Item → Type 0
AreInOrder end at [] = at ≤ end
AreInOrder end at (token leaf from to slice ∷ rest) = (at ≤ from) × (from < to) × AreInOrder end to rest
AreInOrder end at (error leaf from to slice ∷ rest) = (at ≤ from) × (from < to) × AreInOrder end to rest

-- The spans of the items from a point on, together with those of the matches without an item
-- between them, partition the input: each begins where the one before it ends, none is empty, and
-- the last one ends at the end of the input.
pub data Parts (IsLeftOut : (from to : ℕ) → Type 0) (end : ℕ) : ℕ → List Item → Type 0 where
  all_parted : Parts IsLeftOut end end []
  token_part : (leaf from to : ℕ) (slice : List ℕ) (rest : List Item) → from < to →
      Parts IsLeftOut end to rest → Parts IsLeftOut end from (token leaf from to slice ∷ rest)
  error_part : (leaf : Option ℕ) (from to : ℕ) (slice : List ℕ) (rest : List Item) → from < to →
      Parts IsLeftOut end to rest → Parts IsLeftOut end from (error leaf from to slice ∷ rest)
  part_left_out : (from to : ℕ) (rest : List Item) → from < to → IsLeftOut from to →
      Parts IsLeftOut end to rest → Parts IsLeftOut end from rest

-- The uses of the leaves of these rules.
abbrev pub uses_of : List Rule → List Use
uses_of rules = map (λ rule. rule.use_of) rules

-- The match at this point has no item: its leaf skips, or the action of its callback does.
pub record IsLeftOut (rules : List Rule) (callback : Callback) (bytes : List ℕ) (from to : ℕ) : Type 0 where
  pub leaf : ℕ
  pub answer : Action
  pub best : IsBest rules bytes from to leaf
  pub answered : MayAnswer (uses_of rules) callback bytes leaf (slice_range bytes from to) answer
  pub no_item : items_of (uses_of rules) callback bytes answer leaf from to ≡ []
