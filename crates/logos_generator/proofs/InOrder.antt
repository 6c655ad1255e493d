-- Items are in order.
use Rattle.std.proofs.Common.{◌≡◌, ℕ, ◌<◌, ◌≤◌, Bool, true, false, List, [], ◌∷◌, ◌++◌, length, map, Some, None, slice_range, if◌then◌else◌, refl, arith}
use Rattle.std.proofs.lemmas.List.{length-drop}
use Rattle.std.proofs.lemmas.Str.{IsCharBoundary-end}
use Rattle.logos_automaton.specs.Munch.{Use, Rule, IsBest, IsStop}
use Rattle.logos_automaton.proofs.munch.Unique.{rule_within}
use Rattle.logos_code.specs.declared.action.Action.{Action}
use Rattle.logos_code.specs.declared.action.Action.TheVariants.{Emit, Skip, Error}
use Rattle.logos_code.specs.Items.{Callback, Item, token, error, skips, MayAnswer, items_of, over, match, fault, Items}
use Rattle.logos_code.specs.Order.{AreInOrder, Parts, all_parted, token_part, error_part, part_left_out, uses_of, IsLeftOut}

-- items that are in order from an offset on are in order from an earlier one on
pub in_order_earlier : (end at before : ℕ) (items : List Item) → before ≤ at → AreInOrder end at items → AreInOrder end before items
in_order_earlier end at before [] l o = omega (arith, l, o)
in_order_earlier end at before (token leaf from to slice ∷ rest) l o = (omega (arith, l, o.0), o.1, o.2)
in_order_earlier end at before (error leaf from to slice ∷ rest) l o = (omega (arith, l, o.0), o.1, o.2)

-- a match ends in the input
pub best_within : (rules : List Rule) (bytes : List ℕ) (from to leaf : ℕ) → from ≤ length bytes → IsBest rules bytes from to leaf → to ≤ length bytes
best_within rules bytes from to leaf inside best = rule_within rules leaf bytes from to best.matches inside

-- an error ends in the input
pub stop_within : (rules : List Rule) (utf8 : Bool) (bytes : List ℕ) (from to : ℕ) → from < length bytes → IsStop rules utf8 bytes from to → to ≤ length bytes
stop_within rules utf8 bytes from to inside stop = stop.least (length bytes) record {
  nonempty = inside;
  covers = λ n h g. let e = length-drop from bytes in omega (arith, e, h);
  boundary = λ t. IsCharBoundary-end bytes;
}

module _ (uses : List Use) (callback : Callback) (bytes : List ℕ) (end from to leaf : ℕ) (rest : List Item) (ahead : from < to) (after : AreInOrder end to rest) where
  emitted : (skips : Bool) → AreInOrder end from ((if skips then [] else token leaf from to (slice_range bytes from to) ∷ []) ++ rest)
  emitted true = in_order_earlier end to from rest (omega arith) after
  emitted false = (omega arith, ahead, after)

  match_in_order : (answer : Action) → AreInOrder end from (items_of uses callback bytes answer leaf from to ++ rest)
  match_in_order Emit = emitted _
  match_in_order Skip = in_order_earlier end to from rest (omega arith) after
  match_in_order Error = (omega arith, ahead, after)

module _ (rules : List Rule) (callback : Callback) (utf8 : Bool) (bytes : List ℕ) where
  pub in_order : {from : ℕ} {items : List Item} → from ≤ length bytes → Items rules callback utf8 bytes from items → AreInOrder (length bytes) from items
  in_order inside (over from s) = inside
  in_order inside (match from to leaf answer rest s a l) =
      match_in_order (map (λ rule. rule.use_of) rules) callback bytes (length bytes) from to leaf rest s.nonempty
      (in_order (best_within rules bytes from to leaf inside s) l) answer
  in_order inside (fault from to rest s l) =
      (omega arith, s.2.may_stop.nonempty, in_order (stop_within rules utf8 bytes from to s.0 s.2) l)

-- the result at each offset parts the input
module _ (rules : List Rule) (callback : Callback) (utf8 : Bool) (bytes : List ℕ) where
  abbrev PartsHere : ℕ → List Item → Type 0
  PartsHere = Parts (IsLeftOut rules callback bytes) (length bytes)

  -- a match with these items
  module _ (from to leaf : ℕ) (rest : List Item) (best : IsBest rules bytes from to leaf) (after : PartsHere to rest) where
    emitted_parts : MayAnswer (uses_of rules) callback bytes leaf (slice_range bytes from to) Emit → (b : Bool) → skips (uses_of rules) callback bytes leaf ≡ b →
        PartsHere from ((if b then [] else token leaf from to (slice_range bytes from to) ∷ []) ++ rest)
    emitted_parts may true is =
        part_left_out from to rest best.nonempty (record { leaf = leaf; answer = Emit; best = best; answered = may; no_item = rw is refl }) after
    emitted_parts may false is = token_part leaf from to (slice_range bytes from to) rest best.nonempty after

    match_parts : (answer : Action) → MayAnswer (uses_of rules) callback bytes leaf (slice_range bytes from to) answer →
        PartsHere from (items_of (uses_of rules) callback bytes answer leaf from to ++ rest)
    match_parts Emit may = emitted_parts may (skips (uses_of rules) callback bytes leaf) refl
    match_parts Skip may = part_left_out from to rest best.nonempty (record { leaf = leaf; answer = Skip; best = best; answered = may; no_item = refl }) after
    match_parts Error may = error_part (Some leaf) from to (slice_range bytes from to) rest best.nonempty after

  pub parted : {from : ℕ} {items : List Item} → from ≤ length bytes → Items rules callback utf8 bytes from items → PartsHere from items
  parted inside (over from s) =
      let here : from ≡ length bytes = omega (arith, inside, s) in
      rw here all_parted
  parted inside (match from to leaf answer rest s a l) =
      match_parts from to leaf rest s (parted (best_within rules bytes from to leaf inside s) l) answer a
  parted inside (fault from to rest s l) =
      error_part None from to (slice_range bytes from to) rest s.2.may_stop.nonempty (parted (stop_within rules utf8 bytes from to s.0 s.2) l)
