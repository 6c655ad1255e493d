-- An input has one list of items, if each match has one action.
use Rattle.std.proofs.Common.{◌≡◌, ℕ, ◌≤◌, Bool, true, false, List, ◌∷◌, ◌++◌, length, map, MatchBool, None, slice_range, refl, sym, ◌∙◌, ap}
use Rattle.logos_automaton.specs.Munch.{Use, Rule, ended, matched, failed, Finds}
use Rattle.logos_automaton.proofs.munch.Unique.{finds_one}
use Rattle.logos_code.specs.declared.action.Action.{Action}
use Rattle.logos_code.specs.declared.action.Action.TheVariants.{Emit}
use Rattle.logos_code.specs.Items.{Callback, Item, error, calls_back, MayAnswer, items_of, over, match, fault, Items}
use Rattle.logos_code.specs.Order.{uses_of}
use Rattle.logos_generator.specs.Laws.{AnswersOnce}
use Rattle.logos_generator.proofs.InOrder.{best_within, stop_within}

module _ (rules : List Rule) (callback : Callback) (once : AnswersOnce callback) (utf8 : Bool) (text : List ℕ) where
  -- a match has one answer
  one_answer : (leaf : ℕ) (slice : List ℕ) (answer reply : Action) → MayAnswer (uses_of rules) callback text leaf slice answer →
      MayAnswer (uses_of rules) callback text leaf slice reply → answer ≡ reply
  one_answer leaf slice answer reply m n = go (calls_back (uses_of rules) callback text leaf) m n
    where
      go : (b : Bool) → MatchBool b (callback leaf slice answer) (answer ≡ Emit) → MatchBool b (callback leaf slice reply) (reply ≡ Emit) → answer ≡ reply
      go true m n = once leaf slice answer reply m n
      go false m n = m ∙ sym n

  -- equal matches have equal items
  same_items : (from leaf to other end : ℕ) (answer reply : Action) → leaf ≡ other → to ≡ end →
      MayAnswer (uses_of rules) callback text leaf (slice_range text from to) answer → MayAnswer (uses_of rules) callback text other (slice_range text from end) reply →
      items_of (uses_of rules) callback text answer leaf from to ≡ items_of (uses_of rules) callback text reply other from end
  same_items from leaf to other end answer reply l t m n =
      let n' : MayAnswer (uses_of rules) callback text leaf (slice_range text from to) reply = rw (l, t) n in
      let a = one_answer leaf (slice_range text from to) answer reply m n' in
      rw (a, l, t) refl

  one_end : (from leaf to other end : ℕ) → from ≤ length text → Finds rules utf8 text from (matched leaf to) → Finds rules utf8 text from (matched other end) → matched leaf to ≡ matched other end
  one_end from leaf to other end inside s t = finds_one rules utf8 text from inside (matched leaf to) (matched other end) s t

  -- an offset has one list of items
  pub items_once : {at : ℕ} {items others : List Item} → at ≤ length text → Items rules callback utf8 text at items → Items rules callback utf8 text at others → items ≡ others
  items_once inside (over from s) (over row_start t) = refl
  items_once inside (over from s) (match row_start to leaf answer rest t m l) = absurd (let f : ended ≡ matched leaf to = finds_one rules utf8 text from inside ended (matched leaf to) s t in cc)
  items_once inside (over from s) (fault row_start to rest t l) = absurd (let f : ended ≡ failed to = finds_one rules utf8 text from inside ended (failed to) s t in cc)
  items_once inside (match from to leaf answer rest s m l) (over row_start t) = absurd (let f : matched leaf to ≡ ended = finds_one rules utf8 text from inside (matched leaf to) ended s t in cc)
  items_once inside (match from to leaf answer rest s m l) (match row_start end other reply others t n k) =
      let f = one_end from leaf to other end inside s t in
      let h : leaf ≡ other = cc in
      let e : to ≡ end = cc in
      let k' : Items rules callback utf8 text to others = rw e k in
      let same = items_once (best_within rules text from to leaf inside s) l k' in
      ap (λ x. items_of (uses_of rules) callback text answer leaf from to ++ x) same ∙ ap (λ x. x ++ others) (same_items from leaf to other end answer reply h e m n)
  items_once inside (match from to leaf answer rest s m l) (fault row_start end others t k) = absurd (let f : matched leaf to ≡ failed end = finds_one rules utf8 text from inside (matched leaf to) (failed end) s t in cc)
  items_once inside (fault from to rest s l) (over row_start t) = absurd (let f : failed to ≡ ended = finds_one rules utf8 text from inside (failed to) ended s t in cc)
  items_once inside (fault from to rest s l) (match row_start end leaf answer others t m k) = absurd (let f : failed to ≡ matched leaf end = finds_one rules utf8 text from inside (failed to) (matched leaf end) s t in cc)
  items_once inside (fault from to rest s l) (fault row_start end others t k) =
      let f : failed to ≡ failed end = finds_one rules utf8 text from inside (failed to) (failed end) s t in
      let e : to ≡ end = cc in
      let k' : Items rules callback utf8 text to others = rw e k in
      let same = items_once (stop_within rules utf8 text from to s.0 s.2) l k' in
      ap (λ x. error None from to (slice_range text from to) ∷ x) same ∙ ap (λ x. error None from x (slice_range text from x) ∷ others) e
