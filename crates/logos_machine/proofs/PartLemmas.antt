-- The items of parts are items of the whole.
use Rattle.std.proofs.Common.{◌≡◌, ℕ, ◌+◌, List, [], ◌∷◌, ◌++◌, length, map, sym, subst, slice_range}
use Rattle.std.proofs.lemmas.List.{append_assoc, append-nil}
use Rattle.std.proofs.lemmas.Str.{IsUtf8-append, IsUtf8-nil}
use Rattle.logos_automaton.specs.Munch.{Use, matched}
use Rattle.logos_code.specs.Code.{CodeValue}
use Rattle.logos_code.specs.Headline.{IsSound}
use Rattle.logos_code.specs.Items.{Callback, Search, Item, MayAnswer, items_of, Lexes, match, fault, NextItem, passes, yields, fails}
use Rattle.logos_code.specs.Runs.{CodeFinds, Runs, RunsOn}
use Rattle.logos_code.specs.declared.action.Action.{Action}
use Rattle.logos_machine.specs.Streams.{item_later, MayFollow, PassesOver, passes_none, passes_match, RunsOver, AreBegun, PartsAreOfTheWhole}
use Rattle.logos_machine.proofs.LaterLemmas.{finds_later, lexes_later, next_later, over_later}

module _ (uses : List Use) (callback : Callback) (bytes : List ℕ) (search : Search) where
  matched_first : (from to leaf : ℕ) (answer : Action) (items rest : List Item) → search from (matched leaf to) → MayAnswer uses callback bytes leaf (slice_range bytes from to) answer →
      items_of uses callback bytes answer leaf from to ≡ items → Lexes uses callback bytes search to rest → Lexes uses callback bytes search from (items ++ rest)
  matched_first from to leaf answer items rest s m e l =
      subst (λ (all : List Item). Lexes uses callback bytes search from (all ++ rest)) e (match from to leaf answer rest s m l)

  -- after the next item a run continues where it ends
  pub next_first : {from end : ℕ} {item : Item} → NextItem uses callback bytes search from item end → (rest : List Item) → Lexes uses callback bytes search end rest → Lexes uses callback bytes search from (item ∷ rest)
  next_first (passes from to leaf answer item end s m e x) rest l = matched_first from to leaf answer [] (item ∷ rest) s m e (next_first x rest l)
  next_first (yields from to leaf answer item s m e) rest l = matched_first from to leaf answer (item ∷ []) rest s m e l
  next_first (fails from to s) rest l = fault from to rest s l

  pub over_first : {from end : ℕ} → PassesOver uses callback bytes search from end → (rest : List Item) → Lexes uses callback bytes search end rest → Lexes uses callback bytes search from rest
  over_first (passes_none at) rest l = l
  over_first (passes_match from to leaf answer end s m e x) rest l = matched_first from to leaf answer [] rest s m e (over_first x rest l)

module _ (callback : Callback) where
  grown_begun : (code : CodeValue) (begun added : List ℕ) (items : List Item) (to : ℕ) → MayFollow code added → AreBegun code callback begun items to → AreBegun code callback (begun ++ added) items to
  grown_begun code begun added items to text h rest follows later r =
      let a : (begun ++ added) ++ rest ≡ begun ++ (added ++ rest) = append_assoc begun added rest in
      subst (λ (l : List ℕ). Runs code callback l 0 (items ++ later)) (sym a) (h (added ++ rest) (λ utf8. IsUtf8-append added rest (text utf8) (follows utf8)) later (subst (λ (l : List ℕ). Runs code callback l to later) a r))

  item_begun : (code : CodeValue) (front part : List ℕ) (items : List Item) (from to : ℕ) (item : Item) → IsSound code → AreBegun code callback (front ++ part) items (length front + from) →
      ((rest : List ℕ) → MayFollow code rest → RunsOn code callback (part ++ rest) from item to) → AreBegun code callback (front ++ part) (items ++ item_later (length front) item ∷ []) (length front + to)
  item_begun code front part items from to item sound h next rest follows later r =
      let whole : List ℕ = (front ++ part) ++ rest in
      let a : (front ++ part) ++ rest ≡ front ++ (part ++ rest) = append_assoc front part rest in
      let there : RunsOn code callback (front ++ (part ++ rest)) (length front + from) (item_later (length front) item) (length front + to) =
      next_later code.leaves callback front (part ++ rest) (CodeFinds code (part ++ rest)) (CodeFinds code (front ++ (part ++ rest))) (finds_later code sound front (part ++ rest)) (next rest follows) in
      let here : RunsOn code callback whole (length front + from) (item_later (length front) item) (length front + to) =
      subst (λ (l : List ℕ). RunsOn code callback l (length front + from) (item_later (length front) item) (length front + to)) (sym a) there in
      let e : (items ++ (item_later (length front) item ∷ [])) ++ later ≡ items ++ (item_later (length front) item ∷ later) = append_assoc items (item_later (length front) item ∷ []) later in
      subst (λ (l : List Item). Runs code callback whole 0 l) (sym e) (h rest follows (item_later (length front) item ∷ later) (next_first code.leaves callback whole (CodeFinds code whole) here later r))

  over_begun : (code : CodeValue) (front part : List ℕ) (items : List Item) (from to : ℕ) → IsSound code → AreBegun code callback (front ++ part) items (length front + from) →
      ((rest : List ℕ) → MayFollow code rest → RunsOver code callback (part ++ rest) from to) → AreBegun code callback (front ++ part) items (length front + to)
  over_begun code front part items from to sound h next rest follows later r =
      let whole : List ℕ = (front ++ part) ++ rest in
      let a : (front ++ part) ++ rest ≡ front ++ (part ++ rest) = append_assoc front part rest in
      let there : RunsOver code callback (front ++ (part ++ rest)) (length front + from) (length front + to) =
      over_later code.leaves callback front (part ++ rest) (CodeFinds code (part ++ rest)) (CodeFinds code (front ++ (part ++ rest))) (finds_later code sound front (part ++ rest)) (next rest follows) in
      let here : RunsOver code callback whole (length front + from) (length front + to) =
      subst (λ (l : List ℕ). RunsOver code callback l (length front + from) (length front + to)) (sym a) there in
      h rest follows later (over_first code.leaves callback whole (CodeFinds code whole) here later r)

  end_begun : (code : CodeValue) (front part : List ℕ) (items later : List Item) (from : ℕ) → IsSound code → AreBegun code callback (front ++ part) items (length front + from) →
      Runs code callback part from later → Runs code callback (front ++ part) 0 (items ++ map (item_later (length front)) later)
  end_begun code front part items later from sound h r =
      let there : Runs code callback (front ++ part) (length front + from) (map (item_later (length front)) later) =
      lexes_later code.leaves callback front part (CodeFinds code part) (CodeFinds code (front ++ part)) (finds_later code sound front part) r in
      let n : (front ++ part) ++ [] ≡ front ++ part = append-nil (front ++ part) in
      subst (λ (l : List ℕ). Runs code callback l 0 (items ++ map (item_later (length front)) later)) n
      (h [] (λ _. IsUtf8-nil) (map (item_later (length front)) later) (subst (λ (l : List ℕ). Runs code callback l (length front + from) (map (item_later (length front)) later)) (sym n) there))

  pub parts_are_of_the_whole : PartsAreOfTheWhole callback
  parts_are_of_the_whole = record {
    none = λ code begun rest follows later r. r;
    grown = grown_begun;
    item = item_begun;
    over = over_begun;
    end = end_begun;
  }
