-- From item to item: the items so far, followed by the rest of a run, are a whole run.
use Rattle.std.proofs.Common.{◌≡◌, ℕ, Bool, true, false, List, [], ◌∷◌, ◌++◌, append_assoc, append-nil, MatchBool}
use Rattle.logos_automaton.specs.Munch.{Use}
use Rattle.logos_code.specs.Code.{CodeValue}
use Rattle.logos_code.specs.Items.{Callback, Search, Item, calls_back, MayAnswer, Lexes, over, match, fault}
use Rattle.logos_code.specs.Runs.{CodeFinds, Runs}
use Rattle.logos_code.specs.declared.action.Action.{Action}
use Rattle.logos_code.specs.declared.action.Action.TheVariants.{Emit, Skip, Error}
use denote.Param.Members.{Shared}
use denote.Ref.{Bor}
use Rattle.logos_hir.specs.declared.leaf.LeafId.{LeafId}
use Rattle.logos_machine.specs.LexerValue.{LexerValue, Yields, Ends, answers_of}
use Rattle.logos_machine.specs.Loops.{EndIsRun, NextAddsItem}

-- the same items with a callback that has no fewer actions
pub may_by : (uses : List Use) (bytes : List ℕ) (callback other : Callback) → ((leaf : ℕ) (slice : List ℕ) (answer : Action) → callback leaf slice answer → other leaf slice answer) →
    (leaf : ℕ) (slice : List ℕ) (answer : Action) → MayAnswer uses callback bytes leaf slice answer → MayAnswer uses other bytes leaf slice answer
may_by uses bytes callback other h leaf slice answer m = go (calls_back uses callback bytes leaf) m
  where
    go : (b : Bool) → MatchBool b (callback leaf slice answer) (answer ≡ Emit) → MatchBool b (other leaf slice answer) (answer ≡ Emit)
    go true m = h leaf slice answer m
    go false m = m

pub lexes_by : (uses : List Use) (bytes : List ℕ) (search : Search) (callback other : Callback) → ((leaf : ℕ) (slice : List ℕ) (answer : Action) → callback leaf slice answer → other leaf slice answer) →
    {from : ℕ} {items : List Item} → Lexes uses callback bytes search from items → Lexes uses other bytes search from items
lexes_by uses bytes search callback other h (over from s) = over from s
lexes_by uses bytes search callback other h (match from to leaf Emit rest s m l) = match from to leaf Emit rest s (may_by uses bytes callback other h leaf _ Emit m) (lexes_by uses bytes search callback other h l)
lexes_by uses bytes search callback other h (match from to leaf Skip rest s m l) = match from to leaf Skip rest s (may_by uses bytes callback other h leaf _ Skip m) (lexes_by uses bytes search callback other h l)
lexes_by uses bytes search callback other h (match from to leaf Error rest s m l) = match from to leaf Error rest s (may_by uses bytes callback other h leaf _ Error m) (lexes_by uses bytes search callback other h l)
lexes_by uses bytes search callback other h (fault from to rest s l) = fault from to rest s (lexes_by uses bytes search callback other h l)

-- one item more
pub more_items : {C : Type 0} (callback other : Callback) (code : CodeValue) (input : List ℕ) (old new : LexerValue C) (from : ℕ) (items : List Item) (item : Item) → Yields callback old new item →
    old.code ≡ code → old.input ≡ input → new.code ≡ code → new.input ≡ input →
    ((leaf : ℕ) (slice : List ℕ) (answer : Action) → other leaf slice answer → callback leaf slice answer) →
    ((leaf : ℕ) (slice : List ℕ) (answer : Action) → callback leaf slice answer → other leaf slice answer) →
    ((rest : List Item) → Runs code other input old.to rest → Runs code other input from (items ++ rest)) →
    (rest : List Item) → Runs code other input new.to rest → Runs code other input from ((items ++ item ∷ []) ++ rest)
more_items callback other code input old new from items item g c i d j to_it back h rest r =
    let here : Runs new.code callback new.input new.to rest = rw (d, j) (lexes_by code.leaves input (CodeFinds code input) other callback to_it r) in
    let before : Runs code callback input old.to (item ∷ rest) = rw (c, i) at (g.next rest here) in
    rw append_assoc (h (item ∷ rest) (lexes_by code.leaves input (CodeFinds code input) callback other back before))

pub no_items : {C : Type 0} (callback other : Callback) (code : CodeValue) (input : List ℕ) (old new : LexerValue C) (from : ℕ) (items : List Item) → Ends callback old new → old.code ≡ code → old.input ≡ input →
    ((leaf : ℕ) (slice : List ℕ) (answer : Action) → callback leaf slice answer → other leaf slice answer) →
    ((rest : List Item) → Runs code other input old.to rest → Runs code other input from (items ++ rest)) → Runs code other input from items
no_items callback other code input old new from items g c i back h =
    let here : Runs code callback input old.to [] = rw (c, i) at g.over in
    rw append-nil at (h [] (lexes_by code.leaves input (CodeFinds code input) callback other back here))

-- ---- the facts in a loop

module _ {C : Type 0} (calls : Shared C (LeafId × (Bor (List ℕ) × Unit {0})) Action) where
  pub next_added : NextAddsItem calls
  next_added old new items item k g h rest r =
      let before : Runs old.code (answers_of calls old.callback) old.input old.to (item ∷ rest) = g.next rest (rw k.callback at r) in
      let whole = h (item ∷ rest) before in
      rw (k.code, k.input, k.callback, append_assoc) whole

  pub run_given : EndIsRun calls
  run_given old new items g h = rw append-nil at (h [] g.over)
