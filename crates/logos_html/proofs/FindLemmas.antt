-- The first items of a run.
use Rattle.std.proofs.Common.{◌≡◌, ℕ, List, [], inl, inr, ◌⊎◌, ◌≤◌}
use Rattle.logos_automaton.specs.Munch.{Use}
use Rattle.logos_code.specs.Code.{CodeValue}
use Rattle.logos_code.specs.Items.{Callback, Item, NextItem, Search, error, fails, passes, token, yields}
use Rattle.logos_code.specs.Runs.{CodeFinds, Runs}
use Rattle.logos_code.specs.declared.action.Action.{Action}
use Rattle.logos_machine.proofs.ItemsLemmas.{lexes_by, may_by}
use Rattle.logos_machine.specs.LexerValue.{HasSpan, LexerValue, Yields}
use Rattle.logos_html.specs.Descriptions.{end_of}
use Rattle.logos_html.specs.Finds.{Begins, RunsTo, adds, begins}

-- a lexer is at the end of its last item
at_end : {C : Type 0} (lexer : LexerValue C) (item : Item) → HasSpan lexer item → lexer.to ≡ end_of item
at_end lexer (token leaf from to slice) s = s.1
at_end lexer (error leaf from to slice) s = s.1

-- and so after a call that returned it
pub at_end_of : {C : Type 0} {callback : Callback} {old new : LexerValue C} {item : Item} → Yields callback old new item → new.to ≡ end_of item
at_end_of {new = new} {item = item} y = at_end new item y.span

-- the same next item with a callback that has no fewer actions
next_by : (uses : List Use) (bytes : List ℕ) (search : Search) (callback other : Callback) → ((leaf : ℕ) (slice : List ℕ) (answer : Action) → callback leaf slice answer → other leaf slice answer) →
    {from : ℕ} {item : Item} {end : ℕ} → NextItem uses callback bytes search from item end → NextItem uses other bytes search from item end
next_by uses bytes search callback other h (passes from to leaf answer item end s m e n) = passes from to leaf answer item end s (may_by uses bytes callback other h leaf _ answer m) e (next_by uses bytes search callback other h n)
next_by uses bytes search callback other h (yields from to leaf answer item s m e) = yields from to leaf answer item s (may_by uses bytes callback other h leaf _ answer m) e
next_by uses bytes search callback other h (fails from to s) = fails from to s

module _ (code : CodeValue) (callback other : Callback) (input : List ℕ) (h : (leaf : ℕ) (slice : List ℕ) (answer : Action) → callback leaf slice answer → other leaf slice answer) where
  runs_by : {from : ℕ} {items : List Item} {to : ℕ} → RunsTo code callback input from items to → RunsTo code other input from items to
  runs_by begins = begins
  runs_by (adds items item at to r n) = adds items item at to (runs_by r) (next_by code.leaves input (CodeFinds code input) callback other h n)

  -- and the same first items
  pub begins_by : (from most : ℕ) (items : List Item) → Begins code callback input from most items → Begins code other input from most items
  begins_by from most items b = record { to = b.to; runs = runs_by b.runs; enough = go b.enough }
    where
      go : (most ≤ b.to) ⊎ Runs code callback input b.to [] → (most ≤ b.to) ⊎ Runs code other input b.to []
      go (inl enough) = inl enough
      go (inr over) = inr (lexes_by code.leaves input (CodeFinds code input) callback other h over)
