-- Invariants that hold in a loop over `next`.
use Rattle.std.specs.Prelude.{ℕ, List, [], ◌∷◌, ◌++◌}
use denote.Param.Members.{Shared}
use denote.Ref.{Bor}
use Rattle.logos_code.specs.Code.{CodeValue}
use Rattle.logos_code.specs.Items.{Callback, Item}
use Rattle.logos_code.specs.Runs.{Runs}
use Rattle.logos_code.specs.declared.action.Action.{Action}
use Rattle.logos_hir.specs.declared.leaf.LeafId.{LeafId}
use Rattle.logos_machine.specs.LexerValue.{LexerValue, Ends, Yields, Keeps, answers_of}

-- Each action of the first callback is an action of the second.
abbrev pub AnswersAmong : Callback → Callback → Type 0
AnswersAmong callback other = (leaf : ℕ) (slice : List ℕ) (answer : Action) → callback leaf slice answer → other leaf slice answer

-- The runs with the first callback are runs with the second, if each action of the first is an
-- action of the second.
abbrev pub RunsGoOver : Callback → Callback → Type 0
RunsGoOver callback other = AnswersAmong callback other →
    (code : CodeValue) (input : List ℕ) (from : ℕ) (items : List Item) → Runs code callback input from items → Runs code other input from items

module _ {C : Type 0} (calls : Shared C (LeafId × (Bor (List ℕ) × Unit {0})) Action) where
  -- A lexer has returned these items: they, followed by the rest of a run from the lexer's point
  -- on, are a whole run.
  abbrev pub HasGiven : LexerValue C → List Item → Type 0
  HasGiven lexer items = (rest : List Item) → Runs lexer.code (answers_of calls lexer.callback) lexer.input lexer.to rest →
      Runs lexer.code (answers_of calls lexer.callback) lexer.input 0 (items ++ rest)

  -- `next` appends its item to the items that the lexer has returned.
  abbrev pub NextAddsItem : Type 0
  NextAddsItem = (old new : LexerValue C) (items : List Item) (item : Item) →
      Keeps old new → Yields (answers_of calls old.callback) old new item → HasGiven old items → HasGiven new (items ++ item ∷ [])

  -- At the end of the input, the items that the lexer has returned are a run of its code.
  abbrev pub EndIsRun : Type 0
  EndIsRun = (old new : LexerValue C) (items : List Item) →
      Ends (answers_of calls old.callback) old new → HasGiven old items → Runs old.code (answers_of calls old.callback) old.input 0 items
