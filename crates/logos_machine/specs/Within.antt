-- Lexing a part of an input, whose rest is not known.
use Rattle.std.specs.Prelude.{◌≡◌, ℕ, ◌<◌, ◌≤◌, Bool, true, false, List, ◌++◌, length}
use Rattle.logos_automaton.specs.Munch.{Found}
use Rattle.logos_code.specs.Items.{Callback, Item}
use Rattle.logos_code.specs.Runs.{RunsOn}
use Rattle.logos_machine.specs.LexerValue.{LexerValue, HasSpan, Yields, Ends, item_of}
use Rattle.logos_machine.specs.Streams.{first_status, MayFollow, AttemptsWithin, LooksPast, RunsOver}
use Rattle.logos_machine.specs.declared.machine.part.Within.{Within}
use Rattle.logos_machine.specs.declared.machine.part.Within.TheVariants.{Item as Given, More, End}

-- The contract of a call that returns an item, which is the next item for every continuation of the
-- part.
pub record YieldsWithin {C : Type 0} (callback : Callback) (old new : LexerValue C) (item : Item) : Type 0 where
  pub span : HasSpan new item
  pub after : old.to ≤ new.from
  pub nonempty : new.from < new.to
  pub within : new.to ≤ length new.input
  -- It is the next item, regardless of the bytes after the part.
  pub is : (rest : List ℕ) → MayFollow old.code rest → RunsOn old.code callback (old.input ++ rest) old.to item new.to
  -- The last attempt depends only on the part.
  pub attempts : (found : Found) × AttemptsWithin new.code new.input new.from (length new.input) found new.steps

-- The contract of a call that returns no item, since the next item depends on the bytes that
-- follow.
pub record Waits {C : Type 0} (callback : Callback) (old new : LexerValue C) : Type 0 where
  pub from : new.from ≡ new.to
  pub after : old.to ≤ new.to
  pub within : new.to ≤ length new.input
  pub steps : new.steps ≡ old.steps
  -- The skipped matches yield no item, regardless of the bytes after the part.
  pub passed : (rest : List ℕ) → MayFollow old.code rest → RunsOver old.code callback (old.input ++ rest) old.to new.to
  -- The result of the next attempt is open at the end of the part.
  pub looks : LooksPast new.code new.input new.to (first_status new.code new.to)
  -- Therefore no attempt has a result there that depends only on the part.
  pub undecided : (found : Found) (n : ℕ) → AttemptsWithin new.code new.input new.to (length new.input) found n → ⊥

-- Code, input and callback are unchanged.
pub record KeepsGiven {C : Type 0} (old new : LexerValue C) : Type 0 where
  pub code : new.code ≡ old.code
  pub input : new.input ≡ old.input
  pub callback : new.callback ≡ old.callback

-- The contract of `next_within`: on the last part the contract of `next`, and on any other part
-- only results that hold for every continuation.
abbrev pub DoesWithin : {C : Type 0} → Bool → Callback → LexerValue C → LexerValue C → Within → Type 0
DoesWithin true callback old new (Given item) = Yields callback old new (item_of item)
DoesWithin true callback old new More = ⊥
DoesWithin true callback old new End = Ends callback old new
DoesWithin false callback old new (Given item) = YieldsWithin callback old new (item_of item)
DoesWithin false callback old new More = Waits callback old new
DoesWithin false callback old new End = ⊥
