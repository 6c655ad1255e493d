-- The facts that follow from lexing an input by an accepted source, and the lines that are written
-- of its items.
use Rattle.std.proofs.Common.{◌≡◌, ◌∙◌, sym, ap, subst, ℕ, List, [], ◌∷◌, ◌++◌, append_assoc, append-nil, Option, Bool, Result, Ok, Err, IfErr, OnOk, IsTrue, IsUtf8, inr}
use Rattle.std.proofs.KnownBytes.{Appends-trans}
use Rattle.std.specs.Io.KnownBytes.{Appends}
use Rattle.logos_automaton.specs.Munch.{Rule}
use Rattle.logos_hir.specs.Text.{IsBytes}
use Rattle.logos_code.specs.Code.{CodeValue}
use Rattle.logos_code.specs.Headline.{IsLexer}
use Rattle.logos_code.specs.Items.{Callback, Item}
use Rattle.logos_code.specs.Runs.{CodeFinds, Runs}
use Rattle.logos_code.specs.declared.action.Action.{Action}
use Rattle.logos_machine.specs.LexerValue.{LexerValue, Yields, Ends}
use Rattle.logos_machine.proofs.ItemsLemmas.{lexes_by}
use Rattle.logos_codegen.specs.Source.{IsAccepted}
use Rattle.logos_codegen.proofs.LexLemmas.{items_are}
use Rattle.logos_host.specs.Writers.{AppendsFront}
use Rattle.logos_host.specs.Failures.{status_of}
use Rattle.logos_host.specs.declared.failure.Failure.{Failure}
use Rattle.logos_host.specs.declared.failure.Failure.TheVariants.{Misuse, UnknownOption, OwnOutput, Refused, NotUtf8, NotText, Read, Write, Output, Closed, Memory}
use Rattle.logos_commands.specs.Lines.{WritesLines, emits, line_of, lines_of}
use Rattle.logos_commands.specs.Runs.{IsTornBy, IsTornInput, PrintsItemsOf, RefusesInput}

module _ (source input : List ℕ) (rules : List Rule) (utf8 : Bool) (code : CodeValue) (accepted : IsAccepted source rules utf8) (lexer : IsLexer rules utf8 code) where
  -- the items that were printed of an input
  pub printed_items : (are : IsBytes input) (old new : Option (List ℕ)) {T : Type 0} (result : Result T Failure) → OnOk result (IsTrue code.utf8 → IsUtf8 input) →
      OnOk result (WritesLines code emits input 0 [] old new) → OnOk result (PrintsItemsOf source input old new)
  printed_items are old new (Ok x) text w = record {
    rules = rules;
    utf8 = utf8;
    accepted = accepted;
    is_text = λ t. text (lexer.mode ∙ t);
    items = w.items;
    are = items_are source rules utf8 code accepted lexer emits input w.items (are, λ t. text (lexer.mode ∙ t)) w.runs;
    appends = w.appends;
  }
  printed_items are old new (Err failure) text w = tt

  torn : (failure : Failure) → IsTornBy code input failure → IsTornInput source input failure
  torn (Misuse what word) t = absurd t
  torn (UnknownOption word nearest) t = absurd t
  torn (OwnOutput path) t = absurd t
  torn (Refused text) t = absurd t
  torn (NotUtf8 valid_up_to) t = record { rules = rules; accepted = rw (sym lexer.mode ∙ t.0) at accepted; no_text = t.1; valid = t.2 }
  torn (NotText path valid_up_to) t = absurd t
  torn (Read path reason) t = absurd t
  torn (Write path reason) t = absurd t
  torn Output t = absurd t
  torn Closed t = absurd t
  torn Memory t = absurd t

  -- an input that was refused
  pub refused : {T : Type 0} (result : Result T Failure) → IfErr result (λ failure. status_of failure ≡ 1 → IsTornBy code input failure) →
      IfErr result (λ failure. status_of failure ≡ 1 → RefusesInput source input failure)
  refused (Ok x) h = tt
  refused (Err failure) h = λ s. inr (torn failure (h s))

-- ---- the lines of items, one after another

-- A result for the run from an offset on, and the lines after a block, completes the whole run
-- and all lines.
abbrev pub Continues : CodeValue → Callback → List ℕ → ℕ → List ℕ → Option (List ℕ) → ℕ → List ℕ → Option (List ℕ) → Type 0
Continues code callback input from before old to block now =
    (rest : List Item) (new : Option (List ℕ)) → Runs code callback input to rest → Appends now new (block ++ lines_of rest) → WritesLines code callback input from before old new

pub begun : (code : CodeValue) (callback : Callback) (input : List ℕ) (from : ℕ) (before : List ℕ) (old : Option (List ℕ)) → Continues code callback input from before old from before old
begun code callback input from before old rest new r a = record { items = rest; runs = r; appends = a }

-- one item more, whose line is pushed to the block, of which a front is written
pub one_more : {C : Type 0} (callback other : Callback) (code : CodeValue) (input : List ℕ) (old new : LexerValue C) (from : ℕ) (before : List ℕ) (was now then : Option (List ℕ)) (block filled left : List ℕ) (item : Item) →
    Yields callback old new item → old.code ≡ code → old.input ≡ input → new.code ≡ code → new.input ≡ input →
    ((leaf : ℕ) (slice : List ℕ) (answer : Action) → other leaf slice answer → callback leaf slice answer) →
    ((leaf : ℕ) (slice : List ℕ) (answer : Action) → callback leaf slice answer → other leaf slice answer) →
    Continues code other input from before was old.to block now → filled ≡ block ++ line_of item → AppendsFront now then filled left →
    Continues code other input from before was new.to left then
one_more callback other code input old new from before was now then block filled left item g c i d j to_it back h e f rest end r a =
    let here : Runs new.code callback new.input new.to rest = rw (d, j) (lexes_by code.leaves input (CodeFinds code input) other callback to_it r) in
    let whole : Runs code callback input old.to (item ∷ rest) = rw (c, i) at (g.next rest here) in
    let same : f.front ++ (left ++ lines_of rest) ≡ block ++ (line_of item ++ lines_of rest) =
    sym (append_assoc f.front left (lines_of rest)) ∙ ap (λ x. x ++ lines_of rest) (sym f.parts ∙ e) ∙ append_assoc block (line_of item) (lines_of rest) in
    h (item ∷ rest) end (lexes_by code.leaves input (CodeFinds code input) callback other back whole)
    (subst (λ x. Appends now end x) same (Appends-trans now then end f.front (left ++ lines_of rest) f.appends a))

-- no item more, and the block is written
pub all_done : {C : Type 0} (callback other : Callback) (code : CodeValue) (input : List ℕ) (old new : LexerValue C) (from : ℕ) (before : List ℕ) (was now then : Option (List ℕ)) (block : List ℕ) →
    Ends callback old new → old.code ≡ code → old.input ≡ input →
    ((leaf : ℕ) (slice : List ℕ) (answer : Action) → callback leaf slice answer → other leaf slice answer) →
    Continues code other input from before was old.to block now → {T : Type 0} (result : Result T Failure) → OnOk result (Appends now then block) →
    OnOk result (WritesLines code other input from before was then)
all_done callback other code input old new from before was now then block g c i back h (Ok x) a =
    let here : Runs code callback input old.to [] = rw (c, i) at g.over in
    h [] then (lexes_by code.leaves input (CodeFinds code input) callback other back here) (subst (λ x. Appends now then x) (sym (append-nil block)) a)
all_done callback other code input old new from before was now then block g c i back h (Err failure) a = tt

-- the same by a callback that emits alone, from an empty block on
pub emitted : (callback : Callback) (code : CodeValue) (input : List ℕ) (from : ℕ) (before : List ℕ) (old new : Option (List ℕ)) → before ≡ [] →
    ((leaf : ℕ) (slice : List ℕ) (answer : Action) → callback leaf slice answer → emits leaf slice answer) → {T : Type 0} (result : Result T Failure) →
    OnOk result (WritesLines code callback input from before old new) → OnOk result (WritesLines code emits input from [] old new)
emitted callback code input from before old new e back (Ok x) w = record {
  items = w.items;
  runs = lexes_by code.leaves input (CodeFinds code input) callback emits back w.runs;
  appends = subst (λ b. Appends old new (b ++ lines_of w.items)) e w.appends;
}
emitted callback code input from before old new e back (Err failure) w = tt
