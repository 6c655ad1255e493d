-- The statements of the laws.
use Rattle.std.specs.Prelude.{◌≡◌, ℕ, ◌↔◌, ◌≤◌, Bool, true, IsCharBoundary, List, length, map}
use Rattle.std.specs.List.{All}
use Rattle.logos_hir.specs.Measure.{is_text}
use Rattle.logos_automaton.specs.Munch.{Rule, IsInput}
use Rattle.logos_graph.specs.Found.{FindsTheLongest}
use Rattle.logos_graph.specs.View.{GraphValue, rule_of, rules_of}
use Rattle.logos_code.specs.Code.{CodeValue}
use Rattle.logos_code.specs.Headline.{IsCut, IsLexer}
use Rattle.logos_generator.specs.Runs.{RunsAs}
use Rattle.logos_code.specs.Items.{Callback, Item, Items, IsNext}
use Rattle.logos_code.specs.Runs.{Runs, RunsOn}
use Rattle.logos_code.specs.declared.action.Action.{Action}
use Rattle.logos_machine.specs.Loops.{AnswersAmong}

-- A code is a lexer of a graph's rules if it has the graph's runs, in its mode and with the uses of
-- its leaves, and the graph has the results of maximal munch.
abbrev pub GraphsYieldLexers : Type 0
GraphsYieldLexers = (graph : GraphValue) (code : CodeValue) →
    FindsTheLongest (rules_of graph.leaves) graph.utf8 graph.states → RunsAs graph.states graph.utf8 code →
    code.utf8 ≡ graph.utf8 → code.leaves ≡ map (λ leaf. (rule_of leaf).use_of) graph.leaves →
    IsLexer (rules_of graph.leaves) graph.utf8 code

-- The runs of a lexer's code over an input are the lists of items of maximal munch.
abbrev pub RunsAreItems : Callback → Type 0
RunsAreItems callback = (rules : List Rule) (utf8 : Bool) (code : CodeValue) (bytes : List ℕ) (from : ℕ) (items : List Item) →
    IsLexer rules utf8 code → IsInput utf8 bytes →
    Runs code callback bytes from items ↔ Items rules callback utf8 bytes from items

-- The next item of a lexer's code, and the point after it, are those of maximal munch.
abbrev pub NextIsTheNext : Callback → Type 0
NextIsTheNext callback = (rules : List Rule) (utf8 : Bool) (code : CodeValue) (bytes : List ℕ) (from : ℕ) (item : Item) (end : ℕ) →
    IsLexer rules utf8 code → IsInput utf8 bytes →
    RunsOn code callback bytes from item end ↔ IsNext rules callback utf8 bytes from item end

-- Two lexers of the same rules and mode have the same runs over an input.
abbrev pub LexersAgree : Callback → Type 0
LexersAgree callback = (rules : List Rule) (utf8 : Bool) (code other : CodeValue) (bytes : List ℕ) (from : ℕ) (items : List Item) →
    IsLexer rules utf8 code → IsLexer rules utf8 other → IsInput utf8 bytes →
    Runs code callback bytes from items ↔ Runs other callback bytes from items

-- If all rules match only text, each item of a run from a character boundary of a text starts and
-- ends at character boundaries.
abbrev pub RunsAreCut : Callback → Type 0
RunsAreCut callback = (rules : List Rule) (code : CodeValue) (bytes : List ℕ) (from : ℕ) (items : List Item) →
    IsLexer rules true code → All (λ rule. is_text rule.tree ≡ true) rules →
    IsInput true bytes → IsCharBoundary bytes from →
    Runs code callback bytes from items → All (IsCut bytes) items

-- A callback has at most one action for each leaf and slice.
abbrev pub AnswersOnce : Callback → Type 0
AnswersOnce callback = (leaf : ℕ) (slice : List ℕ) (one other : Action) → callback leaf slice one → callback leaf slice other → one ≡ other

-- With a callback that has at most one action, an input has at most one list of items from each of
-- its points on.
abbrev pub ItemsAreOnce : Callback → Type 0
ItemsAreOnce callback = AnswersOnce callback → (rules : List Rule) (utf8 : Bool) (bytes : List ℕ) (from : ℕ) (items others : List Item) →
    from ≤ length bytes → Items rules callback utf8 bytes from items → Items rules callback utf8 bytes from others → items ≡ others

-- The items with the first callback are items with the second, if each action of the first is an
-- action of the second.
abbrev pub ItemsGoOver : Callback → Callback → Type 0
ItemsGoOver callback other = AnswersAmong callback other → (rules : List Rule) (utf8 : Bool) (bytes : List ℕ) (from : ℕ) (items : List Item) →
    Items rules callback utf8 bytes from items → Items rules other utf8 bytes from items
