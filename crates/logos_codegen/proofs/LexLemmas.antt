-- From a code value's runs to the items of maximal munch.
use Rattle.std.proofs.Common.{◌≡◌, ℕ, Bool, true, false, List, [], ◌∷◌, ◌++◌, length, map, refl, sym, subst, ◌∙◌, arith, if◌then◌else◌, IsTrue, IsUtf8, Result, Ok, Err, IfOk, IfErr, Vec, Global}
use Rattle.std.proofs.lemmas.Str.{IsCharBoundary-start}
use Rattle.std.proofs.lemmas.List.Elements.{All-nil, All-cons}
use Rattle.std.specs.List.{All}
use Rattle.logos_hir.specs.Text.{IsBytes}
use denote.Param.Members.{Shared}
use denote.Ref.{Bor}
use Rattle.logos_automaton.specs.Munch.{Rule, Use, IsInput}
use Rattle.logos_code.specs.Code.{CodeValue}
use Rattle.logos_code.specs.Headline.{IsLexer, IsCut}
use Rattle.logos_code.specs.Items.{Callback, Item, Items}
use Rattle.logos_code.specs.declared.action.Action.{Action}
use Rattle.logos_hir.specs.declared.leaf.LeafId.{LeafId}
use Rattle.logos_machine.specs.LexerValue.{TakesMatches, TakesMatchesOf, has_callback, item_of}
use Rattle.logos_machine.specs.declared.machine.Item.{Item as TheItem}
use Rattle.logos_hir.specs.Measure.{is_text}
use Rattle.logos_attribute.specs.Reports.{only}
use Rattle.logos_leaf.specs.Leaves.{LeafView}
use Rattle.logos_code.specs.Order.{AreInOrder, Parts, IsLeftOut}
use Rattle.logos_code.specs.Runs.{Runs}
use Rattle.logos_generator.proofs.Compose.{runs_iff}
use Rattle.logos_generator.proofs.InOrder.{in_order, parted}
use Rattle.logos_parser.specs.Refusals.{IsMemory}
use Rattle.logos_parser.specs.Utf8Faults.{utf8_fault, utf8_faults}
use Rattle.logos_codegen.specs.Rules.{rule_of_view, rules_of_views}
use Rattle.logos_codegen.specs.Source.{IsAccepted}
use Rattle.logos_codegen.specs.RunLaws.{anything, RunsAreCut}
use Rattle.logos_codegen.specs.Refusals.{IsUnlexed, IsJust, IsNoRefusal, IsThatRefusal}
use Rattle.logos_parser.specs.declared.refusal.Refusal.{Refusal}
use Rattle.logos_parser.specs.declared.refusal.Refusal.TheVariants.{Errors, Memory}
use Rattle.logos_codegen.specs.declared.lexing.LexSourceError.{LexSourceError}
use Rattle.logos_codegen.specs.declared.lexing.LexSourceError.TheVariants.{Refused, NotUtf8, Memory as OutOfMemory}
use Rattle.logos_codegen.proofs.AcceptLemmas.{accepted_once, silent}
use Rattle.logos_generator.proofs.CutLemmas.{items_cut}

-- where no leaf is reported in UTF-8 mode, all trees match UTF-8 alone
texts_are : (leaves : List LeafView) → utf8_faults true leaves ≡ [] → All (λ rule. is_text rule.tree ≡ true) (rules_of_views leaves)
texts_are [] e = All-nil (λ (rule : Rule). is_text rule.tree ≡ true)
texts_are (leaf ∷ leaves) e =
    let both = go (is_text leaf.tree) e in
    All-cons (λ (rule : Rule). is_text rule.tree ≡ true) (rule_of_view leaf) (rules_of_views leaves) both.0 (texts_are leaves both.1)
  where
    go : (t : Bool) → (if t then [] else only (utf8_fault leaf)) ++ utf8_faults true leaves ≡ [] → (t ≡ true) × (utf8_faults true leaves ≡ [])
    go true e = (refl, e)
    go false e = absurd (cc)

pub accepted_texts : (source : List ℕ) (rules : List Rule) → IsAccepted source rules true → All (λ rule. is_text rule.tree ≡ true) rules
accepted_texts source rules a =
    let text : utf8_faults true a.leaves ≡ [] = rw (sym a.same_mode) at (silent a.enum a.leaves a.options a.enum_reads).text in
    rw a.same_rules (texts_are a.leaves text)

-- a result that is not a refusal of the source is not one of lexing
pub memory_no_refusal : (refusal : Refusal) (error : LexSourceError) → IsThatRefusal refusal error → IsMemory refusal → IsNoRefusal error
memory_no_refusal (Errors faults) error e m = absurd m
memory_no_refusal Memory error e m = rw e tt

module _ (source : List ℕ) (rules : List Rule) (utf8 : Bool) (code : CodeValue) (accepted : IsAccepted source rules utf8) (lexer : IsLexer rules utf8 code) where
  module _ (callback : Callback) (bytes : List ℕ) (items : List Item) (input : IsInput utf8 bytes) (runs : Runs code callback bytes 0 items) where
    pub items_are : Items rules callback utf8 bytes 0 items
    items_are = (runs_iff rules utf8 code callback bytes 0 items lexer input).0 runs

    pub are_in_order : AreInOrder (length bytes) 0 items
    are_in_order = in_order rules callback utf8 bytes (omega arith) items_are

    pub are_parts : (others : List Rule) (other : Bool) → IsAccepted source others other → Parts (IsLeftOut others callback bytes) (length bytes) 0 items
    are_parts others other a =
        let same = accepted_once source rules others utf8 other accepted a in
        let items' : Items others callback other bytes 0 items = rw (same.0, same.1) at items_are in
        parted others callback other bytes (omega arith) items'

    pub are_cut : (others : List Rule) → IsAccepted source others true → All (IsCut bytes) items
    are_cut others a =
        let same = accepted_once source rules others utf8 true accepted a in
        let is_utf8 : IsUtf8 bytes = input.1 same.1 in
        let items' : Items others callback true bytes 0 items = rw (same.0, same.1) at items_are in
        items_cut bytes is_utf8 others (accepted_texts source others a) callback (IsCharBoundary-start bytes is_utf8) items'

    -- the items are those of a run of each code of the source
    pub are_run : (others : List Rule) (other : Bool) (next : CodeValue) → IsAccepted source others other → IsLexer others other next → Runs next callback bytes 0 items
    are_run others other next a l =
        let same = accepted_once source rules others utf8 other accepted a in
        let items' : Items others callback other bytes 0 items = rw (same.0, same.1) at items_are in
        let input' : IsInput other bytes = rw same.1 at input in
        (runs_iff others other next callback bytes 0 items l input').1 items'

  -- in UTF-8 mode all runs are between characters
  pub runs_are_cut : IsTrue utf8 → RunsAreCut code
  runs_are_cut text bytes items are valid runs =
      are_cut anything bytes items (are, λ t. valid) runs rules (rw text at accepted)

-- the inputs that the code of an accepted source does not lex
pub unlexed_just : (source : List ℕ) (rules : List Rule) (utf8 : Bool) (code : CodeValue) (input : List ℕ) → IsAccepted source rules utf8 → IsLexer rules utf8 code →
    {T : Type 0} (result : Result T LexSourceError) → IfErr result (IsUnlexed code input) → IfErr result (IsJust source input)
unlexed_just source rules utf8 code input a l (Ok items) h = tt
unlexed_just source rules utf8 code input a l (Err (Refused faults)) h = absurd h
unlexed_just source rules utf8 code input a l (Err (NotUtf8 valid_up_to)) h = ((rules, rw (sym l.mode ∙ h.0) at a), h.1, h.2)
unlexed_just source rules utf8 code input a l (Err OutOfMemory) h = tt

pub unlexed_no_refusal : (code : CodeValue) (input : List ℕ) {T : Type 0} (result : Result T LexSourceError) → IfErr result (IsUnlexed code input) → IfErr result IsNoRefusal
unlexed_no_refusal code input (Ok items) h = tt
unlexed_no_refusal code input (Err (Refused faults)) h = h
unlexed_no_refusal code input (Err (NotUtf8 valid_up_to)) h = tt
unlexed_no_refusal code input (Err OutOfMemory) h = tt

-- ---- the contract of `lex_source`

module _ (source : List ℕ) (rules : List Rule) (utf8 : Bool) (code : CodeValue) (accepted : IsAccepted source rules utf8) (lexer : IsLexer rules utf8 code)
    (callback : Callback) (bytes : List ℕ) (are : IsBytes bytes) where
  input_of : (IsTrue code.utf8 → IsUtf8 bytes) → IsInput utf8 bytes
  input_of text = (are, λ t. text (lexer.mode ∙ t))

  pub items_of_result : (result : Result (Vec TheItem Global) LexSourceError) → IfOk result (λ items. Runs code callback bytes 0 (map item_of items.items)) → IfOk result (λ items. IsTrue code.utf8 → IsUtf8 bytes) →
      IfOk result (λ items. (rules : List Rule) × (utf8 : Bool) × IsAccepted source rules utf8 × (IsTrue utf8 → IsUtf8 bytes) × Items rules callback utf8 bytes 0 (map item_of items.items))
  items_of_result (Ok items) r text = (rules, utf8, accepted, (input_of text).1, items_are source rules utf8 code accepted lexer callback bytes (map item_of items.items) (input_of text) r)
  items_of_result (Err error) r text = tt

  pub order_of_result : (result : Result (Vec TheItem Global) LexSourceError) → IfOk result (λ items. Runs code callback bytes 0 (map item_of items.items)) → IfOk result (λ items. IsTrue code.utf8 → IsUtf8 bytes) →
      IfOk result (λ items. AreInOrder (length bytes) 0 (map item_of items.items))
  order_of_result (Ok items) r text = are_in_order source rules utf8 code accepted lexer callback bytes (map item_of items.items) (input_of text) r
  order_of_result (Err error) r text = tt

  pub parts_of_result : (result : Result (Vec TheItem Global) LexSourceError) → IfOk result (λ items. Runs code callback bytes 0 (map item_of items.items)) → IfOk result (λ items. IsTrue code.utf8 → IsUtf8 bytes) →
      (others : List Rule) (other : Bool) → IsAccepted source others other → IfOk result (λ items. Parts (IsLeftOut others callback bytes) (length bytes) 0 (map item_of items.items))
  parts_of_result (Ok items) r text others other a = are_parts source rules utf8 code accepted lexer callback bytes (map item_of items.items) (input_of text) r others other a
  parts_of_result (Err error) r text others other a = tt

  pub cut_of_result : (result : Result (Vec TheItem Global) LexSourceError) → IfOk result (λ items. Runs code callback bytes 0 (map item_of items.items)) → IfOk result (λ items. IsTrue code.utf8 → IsUtf8 bytes) →
      (others : List Rule) → IsAccepted source others true → IfOk result (λ items. All (IsCut bytes) (map item_of items.items))
  cut_of_result (Ok items) r text others a = are_cut source rules utf8 code accepted lexer callback bytes (map item_of items.items) (input_of text) r others a
  cut_of_result (Err error) r text others a = tt

  pub shapes_of_result : (result : Result (Vec TheItem Global) LexSourceError) → IfOk result (λ items. Runs code callback bytes 0 (map item_of items.items)) → IfOk result (λ items. IsTrue code.utf8 → IsUtf8 bytes) →
      (others : List Rule) (other : Bool) (next : CodeValue) → IsAccepted source others other → IsLexer others other next → IfOk result (λ items. Runs next callback bytes 0 (map item_of items.items))
  shapes_of_result (Ok items) r text others other next a l = are_run source rules utf8 code accepted lexer callback bytes (map item_of items.items) (input_of text) r others other next a l
  shapes_of_result (Err error) r text others other next a l = tt

-- a closure that takes the matches of the rules takes those of their code
pub takes_by_rules : {C : Type 0} (g : Shared C (LeafId × (Bor (List ℕ) × Unit {0})) Action) (rules : List Rule) (code : CodeValue) (f : C) → code.leaves ≡ map (λ rule. rule.use_of) rules →
    TakesMatchesOf g rules f → TakesMatches g code f
takes_by_rules g rules code f same takes leaf slice calls_back = takes leaf slice (subst (λ (uses : List Use). IsTrue (has_callback uses leaf.0)) same calls_back)
