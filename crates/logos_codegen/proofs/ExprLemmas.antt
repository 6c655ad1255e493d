-- From a lexer's items to the tokens of the tokenizer of expressions.
use Rattle.std.proofs.Common.{◌≡◌, ℕ, ◌+◌, ◌<◌, ◌≤◌, drop, get_or, Bool, true, false, List, [], ◌∷◌, ◌++◌, length, map, slice_range, refl, sym, ap, ◌∙◌, append_assoc, append-nil, MatchBool, arith, None, IsUtf8}
use Rattle.std.proofs.lemmas.List.{drop_more}
use Rattle.logos_pattern.specs.Leaf.{kind_value}
use Rattle.logos_pattern.specs.declared.leaf.Leaf.{Leaf}
use Rattle.logos_leaf.specs.LeafViews.{leaf_view}
use Rattle.logos_automaton.specs.Munch.{Use, Rule, IsInput, ended, matched, failed, Finds}
use Rattle.logos_automaton.proofs.munch.Unique.{finds_one}
use Rattle.logos_hir.specs.Text.{IsBytes}
use Rattle.logos_code.specs.Code.{CodeValue}
use Rattle.logos_code.specs.Headline.{IsLexer}
use Rattle.logos_machine.specs.LexerValue.{LexerValue, Yields, Ends}
use Rattle.logos_code.specs.Runs.{Runs, RunsOn}
use Rattle.logos_code.specs.declared.action.Action.{Action}
use Rattle.logos_code.specs.declared.action.Action.TheVariants.{Emit, Skip, Error}
use Rattle.logos_code.specs.Items.{Callback, Search, Item, token, error, calls_back, MayAnswer, items_of, over, match, fault, NextItem, passes, yields as yields_item, fails, Items, IsNext}
use Rattle.logos_generator.proofs.Compose.{runs_iff, next_iff}
use Rattle.logos_generator.proofs.InOrder.{best_within, stop_within}
use Rattle.logos_generator.proofs.Once.{items_once}
use Rattle.logos_generator.specs.Laws.{AnswersOnce}
use Rattle.logos_codegen.specs.Source.{IsRefused}
use Rattle.logos_parser.specs.Refusals.{Refuses}
use Rattle.logos_parser.specs.declared.refusal.Refusal.{Refusal}
use Rattle.logos_parser.specs.declared.refusal.Refusal.TheVariants as refusals
use Rattle.logos_codegen.specs.declared.expr.ExprError.{ExprError}
use Rattle.logos_codegen.specs.declared.expr.ExprKind.{ExprKind}
use Rattle.logos_lexeme.specs.declared.lexeme.Span.{Span}
use Rattle.logos_codegen.specs.Language.{IsLanguage}
use Rattle.logos_codegen.specs.declared.expr.TheConstants.{SOURCE}
use Rattle.logos_codegen.specs.Tokenizing.{Token, Outcome, yields, bad, emits, kind_at, kind_given, kinds_of_views, in_front, IsErrorAt, outcome_of, AreRead, all_read, token_read, error_read, Tokenizes, IsOutcome, IsRefusalOf, IsThatError}
use Rattle.logos_codegen.proofs.AcceptLemmas.{accepted_once, kinds_once}
use Rattle.logos_machine.proofs.ItemsLemmas.{may_by, lexes_by}

-- in front of nothing
pub in_front_none : (outcome : Outcome) → in_front [] outcome ≡ outcome
in_front_none (yields tokens) = refl
in_front_none (bad from to) = refl

in_front_both : (first second : List Token) (outcome : Outcome) → in_front first (in_front second outcome) ≡ in_front (first ++ second) outcome
in_front_both first second (yields tokens) = ap yields (sym (append_assoc first second tokens))
in_front_both first second (bad from to) = refl

one_given : (t u : Token) → yields (t ∷ []) ≡ yields (u ∷ []) → t ≡ u
one_given t u e = cc

module _ (kinds : List ExprKind) (rules : List Rule) (utf8 : Bool) (text : List ℕ) where
  -- the tokens, and those that are read from the offset on, are those that are read from the start
  pub record Continues (tokens : List Token) (at : ℕ) : Type 0 where
    pub on : (rest : List Item) → AreRead rules utf8 text at rest →
        (items : List Item) × AreRead rules utf8 text 0 items × (outcome_of kinds items ≡ in_front tokens (outcome_of kinds rest))

  pub begins : Continues [] 0
  begins = record { on = λ rest r. (rest, r, sym (in_front_none (outcome_of kinds rest))) }

  -- one token more
  pub token_on : (tokens : List Token) (at next : ℕ) (item : Item) (t : Token) → Continues tokens at → IsNext rules emits utf8 text at item next →
      outcome_of kinds (item ∷ []) ≡ yields (t ∷ []) → Continues (tokens ++ t ∷ []) next
  token_on tokens at next (token leaf from to slice) t goes n e = record {
    on = λ rest r.
        let u : Token = record { kind = kind_at kinds leaf; from = from; to = to; slice = slice } in
        let read = goes.on (token leaf from to slice ∷ rest) (token_read at leaf from to slice next rest n r) in
        let same : u ≡ t = one_given u t e in
        let both : in_front tokens (in_front (u ∷ []) (outcome_of kinds rest)) ≡ in_front (tokens ++ u ∷ []) (outcome_of kinds rest) = in_front_both tokens (u ∷ []) (outcome_of kinds rest) in
        (read.0, read.1, read.2 ∙ both ∙ ap (λ x. in_front (tokens ++ x ∷ []) (outcome_of kinds rest)) same);
  }
  token_on tokens at next (error leaf from to slice) t goes n e = absurd (cc)

  -- the first error
  pub error_on : (tokens : List Token) (at next start end : ℕ) (item : Item) → Continues tokens at → IsNext rules emits utf8 text at item next →
      outcome_of kinds (item ∷ []) ≡ bad start end → (items : List Item) × AreRead rules utf8 text 0 items × (outcome_of kinds items ≡ bad start end)
  error_on tokens at next start end (token leaf from to slice) goes n e = absurd (cc)
  error_on tokens at next start end (error leaf from to slice) goes n e =
      let read = goes.on (error leaf from to slice ∷ []) (error_read at leaf from to slice next n) in
      (read.0, read.1, read.2 ∙ ap (in_front tokens) e)

  -- no more items
  pub end_on : (tokens : List Token) (at : ℕ) → Continues tokens at → Items rules emits utf8 text at [] →
      (items : List Item) × AreRead rules utf8 text 0 items × (outcome_of kinds items ≡ yields tokens)
  end_on tokens at goes o =
      let read = goes.on [] (all_read at o) in
      (read.0, read.1, read.2 ∙ ap yields (append-nil tokens))

-- ---- the kinds of leaves

-- one kind more
pub kinds_turn : (leaves : List Leaf) (i : ℕ) (d : Leaf) (old new : List ExprKind) (x : ExprKind) → i < length leaves → new ≡ old ++ x ∷ [] → x ≡ kind_given (kind_value (get_or leaves i d).kind) →
    old ++ map (λ leaf. kind_given (kind_value leaf.kind)) (drop i leaves) ≡ map (λ leaf. kind_given (kind_value leaf.kind)) leaves →
    new ++ map (λ leaf. kind_given (kind_value leaf.kind)) (drop (i + 1) leaves) ≡ map (λ leaf. kind_given (kind_value leaf.kind)) leaves
kinds_turn leaves i d old new x lt is same before =
    let split = append_assoc old (x ∷ []) (map (λ (leaf : Leaf). kind_given (kind_value leaf.kind)) (drop (i + 1) leaves)) in
    rw is (split ∙ ap (λ u. old ++ (u ∷ map (λ (leaf : Leaf). kind_given (kind_value leaf.kind)) (drop (i + 1) leaves))) same ∙ (rw (drop_more leaves i d lt) at before))

-- the kinds of leaves of an enum
pub kinds_viewed : (leaves : List Leaf) → map (λ leaf. kind_given (kind_value leaf.kind)) leaves ≡ kinds_of_views (map leaf_view leaves)
kinds_viewed [] = refl
kinds_viewed (leaf ∷ leaves) = ap (λ (kinds : List ExprKind). kind_given (kind_value leaf.kind) ∷ kinds) (kinds_viewed leaves)

-- ---- items by a callback that emits every match

next_by : (uses : List Use) (bytes : List ℕ) (search : Search) (callback other : Callback) → ((leaf : ℕ) (slice : List ℕ) (answer : Action) → callback leaf slice answer → other leaf slice answer) →
    {from : ℕ} {item : Item} {end : ℕ} → NextItem uses callback bytes search from item end → NextItem uses other bytes search from item end
next_by uses bytes search callback other h (passes from to leaf Emit item end s m e n) = passes from to leaf Emit item end s (may_by uses bytes callback other h leaf _ Emit m) e (next_by uses bytes search callback other h n)
next_by uses bytes search callback other h (passes from to leaf Skip item end s m e n) = passes from to leaf Skip item end s (may_by uses bytes callback other h leaf _ Skip m) e (next_by uses bytes search callback other h n)
next_by uses bytes search callback other h (passes from to leaf Error item end s m e n) = passes from to leaf Error item end s (may_by uses bytes callback other h leaf _ Error m) e (next_by uses bytes search callback other h n)
next_by uses bytes search callback other h (yields_item from to leaf Emit item s m e) = yields_item from to leaf Emit item s (may_by uses bytes callback other h leaf _ Emit m) e
next_by uses bytes search callback other h (yields_item from to leaf Skip item s m e) = yields_item from to leaf Skip item s (may_by uses bytes callback other h leaf _ Skip m) e
next_by uses bytes search callback other h (yields_item from to leaf Error item s m e) = yields_item from to leaf Error item s (may_by uses bytes callback other h leaf _ Error m) e
next_by uses bytes search callback other h (fails from to s) = fails from to s

module _ (rules : List Rule) (utf8 : Bool) (code : CodeValue) (text : List ℕ) (lexer : IsLexer rules utf8 code) (input : IsInput utf8 text)
    (callback : Callback) (answers : (leaf : ℕ) (slice : List ℕ) (answer : Action) → callback leaf slice answer → answer ≡ Emit) where
  abbrev uses : List Use
  uses = map (λ rule. rule.use_of) rules

  pub next_emitted : (at : ℕ) (item : Item) (next : ℕ) → RunsOn code callback text at item next → IsNext rules emits utf8 text at item next
  next_emitted at item next r = next_by uses text (Finds rules utf8 text) callback emits answers ((next_iff rules utf8 code callback text at item next lexer input).0 r)

  pub none_emitted : (at : ℕ) → Runs code callback text at [] → Items rules emits utf8 text at []
  none_emitted at r = lexes_by uses text (Finds rules utf8 text) callback emits answers ((runs_iff rules utf8 code callback text at [] lexer input).0 r)

-- ---- a text has one list of items

emits_once : AnswersOnce emits
emits_once leaf slice one other a b = a ∙ sym b

module _ (rules : List Rule) (utf8 : Bool) (text : List ℕ) where
  abbrev uses_of : List Use
  uses_of = map (λ rule. rule.use_of) rules

  answer_is : (leaf : ℕ) (slice : List ℕ) (answer : Action) → MayAnswer uses_of emits text leaf slice answer → answer ≡ Emit
  answer_is leaf slice answer m = go (calls_back uses_of emits text leaf) m
    where
      go : (b : Bool) → MatchBool b (answer ≡ Emit) (answer ≡ Emit) → answer ≡ Emit
      go true m = m
      go false m = m

  -- equal matches give equal items
  same_items : (from leaf to other end : ℕ) (answer reply : Action) → matched leaf to ≡ matched other end →
      MayAnswer uses_of emits text leaf (slice_range text from to) answer → MayAnswer uses_of emits text other (slice_range text from end) reply →
      items_of uses_of emits text reply other from end ≡ items_of uses_of emits text answer leaf from to
  same_items from leaf to other end answer reply f m n =
      let l : leaf ≡ other = cc in
      let t : to ≡ end = cc in
      let a : answer ≡ Emit = answer_is leaf (slice_range text from to) answer m in
      let b : reply ≡ Emit = answer_is other (slice_range text from end) reply n in
      ap (λ x. items_of uses_of emits text x other from end) (b ∙ sym a) ∙ ap (λ x. items_of uses_of emits text answer x from end) (sym l)
      ∙ ap (λ x. items_of uses_of emits text answer leaf from x) (sym t)

  one_end : (from leaf to other end : ℕ) → from ≤ length text → Finds rules utf8 text from (matched leaf to) → Finds rules utf8 text from (matched other end) → matched leaf to ≡ matched other end
  one_end from leaf to other end inside s t = finds_one rules utf8 text from inside (matched leaf to) (matched other end) s t

  -- all items begin with the next one
  record BeginsWith (item : Item) (next : ℕ) (all : List Item) : Type 0 where
    rest : List Item
    are : all ≡ item ∷ rest
    items : Items rules emits utf8 text next rest
    inside : next ≤ length text

  begins_with : {at next : ℕ} {item : Item} {all : List Item} → at ≤ length text → IsNext rules emits utf8 text at item next → Items rules emits utf8 text at all → BeginsWith item next all
  begins_with inside (passes from to leaf answer item end s m e n) (over row_start t) = absurd (let f : matched leaf to ≡ ended = finds_one rules utf8 text from inside (matched leaf to) ended s t in cc)
  begins_with inside (passes from to leaf answer item end s m e n) (match row_start to' other reply others t m' k) =
      let f = one_end from leaf to other to' inside s t in
      let u : to ≡ to' = cc in
      let k' : Items rules emits utf8 text to others = rw u k in
      let on = begins_with (best_within rules text from to leaf inside s) n k' in
      record { rest = on.rest; are = ap (λ x. x ++ others) (same_items from leaf to other to' answer reply f m m' ∙ e) ∙ on.are; items = on.items; inside = on.inside }
  begins_with inside (passes from to leaf answer item end s m e n) (fault row_start to' others t k) = absurd (let f : matched leaf to ≡ failed to' = finds_one rules utf8 text from inside (matched leaf to) (failed to') s t in cc)
  begins_with inside (yields_item from to leaf answer item s m e) (over row_start t) = absurd (let f : matched leaf to ≡ ended = finds_one rules utf8 text from inside (matched leaf to) ended s t in cc)
  begins_with inside (yields_item from to leaf answer item s m e) (match row_start to' other reply others t m' k) =
      let f = one_end from leaf to other to' inside s t in
      let u : to ≡ to' = cc in
      let k' : Items rules emits utf8 text to others = rw u k in
      record { rest = others; are = ap (λ x. x ++ others) (same_items from leaf to other to' answer reply f m m' ∙ e); items = k'; inside = best_within rules text from to leaf inside s }
  begins_with inside (yields_item from to leaf answer item s m e) (fault row_start to' others t k) = absurd (let f : matched leaf to ≡ failed to' = finds_one rules utf8 text from inside (matched leaf to) (failed to') s t in cc)
  begins_with inside (fails from to s) (over row_start t) = absurd (let f : failed to ≡ ended = finds_one rules utf8 text from inside (failed to) ended s t in cc)
  begins_with inside (fails from to s) (match row_start to' other reply others t m' k) = absurd (let f : failed to ≡ matched other to' = finds_one rules utf8 text from inside (failed to) (matched other to') s t in cc)
  begins_with inside (fails from to s) (fault row_start to' others t k) =
      let f : failed to ≡ failed to' = finds_one rules utf8 text from inside (failed to) (failed to') s t in
      let u : to ≡ to' = cc in
      let k' : Items rules emits utf8 text to others = rw u k in
      record { rest = others; are = ap (λ x. error None from x (slice_range text from x) ∷ others) (sym u); items = k'; inside = stop_within rules utf8 text from to s.0 s.2 }

  -- the items that were read have the outcome of all items
  read_outcome : (kinds : List ExprKind) {at : ℕ} {items all : List Item} → at ≤ length text → AreRead rules utf8 text at items → Items rules emits utf8 text at all → outcome_of kinds items ≡ outcome_of kinds all
  read_outcome kinds inside (all_read at o) a = ap (outcome_of kinds) (items_once rules emits emits_once utf8 text inside o a)
  read_outcome kinds inside (token_read at leaf from to slice next items n r) a =
      let b = begins_with inside n a in
      ap (λ x. in_front (record { kind = kind_at kinds leaf; from = from; to = to; slice = slice } ∷ []) x) (read_outcome kinds b.inside r b.items) ∙ ap (outcome_of kinds) (sym b.are)
  read_outcome kinds inside (error_read at leaf from to slice next n) a =
      let b = begins_with inside n a in
      ap (outcome_of kinds) (sym b.are)

-- the outcome of a text is that of all its items
pub outcome_is : (text : List ℕ) (outcome : Outcome) → Tokenizes text outcome → IsOutcome text outcome
outcome_is text outcome t = λ rules utf8 items a all.
    let same = accepted_once SOURCE.now rules t.rules utf8 t.utf8 a t.accepted in
    let all' : Items t.rules emits t.utf8 text 0 items = rw (← same.0, ← same.1) all in
    let kinds : kinds_of_views t.accepted.leaves ≡ kinds_of_views a.leaves = kinds_once SOURCE.now t.rules rules t.utf8 utf8 t.accepted a in
    t.is ∙ read_outcome t.rules t.utf8 text (kinds_of_views t.accepted.leaves) (omega arith) t.read all' ∙ ap (λ k. outcome_of k items) kinds

-- an error has its span as its outcome
pub error_outcome : (kinds : List ExprKind) (item : Item) (span : Span) → IsErrorAt item span → outcome_of kinds (item ∷ []) ≡ bad span.from span.to
error_outcome kinds (token leaf from to slice) span e = absurd e
error_outcome kinds (error leaf from to slice) span e = rw (e.0, e.1) refl

-- ---- the steps of a lexer

module _ {C : Type 0} (callback : Callback) (answers : (leaf : ℕ) (slice : List ℕ) (answer : Action) → callback leaf slice answer → answer ≡ Emit)
    (code : CodeValue) (kinds : List ExprKind) (text : List ℕ) (bytes : IsBytes text) (valid : IsUtf8 text) (old new : LexerValue C) (same_code : old.code ≡ code) (same_input : old.input ≡ text)
    (tokens : List Token) (continues : (rules : List Rule) (utf8 : Bool) → IsLexer rules utf8 code → Continues kinds rules utf8 text tokens old.to) where
  next_read : (rules : List Rule) (utf8 : Bool) → IsLexer rules utf8 code → (item : Item) → Yields callback old new item → IsNext rules emits utf8 text old.to item new.to
  next_read rules utf8 lexer item g =
      let is : RunsOn code callback text old.to item new.to = rw (same_code, same_input) at g.is in
      next_emitted rules utf8 code text lexer (bytes, λ t. valid) callback answers old.to item new.to is

  -- one token more
  pub token_more : (item : Item) (t : Token) → Yields callback old new item → outcome_of kinds (item ∷ []) ≡ yields (t ∷ []) →
      (rules : List Rule) (utf8 : Bool) → IsLexer rules utf8 code → Continues kinds rules utf8 text (tokens ++ t ∷ []) new.to
  token_more item t g e rules utf8 lexer = token_on kinds rules utf8 text tokens old.to new.to item t (continues rules utf8 lexer) (next_read rules utf8 lexer item g) e

  -- the first error
  pub tokenized_bad : IsLanguage (record { code = code; kinds = kinds }) → (item : Item) (start end : ℕ) → Yields callback old new item → outcome_of kinds (item ∷ []) ≡ bad start end → Tokenizes text (bad start end)
  tokenized_bad l item start end g e =
      let read = error_on kinds l.rules l.utf8 text tokens old.to new.to start end item (continues l.rules l.utf8 l.lexer) (next_read l.rules l.utf8 l.lexer item g) e in
      record { rules = l.rules; utf8 = l.utf8; accepted = l.accepted; items = read.0; read = read.1; is = sym read.2 ∙ ap (λ k. outcome_of k read.0) l.kinds }

  -- no more items
  pub tokenized_all : IsLanguage (record { code = code; kinds = kinds }) → Ends callback old new → Tokenizes text (yields tokens)
  tokenized_all l g =
      let over : Runs code callback text old.to [] = rw (same_code, same_input) at g.over in
      let read = end_on kinds l.rules l.utf8 text tokens old.to (continues l.rules l.utf8 l.lexer) (none_emitted l.rules l.utf8 code text l.lexer (bytes, λ t. valid) callback answers old.to over) in
      record { rules = l.rules; utf8 = l.utf8; accepted = l.accepted; items = read.0; read = read.1; is = sym read.2 ∙ ap (λ k. outcome_of k read.0) l.kinds }

-- the reason that there is no tokenizer
pub refusal_of : (refusal : Refusal) (why : ExprError) → IsThatError refusal why → Refuses (IsRefused SOURCE.now) refusal → IsRefusalOf why
refusal_of (refusals.Errors faults) why e r = rw e (faults, r)
refusal_of refusals.Memory why e r = rw e tt
