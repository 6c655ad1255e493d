-- The tokens of a text, as the tokenizer of expressions returns them.
use Rattle.std.specs.Prelude.{◌≡◌, ℕ, Bool, List, [], ◌∷◌, ◌++◌, map, Option, unwrap_or, if◌then◌else◌, slice_get, bytes_eq, codes, Result, Ok, Err, Vec}
use Rattle.std.specs.Global.{Global}
use Rattle.logos_automaton.specs.Munch.{Rule}
use Rattle.logos_code.specs.Items.{Callback, Item, token, error, Items, IsNext}
use Rattle.logos_code.specs.declared.action.Action.TheVariants.{Emit}
use Rattle.logos_pattern.specs.Leaf.{KindValue, plain, holding, skipped}
use Rattle.logos_leaf.specs.Leaves.{LeafView}
use Rattle.logos_codegen.specs.Source.{IsAccepted, IsRefused}
use Rattle.logos_lexeme.specs.declared.lexeme.Span.{Span}
use Rattle.logos_token.specs.Faults.{Fault as SourceFault}
use Rattle.logos_parser.specs.declared.refusal.Refusal.{Refusal}
use Rattle.logos_parser.specs.declared.refusal.Refusal.TheVariants as refusals
use Rattle.logos_codegen.specs.declared.expr.TheConstants.{SOURCE}
use Rattle.logos_codegen.specs.declared.expr.ExprKind.{ExprKind}
use Rattle.logos_codegen.specs.declared.expr.ExprKind.TheVariants.{Number, Name, Let, EqEq, Eq, Plus, Minus, Star, Slash, Open, Close}
use Rattle.logos_codegen.specs.declared.expr.ExprToken.{ExprToken}
use Rattle.logos_codegen.specs.declared.expr.ExprError.{ExprError}
use Rattle.logos_codegen.specs.declared.expr.ExprError.TheVariants as errors

-- A token: its kind, its span, and the text at its span.
pub record Token : Type 0 where
  pub kind : ExprKind
  pub from : ℕ
  pub to : ℕ
  pub slice : List ℕ

abbrev pub token_value : ExprToken → Token
token_value t = record { kind = t.kind; from = t.span.from; to = t.span.to; slice = t.slice.now }

-- The outcome of a text: its tokens, in order, or an error at this span.
pub data Outcome : Type 0 where
  yields : List Token → Outcome
  bad : (from to : ℕ) → Outcome

-- A callback that answers `Emit` for every match.
abbrev pub emits : Callback
emits leaf slice answer = answer ≡ Emit

-- The kind with this name; `Close` if no other kind has it.
abbrev pub kind_named : List ℕ → ExprKind
kind_named name =
    if bytes_eq name (codes "Number") then Number else (if bytes_eq name (codes "Name") then Name
    else (if bytes_eq name (codes "Let") then Let else (if bytes_eq name (codes "EqEq") then EqEq
    else (if bytes_eq name (codes "Eq") then Eq else (if bytes_eq name (codes "Plus") then Plus
    else (if bytes_eq name (codes "Minus") then Minus else (if bytes_eq name (codes "Star") then Star
    else (if bytes_eq name (codes "Slash") then Slash else (if bytes_eq name (codes "Open") then Open
    else Close)))))))))

-- The kind of a leaf's tokens, determined by the name of its variant. A skip has no tokens.
abbrev pub kind_given : KindValue → ExprKind
kind_given (plain name) = kind_named name.text.now
kind_given (holding name type) = kind_named name.text.now
kind_given skipped = Close

-- The kinds of the tokens of an enum's leaves, in the order of their numbers.
abbrev pub kinds_of_views : List LeafView → List ExprKind
kinds_of_views leaves = map (λ leaf. kind_given leaf.kind) leaves

-- The kind of the tokens of the leaf with this number.
abbrev pub kind_at : List ExprKind → ℕ → ExprKind
kind_at kinds leaf = unwrap_or (slice_get kinds leaf) Close

-- The outcome with these tokens before its own.
abbrev pub in_front : List Token → Outcome → Outcome
in_front tokens (yields others) = yields (tokens ++ others)
in_front tokens (bad from to) = bad from to

-- For the kinds of leaves, in the order of their numbers.
module _ (kinds : List ExprKind) where
  -- The outcome of items: if an error is among them, the span of the first; otherwise the tokens in
  -- order, each with its leaf's kind.
  abbrev pub outcome_of : List Item → Outcome
  outcome_of [] = yields []
  outcome_of (token leaf from to slice ∷ items) =
      in_front (record { kind = kind_at kinds leaf; from = from; to = to; slice = slice } ∷ []) (outcome_of items)
  outcome_of (error leaf from to slice ∷ items) = bad from to

  -- The item is this token.
  abbrev pub IsToken : Item → ExprToken → Type 0
  IsToken item t = outcome_of (item ∷ []) ≡ yields (token_value t ∷ [])

-- The item is an error at this span.
abbrev pub IsErrorAt : Item → Span → Type 0
IsErrorAt (token leaf from to slice) span = ⊥
IsErrorAt (error leaf from to slice) span = (from ≡ span.from) × (to ≡ span.to)

-- The items of a text from an offset that determine its outcome: all of them, if no error is among
-- them, otherwise those up to the first error. Each is the next one after its predecessor.
pub data AreRead (rules : List Rule) (utf8 : Bool) (text : List ℕ) : ℕ → List Item → Type 0 where
  all_read : (at : ℕ) → Items rules emits utf8 text at [] → AreRead rules utf8 text at []
  token_read : (at leaf from to : ℕ) (slice : List ℕ) (next : ℕ) (items : List Item) →
      IsNext rules emits utf8 text at (token leaf from to slice) next → AreRead rules utf8 text next items →
      AreRead rules utf8 text at (token leaf from to slice ∷ items)
  error_read : (at : ℕ) (leaf : Option ℕ) (from to : ℕ) (slice : List ℕ) (next : ℕ) →
      IsNext rules emits utf8 text at (error leaf from to slice) next → AreRead rules utf8 text at (error leaf from to slice ∷ [])

-- The text has this outcome, according to the leaves of the enum and the names of its variants.
pub record Tokenizes (text : List ℕ) (outcome : Outcome) : Type 0 where
  pub rules : List Rule
  pub utf8 : Bool
  pub accepted : IsAccepted SOURCE.now rules utf8
  pub items : List Item
  pub read : AreRead rules utf8 text 0 items
  pub is : outcome ≡ outcome_of (kinds_of_views accepted.leaves) items

-- `outcome` is the outcome of the text, for each list of items that the text has under the leaves
-- of the enum.
abbrev pub IsOutcome : List ℕ → Outcome → Type 0
IsOutcome text outcome =
    (rules : List Rule) (utf8 : Bool) (items : List Item) (accepted : IsAccepted SOURCE.now rules utf8) → Items rules emits utf8 text 0 items → outcome ≡ outcome_of (kinds_of_views accepted.leaves) items

-- The result is an outcome that satisfies `Holds`, or memory ran out.
abbrev pub Answers : (Outcome → Type 0) → Result (Vec ExprToken Global) ExprError → Type 0
Answers Holds (Ok tokens) = Holds (yields (map token_value tokens.items))
Answers Holds (Err errors.Refused) = ⊥
Answers Holds (Err (errors.Bad span)) = Holds (bad span.from span.to)
Answers Holds (Err errors.Memory) = Unit {0}

-- The reason that there is no tokenizer: its enum is refused, or memory ran out.
abbrev pub IsRefusalOf : ExprError → Type 0
IsRefusalOf errors.Refused = (faults : List SourceFault) × IsRefused SOURCE.now faults
IsRefusalOf (errors.Bad span) = ⊥
IsRefusalOf errors.Memory = Unit {0}

-- The refusal of a source as an error of the tokenizer.
abbrev pub IsThatError : Refusal → ExprError → Type 0
IsThatError (refusals.Errors faults) e = e ≡ errors.Refused
IsThatError refusals.Memory e = e ≡ errors.Memory
