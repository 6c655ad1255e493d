-- Arguments and attributes that set options without a fault.
use Rattle.std.proofs.Common.{◌≡◌, List, [], Bool, true, false, Option, Some, None, ◌∙◌, ap, sym, refl, subst}
use Rattle.logos_lexeme.specs.declared.lexeme.Span.{Span}
use Rattle.logos_token.specs.Faults.{Fault}
use Rattle.logos_token.specs.Tokens.{TokenList}
use Rattle.logos_type.specs.Parts.{Tree}
use Rattle.logos_type_params.specs.TypeParams.{Value}
use Rattle.logos_enum.specs.AttributeValues.{AttributeValue}
use Rattle.logos_attribute.specs.Slices.{Slice}
use Rattle.logos_attribute.specs.Pieces.{PieceValue, Piece, pieces, up_to_comma, after_comma}
use Rattle.logos_definition.specs.ErrorTypes.{ErrorView, error_read, error_arguments_report}
use Rattle.logos_definition.specs.Options.{OptionsView, error_set}
use Rattle.logos_definition.specs.Metas.{Meta}
use Rattle.logos_definition.specs.Arguments.{ErrorGroup, nothing, no_type, a_type, ReadsError, alone, with_arguments, without_type, with_types, ReadsType, is_given, other_form, ReadsPiece, on_error, on_type, on_other, without_name, no_argument, ReadsPieces, no_piece, one_more, ends}
use Rattle.logos_definition.specs.Attributes.{ReadsMeta, no_arguments, with_arguments as a_group, ReadsAttribute, other_name, a_logos, is_logos}
use Rattle.logos_leaf.proofs.agreement.Report.{Grows, Agree, grows_by, grows_same, grows_then, report_grows, none_before, never, report_once, no_some, the_same, not_both}
use Rattle.logos_leaf.proofs.agreement.Types.{read_grows, none_read, read_once, set_grows, set_once}

-- ---- the type of errors

group_grows : {group : TokenList} {old new : List Fault} {read : Option ErrorView} → ErrorGroup group old new read → Grows old new
group_grows (nothing e f) = grows_by _ f
group_grows (no_type s r) = read_grows r
group_grows (a_type s r t) = grows_then (read_grows r) (report_grows _ t)

none_in_group : {group : TokenList} {old new : List Fault} → ErrorGroup group old new None → new ≡ [] → ⊥
none_in_group (nothing e f) n = never _ _ _ f n
none_in_group (no_type s r) n = none_read r n

group_once : {group : TokenList} {old new old' new' : List Fault} {error : ErrorView} {read : Option ErrorView} → new ≡ [] → ErrorGroup group old new (Some error) →
    ErrorGroup group old' new' read → Agree (Some error) read old' new'
group_once n (a_type s r t) (nothing e f) = absurd (s e)
group_once n (a_type s r t) (no_type c q) = absurd (no_some (read_once r q).1)
group_once {group = group} n (a_type s r t) (a_type c q u) =
    let same = ap (λ (x : Tree). error_arguments_report true (pieces (after_comma group)) (error_read (up_to_comma group) x)) (the_same (read_once r q).1) in
    let k = report_once _ same n t u in (k.0 ∙ (read_once r q).0, ap (λ (x : ErrorView). Some x) k.1)

error_grows : {name : Slice} {o : OptionsView} {o' : OptionsView} {old new : List Fault} {value : PieceValue} {further : Bool} → ReadsError name o o' old new value further → Grows old new
error_grows (alone g t) = report_grows _ t
error_grows (with_arguments g t) = grows_then (group_grows g) (report_grows _ t)
error_grows (without_type g e) = group_grows g

module _ {name : Slice} {o : OptionsView} {p : OptionsView} {q : OptionsView} {old new old' new' : List Fault} where
  error_once : {value : PieceValue} {a b : Bool} → new ≡ [] → ReadsError name o p old new value a → ReadsError name o q old' new' value b → (new' ≡ old') × (p ≡ q) × (a ≡ b)
  error_once n (without_type g e) s = absurd (none_in_group g n)
  error_once n (alone g t) (alone h u) = let k = report_once _ refl n t u in (k.0, k.1, refl)
  error_once n (alone g t) (with_arguments h u) = absurd (not_both refl g)
  error_once n (alone g t) (without_type h e) = absurd (not_both refl g)
  error_once n (with_arguments g t) (alone h u) = absurd (not_both refl h)
  error_once n (with_arguments {group = group} g t) (with_arguments h u) =
      let k = group_once (none_before (report_grows _ t) n) g h in
      let l = report_once _ (ap (λ (x : ErrorView). error_set group x o) (the_same k.1)) n t u in
      (l.0 ∙ k.0, l.1, refl)
  error_once n (with_arguments g t) (without_type h e) = absurd (no_some (group_once (none_before (report_grows _ t) n) g h).1)

-- ---- types that are given

type_grows : {name : Slice} {o : OptionsView} {o' : OptionsView} {old new : List Fault} {value : PieceValue} → ReadsType name o o' old new value → Grows old new
type_grows (is_given s e) = set_grows s
type_grows (other_form k t) = report_grows _ t

type_once : {name : Slice} {o : OptionsView} {p : OptionsView} {q : OptionsView} {old new old' new' : List Fault} {value : PieceValue} → new ≡ [] → ReadsType name o p old new value →
    ReadsType name o q old' new' value → Agree p q old' new'
type_once {o = o} n (is_given s e) (is_given r f) = let k = set_once n s r in (k.0, e ∙ (ap (λ (v : Value). with_types o v) k.1 ∙ sym f))
type_once n (is_given s e) (other_form k t) = absurd (not_both refl k)
type_once n (other_form k t) (is_given s e) = absurd (not_both refl k)
type_once n (other_form k t) (other_form l u) = report_once _ refl n t u

-- ---- arguments

piece_grows : {o : OptionsView} {o' : OptionsView} {old new : List Fault} {piece : Piece} {further : Bool} → ReadsPiece o o' old new piece further → Grows old new
piece_grows (on_error e s) = error_grows s
piece_grows (on_type e f s) = type_grows s
piece_grows (on_other e f t) = report_grows _ t
piece_grows (without_name t) = report_grows _ t
piece_grows (no_argument t) = report_grows _ t

with_more : {p : OptionsView} {q : OptionsView} {old new : List Fault} → Agree p q old new → (new ≡ old) × (p ≡ q) × (true ≡ true)
with_more k = (k.0, k.1, refl)

module _ {o : OptionsView} {p : OptionsView} {q : OptionsView} {old new old' new' : List Fault} where
  piece_once : {piece : Piece} {a b : Bool} → new ≡ [] → ReadsPiece o p old new piece a → ReadsPiece o q old' new' piece b → (new' ≡ old') × (p ≡ q) × (a ≡ b)
  piece_once n (on_error e s) (on_error f r) = error_once n s r
  piece_once n (on_error e s) (on_type f g r) = absurd (not_both e f)
  piece_once n (on_error e s) (on_other f g t) = absurd (not_both e f)
  piece_once n (on_type e f s) (on_error g r) = absurd (not_both g e)
  piece_once n (on_type e f s) (on_type g h r) = with_more (type_once n s r)
  piece_once n (on_type e f s) (on_other g h t) = absurd (not_both f h)
  piece_once n (on_other e f t) (on_error g r) = absurd (not_both g e)
  piece_once n (on_other e f t) (on_type g h r) = absurd (not_both h f)
  piece_once n (on_other e f t) (on_other g h u) = with_more (report_once _ refl n t u)
  piece_once n (without_name t) (without_name u) = with_more (report_once _ refl n t u)
  piece_once n (no_argument t) (no_argument u) = with_more (report_once _ refl n t u)

pieces_grow : {o : OptionsView} {o' : OptionsView} {old new : List Fault} {list : List Piece} → ReadsPieces o o' old new list → Grows old new
pieces_grow no_piece = grows_same refl
pieces_grow (one_more s rest) = grows_then (piece_grows s) (pieces_grow rest)
pieces_grow (ends s) = piece_grows s

pieces_once : {o : OptionsView} {o' : OptionsView} {p : OptionsView} {p' : OptionsView} {old new old' new' : List Fault} {list : List Piece} → o ≡ p → new ≡ [] →
    ReadsPieces o o' old new list → ReadsPieces p p' old' new' list → Agree o' p' old' new'
pieces_once e n no_piece no_piece = (refl, e)
pieces_once e n (one_more {piece = piece} s rest) (one_more {o' = m'} {old = l} {mid = l'} r others) =
    let k = piece_once (none_before (pieces_grow rest) n) s (subst (λ (x : OptionsView). ReadsPiece x m' l l' piece true) (sym e) r) in
    let j = pieces_once k.1 n rest others in (j.0 ∙ k.0, j.1)
pieces_once e n (one_more {piece = piece} s rest) (ends {o' = m'} {old = l} {new = l'} r) =
    absurd (not_both refl (piece_once (none_before (pieces_grow rest) n) s (subst (λ (x : OptionsView). ReadsPiece x m' l l' piece false) (sym e) r)).2)
pieces_once e n (ends {piece = piece} s) (one_more {o' = m'} {old = l} {mid = l'} r others) =
    absurd (not_both refl (sym (piece_once n s (subst (λ (x : OptionsView). ReadsPiece x m' l l' piece true) (sym e) r)).2))
pieces_once e n (ends {piece = piece} s) (ends {o' = m'} {old = l} {new = l'} r) =
    let k = piece_once n s (subst (λ (x : OptionsView). ReadsPiece x m' l l' piece false) (sym e) r) in (k.0, k.1)

-- ---- attributes

meta_grows : {o : OptionsView} {o' : OptionsView} {old new : List Fault} {meta : Meta} {span : Span} → ReadsMeta o o' old new meta span → Grows old new
meta_grows (no_arguments e s f) = grows_by _ f
meta_grows (a_group e s) = pieces_grow s

meta_once : {o : OptionsView} {p : OptionsView} {q : OptionsView} {old new old' new' : List Fault} {meta : Meta} {span : Span} → new ≡ [] → ReadsMeta o p old new meta span →
    ReadsMeta o q old' new' meta span → Agree p q old' new'
meta_once n (no_arguments e s f) r = absurd (never _ _ _ f n)
meta_once n (a_group e s) (no_arguments f r g) = absurd (no_some (sym e ∙ f))
meta_once {o = o} {q = q} {old' = old'} {new' = new'} n (a_group e s) (a_group f r) =
    pieces_once refl n s (subst (λ (x : TokenList). ReadsPieces o q old' new' (pieces x)) (sym (the_same (sym e ∙ f))) r)

pub attribute_grows : {o : OptionsView} {o' : OptionsView} {old new : List Fault} {attribute : AttributeValue} → ReadsAttribute o o' old new attribute → Grows old new
attribute_grows (other_name l e f) = grows_same f
attribute_grows (a_logos m b s) = meta_grows s

pub attribute_once : {o : OptionsView} {p : OptionsView} {q : OptionsView} {old new old' new' : List Fault} {attribute : AttributeValue} → new ≡ [] → ReadsAttribute o p old new attribute →
    ReadsAttribute o q old' new' attribute → Agree p q old' new'
attribute_once n (other_name l e f) (other_name k g h) = (h, e ∙ sym g)
attribute_once n (other_name l e f) (a_logos m b s) = absurd (not_both (ap is_logos m ∙ b) l)
attribute_once n (a_logos m b s) (other_name k g h) = absurd (not_both (ap is_logos m ∙ b) k)
attribute_once {o = o} {q = q} {old' = old'} {new' = new'} {attribute = attribute} n (a_logos m b s) (a_logos k c r) =
    meta_once n s (subst (λ (x : Meta). ReadsMeta o q old' new' x attribute.span) (sym (the_same (sym m ∙ k))) r)
