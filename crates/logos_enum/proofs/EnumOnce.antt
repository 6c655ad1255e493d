-- The rules of an enum have at most one outcome for a run.
use Rattle.std.proofs.Common.{◌≡◌, inl, inr, Bool, true, false, List, Option, Some, Result, Ok, Err, refl, sym, ◌∙◌, ap, subst}
use Rattle.logos_token.specs.Tokens.{TokenList, none, append, rest_of}
use Rattle.logos_type.specs.Parts.{Tree}
use Rattle.logos_type_reader.specs.Table.{Fault}
use Rattle.logos_enum.specs.declared.error.ReadError.{ReadError}
use Rattle.logos_enum.specs.declared.error.ReadError.TheVariants.{Memory}
use Rattle.logos_enum.specs.declared.extents.End.TheVariants.{OfDefault, OfField}
use Rattle.logos_enum.specs.declared.generics.ParameterKind.{ParameterKind}
use Rattle.logos_enum.specs.declared.generics.ParameterKind.TheVariants.{Lifetime, «Type», Const}
use Rattle.logos_enum.specs.Attributes.{announced_in, IsFront}
use Rattle.logos_enum.specs.Extents.{after_extent}
use Rattle.logos_enum.specs.Marks.{is_none, begins_with, greater}
use Rattle.logos_enum.specs.Groups.{Opened}
use Rattle.logos_enum.specs.Rules.{Outcome, Occurs}
use Rattle.logos_enum.specs.Values.{Head, ParameterValue}
use Rattle.logos_enum.specs.EnumValues.{Typed, FieldValue, in_parenthesis, in_braces, VariantValue, EnumValue}
use Rattle.logos_enum.specs.Generics.{tail, shape, parameter_of, OneParameter, parameters, Generics}
use Rattle.logos_enum.specs.Generics.OneParameter.{occurs, broken}
use Rattle.logos_enum.specs.Generics.Generics.{listed, absent}
use Rattle.logos_enum.specs.Enum.{type_error, FieldType, label, field, fields, within, Holding, variant, variants, Body, item, Reads}
use Rattle.logos_enum.specs.Enum.FieldType.{fits, fails}
use Rattle.logos_enum.specs.Enum.Holding.{in_tuple, with_names, nothing}
use Rattle.logos_enum.specs.Enum.Body.{braced, lacking}
use Rattle.logos_enum.specs.Enum.Reads.{reads, refuses, unannounced}
use Rattle.logos_enum.proofs.TypeLaws.{one_type, no_type, one_type_fault}
use Rattle.logos_enum.proofs.Once.{Once, once-by, once-given, once-then, once-listed, once-attributes, one-front, reading, failing, succeeding, same-value, same-rest, same-error, read-or-fail, no-front}

-- equal fronts of a run, before equal rests
front-of : (run front other rest : TokenList) → run ≡ append front rest → run ≡ append other rest → front ≡ other
front-of run front other rest e f = one-front front other rest (sym e ∙ f)

abbrev typed_as : Tree → TokenList → Typed
typed_as type run = record { type = type; run = run }

once-type : Once FieldType
once-type run one other (fits {type} {front} {rest} h e) (fits {type = type'} {front = front'} {rest = rest'} k f) =
    let t = one_type run rest rest' type type' h k in
    let p = front-of run front front' (after_extent OfField run) e f in
    ap (λ (x : Tree). reading (typed_as x front) rest) t.0 ∙ (ap (λ (x : TokenList). reading (typed_as type' x) rest) p ∙ ap (λ (x : TokenList). reading (typed_as type' front') x) t.1)
once-type run one other (fits {type} {rest} h e) (fails fault front k f) = absurd (no_type run rest type fault k h)
once-type run one other (fails fault front h e) (fits {type} {rest} k f) = absurd (no_type run rest type fault h k)
once-type run one other (fails fault front h e) (fails fault' front' k f) =
    let p = front-of run front front' (after_extent OfField run) e f in
    ap (λ (x : Fault). failing (Typed × TokenList) (type_error front x)) (one_type_fault run fault fault' h k) ∙ ap (λ (x : TokenList). failing (Typed × TokenList) (type_error x fault')) p

once-label : (named : Bool) → Once (label named)
once-label true = once-then _ _ (once-by _) (λ _. once-by _)
once-label false = once-given tt

once-field : (named : Bool) → Once (field named)
once-field named = once-then _ _ once-attributes (λ a. once-then _ _ (once-by _) (λ _. once-then _ _ (once-label named) (λ _. once-then _ _ once-type (λ t. once-given _))))

once-fields : (named : Bool) → Once (fields named)
once-fields named = once-listed is_none (field named) (once-field named)

same-group : (one other : Opened) → Some one ≡ Some other → one ≡ other
same-group one other e = cc

once-holding : Once Holding
once-holding run one other (in_tuple opened inner e h) (in_tuple opened' inner' f k) =
    let o = same-group opened opened' (sym e ∙ f) in
    let k' : fields false opened.inside inner' = subst (λ (x : Opened). fields false x.inside inner') (sym o) k in
    let i = once-fields false opened.inside inner inner' h k' in
    ap (λ (x : Outcome (List FieldValue)). within (in_parenthesis opened.span) opened.rest x) i ∙ ap (λ (x : Opened). within (in_parenthesis x.span) x.rest inner') o
once-holding run one other (in_tuple opened inner e h) (with_names opened' inner' n f k) = let s = sym e ∙ n in cc
once-holding run one other (in_tuple opened inner e h) (nothing n f) = let s = sym e ∙ n in cc
once-holding run one other (with_names opened' inner' n f k) (in_tuple opened inner e h) = let s = sym e ∙ n in cc
once-holding run one other (with_names opened inner n e h) (with_names opened' inner' m f k) =
    let o = same-group opened opened' (sym e ∙ f) in
    let k' : fields true opened.inside inner' = subst (λ (x : Opened). fields true x.inside inner') (sym o) k in
    let i = once-fields true opened.inside inner inner' h k' in
    ap (λ (x : Outcome (List FieldValue)). within (in_braces opened.span) opened.rest x) i ∙ ap (λ (x : Opened). within (in_braces x.span) x.rest inner') o
once-holding run one other (with_names opened inner n e h) (nothing m f) = let s = sym e ∙ f in cc
once-holding run one other (nothing m f) (in_tuple opened inner e h) = let s = sym e ∙ m in cc
once-holding run one other (nothing m f) (with_names opened inner n e h) = let s = sym e ∙ f in cc
once-holding run one other (nothing n e) (nothing m f) = refl

once-variant : Once variant
once-variant = once-then _ _ once-attributes (λ a. once-then _ _ (once-by _) (λ n. once-then _ _ once-holding (λ h. once-then _ _ (once-by _) (λ _. once-given _))))

once-variants : Once variants
once-variants = once-listed is_none variant once-variant

once-body : Once Body
once-body run one other (braced opened inner e h) (braced opened' inner' f k) =
    let o = same-group opened opened' (sym e ∙ f) in
    let k' : variants opened.inside inner' = subst (λ (x : Opened). variants x.inside inner') (sym o) k in
    let i = once-variants opened.inside inner inner' h k' in
    ap (λ (x : Outcome (List VariantValue)). within (λ (list : List VariantValue). list) opened.rest x) i ∙ ap (λ (x : Opened). within (λ (list : List VariantValue). list) x.rest inner') o
once-body run one other (braced opened inner e h) (lacking f) = let s = sym e ∙ f in cc
once-body run one other (lacking f) (braced opened inner e h) = let s = sym e ∙ f in cc
once-body run one other (lacking e) (lacking f) = refl

once-tail : (kind : ParameterKind) → Once (tail kind)
once-tail Lifetime = once-by _
once-tail «Type» = once-then _ _ (once-by _) (λ _. once-by _)
once-tail Const = once-then _ _ (once-by _) (λ _. once-by _)

once-shape : Once shape
once-shape = once-then _ _ once-attributes (λ _. once-then _ _ (once-by _) (λ head. once-then _ _ (once-tail head.kind) (λ _. once-given _)))

once-parameter : Once OneParameter
once-parameter run one other (occurs {head} {front} {rest} h e) (occurs {head = head'} {front = front'} {rest = rest'} k f) =
    let s = once-shape run _ _ h k in
    let p = front-of run front front' (after_extent OfDefault run) e f in
    ap (λ (x : Head). reading (parameter_of x front) rest) (same-value head head' rest rest' s)
    ∙ (ap (λ (x : TokenList). reading (parameter_of head' x) rest) p ∙ ap (λ (x : TokenList). reading (parameter_of head' front') x) (same-rest head head' rest rest' s))
once-parameter run one other (occurs h e) (broken k) = let s = once-shape run _ _ h k in cc
once-parameter run one other (broken k) (occurs h e) = let s = once-shape run _ _ k h in cc
once-parameter run one other (broken {error} h) (broken {error = error'} k) = same-error (Head × TokenList) (ParameterValue × TokenList) error error' (once-shape run _ _ h k)

once-parameters : Once parameters
once-parameters = once-then _ _ (once-listed (begins_with greater) OneParameter once-parameter) (λ list. once-then _ _ (once-by _) (λ _. once-given _))

once-generics : Once Generics
once-generics run one other (listed e h) (listed f k) = once-parameters (rest_of run) one other h k
once-generics run one other (listed e h) (absent f) = let s : true ≡ false = sym e ∙ f in cc
once-generics run one other (absent f) (listed e h) = let s : true ≡ false = sym e ∙ f in cc
once-generics run one other (absent e) (absent f) = refl

once-item : (attributes : TokenList) → Once (item attributes)
once-item attributes =
    once-then _ _ (once-by _) (λ n. once-then _ _ once-generics (λ p. once-then _ _ (once-by _) (λ _. once-then _ _ once-body (λ list. once-then _ _ (once-by _) (λ _. once-given _)))))

module _ (run one other rest after : TokenList) (front : IsFront run one rest) (second : IsFront run other after) where
  middles : reading one front.middle ≡ reading other second.middle
  middles = once-attributes run _ _ front.occur second.occur

  front-attributes : one ≡ other
  front-attributes = same-value one other front.middle second.middle middles

  front-rest : rest ≡ after
  front-rest =
      let m = same-rest one other front.middle second.middle middles in
      let e : ◌≡◌ {A = Option TokenList} (Some rest) (Some after) = sym front.announced ∙ (ap announced_in m ∙ second.announced) in
      cc

  -- tokens that are read after the one front are read after the other
  front-item : (outcome : Outcome EnumValue) → item other after outcome → item one rest outcome
  front-item outcome h =
      let k : item one after outcome = subst (λ (x : TokenList). item x after outcome) (sym front-attributes) h in
      subst (λ (x : TokenList). item one x outcome) (sym front-rest) k

pub once-reads : (run : TokenList) (one other : Result EnumValue ReadError) → Reads run one → Reads run other → one ≡ other
once-reads run one other (reads {attributes} {rest} {value} f h) (reads {attributes = attributes'} {rest = rest'} {value = value'} g k) =
    let e = once-item attributes rest _ _ h (front-item run attributes attributes' rest rest' f g _ k) in
    ap (succeeding EnumValue) (same-value value value' none none e)
once-reads run one other (reads {attributes} {rest} f h) (refuses {attributes = attributes'} {rest = rest'} g k) =
    let e = once-item attributes rest _ _ h (front-item run attributes attributes' rest rest' f g _ k) in cc
once-reads run one other (reads f h) (unannounced n) = absurd (no-front run n _ _ f)
once-reads run one other (refuses {attributes} {rest} f h) (reads {attributes = attributes'} {rest = rest'} g k) =
    let e = once-item attributes rest _ _ h (front-item run attributes attributes' rest rest' f g _ k) in cc
once-reads run one other (refuses {attributes} {rest} {error} f h) (refuses {attributes = attributes'} {rest = rest'} {error = error'} g k) =
    let e = once-item attributes rest _ _ h (front-item run attributes attributes' rest rest' f g _ k) in
    same-error (EnumValue × TokenList) EnumValue error error' e
once-reads run one other (refuses f h) (unannounced n) = absurd (no-front run n _ _ f)
once-reads run one other (unannounced n) (reads f h) = absurd (no-front run n _ _ f)
once-reads run one other (unannounced n) (refuses f h) = absurd (no-front run n _ _ f)
once-reads run one other (unannounced n) (unannounced m) = refl

-- facts about the enum after a front are facts about the whole
pub item-occurs : (run attributes rest : TokenList) (error : ReadError) → IsFront run attributes rest →
    Occurs (λ e. item attributes rest (Err e)) error → Occurs (λ e. Reads run (Err e)) error
item-occurs run attributes rest error f (inl m) = inl m
item-occurs run attributes rest error f (inr h) = inr (refuses f h)

-- an enum is refused only if memory runs out
pub complete : (run : TokenList) (error : ReadError) → Occurs (λ e. Reads run (Err e)) error → (value : EnumValue) → Reads run (Ok value) → error ≡ Memory
complete run error (inl m) value h = m
complete run error (inr k) value h = absurd (read-or-fail EnumValue value error (once-reads run (Ok value) (Err error) h k))
