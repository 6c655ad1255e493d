-- Warnings that are added one after another.
use Rattle.std.proofs.Common.{◌≡◌, ◌≢◌, ◌<◌, ◌≤◌, ◌+◌, ◌++◌, ◌∷◌, [], Bool, Contains, IfOk, List, OnOk, Result, Ok, Err, ap, append_assoc, append-nil, drop, drop-cons, get_or, inl, inr, length, map, refl, subst, suc, sym, arith, true, false, ℕ, ◌∙◌, Some}
use Rattle.std.proofs.Math.ListN.{drop_of_length-le}
use Rattle.std.proofs.lemmas.List.{get_or-map, get_or_default}
use Rattle.std.proofs.lemmas.List.Elements.{All-append, All-cons, All-nil, All-weaker}
use Rattle.logos_enum.specs.AttributeValues.{AttributeValue, SplitAttribute, attribute_in}
use Rattle.logos_enum.specs.EnumValues.{EnumValue, variant_value}
use Rattle.logos_enum.specs.Enum.{Reads}
use Rattle.logos_enum.specs.Rules.{Occurs}
use Rattle.logos_enum.specs.declared.error.ReadError.{ReadError}
use Rattle.logos_enum.specs.declared.error.ReadError.TheVariants.{Memory as OutOfMemory}
use Rattle.logos_enum.specs.declared.variants.Variant.{Variant}
use Rattle.logos_report.specs.declared.warnings.Warning.{Warning}
use Rattle.logos_token.specs.Refusals.{IsRefusal}
use Rattle.logos_token.specs.Spelling.{Spells}
use Rattle.logos_token.specs.Tokens.{TokenList}
use Rattle.logos_token.specs.declared.token.reader.TokenError.{TokenError}
use Rattle.logos_token.specs.declared.token.reader.TokenError.TheVariants.{Memory as NoMemory}
use Rattle.logos_warnings.specs.Mistakes.{AreMistakes, MistakeValue, mistake_value}
use Rattle.logos_warnings.specs.declared.mistakes.Mistake.{Mistake}
use Rattle.logos_warnings.specs.declared.origin.Origin.{Origin}
use Rattle.logos_warnings.specs.Shown.{AddsAbout, AddsEach, AreAbout, AreOfEnum, AreOfText, AreOfTokens, HasAttribute, IsAbout, IsAboutIgnored, IsIgnored, IsIgnoredIn, IsIgnoredOn, is_warning}
use Rattle.logos_warnings.specs.Shown.AreAbout.{is_shown, no_mistake, passed}
use Rattle.logos_warnings.specs.Shown.AreOfText.{of_tokens, of_unread}
use Rattle.logos_warnings.specs.Shown.AreOfTokens.{of_other}
use Rattle.logos_warnings.specs.Shown.HasAttribute.{is_first, is_later}

-- nothing was added
pub adds_none : (Holds : Warning → Type 0) (list : List Warning) → AddsEach Holds list list
adds_none Holds list = record { added = []; is = sym (append-nil list); each = All-nil Holds }

-- one warning was added
pub adds_one : (Holds : Warning → Type 0) (old new : List Warning) (one : Warning) → new ≡ old ++ one ∷ [] → Holds one → AddsEach Holds old new
adds_one Holds old new one e h = record { added = one ∷ []; is = e; each = All-cons Holds one [] h (All-nil Holds) }

-- one addition after another
pub adds_then : (Holds : Warning → Type 0) (old middle new : List Warning) → AddsEach Holds old middle → AddsEach Holds middle new → AddsEach Holds old new
adds_then Holds old middle new a b = record {
  added = a.added ++ b.added;
  is = b.is ∙ ap (λ x. x ++ b.added) a.is ∙ append_assoc old a.added b.added;
  each = All-append Holds a.added b.added a.each b.each;
}

-- less holds of the added warnings
pub adds_also : (One Other : Warning → Type 0) (old new : List Warning) → ((warning : Warning) → One warning → Other warning) → AddsEach One old new → AddsEach Other old new
adds_also One Other old new f a = record { added = a.added; is = a.is; each = All-weaker One Other f a.added a.each }

-- the same for a call that may fail
pub adds_ok : {A E : Type 0} (result : Result A E) (One Other : Warning → Type 0) (old new : List Warning) → ((warning : Warning) → One warning → Other warning) → OnOk result (AddsEach One old new) → OnOk result (AddsEach Other old new)
adds_ok (Ok done) One Other old new f a = adds_also One Other old new f a
adds_ok (Err error) One Other old new f a = tt

pub then_ok : {A E : Type 0} (result : Result A E) (One Other : Warning → Type 0) (old middle new : List Warning) → AddsEach One old middle → ((warning : Warning) → Other warning → One warning) → OnOk result (AddsEach Other middle new) → OnOk result (AddsEach One old new)
then_ok (Ok done) One Other old middle new a f b = adds_then One old middle new a (adds_also Other One middle new f b)
then_ok (Err error) One Other old middle new a f b = tt

-- ---- Texts and tokens

-- the warnings of a text, by its tokens
pub of_text : {A E : Type 0} (f : A → List Warning) (result : Result A E) (text : List ℕ) (tokens : TokenList) (derives : Bool) (origin : Origin) → Spells text tokens → IfOk result (λ all. AreOfTokens tokens derives origin (f all)) → IfOk result (λ all. AreOfText text derives origin (f all))
of_text f (Ok all) text tokens derives origin s h = of_tokens s h
of_text f (Err error) text tokens derives origin s h = tt

-- a text without tokens has none
pub of_no_text : {A E : Type 0} (f : A → List Warning) (result : Result A E) (text : List ℕ) (error : TokenError) (derives : Bool) (origin : Origin) → IsRefusal text error → IfOk result (λ all. f all ≡ []) → IfOk result (λ all. error ≢ NoMemory) → IfOk result (λ all. AreOfText text derives origin (f all))
of_no_text f (Ok all) text error derives origin is none other = of_unread is other none
of_no_text f (Err failed) text error derives origin is none other = tt

-- and neither have tokens that do not spell an enum
pub of_no_enum : {A E : Type 0} (f : A → List Warning) (result : Result A E) (tokens : TokenList) (error : ReadError) (derives : Bool) (origin : Origin) → Occurs (λ e. Reads tokens (Err e)) error → IfOk result (λ all. f all ≡ []) → IfOk result (λ all. error ≢ OutOfMemory) →
    IfOk result (λ all. AreOfTokens tokens derives origin (f all))
of_no_enum f (Ok all) tokens error derives origin occurs none other = elim occurs [ inl e ↦ absurd (other e) | inr is ↦ of_other is none ]
of_no_enum f (Err failed) tokens error derives origin occurs none other = tt

-- ---- Mistakes

-- a mistake without a warning
pub about_none : (name : List ℕ) (origin : Origin) (mistake : MistakeValue) (list : List Warning) → is_warning mistake origin ≡ false → AddsAbout name origin mistake list list
about_none name origin mistake list e = record { added = []; is = sym (append-nil list); completes = λ mistakes warnings h. passed e h }

-- a mistake with one
pub about_one : (name : List ℕ) (origin : Origin) (mistake : MistakeValue) (old new : List Warning) (one : Warning) → is_warning mistake origin ≡ true → new ≡ old ++ one ∷ [] → IsAbout name mistake one → AddsAbout name origin mistake old new
about_one name origin mistake old new one is e h = record { added = one ∷ []; is = e; completes = λ mistakes warnings more. is_shown is h more }

-- the warnings so far complete those about the mistakes that are left
abbrev pub IsAboutSoFar : List ℕ → Origin → List Mistake → List Mistake → List Warning → Type 0
IsAboutSoFar name origin mistakes left warnings = (rest : List Warning) → AreAbout name origin (map mistake_value left) rest → AreAbout name origin (map mistake_value mistakes) (warnings ++ rest)

pub about_next : (name : List ℕ) (origin : Origin) (mistakes : List Mistake) (i : ℕ) (item : Mistake) (old new : List Warning) → i < length mistakes → item ≡ get_or mistakes i item → AddsAbout name origin (mistake_value item) old new →
    IsAboutSoFar name origin mistakes (drop i mistakes) old → IsAboutSoFar name origin mistakes (drop (i + 1) mistakes) new
about_next name origin mistakes i item old new l e a so rest more =
    let k : suc i ≡ i + 1 = omega arith in
    let left : drop i mistakes ≡ item ∷ drop (i + 1) mistakes = drop-cons mistakes i item l ∙ ap (λ x. x ∷ drop (suc i) mistakes) (sym e) ∙ ap (λ n. item ∷ drop n mistakes) k in
    let whole = so (a.added ++ rest) (subst (λ list. AreAbout name origin (map mistake_value list) (a.added ++ rest)) (sym left) (a.completes (map mistake_value (drop (i + 1) mistakes)) rest more)) in
    subst (λ list. AreAbout name origin (map mistake_value mistakes) list) (sym (ap (λ x. x ++ rest) a.is ∙ append_assoc old a.added rest)) whole

-- the same of the mistake with this number
pub about_next_at : (name : List ℕ) (origin : Origin) (mistakes : List Mistake) (i : ℕ) (d : Mistake) (old new : List Warning) → i < length mistakes → AddsAbout name origin (mistake_value (get_or mistakes i d)) old new →
    IsAboutSoFar name origin mistakes (drop i mistakes) old → IsAboutSoFar name origin mistakes (drop (i + 1) mistakes) new
about_next_at name origin mistakes i d old new l a so = about_next name origin mistakes i (get_or mistakes i d) old new l (get_or_default mistakes i d (get_or mistakes i d) l) a so

-- nothing was added yet
pub about_first : (name : List ℕ) (origin : Origin) (mistakes : List Mistake) (warnings : List Warning) → warnings ≡ [] → IsAboutSoFar name origin mistakes mistakes warnings
about_first name origin mistakes warnings e rest more = subst (λ list. AreAbout name origin (map mistake_value mistakes) (list ++ rest)) (sym e) more

pub about_all : (name : List ℕ) (origin : Origin) (mistakes : List Mistake) (i : ℕ) (warnings : List Warning) → length mistakes ≤ i → IsAboutSoFar name origin mistakes (drop i mistakes) warnings → AreAbout name origin (map mistake_value mistakes) warnings
about_all name origin mistakes i warnings l so =
    let none : AreAbout name origin (map mistake_value (drop i mistakes)) [] = subst (λ left. AreAbout name origin (map mistake_value left) []) (sym (drop_of_length-le mistakes l)) no_mistake in
    subst (λ list. AreAbout name origin (map mistake_value mistakes) list) (append-nil warnings) (so [] none)

-- the warnings about the mistakes of an enum, and then others
pub of_item : (item : EnumValue) (derives : Bool) (origin : Origin) (mistakes : List Mistake) (front warnings : List Warning) → AreMistakes item derives (map mistake_value mistakes) → AreAbout item.name.text origin (map mistake_value mistakes) front → AddsEach (IsIgnored item) front warnings →
    AreOfEnum item derives origin warnings
of_item item derives origin mistakes front warnings are about ignored = record { mistakes = map mistake_value mistakes; are = are; front = front; about = about; ignored = ignored }

-- ---- Ignored attributes

-- the attributes that are left are attributes of the run
abbrev pub AreLeft : TokenList → TokenList → Type 0
AreLeft run rest = (attribute : AttributeValue) → HasAttribute attribute rest → HasAttribute attribute run

pub left_next : (run : TokenList) {rest : TokenList} (split : SplitAttribute) → AreLeft run rest → attribute_in rest ≡ Some split → AreLeft run split.rest
left_next run split so is attribute has = so attribute (is_later is has)

pub ignored_next : (run : TokenList) {rest : TokenList} (split : SplitAttribute) (old middle new : List Warning) → AreLeft run rest → attribute_in rest ≡ Some split → AddsEach (IsIgnoredIn run) old middle → AddsEach (IsAboutIgnored split.attribute) middle new →
    AddsEach (IsIgnoredIn run) old new
ignored_next run split old middle new so is a b =
    adds_then (IsIgnoredIn run) old middle new a (adds_also (IsAboutIgnored split.attribute) (IsIgnoredIn run) middle new (λ warning about. record { attribute = split.attribute; has = so split.attribute (is_first is refl); about = about }) b)

pub variant_next : (variants : List Variant) (i : ℕ) (item : Variant) (run : TokenList) (old middle new : List Warning) → i < length variants → item ≡ get_or variants i item → run ≡ (variant_value item).attributes →
    AddsEach (IsIgnoredOn (map variant_value variants)) old middle → AddsEach (IsIgnoredIn run) middle new → AddsEach (IsIgnoredOn (map variant_value variants)) old new
variant_next variants i item run old middle new l e r a b =
    let has : Contains (map variant_value variants) (variant_value item) = (i, omega (arith, l, length_mapped variants), get_or-map variant_value variants i item (variant_value item) l ∙ ap variant_value (sym e)) in
    adds_then (IsIgnoredOn (map variant_value variants)) old middle new a
    (adds_also (IsIgnoredIn run) (IsIgnoredOn (map variant_value variants)) middle new (λ warning about. record { variant = variant_value item; has = has; ignored = subst (λ at. IsIgnoredIn at warning) r about }) b)
  where
    length_mapped : (list : List Variant) → length (map variant_value list) ≡ length list
    length_mapped [] = refl
    length_mapped (one ∷ list) = ap suc (length_mapped list)
