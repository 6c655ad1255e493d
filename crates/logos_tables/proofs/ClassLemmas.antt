-- Classes of symbols.
use Rattle.std.proofs.Common.{◌≡◌, ℕ, ◌+◌, ◌<◌, ◌⊎◌, ⊎_elim, List, [], ◌∷◌, ◌++◌, length, slice_index, slice_index_or, refl, sym, ◌∙◌, ap, subst, arith, length-append}
use Rattle.std.proofs.lemmas.List.{get_or_append_left, get_or_push}
use Rattle.logos_tables.specs.Layout.{Classify, IsClassOf}

either : (a b : ℕ) → a < b + 1 → (a < b) ⊎ (b ≡ a)
either a b h = grind arith

longer : (xs : List ℕ) (x : ℕ) → length (xs ++ x ∷ []) ≡ length xs + 1
longer xs x = let e = length-append xs (x ∷ []) in omega arith

-- a class is still there after another one
class_stays : (rows : List (List ℕ)) (symbols : List ℕ) (more symbol number : ℕ) → IsClassOf rows symbols symbol number → IsClassOf rows (symbols ++ more ∷ []) symbol number
class_stays rows symbols more symbol number h =
    let l = longer symbols more in
    (omega (arith, h.0), λ i m. ap (λ s. slice_index (slice_index_or rows i []) s) (get_or_append_left symbols (more ∷ []) 0 number h.0) ∙ h.1 i m)

-- one more symbol, of this class
pub one_more : (rows : List (List ℕ)) (numbers symbols old : List ℕ) (number count : ℕ) → length numbers ≡ count →
    ((symbol : ℕ) → symbol < count → IsClassOf rows symbols symbol (slice_index numbers symbol)) → IsClassOf rows symbols count number →
    Classify rows (numbers ++ number ∷ []) symbols (count + 1)
one_more rows numbers symbols old number count many are is = record {
  many = longer numbers number ∙ ap (λ n. n + 1) many;
  are = λ symbol h. ⊎_elim
      (λ (l : symbol < count). subst (IsClassOf rows symbols symbol) (sym (get_or_append_left numbers (number ∷ []) 0 symbol (omega (arith, l, many)))) (are symbol l))
      (λ (e : count ≡ symbol). subst (λ s. IsClassOf rows symbols s (slice_index (numbers ++ number ∷ []) s)) e
      (subst (IsClassOf rows symbols count) (sym (get_or_push numbers number 0 count many)) is))
      (either symbol count h);
}

-- one more symbol, of a class that is there
pub known : (rows : List (List ℕ)) (numbers symbols : List ℕ) (number count : ℕ) → Classify rows numbers symbols count → IsClassOf rows symbols count number →
    Classify rows (numbers ++ number ∷ []) symbols (count + 1)
known rows numbers symbols number count h is = one_more rows numbers symbols symbols number count h.many h.are is

-- one more symbol, which is a class of its own
pub fresh : (rows : List (List ℕ)) (numbers symbols : List ℕ) (count : ℕ) → Classify rows numbers symbols count →
    Classify rows (numbers ++ length symbols ∷ []) (symbols ++ count ∷ []) (count + 1)
fresh rows numbers symbols count h =
    one_more rows numbers (symbols ++ count ∷ []) symbols (length symbols) count h.many
    (λ symbol l. class_stays rows symbols count symbol (slice_index numbers symbol) (h.are symbol l))
    (let l = longer symbols count in omega arith, λ i m. ap (λ s. slice_index (slice_index_or rows i []) s) (get_or_push symbols count 0 (length symbols) refl))
