-- The name at the end of a path.
use Rattle.std.proofs.Common.{◌≡◌, ◌≢◌, ◌<◌, ◌≤◌, ◌+◌, ◌-◌, ◌++◌, ◌⊎◌, ℕ, All, List, [], ◌∷◌, length, take, drop, slice_index, inl, inr, sym, ap, ◌∙◌, arith, subst}
use Rattle.std.proofs.lemmas.List.{get_or-drop, get_or_default, length-drop, take-append-drop, take_more}
use Rattle.logos_program.specs.Called.{IsLastName, IsNameStart}

-- no byte of a path from an offset on is a slash
abbrev pub NoneFrom : List ℕ → ℕ → Type 0
NoneFrom path from = (k : ℕ) → from ≤ k → k < length path → slice_index path k ≢ 47

pub none_past : (path : List ℕ) → NoneFrom path (length path)
none_past path = λ k l m. absurd (omega (arith, l, m))

pub none_before : (path : List ℕ) (from : ℕ) → 0 < from → slice_index path (from - 1) ≢ 47 → NoneFrom path from → NoneFrom path (from - 1)
none_before path from some is none = λ k l m. go k m (grind arith)
  where
    go : (k : ℕ) → k < length path → (k ≡ from - 1) ⊎ (from ≤ k) → slice_index path k ≢ 47
    go k m (inl e) = λ h. is (subst (λ n. slice_index path n ≡ 47) e h)
    go k m (inr l) = none k l m

front_ends : (path : List ℕ) (from : ℕ) → from ≤ length path → IsNameStart path from → (take from path ≡ []) ⊎ ((folder : List ℕ) × (take from path ≡ folder ++ 47 ∷ []))
front_ends path from l (inl e) = inl (ap (λ n. take n path) e)
front_ends path from l (inr h) =
    let inside : from - 1 < length path = omega (arith, h.0, l) in
    let on : from ≡ from - 1 + 1 = omega (arith, h.0) in
    inr (take (from - 1) path, ap (λ n. take n path) on ∙ take_more path (from - 1) 0 inside ∙ ap (λ byte. take (from - 1) path ++ byte ∷ []) h.1)

-- a name from its start on
pub last_name : (path name : List ℕ) (from : ℕ) → from ≤ length path → IsNameStart path from → NoneFrom path from → name ≡ drop from path → IsLastName path name
last_name path name from l start none e = record {
  front = take from path;
  is = sym (take-append-drop from path) ∙ ap (λ x. take from path ++ x) (sym e);
  ends = front_ends path from l start;
  last = subst (All (λ byte. byte ≢ 47)) (sym e)
      (λ k d m. let inside : from + k < length path = omega (arith, m, length-drop from path) in
      subst (λ byte. byte ≢ 47) (get_or_default path (from + k) 0 d inside ∙ sym (get_or-drop from path k d)) (none (from + k) (omega arith) inside));
}
