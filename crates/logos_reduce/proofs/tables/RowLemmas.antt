-- Rows that are distinct once.
use Rattle.std.proofs.Common.{◌≡◌, ℕ, zero, suc, ◌<◌, ◌≤◌, Bool, true, false, if◌then◌else◌, List, Vec, Global, [], ◌∷◌, ◌++◌, length, Some, None, slice_get, slice_index, slice_index_or, nat_eq, refl, sym, ◌∙◌, ap, arith, ◌⊎◌, inl, inr}
use Rattle.std.proofs.lemmas.List.{get_or_append_left, get_or_past}
use Rattle.std.proofs.lemmas.Bool.{cases_lt}
use lib.Pointwise.{pointwise, bytes_decides}
use Rattle.logos_reduce.specs.Rows.{rows_at, target_of, target_by, target_in, AreWide}

-- a longer list of distinct rows has the old ones at their indexes
same_rows : (slots : List ℕ) (distinct distinct' : List (List ℕ)) → ((i : ℕ) → i < length slots → slice_index slots i < length distinct) →
    ((slot : ℕ) → slot < length distinct → slice_index_or distinct' slot [] ≡ slice_index_or distinct slot []) → rows_at slots distinct' ≡ rows_at slots distinct
same_rows [] distinct distinct' inside same = refl
same_rows (slot ∷ slots) distinct distinct' inside same =
    let here = same slot (inside 0 (omega arith)) in
    let rest = same_rows slots distinct distinct' (λ i l. inside (suc i) (omega arith)) same in
    cc

append_rows : (slots : List ℕ) (slot : ℕ) (distinct : List (List ℕ)) → rows_at (slots ++ slot ∷ []) distinct ≡ rows_at slots distinct ++ slice_index_or distinct slot [] ∷ []
append_rows [] slot distinct = refl
append_rows (p ∷ slots) slot distinct = ap (λ xs. slice_index_or distinct p [] ∷ xs) (append_rows slots slot distinct)

got : (xs : List (List ℕ)) (i : ℕ) (x : List ℕ) → slice_get xs i ≡ Some x → slice_index_or xs i [] ≡ x
got [] i x e = absurd (cc)
got (y ∷ xs) zero x e = cc
got (y ∷ xs) (suc i) x e = got xs i x e

-- a row more, once it is among the distinct ones
pub rows_added : (slots : List ℕ) (distinct : List (List ℕ)) (row : List ℕ) (distinct' : List (List ℕ)) (slot : ℕ) →
    ((i : ℕ) → i < length slots → slice_index slots i < length distinct) →
    ((i : ℕ) → i < length distinct → slice_index_or distinct' i [] ≡ slice_index_or distinct i []) → slice_index_or distinct' slot [] ≡ row →
    rows_at (slots ++ slot ∷ []) distinct' ≡ rows_at slots distinct ++ row ∷ []
rows_added slots distinct row distinct' slot inside kept here =
    append_rows slots slot distinct'
    ∙ ap (λ x. rows_at slots distinct' ++ x ∷ []) here
    ∙ ap (λ xs. xs ++ row ∷ []) (same_rows slots distinct distinct' inside kept)

pub rows_pushed : (slots : List ℕ) (distinct : List (List ℕ)) (row : List ℕ) (added : Bool) (distinct' : List (List ℕ)) (slot : ℕ) (stored : List ℕ) →
    ((i : ℕ) → i < length slots → slice_index slots i < length distinct) →
    distinct' ≡ (if added then distinct else distinct ++ row ∷ []) → slice_get distinct' slot ≡ Some stored → pointwise nat_eq row stored ≡ true →
    rows_at (slots ++ slot ∷ []) distinct' ≡ rows_at slots distinct ++ row ∷ []
rows_pushed slots distinct row added distinct' slot stored inside grown at same =
    rows_added slots distinct row distinct' slot inside (λ p l. ap (λ xs. slice_index_or xs p []) grown ∙ front added p l) (got distinct' slot stored at ∙ sym ((bytes_decides row stored).0 same))
  where
    front : (added : Bool) (p : ℕ) → p < length distinct → slice_index_or (if added then distinct else distinct ++ row ∷ []) p [] ≡ slice_index_or distinct p []
    front true p l = refl
    front false p l = get_or_append_left distinct (row ∷ []) [] p l

pub row_placed : (slots : List ℕ) (distinct : List (List ℕ)) (s : ℕ) → s < length slots → slice_index_or (rows_at slots distinct) s [] ≡ slice_index_or distinct (slice_index slots s) []
row_placed [] distinct s l = absurd (omega arith)
row_placed (slot ∷ slots) distinct zero l = refl
row_placed (slot ∷ slots) distinct (suc s) l = row_placed slots distinct s (omega arith)

pub rows_length : (slots : List ℕ) (distinct : List (List ℕ)) → length (rows_at slots distinct) ≡ length slots
rows_length [] distinct = refl
rows_length (slot ∷ slots) distinct = let e = rows_length slots distinct in omega arith

wide_slots : (slots : List ℕ) (distinct : List (List ℕ)) → ((i : ℕ) → i < length slots → slice_index slots i < length distinct) → AreWide distinct → AreWide (rows_at slots distinct)
wide_slots [] distinct inside wide i l = absurd (omega arith)
wide_slots (slot ∷ slots) distinct inside wide zero l = wide slot (inside 0 (omega arith))
wide_slots (slot ∷ slots) distinct inside wide (suc i) l = wide_slots slots distinct (λ j m. inside (suc j) (omega arith)) wide i (omega arith)

pub rows_wide : (slots : List ℕ) (distinct : Vec (List ℕ) Global) → ((i : ℕ) → i < length slots → slice_index slots i < length distinct.items) → AreWide distinct.items → AreWide (rows_at slots distinct.items)
rows_wide slots distinct = wide_slots slots distinct.items

past : (row : List ℕ) (k : ℕ) → length row ≤ k → slice_index row k ≡ 0
past row k l = get_or_past row k 0 l

-- an edge is by a byte or by the end
pub symbol_below : (rows : List (List ℕ)) → AreWide rows → (s k t : ℕ) → target_in rows s k ≡ Some t → k < 257
symbol_below rows wide s k t e = go (cases_lt k 257) (cases_lt s (length rows))
  where
    none : (row : List ℕ) → slice_index_or rows s [] ≡ row → length row ≤ k → k < 257
    none row q l =
        let z : target_in rows s k ≡ None = ap (λ r. target_by r k) q ∙ ap target_of (past row k l) in
        absurd (cc)

    go : (k < 257) ⊎ (257 ≤ k) → (s < length rows) ⊎ (length rows ≤ s) → k < 257
    go (inl l) m = l
    go (inr l) (inl m) = let w = wide s m in none (slice_index_or rows s []) refl (omega arith)
    go (inr l) (inr m) = none [] (get_or_past rows s [] m) (omega arith)

-- only the first states have edges
pub source_below : (rows : List (List ℕ)) (s k t : ℕ) → target_in rows s k ≡ Some t → s < length rows
source_below rows s k t e = go (cases_lt s (length rows))
  where
    go : (s < length rows) ⊎ (length rows ≤ s) → s < length rows
    go (inl l) = l
    go (inr l) = let z : target_in rows s k ≡ None = ap (λ r. target_by r k) (get_or_past rows s [] l) in absurd (cc)

-- no other state has an edge
pub no_source : (rows : List (List ℕ)) (s k : ℕ) → length rows ≤ s → target_in rows s k ≡ None
no_source rows s k l = ap (λ r. target_by r k) (get_or_past rows s [] l)

-- a row has entries for symbols alone
pub row_symbol : (row : List ℕ) (k t : ℕ) → target_by row k ≡ Some t → k < length row
row_symbol row k t e = go (cases_lt k (length row))
  where
    go : (k < length row) ⊎ (length row ≤ k) → k < length row
    go (inl l) = l
    go (inr l) = let z : target_by row k ≡ None = ap target_of (past row k l) in absurd (cc)
