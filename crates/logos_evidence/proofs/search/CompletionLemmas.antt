-- The least bytes that may follow complete a character.
use Rattle.std.proofs.Common.{◌≡◌, ℕ, zero, suc, ◌-◌, ◌<◌, ◌≤◌, ◌==◌, Bool, true, false, ◌&&◌, List, [], ◌∷◌, ◌++◌, All, Option, Some, None, option_and_then, if◌then◌else◌, nat_le, refl, sym, ap, ◌∙◌, subst, inl, inr, append_assoc, arith}
use Rattle.std.proofs.lemmas.Bool.{cases_lt}
use Rattle.std.proofs.lemmas.List.Elements.{All-nil, All-cons}
use Rattle.std.proofs.lemmas.Option.{same_Some}
use Rattle.simdutf8.proofs.Chars.{least_is, most_is}
use Rattle.logos_evidence.specs.search.Rests.{more, begun, rest_after, rest_by, rest_over, leasts, completion}
use Rattle.logos_evidence.specs.declared.search.utf8.Rest.{Rest}
use Rattle.logos_evidence.proofs.search.RestLemmas.{IsDone, lead, inside, ascii, stray, of_two, of_three, of_four, past, on_rest, bytes_are_done}

pub over_append : (m : Bool) (xs ys : List ℕ) (r : Rest) → rest_over m r (xs ++ ys) ≡ option_and_then (λ q. rest_over m q ys) (rest_over m r xs)
over_append m [] ys r = refl
over_append m (x ∷ xs) ys r = go (λ q. over_append m xs ys q) (rest_by m r x)
  where
    go : ((q : Rest) → rest_over m q (xs ++ ys) ≡ option_and_then (λ p. rest_over m p ys) (rest_over m q xs)) → (o : Option Rest) →
        option_and_then (λ q. rest_over m q (xs ++ ys)) o ≡ option_and_then (λ p. rest_over m p ys) (option_and_then (λ q. rest_over m q xs) o)
    go ih None = refl
    go ih (Some q) = ih q

-- some byte may follow
pub record IsOpen (m : Bool) (r : Rest) : Type 0 where
  pub bounds : r.low ≤ r.high
  pub byte : r.low < 256
  pub any : m ≡ false → r.count ≡ 0

open_more : (n : ℕ) → IsOpen true (more n)
open_more n = record { bounds = omega arith; byte = omega arith; any = λ e. cc }

open_lead : (z n : ℕ) → IsOpen true (lead z n)
open_lead z n =
    let k = least_is z in
    let m = most_is z in
    record { bounds = grind (arith, k, m); byte = grind (arith, k); any = λ e. cc }

pub first_open : (m : Bool) → IsOpen m (more 0)
first_open m = record { bounds = omega arith; byte = omega arith; any = λ e. refl }

begun_open : (b : ℕ) (r : Rest) → begun b ≡ Some r → IsOpen true r
begun_open b r e =
    elim (cases_lt b 0x80) [
      | inl l ↦ by (more 0) (ascii b l) (open_more 0)
      | inr l ↦ elim (cases_lt b 0xc2) [
        | inl h ↦ absurd (none (stray b l h))
        | inr h ↦ elim (cases_lt b 0xe0) [
          | inl m ↦ by (more 1) (of_two b h m) (open_more 1)
          | inr m ↦ elim (cases_lt b 0xf0) [
            | inl n ↦ by (lead b 2) (of_three b m n) (open_lead b 2)
            | inr n ↦ elim (cases_lt b 0xf5) [
              | inl k ↦ by (lead b 3) (of_four b n k) (open_lead b 3)
              | inr k ↦ absurd (none (past b k))
            ]
          ]
        ]
      ]
    ]
  where
    by : (q : Rest) → begun b ≡ Some q → IsOpen true q → IsOpen true r
    by q is h = subst (IsOpen true) (same_Some _ _ (sym is ∙ e)) h

    none : begun b ≡ None → ⊥
    none is = let clash : None ≡ Some r = sym is ∙ e in cc

after_open : (r : Rest) (b : ℕ) (q : Rest) → rest_after r b ≡ Some q → IsOpen true q
after_open r b q e = go (r.count == 0) (nat_le r.low b && nat_le b r.high) e
  where
    go : (c d : Bool) → (if c then begun b else (if d then Some (more (r.count - 1)) else None)) ≡ Some q → IsOpen true q
    go true d e = begun_open b q e
    go false true e = subst (IsOpen true) (same_Some _ _ e) (open_more (r.count - 1))
    go false false e = cc

pub over_open : (m : Bool) (bytes : List ℕ) (r q : Rest) → IsOpen m r → rest_over m r bytes ≡ Some q → IsOpen m q
over_open m [] r q h e = subst (IsOpen m) (same_Some _ _ e) h
over_open false (b ∷ bytes) r q h e = over_open false bytes r q h e
over_open true (b ∷ bytes) r q h e = go (λ t. over_open true bytes t q) (rest_after r b) refl e
  where
    go : ((t : Rest) → IsOpen true t → rest_over true t bytes ≡ Some q → IsOpen true q) → (o : Option Rest) → rest_after r b ≡ o →
        option_and_then (λ t. rest_over true t bytes) o ≡ Some q → IsOpen true q
    go ih None is e = cc
    go ih (Some t) is e = ih t (after_open r b t is) e

leasts_done : (n low high : ℕ) → low ≤ high → IsDone (rest_over true (record { low = low; high = high; count = n }) (leasts low n))
leasts_done zero low high l = (record { low = low; high = high; count = 0 }, refl, refl)
leasts_done (suc n) low high l = on_rest _ (more n) (leasts 0x80 n) (inside low high n low (omega arith) l) (leasts_done n 0x80 0xbf (omega arith))

pub completes : (m : Bool) (r : Rest) → IsOpen m r → (q : Rest) × (rest_over m r (completion r) ≡ Some q) × (q.count ≡ 0)
completes false r h = (r, bytes_are_done r (completion r), h.any refl)
completes true r h = leasts_done r.count r.low r.high h.bounds

-- ---- Byte after byte

one_of_leasts : (n low : ℕ) → 0 < n → leasts low n ≡ low ∷ leasts 0x80 (n - 1)
one_of_leasts zero low l = absurd (omega (arith, l))
one_of_leasts (suc n) low l =
    let less : suc n - 1 ≡ n = omega arith in
    ap (λ (k : ℕ). low ∷ leasts 0x80 k) (sym less)

pub completion_pushed : (bytes longer whole : List ℕ) (r next : Rest) → 0 < r.count → longer ≡ bytes ++ r.low ∷ [] → next ≡ more (r.count - 1) →
    bytes ++ completion r ≡ whole → longer ++ completion next ≡ whole
completion_pushed bytes longer whole r next l e f w =
    ap (λ (xs : List ℕ). xs ++ completion next) e ∙ append_assoc bytes (r.low ∷ []) (completion next) ∙
    ap (λ (q : Rest). bytes ++ r.low ∷ completion q) f ∙ ap (λ (xs : List ℕ). bytes ++ xs) (sym (one_of_leasts r.count r.low l)) ∙ w

leasts_are_bytes : (n low : ℕ) → low < 256 → All (λ b. b < 256) (leasts low n)
leasts_are_bytes zero low l = All-nil (λ b. b < 256)
leasts_are_bytes (suc n) low l = All-cons (λ b. b < 256) low (leasts 0x80 n) l (leasts_are_bytes n 0x80 (omega arith))

pub completion_is_bytes : (m : Bool) (r : Rest) → IsOpen m r → All (λ b. b < 256) (completion r)
completion_is_bytes m r h = leasts_are_bytes r.count r.low h.byte
