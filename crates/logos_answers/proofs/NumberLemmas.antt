-- Numbers for the variants of leaves.
use Rattle.std.proofs.Common.{◌≡◌, ◌<◌, ◌≤◌, ◌+◌, ◌⊎◌, inl, inr, ℕ, zero, suc, Bool, true, false, if◌then◌else◌, List, [], ◌∷◌, ◌++◌, Option, Some, None, ◌↔◌, length, get_or, slice_get, slice_index, bytes_eq, option_map, sym, ap, ◌∙◌, refl, subst, arith}
use Rattle.std.proofs.lemmas.Option.{get_or_from_slice_get, slice_get_cases}
use Rattle.std.proofs.lemmas.Bool.{cases_lt}
use Rattle.std.proofs.lemmas.List.{get_or_append_left, get_or_push, length-append}
use Rattle.std.specs.List.{AllByRecursion, IsDistinct}
use lib.Pointwise.{bytes_decides}
use denote.Ref.{Bor}
use Rattle.logos_pattern.specs.declared.leaf.Leaf.{Leaf}
use Rattle.logos_answers.specs.Names.{AreNumbered, variant_at, variant_name}
use Rattle.logos_answers.specs.inside.Numbers.{AreDistinct, AreNumbers, Grows, IsNumberOf, Table}

-- a property of each element holds of the one at an index
all_at : {X : Type 0} (P : X → Type 0) (xs : List X) (k : ℕ) (x : X) → AllByRecursion P xs → slice_get xs k ≡ Some x → P x
all_at P [] k x all e = absurd (cc)
all_at P (y ∷ ys) zero x all e = let same : y ≡ x = cc in subst P same all.0
all_at P (y ∷ ys) (suc k) x all e = all_at P ys k x all.1 e

not_later : (name : Bor (List ℕ)) (names : Table) (k : ℕ) (other : Bor (List ℕ)) → AllByRecursion (λ (y : Bor (List ℕ)). bytes_eq name.now y.now ≡ false) names → slice_get names k ≡ Some other → name.now ≡ other.now → ⊥
not_later name names k other all e same =
    let differs = all_at (λ (y : Bor (List ℕ)). bytes_eq name.now y.now ≡ false) names k other all e in
    let equal : bytes_eq name.now other.now ≡ true = (bytes_decides name.now other.now).1 same in
    cc

-- a name has one index
pub one_location : (table : Table) → AreDistinct table → (p q : ℕ) (a b : Bor (List ℕ)) → slice_get table p ≡ Some a → slice_get table q ≡ Some b → a.now ≡ b.now → p ≡ q
unfolding IsDistinct
one_location [] d p q a b at_p at_q e = absurd (cc)
one_location (x ∷ xs) d zero zero a b at_p at_q e = refl
one_location (x ∷ xs) d zero (suc q) a b at_p at_q e =
    let here : x ≡ a = cc in
    absurd (not_later x xs q b d.0 at_q (ap (λ (y : Bor (List ℕ)). y.now) here ∙ e))
one_location (x ∷ xs) d (suc p) zero a b at_p at_q e =
    let here : x ≡ b = cc in
    absurd (not_later x xs p a d.0 at_p (ap (λ (y : Bor (List ℕ)). y.now) here ∙ sym e))
one_location (x ∷ xs) d (suc p) (suc q) a b at_p at_q e = ap suc (one_location xs d.1 p q a b at_p at_q e)

module _ (table : Table) (distinct : AreDistinct table) where
  -- two numbers are the same exactly if their variants are
  same_number : (v w : Option (List ℕ)) (n m : ℕ) → IsNumberOf table v n → IsNumberOf table w m → (n ≡ m) ↔ (v ≡ w)
  same_number None None n m a b = (λ e. refl, λ e. a ∙ sym b)
  same_number None (Some w) n m a b = (λ e. let is = b.2 in absurd (omega arith), λ e. absurd (cc))
  same_number (Some v) None n m a b = (λ e. let is = a.2 in absurd (omega arith), λ e. absurd (cc))
  same_number (Some v) (Some w) n m a b = (forth, back)
    where
      forth : n ≡ m → Some v ≡ Some w
      forth e =
          let one = a.2 in
          let other = b.2 in
          let locations : a.0 ≡ b.0 = omega arith in
          let keys : Some a.1 ≡ Some b.1 = sym a.3 ∙ ap (slice_get table) locations ∙ b.3 in
          let key : a.1 ≡ b.1 = cc in
          ap Some (sym a.4 ∙ ap (λ (y : Bor (List ℕ)). y.now) key ∙ b.4)

      back : Some v ≡ Some w → n ≡ m
      back e =
          let names : v ≡ w = cc in
          let one = a.2 in
          let other = b.2 in
          let locations = one_location table distinct a.0 b.0 a.1 b.1 a.3 b.3 (a.4 ∙ names ∙ sym b.4) in
          omega arith

  -- two leaves, or two that are not there, have the same number exactly if they have the same
  -- variant
  pub are_numbered : (leaves others : List Leaf) (names other_names : List ℕ) → AreNumbers table leaves (length leaves) names → AreNumbers table others (length others) other_names → AreNumbered leaves names others other_names
  are_numbered leaves others names other_names a b leaf other =
      go (slice_get_cases leaves leaf).1 (slice_get_cases names leaf).1 (slice_get_cases others other).1 (slice_get_cases other_names other).1
    where
      Case : {X : Type 0} → List X → ℕ → Type 0
      Case {X} xs k = ((x : X) × (k < length xs) × (slice_get xs k ≡ Some x) × (get_or xs k x ≡ x)) ⊎ ((length xs ≤ k) × (slice_get xs k ≡ None))

      variant : Option Leaf → Option (Option (List ℕ))
      variant = option_map (λ (it : Leaf). variant_name it.kind)

      under_some : {v w : Option (List ℕ)} {n m : ℕ} → (n ≡ m) ↔ (v ≡ w) → (Some n ≡ Some m) ↔ (Some v ≡ Some w)
      under_some h = (λ e. ap Some (h.0 (cc)), λ e. ap Some (h.1 (cc)))

      both : (v w : Option (Option (List ℕ))) (n m : Option ℕ) → variant_at leaves leaf ≡ v → variant_at others other ≡ w → slice_get names leaf ≡ n → slice_get other_names other ≡ m →
          (n ≡ m) ↔ (v ≡ w) → (slice_get names leaf ≡ slice_get other_names other) ↔ (variant_at leaves leaf ≡ variant_at others other)
      both v w n m ev ew en em h = (λ e. ev ∙ h.0 (sym en ∙ e ∙ em) ∙ sym ew, λ e. en ∙ h.1 (sym ev ∙ e ∙ ew) ∙ sym em)

      go : Case leaves leaf → Case names leaf → Case others other → Case other_names other → (slice_get names leaf ≡ slice_get other_names other) ↔ (variant_at leaves leaf ≡ variant_at others other)
      go (inl l) (inl n) (inl o) (inl m) =
          both (Some (variant_name l.0.kind)) (Some (variant_name o.0.kind)) (Some n.0) (Some m.0) (ap variant l.2) (ap variant o.2) n.2 m.2
          (under_some (same_number (variant_name l.0.kind) (variant_name o.0.kind) n.0 m.0
          (subst (IsNumberOf table (variant_name l.0.kind)) (get_or_from_slice_get names leaf n.0 0 n.2) (a.each leaf l.0 l.1 l.2))
          (subst (IsNumberOf table (variant_name o.0.kind)) (get_or_from_slice_get other_names other m.0 0 m.2) (b.each other o.0 o.1 o.2))))
      go (inr l) (inr n) (inr o) (inr m) = both None None None None (ap variant l.1) (ap variant o.1) n.1 m.1 (λ e. refl, λ e. refl)
      go (inl l) (inl n) (inr o) (inr m) = both (Some (variant_name l.0.kind)) None (Some n.0) None (ap variant l.2) (ap variant o.1) n.2 m.1 (λ e. absurd (cc), λ e. absurd (cc))
      go (inr l) (inr n) (inl o) (inl m) = both None (Some (variant_name o.0.kind)) None (Some m.0) (ap variant l.1) (ap variant o.2) n.1 m.2 (λ e. absurd (cc), λ e. absurd (cc))
      go (inl l) (inr n) o m = let x = l.1 in let y = n.0 in absurd (omega (arith, x, y, a.long))
      go (inr l) (inl n) o m = let x = l.0 in let y = n.1 in absurd (omega (arith, x, y, a.long))
      go (inl l) (inl n) (inl o) (inr m) = let x = o.1 in let y = m.0 in absurd (omega (arith, x, y, b.long))
      go (inl l) (inl n) (inr o) (inl m) = let x = o.0 in let y = m.1 in absurd (omega (arith, x, y, b.long))
      go (inr l) (inr n) (inl o) (inr m) = let x = o.1 in let y = m.0 in absurd (omega (arith, x, y, b.long))
      go (inr l) (inr n) (inr o) (inl m) = let x = o.0 in let y = m.1 in absurd (omega (arith, x, y, b.long))

-- the number of a variant in a table is its number in a table that has grown from it
grown_number : (old new : Table) (v : Option (List ℕ)) (n : ℕ) → Grows old new → IsNumberOf old v n → IsNumberOf new v n
grown_number old new None n g is = is
grown_number old new (Some v) n g is = (is.0, is.1, is.2, g is.0 is.1 is.3, is.4)

pub grown_numbers : (old new : Table) (leaves : List Leaf) (count : ℕ) (numbers : List ℕ) → Grows old new → AreNumbers old leaves count numbers → AreNumbers new leaves count numbers
grown_numbers old new leaves count numbers g are = record { long = are.long; each = λ k leaf l at. grown_number old new (variant_name leaf.kind) (slice_index numbers k) g (are.each k leaf l at) }

-- one leaf more
pub one_number : (old new : Table) (leaves : List Leaf) (count number : ℕ) (numbers more_numbers : List ℕ) (leaf : Leaf) → Grows old new → AreNumbers old leaves count numbers → slice_get leaves count ≡ Some leaf →
    IsNumberOf new (variant_name leaf.kind) number → more_numbers ≡ numbers ++ number ∷ [] → AreNumbers new leaves (count + 1) more_numbers
one_number old new leaves count number numbers more_numbers leaf g are at is e = record {
  long = let long = are.long in let grown = ap length e in let both = length-append numbers (number ∷ []) in omega arith;
  each = λ k other l found. go k other found (cases_lt k count) l;
}
  where
    go : (k : ℕ) (other : Leaf) → slice_get leaves k ≡ Some other → (k < count) ⊎ (count ≤ k) → k < count + 1 → IsNumberOf new (variant_name other.kind) (slice_index more_numbers k)
    go k other found (inl l) m =
        let same : slice_index more_numbers k ≡ slice_index numbers k = ap (λ (xs : List ℕ). slice_index xs k) e ∙ get_or_append_left numbers (number ∷ []) 0 k (let long = are.long in omega arith) in
        subst (IsNumberOf new (variant_name other.kind)) (sym same) (grown_number old new (variant_name other.kind) (slice_index numbers k) g (are.each k other l found))
    go k other found (inr l) m =
        let here : k ≡ count = omega arith in
        let same : slice_index more_numbers k ≡ number = ap (λ (xs : List ℕ). slice_index xs k) e ∙ ap (slice_index (numbers ++ number ∷ [])) here ∙ get_or_push numbers number 0 count are.long in
        let leaves_same : Some other ≡ Some leaf = sym found ∙ ap (slice_get leaves) here ∙ at in
        let one : other ≡ leaf = cc in
        subst (λ (x : Leaf). IsNumberOf new (variant_name x.kind) (slice_index more_numbers k)) (sym one) (subst (IsNumberOf new (variant_name leaf.kind)) (sym same) is)

got_front : (ks ys : Table) (i : ℕ) (k : Bor (List ℕ)) → slice_get ks i ≡ Some k → slice_get (ks ++ ys) i ≡ Some k
got_front [] ys i k h = absurd (cc)
got_front (x ∷ ks) ys zero k h = h
got_front (x ∷ ks) ys (suc i) k h = got_front ks ys i k h

-- a table with one name more, or without
pub grows_by : (old new : Table) (name : Bor (List ℕ)) (b : Bool) → new ≡ (if b then old else old ++ name ∷ []) → Grows old new
grows_by old new name true e location key at = ap (λ (t : Table). slice_get t location) e ∙ at
grows_by old new name false e location key at = ap (λ (t : Table). slice_get t location) e ∙ got_front old (name ∷ []) location key at

-- the index at which a name is stored
pub stored_number : (table : Table) (name key : Bor (List ℕ)) (location number : ℕ) → number ≡ location + 1 → slice_get table location ≡ Some key → bytes_eq name.now key.now ≡ true → IsNumberOf table (Some name.now) number
stored_number table name key location number e at like = (location, key, e, at, sym ((bytes_decides name.now key.now).0 like))

pub grows_then : (one other another : Table) → Grows one other → Grows other another → Grows one another
grows_then one other another g h location key at = h location key (g location key at)
