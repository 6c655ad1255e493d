-- Values that are found by their texts.
use Rattle.std.specs.Prelude.{◌≡◌, ℕ, suc, List, [], ◌∷◌, if◌then◌else◌, Option, Some, None, option_map}
use Rattle.std.specs.Map.{lookup}
use Rattle.std.specs.Str.{bytes_eq}
use denote.Ref.{Bor}

-- The index of the first value with this text.
abbrev pub slot_in : {X : Type 0} → List (Bor (List ℕ) × X) → List ℕ → Option ℕ
slot_in [] text = None
slot_in (e ∷ es) text = if bytes_eq text e.0.now then Some 0 else option_map suc (slot_in es text)

-- Each text is mapped to its index among the values.
abbrev pub ArePlaced : {X : Type 0} → List (Bor (List ℕ) × X) → List (Bor (List ℕ) × ℕ) → Type 0
ArePlaced es slots = (text : Bor (List ℕ)) → lookup (λ k. bytes_eq text.now k.now) slots ≡ slot_in es text.now

-- The values with one more: it replaces the value with its text, or comes after all others.
abbrev pub put_in : {X : Type 0} → Bor (List ℕ) × X → List (Bor (List ℕ) × X) → List (Bor (List ℕ) × X)
put_in entry [] = entry ∷ []
put_in entry (e ∷ es) = if bytes_eq entry.0.now e.0.now then entry ∷ es else e ∷ put_in entry es
