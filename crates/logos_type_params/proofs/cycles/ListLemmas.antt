-- The members of lists.
use Rattle.std.proofs.Common.{◌≡◌, ◌<◌, ◌≤◌, ◌+◌, ◌⊎◌, inl, inr, ℕ, zero, suc, List, [], ◌∷◌, length, drop, get_or, Vec, Global, Option, Some, None, Bor, Bool, false, refl, sym, ap, arith}
use Rattle.std.proofs.lemmas.List.{at_drop_more, length-drop}
use Rattle.std.proofs.lemmas.Option.{get_or_from_slice_get, slice_get_within, slice_get_read}
use Rattle.std.specs.Slice.{IsItemAt}
use Rattle.std.specs.Option.{option_copied}
use Rattle.std.specs.List.{Contains, slice_get}
use Rattle.logos_type_params.specs.cycles.Cycles.{targets_of, Leads, one, on}
use Rattle.logos_type_params.specs.cycles.inside.Memberships.{graph, Edge}

pub front : (xs : List ℕ) (k : ℕ) → k < length xs → drop k xs ≡ get_or xs k 0 ∷ drop (k + 1) xs
front xs k lt = at_drop_more (λ ys. ys) xs k 0 lt

pub contains_cases : (x : ℕ) (xs : List ℕ) (y : ℕ) → Contains (x ∷ xs) y → (x ≡ y) ⊎ Contains xs y
contains_cases x xs y (zero, lt, e) = inl e
contains_cases x xs y (suc k, lt, e) = inr (k, omega arith, e)

pub contains_first : (x : ℕ) (xs : List ℕ) → Contains (x ∷ xs) x
contains_first x xs = (0, omega arith, refl)

pub contains_next : (x : ℕ) (xs : List ℕ) (y : ℕ) → Contains xs y → Contains (x ∷ xs) y
contains_next x xs y (k, lt, e) = (suc k, omega arith, e)

pub contains_none : (y : ℕ) → Contains [] y → ⊥
contains_none y (k, lt, e) = absurd (omega arith)

pub contains_past : (xs : List ℕ) (k y : ℕ) → length xs ≤ k → Contains (drop k xs) y → ⊥
contains_past xs k y past (i, lt, e) = absurd (let l = length-drop k xs in omega (arith, l, lt, past))

-- the membership that is read
pub read_at : {X : Type 0} (xs : List X) (i : ℕ) (r : Bor X) → IsItemAt xs i (Some r) → slice_get xs i ≡ Some r.now
read_at xs i r h = slice_get_read xs (length xs) i r.now refl h.3.0 h.1

pub read_past : {X : Type 0} (xs : List X) (i : ℕ) → IsItemAt xs i None → length xs ≤ i
read_past xs i h = h.3

pub copied_at : (xs ys : List Bool) (i : ℕ) (r : Option (Bor Bool)) (b : Bool) → ys ≡ xs → IsItemAt ys i r → option_copied r ≡ Some b → (i < length xs) × (get_or xs i false ≡ b)
copied_at xs ys i None b same h e = absurd cc
copied_at xs ys i (Some x) b same h e =
    let is = read_at ys i x h in
    let v : x.now ≡ b = cc in
    let there : slice_get xs i ≡ Some b = rw (sym same, sym v) is in
    (slice_get_within xs i b there, get_or_from_slice_get xs i b false there)

pub copied_past : (xs ys : List Bool) (i : ℕ) (r : Option (Bor Bool)) → ys ≡ xs → IsItemAt ys i r → option_copied r ≡ None → length xs ≤ i
copied_past xs ys i None same h e = let p = read_past ys i h in rw (sym same) p
copied_past xs ys i (Some x) same h e = absurd cc

-- only nodes have edges
pub within : (g : List (List ℕ)) (from to : ℕ) → Edge g from to → from < length g
within [] from to (k, lt, e) = absurd (omega (arith, lt))
within (x ∷ g) zero to h = omega arith
within (x ∷ g) (suc from) to h = let r = within g from to h in omega (arith, r)

pub starts : (g : List (List ℕ)) (from to : ℕ) → Leads g from to → from < length g
starts g from to (one h) = within g from to h
starts g from to (on {over = over} h l) = within g from over h

pub join : {g : List (List ℕ)} {from over to : ℕ} → Leads g from over → Leads g over to → Leads g from to
join (one h) l = on h l
join (on h k) l = on h (join k l)

-- the targets of a node
pub targets_read : (lists : List (Vec ℕ Global)) (node : ℕ) (list : Vec ℕ Global) → slice_get lists node ≡ Some list → targets_of (graph lists) node ≡ list.items
targets_read [] node list e = absurd cc
targets_read (x ∷ lists) zero list e = let s : x ≡ list = cc in ap (λ (v : Vec ℕ Global). v.items) s
targets_read (x ∷ lists) (suc node) list e = targets_read lists node list e

pub no_targets : (lists : List (Vec ℕ Global)) (node : ℕ) → length lists ≤ node → targets_of (graph lists) node ≡ []
no_targets [] node past = refl
no_targets (x ∷ lists) zero past = absurd (omega (arith, past))
no_targets (x ∷ lists) (suc node) past = no_targets lists node (omega (arith, past))

pub edge_read : (lists : List (Vec ℕ Global)) (node edge to : ℕ) (list : Vec ℕ Global) → slice_get lists node ≡ Some list → slice_get list.items edge ≡ Some to → Edge (graph lists) node to
edge_read lists node edge to list e f =
    rw (targets_read lists node list e) (edge, slice_get_within list.items edge to f, get_or_from_slice_get list.items edge to to f)
