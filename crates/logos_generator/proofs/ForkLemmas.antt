-- Tables by their entries, and branches by their edges.
use Rattle.std.proofs.Common.{◌≡◌, ℕ, zero, suc, ◌+◌, ◌<◌, Bool, true, false, ◌&&◌, ◌||◌, ◌==◌, cond, MatchBool, IsSomeAnd, List, [], ◌∷◌, ◌++◌, length, drop, map, find, Option, Some, None, option_map, slice_get, get_or, nat_le, refl, sym, ap, ◌∙◌, append_assoc, append-nil, ⊎_elim, arith}
use Rattle.std.specs.Option.{option_or}
use Rattle.std.proofs.lemmas.Bool.Decides.{leb_tells}
use Rattle.std.specs.declared.ops.RangeInclusive.{RangeInclusive}
use Rattle.std.proofs.lemmas.List.{drop_more, map-append}
use Rattle.logos_hir.specs.ByteRanges.{is_in}
use Rattle.logos_byte_class.specs.Bytes.{bounds}
use Rattle.logos_byte_class.specs.declared.byte_class.ByteClass.{ByteClass}
use Rattle.logos_graph.specs.declared.graph.State.{State}
use Rattle.logos_code.specs.Code.{Condition, by_comparisons, by_test}
use Rattle.logos_code.specs.declared.code.Condition.{Condition as TheCondition}
use Rattle.logos_code.specs.CodeView.{branch_of}
use Rattle.logos_graph.specs.FinishedGraph.{Edge}
use Rattle.logos_graph.specs.GraphView.{edge_of, state_number}
use Rattle.logos_generator.specs.Nodes.{hit, is_other, leads_beside, Extends, IsSetOf, IsTest, IsConditionOf, IsBranchOf, AreBranchesOf}

-- nothing is written where nothing is hit
pub hit_nothing : (t : ℕ) (e : Option ℕ) → hit false t e ≡ e
hit_nothing t None = refl
hit_nothing t (Some a) = refl

-- one range more
hit_or : (x y : Bool) (t : ℕ) (e : Option ℕ) → hit y t (hit x t e) ≡ hit (x || y) t e
hit_or true true t None = refl
hit_or true false t None = refl
hit_or false true t None = refl
hit_or false false t None = refl
hit_or true y t (Some a) = refl
hit_or false y t (Some a) = refl

pub ranges_turn : (ranges : List (RangeInclusive ℕ)) (i : ℕ) (d : RangeInclusive ℕ) (k t : ℕ) (e new : Option ℕ) → i < length ranges →
    new ≡ hit (nat_le (bounds (get_or ranges i d)).0 k && nat_le k (bounds (get_or ranges i d)).1) t e →
    hit (is_in (map bounds (drop (i + 1) ranges)) k) t new ≡ hit (is_in (map bounds (drop i ranges)) k) t e
ranges_turn ranges i d k t e new lt same =
    rw (drop_more ranges i d lt)
    (ap (hit (is_in (map bounds (drop (i + 1) ranges)) k) t) same
    ∙ hit_or (nat_le (bounds (get_or ranges i d)).0 k && nat_le k (bounds (get_or ranges i d)).1) (is_in (map bounds (drop (i + 1) ranges)) k) t e)

one_edge : (x : Bool) (edge : Edge) (later : Option Edge) →
    option_map (λ e. e.1) (cond x (Some edge) later) ≡ option_or (option_map (λ e. e.1) (cond x (Some edge) None)) (option_map (λ e. e.1) later)
one_edge true edge later = refl
one_edge false edge later = refl

or_assoc : (a b c : Option ℕ) → option_or (option_or a b) c ≡ option_or a (option_or b c)
or_assoc None b c = refl
or_assoc (Some x) b c = refl

-- nothing comes after an entry
pub or_none : (e : Option ℕ) → option_or e None ≡ e
or_none None = refl
or_none (Some a) = refl

-- more than two edges
pub is_many : (n : ℕ) → 2 < n → nat_le n 2 ≡ false
is_many n h = ⊎_elim (λ t. absurd (omega (arith, h, t.1))) (λ t. t.0) (leb_tells n 2)

-- one edge more
pub edges_turn : (edges : List (ByteClass × State)) (i : ℕ) (d : ByteClass × State) (s k : ℕ) (e new : Option ℕ) → i < length edges →
    new ≡ option_or e (leads_beside s (edge_of (get_or edges i d) ∷ []) k) →
    option_or new (leads_beside s (map edge_of (drop (i + 1) edges)) k) ≡ option_or e (leads_beside s (map edge_of (drop i edges)) k)
edges_turn edges i d s k e new lt same =
    let m = drop_more edges i d lt in
    let o = one_edge (is_other s k (edge_of (get_or edges i d))) (edge_of (get_or edges i d)) (find (is_other s k) (map edge_of (drop (i + 1) edges))) in
    rw (same, m, o) (or_assoc e _ _)

pub Extends_same : {A : Type 0} (a : List A) → Extends a a
Extends_same a = ([], sym (append-nil a))

pub Extends_trans : {A : Type 0} (a b c : List A) → Extends a b → Extends b c → Extends a c
Extends_trans a b c f g = (f.0 ++ g.0, g.1 ∙ ap (λ l. l ++ g.0) f.1 ∙ append_assoc a f.0 g.0)

-- existing tests stay
slice_get-append : {A : Type 0} (xs ys : List A) (k : ℕ) (x : A) → slice_get xs k ≡ Some x → slice_get (xs ++ ys) k ≡ Some x
slice_get-append [] ys k x e = absurd (cc)
slice_get-append (z ∷ xs) ys zero x e = e
slice_get-append (z ∷ xs) ys (suc k) x e = slice_get-append xs ys k x e

pub slice_get-Extends : {A : Type 0} (old new : List A) (k : ℕ) (x : A) → Extends old new → slice_get old k ≡ Some x → slice_get new k ≡ Some x
slice_get-Extends old new k x f e = rw f.1 (slice_get-append old f.0 k x e)

pub IsTest-later : (tests later : List (List Bool)) (ranges : List (ℕ × ℕ)) (k : ℕ) → Extends tests later → IsTest tests ranges k → IsTest later ranges k
IsTest-later tests later ranges k f = go (slice_get tests k) refl
  where
    go : (o : Option (List Bool)) → slice_get tests k ≡ o → IsSomeAnd o (IsSetOf ranges) → IsTest later ranges k
    go None e t = absurd t
    go (Some set) e t = rw (slice_get-Extends tests later k set f e) t

pub IsConditionOf-later : (tests later : List (List Bool)) (ranges : List (ℕ × ℕ)) (condition : Condition) → Extends tests later → IsConditionOf tests ranges condition → IsConditionOf later ranges condition
IsConditionOf-later tests later ranges (by_comparisons all) f c = c
IsConditionOf-later tests later ranges (by_test k) f c = (c.0, IsTest-later tests later ranges k f c.1)

-- one branch more
pub branches_turn : (all tests : List (List Bool)) (edges : List (ByteClass × State)) (i : ℕ) (d : ByteClass × State) (s : ℕ) (old new : List (TheCondition × ℕ)) → i < length edges → Extends tests all →
    MatchBool (state_number (get_or edges i d).1 == s) (new ≡ old)
    ((branch : TheCondition × ℕ) × (new ≡ old ++ branch ∷ []) × IsBranchOf tests (edge_of (get_or edges i d)) (branch_of branch)) →
    (whole : List (Condition × ℕ) → Type 0) →
    ((rest : List (Condition × ℕ)) → AreBranchesOf all s (map edge_of (drop i edges)) rest → whole (map branch_of old ++ rest)) →
    (rest : List (Condition × ℕ)) → AreBranchesOf all s (map edge_of (drop (i + 1) edges)) rest → whole (map branch_of new ++ rest)
branches_turn all tests edges i d s old new lt f adds whole completes rest are = go (state_number (get_or edges i d).1 == s) refl adds
  where
    go : (b : Bool) → (state_number (get_or edges i d).1 == s) ≡ b →
        MatchBool b (new ≡ old) ((branch : TheCondition × ℕ) × (new ≡ old ++ branch ∷ []) × IsBranchOf tests (edge_of (get_or edges i d)) (branch_of branch)) → whole (map branch_of new ++ rest)
    go true is same = rw same (completes rest (rw (drop_more edges i d lt, is) are))
    go false is added =
        let e : map branch_of (old ++ added.0 ∷ []) ++ rest ≡ map branch_of old ++ (branch_of added.0 ∷ rest) =
        ap (λ l. l ++ rest) (map-append branch_of old (added.0 ∷ [])) ∙ append_assoc (map branch_of old) (branch_of added.0 ∷ []) rest in
        rw (added.1, e) (completes (branch_of added.0 ∷ rest) (rw (drop_more edges i d lt, is) (
          branch_of added.0,
          rest,
          refl,
          record { condition = IsConditionOf-later tests all (edge_of (get_or edges i d)).0 (branch_of added.0).0 f added.2.condition; target = added.2.target },
          are,
        )))
