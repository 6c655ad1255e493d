-- The classes that branches fit, and alternations that are combined from branches.
use Rattle.std.proofs.Common.{◌≡◌, Bool, true, false, ◌&&◌, ◌||◌, is_some, length, ℕ, List, [], ◌∷◌, ◌++◌, map, Option, Some, None, unwrap_or, option_map, flat_map, encode_utf8, refl, sym, ap, ap₂, ◌∙◌, subst, true≢false, arith, ◌+◌, ◌-◌, ◌==◌, ◌≤◌, take, drop}
use Rattle.std.proofs.lemmas.Bool.Decides.{nat_tests}
use Rattle.std.proofs.lemmas.List.Concat.{flat_map-cons}
use Rattle.std.proofs.lemmas.List.{length-map, length-append, length-drop, map-append, map_push, take-map, drop-map, take-append-drop}
use Rattle.std.proofs.Math.Seq.{take-append_seam, drop-append_seam}
use Rattle.std.proofs.lemmas.List.Folds.{list_all-append}
use Rattle.logos_hir.specs.declared.hir.Hir.{Hir}
use Rattle.logos_hir.specs.declared.hir.Hir.TheVariants.{Class, Literal}
use Rattle.logos_hir.specs.declared.hir.Class.{Class as ClassType}
use Rattle.std.proofs.Common.{Vec, Global}
use Rattle.logos_hir.specs.Tree.{Tree, literal, byte_class, char_class, alternation, Trees, trees}
use Rattle.logos_hir.specs.Hir.{tree_of}
use Rattle.logos_hir.specs.Sets.{members, char_ranges, byte_ranges}
use Rattle.logos_hir.specs.Build.{list_of, sole_member, char_tree, byte_tree, branches_of, all_ranges, char_ranges_of, byte_ranges_of, bytes_or, chars_or, choice_of, sole_item}
use Rattle.logos_hir.specs.Simplest.{simplest, all_simplest, IsSimplest}
use Rattle.logos_hir.specs.inside.BuildSteps.{IsFlatAlone}
use Rattle.logos_hir.specs.inside.Fits.{all_have, fits_of}
use Rattle.logos_hir.proofs.tree.BuildLemmas.{list_of-trees, not_one_branch}
use Rattle.logos_hir.proofs.tree.TreeViews.{Kind, kind, is_empty, is_literal, is_class, is_look, is_repetition, is_capture, is_concat, is_alternation, tree-Empty, tree-Look, tree-Repetition, tree-Capture, tree-Concat, tree-Alternation}
use Rattle.logos_hir.proofs.tree.SimplifyLemmas.{IsChoice, is_single, is_several, AreMade, simplest_made, all_made, flat_simplest-push}

-- ---- ranges of all branches

abbrev Ranges : Type 0
Ranges = Option (List (ℕ × ℕ))

-- ranges that are there for each branch are there for all
all_have-is : (f : Tree → Ranges) (ts : List Tree) → all_have f ts ≡ is_some (all_ranges f ts)
all_have-is f [] = refl
all_have-is f (t ∷ ts) = go (all_have-is f ts) (f t) refl
  where
    more : (first : List (ℕ × ℕ)) (rest : Ranges) → is_some rest ≡ is_some (option_map (λ more. first ++ more) rest)
    more first None = refl
    more first (Some ranges) = refl

    go : all_have f ts ≡ is_some (all_ranges f ts) → (o : Ranges) → f t ≡ o → all_have f (t ∷ ts) ≡ is_some (all_ranges f (t ∷ ts))
    go h None e = rw e refl
    go h (Some first) e = rw e (h ∙ more first (all_ranges f ts))

-- whether a class can be made of the branches
data Found (o : Ranges) : Type 0 where
  found : (ranges : List (ℕ × ℕ)) → o ≡ Some ranges → Found o
  missing : o ≡ None → Found o

found_of : (o : Ranges) → Found o
found_of None = missing refl
found_of (Some ranges) = found ranges refl

unfit : (f : Tree → Ranges) (ts : List Tree) → all_have f ts ≡ false → all_ranges f ts ≡ None
unfit f ts h = go (found_of (all_ranges f ts))
  where
    go : Found (all_ranges f ts) → all_ranges f ts ≡ None
    go (found ranges e) = absurd (true≢false (sym (ap is_some e) ∙ sym (all_have-is f ts) ∙ h))
    go (missing e) = e

none_have : (f : Tree → Ranges) (ts : List Tree) → all_ranges f ts ≡ None → all_have f ts ≡ false
none_have f ts e = all_have-is f ts ∙ ap is_some e

-- ---- the classes that branches fit together

pub fits-append : (xs ys : List Tree) →
    fits_of (xs ++ ys) ≡ record { chars = (fits_of xs).chars && (fits_of ys).chars; bytes = (fits_of xs).bytes && (fits_of ys).bytes }
fits-append xs ys =
    ap₂ (λ (a b : Bool). record { chars = a; bytes = b })
    (list_all-append (λ t. is_some (char_ranges_of t)) xs ys) (list_all-append (λ t. is_some (byte_ranges_of t)) xs ys)

-- ---- classes

-- a class is one branch, and the builders leave it as it is
abbrev pub IsClassMade : Tree → Type 0
IsClassMade t = (branches_of t ≡ t ∷ []) × IsSimplest t

chars_made : (ranges : List (ℕ × ℕ)) → IsClassMade (char_tree ranges)
chars_made ranges = go (sole_member ranges)
  where
    go : (o : Option ℕ) → IsClassMade (unwrap_or (option_map (λ c. literal (encode_utf8 c)) o) (char_class ranges))
    go (Some c) = (refl, (literal (encode_utf8 c), refl))
    go None = (refl, (char_class ranges, refl))

bytes_made : (ranges : List (ℕ × ℕ)) → IsClassMade (byte_tree ranges)
bytes_made ranges = go (sole_member ranges)
  where
    go : (o : Option ℕ) → IsClassMade (unwrap_or (option_map (λ b. literal (b ∷ [])) o) (byte_class ranges))
    go (Some b) = (refl, (literal (b ∷ []), refl))
    go None = (refl, (byte_class ranges, refl))

-- branches that fit a class become one
pub class_made : (ts : List Tree) → ((fits_of ts).chars || (fits_of ts).bytes) ≡ true → IsClassMade (chars_or ts (all_ranges char_ranges_of ts))
class_made ts h = by_chars (found_of (all_ranges char_ranges_of ts))
  where
    by_bytes : all_ranges char_ranges_of ts ≡ None → Found (all_ranges byte_ranges_of ts) → IsClassMade (bytes_or ts (all_ranges byte_ranges_of ts))
    by_bytes c (found ranges e) = rw e (bytes_made (byte_ranges (members ranges)))
    by_bytes c (missing e) = absurd (true≢false (sym h ∙ ap₂ ◌||◌ (none_have char_ranges_of ts c) (none_have byte_ranges_of ts e)))

    by_chars : Found (all_ranges char_ranges_of ts) → IsClassMade (chars_or ts (all_ranges char_ranges_of ts))
    by_chars (found ranges e) = rw e (chars_made (char_ranges (members ranges)))
    by_chars (missing e) = rw e (by_bytes e (found_of (all_ranges byte_ranges_of ts)))

-- several branches that fit no class stay
pub unfit_stay : (ts : List Tree) → (length ts ≡ 1 → ⊥) → ((fits_of ts).chars || (fits_of ts).bytes) ≡ false → branches_of (choice_of ts) ≡ ts
unfit_stay ts many h =
    let chars = none_of ((fits_of ts).chars) ((fits_of ts).bytes) h in
    ap branches_of (sym (not_one_branch ts many) ∙ ap (chars_or ts) (unfit char_ranges_of ts chars.0) ∙ ap (bytes_or ts) (unfit byte_ranges_of ts chars.1))
    ∙ list_of-trees ts
  where
    none_of : (a b : Bool) → (a || b) ≡ false → (a ≡ false) × (b ≡ false)
    none_of true b e = absurd (true≢false e)
    none_of false b e = (refl, e)

-- ---- alternations in their simplest form

-- a class is no alternation
chars_differ : (ranges : List (ℕ × ℕ)) (bs : Trees) → char_tree ranges ≡ alternation bs → ⊥
chars_differ ranges bs e = go (sole_member ranges) e
  where
    go : (o : Option ℕ) → unwrap_or (option_map (λ c. literal (encode_utf8 c)) o) (char_class ranges) ≡ alternation bs → ⊥
    go (Some c) e = cc
    go None e = cc

bytes_differ : (ranges : List (ℕ × ℕ)) (bs : Trees) → byte_tree ranges ≡ alternation bs → ⊥
bytes_differ ranges bs e = go (sole_member ranges) e
  where
    go : (o : Option ℕ) → unwrap_or (option_map (λ b. literal (b ∷ [])) o) (byte_class ranges) ≡ alternation bs → ⊥
    go (Some b) e = cc
    go None e = cc

-- the branches of an alternation in its simplest form fit no class
alternation_unfit : (bs : Trees) → IsChoice (alternation bs) → fits_of (list_of bs) ≡ record { chars = false; bytes = false }
alternation_unfit bs (is_single e) = ap fits_of e
alternation_unfit bs (is_several u v rest e same) = ap fits_of e ∙ by_chars (found_of (all_ranges char_ranges_of (u ∷ v ∷ rest)))
  where
    by_bytes : all_ranges char_ranges_of (u ∷ v ∷ rest) ≡ None → Found (all_ranges byte_ranges_of (u ∷ v ∷ rest)) →
        fits_of (u ∷ v ∷ rest) ≡ record { chars = false; bytes = false }
    by_bytes c (found ranges k) =
        absurd (bytes_differ (byte_ranges (members ranges)) bs
        (sym (ap (chars_or (u ∷ v ∷ rest)) c ∙ ap (bytes_or (u ∷ v ∷ rest)) k) ∙ same))
    by_bytes c (missing k) =
        ap₂ (λ (a b : Bool). record { chars = a; bytes = b }) (none_have char_ranges_of (u ∷ v ∷ rest) c) (none_have byte_ranges_of (u ∷ v ∷ rest) k)

    by_chars : Found (all_ranges char_ranges_of (u ∷ v ∷ rest)) → fits_of (u ∷ v ∷ rest) ≡ record { chars = false; bytes = false }
    by_chars (found ranges k) = absurd (chars_differ (char_ranges (members ranges)) bs (sym (ap (chars_or (u ∷ v ∷ rest)) k) ∙ same))
    by_chars (missing k) = by_bytes k (found_of (all_ranges byte_ranges_of (u ∷ v ∷ rest)))

-- a tree in its simplest form that is neither a class nor a literal brings branches that fit no
-- class
pub others_unfit : (h : Hir) → IsSimplest (tree_of h) → ((class : ClassType) → h ≡ Class class → ⊥) → ((bytes : Vec ℕ Global) → h ≡ Literal bytes → ⊥) →
    record { chars = false; bytes = false } ≡ fits_of (branches_of (tree_of h))
others_unfit h simple no_class no_literal = of_kind (kind h)
  where
    of_kind : Kind h → record { chars = false; bytes = false } ≡ fits_of (branches_of (tree_of h))
    of_kind (is_empty e) = rw (e, tree-Empty) refl
    of_kind (is_literal bytes e) = absurd (no_literal bytes e)
    of_kind (is_class class e) = absurd (no_class class e)
    of_kind (is_look l e) = rw (e, tree-Look l) refl
    of_kind (is_repetition least most greedy sub e) = rw (e, tree-Repetition least most greedy sub) refl
    of_kind (is_capture sub e) = rw (e, tree-Capture sub) refl
    of_kind (is_concat parts e) = rw (e, tree-Concat parts) refl
    of_kind (is_alternation branches e) =
        let bs = trees (map tree_of branches.items) in
        let is : tree_of h ≡ alternation bs = ap tree_of e ∙ tree-Alternation branches in
        let choice : IsChoice (alternation bs) = subst IsChoice (simple.1 ∙ is) (simplest_made simple.0).choice in
        sym (ap (λ t. fits_of (branches_of t)) is ∙ alternation_unfit bs choice)

-- ---- branches from a point on

of_trees : (from : ℕ) (all : List Hir) → length (map tree_of (drop from all)) ≡ length all - from
of_trees from all = length-map (drop from all) tree_of ∙ length-drop from all

-- there is exactly one branch from the point on
pub is_alone : (from n : ℕ) (all : List Hir) → n ≡ length all → n - from ≡ 1 → length (map tree_of (drop from all)) ≡ 1
is_alone from n all e one = let size = of_trees from all in omega (arith, size, e, one)

pub not_alone : (from n : ℕ) (all : List Hir) → n ≡ length all → (n - from ≡ 1 → ⊥) → length (map tree_of (drop from all)) ≡ 1 → ⊥
not_alone from n all e many one = many (let size = of_trees from all in omega (arith, size, e, one))

pub alone_stays : (ts : List Tree) → length ts ≡ 1 → IsFlatAlone ts → branches_of (choice_of ts) ≡ ts
alone_stays [] one flat = absurd (omega arith)
alone_stays (t ∷ []) one flat = flat t refl
alone_stays (t ∷ u ∷ ts) one flat = absurd (omega arith)

-- the branches stay as they are where the choice among the last ones brings these
pub all_stay : (from : ℕ) (all : List Hir) → branches_of (choice_of (map tree_of (drop from all))) ≡ map tree_of (drop from all) →
    map tree_of all ≡ map tree_of (take from all) ++ branches_of (choice_of (map tree_of (drop from all)))
all_stay from all e =
    ap (map tree_of) (sym (take-append-drop from all)) ∙ map-append tree_of (take from all) (drop from all) ∙ ap (λ (ts : List Tree). map tree_of (take from all) ++ ts) (sym e)

-- whether a text is one character, by the number of its characters
pub is_one : (cs : List ℕ) → (length cs == 1) ≡ is_some (sole_item cs)
is_one [] = refl
is_one (c ∷ []) = refl
is_one (c ∷ d ∷ cs) = other (length (c ∷ d ∷ cs)) (λ e. omega (arith, e))
  where
    other : (n : ℕ) → (n ≡ 1 → ⊥) → (n == 1) ≡ false
    other n h = grind (arith, nat_tests)

-- ---- branches of several trees

-- a single branch of trees in their simplest form is no alternation
flat_alone : (ts : List Tree) → AreMade ts → IsFlatAlone (flat_map branches_of ts)
flat_alone [] h = λ t e. absurd cc
flat_alone (u ∷ ts) h = λ t e. go t h.0.choice (sym (flat_map-cons branches_of u ts) ∙ e)
  where
    go : (t : Tree) → IsChoice u → branches_of u ++ flat_map branches_of ts ≡ t ∷ [] → branches_of t ≡ t ∷ []
    go t (is_single k) e =
        let same : u ∷ flat_map branches_of ts ≡ t ∷ [] = ap (λ (xs : List Tree). xs ++ flat_map branches_of ts) (sym k) ∙ e in
        let is : u ≡ t = cc in
        subst (λ (x : Tree). branches_of x ≡ x ∷ []) is k
    go t (is_several v w rest k same) e =
        let many : v ∷ w ∷ (rest ++ flat_map branches_of ts) ≡ t ∷ [] = ap (λ (xs : List Tree). xs ++ flat_map branches_of ts) (sym k) ∙ e in
        absurd cc

pub flat_simplest_alone : (ts : Trees) → IsFlatAlone (flat_map branches_of (all_simplest ts))
flat_simplest_alone ts = flat_alone (all_simplest ts) (all_made ts)

-- branches that are added after others are apart again
pub added_apart : (from : ℕ) (old all : List Hir) (added : List Tree) → from ≡ length old → map tree_of all ≡ map tree_of old ++ added →
    (from ≤ length all) × (map tree_of (take from all) ≡ map tree_of old) × (map tree_of (drop from all) ≡ added)
added_apart from old all added size e =
    let n : from ≡ length (map tree_of old) = size ∙ sym (length-map old tree_of) in (
      (let whole : length all ≡ length (map tree_of old) + length added = sym (length-map all tree_of) ∙ ap length e ∙ length-append (map tree_of old) added in omega (arith, whole, n)),
      sym (take-map tree_of from all) ∙ ap₂ (λ (i : ℕ) (ts : List Tree). take i ts) n e ∙ take-append_seam (map tree_of old) added,
      sym (drop-map tree_of from all) ∙ ap₂ (λ (i : ℕ) (ts : List Tree). drop i ts) n e ∙ drop-append_seam (map tree_of old) added,
    )

-- the branches that one more tree brings come after those of the others
pub branches-push : (hs : List Hir) (h : Hir) →
    flat_map branches_of (all_simplest (trees (map tree_of (hs ++ h ∷ [])))) ≡ flat_map branches_of (all_simplest (trees (map tree_of hs))) ++ branches_of (simplest (tree_of h))
branches-push hs h =
    ap (λ ts. flat_map branches_of (all_simplest (trees ts))) (map_push tree_of hs h) ∙ flat_simplest-push branches_of (map tree_of hs) (tree_of h)
