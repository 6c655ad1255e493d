-- Trees that the builders make, and the trees that they make from these.
use Rattle.std.proofs.Common.{◌≡◌, ℕ, ◌≤◌, length, arith, Bool, true, false, cond, ◌&&◌, ◌==◌, min, List, [], ◌∷◌, ◌++◌, map, Option, Some, None, unwrap_or, option_map, flat_map, encode_utf8, refl, sym, ap, ◌∙◌, subst, append_assoc, append-nil}
use Rattle.std.proofs.lemmas.List.Concat.{flat_map-cons}
use Rattle.std.proofs.lemmas.Grind.{flat_map-append}
use Rattle.logos_hir.specs.Tree.{Tree, empty, literal, byte_class, char_class, look, repetition, capture, concat, alternation, Trees, none, also, trees}
use Rattle.logos_hir.specs.Sets.{members, char_ranges, byte_ranges}
use Rattle.logos_hir.specs.Build.{is_most, is_byteless, cut, times, repetition_of, sole_member, char_tree, byte_tree, parts_of, with_text, join, junction, in_a_row, concat_of, branches_of, all_ranges, char_ranges_of, byte_ranges_of, bytes_or, chars_or, choice_of, alternation_of}
use Rattle.logos_hir.specs.declared.hir.Hir.{Hir}
use Rattle.logos_hir.specs.Hir.{tree_of}
use Rattle.logos_hir.specs.Simplest.{simplest, all_simplest, simplest_tree}
use Rattle.logos_hir.specs.inside.BuildSteps.{part_text, add_text, add_part, add_parts}
use Rattle.logos_hir.proofs.tree.BuildLemmas.{Part, part, is_text, is_other, list_of-trees, junction-append}

-- ---- parts that are joined before they are added

add_text-under : (t u : Tree) (rest : List Tree) (a b : List ℕ) → add_text (t ∷ add_text (u ∷ rest) a) b ≡ t ∷ add_text (add_text (u ∷ rest) a) b
add_text-under t u (v ∷ rest) a b = refl
add_text-under t u [] a b = go (part u)
  where
    go : Part u → add_text (t ∷ part_text u a) b ≡ t ∷ add_text (part_text u a) b
    go (is_text m e) = rw e refl
    go (is_other f g p w) = rw (p a) refl

add_text-twice : (ps : List Tree) (a b : List ℕ) → add_text (add_text ps a) b ≡ add_text ps (a ++ b)
add_text-twice [] a b = refl
add_text-twice (t ∷ []) a b = go (part t)
  where
    go : Part t → add_text (part_text t a) b ≡ part_text t (a ++ b)
    go (is_text m e) = rw e (ap (λ x. literal x ∷ []) (append_assoc m a b))
    go (is_other f g p w) = ap (λ x. add_text x b) (p a) ∙ sym (p (a ++ b))
add_text-twice (t ∷ u ∷ rest) a b = add_text-under t u rest a b ∙ ap (λ (x : List Tree). t ∷ x) (add_text-twice (u ∷ rest) a b)

add_with_text : (ps : List Tree) (a : List ℕ) (zs : List Tree) → add_parts ps (with_text a zs) ≡ add_parts (add_text ps a) zs
add_with_text ps a [] = refl
add_with_text ps a (z ∷ zs) = go (part z)
  where
    go : Part z → add_parts ps (with_text a (z ∷ zs)) ≡ add_parts (add_text ps a) (z ∷ zs)
    go (is_text m e) = rw e (ap (λ qs. add_parts qs zs) (sym (add_text-twice ps a m)))
    go (is_other f g p w) = ap (add_parts ps) (w a zs)

add_join : (ps : List Tree) (x : Tree) (zs : List Tree) → add_parts ps (join x zs) ≡ add_parts (add_part ps x) zs
add_join ps x zs = go (part x)
  where
    go : Part x → add_parts ps (join x zs) ≡ add_parts (add_part ps x) zs
    go (is_text a e) = rw e (add_with_text ps a zs)
    go (is_other f g p w) = ap (add_parts ps) (f zs)

add_joined : (ps xs : List Tree) → add_parts ps (junction xs) ≡ add_parts ps xs
add_joined ps [] = refl
add_joined ps (x ∷ xs) = add_join ps x (junction xs) ∙ add_joined (add_part ps x) xs

pub junction-is : (xs : List Tree) → add_parts [] xs ≡ junction xs
junction-is xs = sym (junction-append [] xs)

junction-twice : (xs : List Tree) → junction (junction xs) ≡ junction xs
junction-twice xs = sym (junction-is (junction xs)) ∙ add_joined [] xs ∙ junction-is xs

-- ---- trees that the builders leave as they are

-- a part of a concatenation
abbrev pub is_part : Tree → Bool
is_part empty = false
is_part (concat parts) = false
is_part t = true

-- no alternation, or one of several branches that the builder leaves as it is
pub data IsChoice (t : Tree) : Type 0 where
  is_single : branches_of t ≡ t ∷ [] → IsChoice t
  is_several : (u v : Tree) (rest : List Tree) → branches_of t ≡ u ∷ v ∷ rest → choice_of (u ∷ v ∷ rest) ≡ t → IsChoice t

abbrev pub AreParts : List Tree → Type 0
AreParts [] = Unit {0}
AreParts (t ∷ ts) = ((is_part t ≡ true) × IsChoice t) × AreParts ts

pub record IsMade (t : Tree) : Type 0 where
  pub choice : IsChoice t
  pub parts : AreParts (parts_of t)
  pub row : in_a_row (junction (parts_of t)) ≡ t

abbrev pub AreMade : List Tree → Type 0
AreMade [] = Unit {0}
AreMade (t ∷ ts) = IsMade t × AreMade ts

parts_alone : (t : Tree) → is_part t ≡ true → parts_of t ≡ t ∷ []
parts_alone empty h = absurd cc
parts_alone (literal text) h = refl
parts_alone (byte_class ranges) h = refl
parts_alone (char_class ranges) h = refl
parts_alone (look l) h = refl
parts_alone (repetition least most greedy body) h = refl
parts_alone (capture body) h = refl
parts_alone (concat parts) h = absurd cc
parts_alone (alternation branches) h = refl

junction-one : (t : Tree) → junction (t ∷ []) ≡ t ∷ []
junction-one t = go (part t)
  where
    go : Part t → join t [] ≡ t ∷ []
    go (is_text a e) = rw e refl
    go (is_other f g p w) = f []

part_made : (t : Tree) → is_part t ≡ true → IsChoice t → IsMade t
part_made t h k = record {
  choice = k;
  parts = subst AreParts (sym (parts_alone t h)) ((h, k), tt);
  row = ap (λ ts. in_a_row (junction ts)) (parts_alone t h) ∙ ap in_a_row (junction-one t);
}

-- ---- concatenations

parts-append : (xs ys : List Tree) → AreParts xs → AreParts ys → AreParts (xs ++ ys)
parts-append [] ys h k = k
parts-append (x ∷ xs) ys h k = (h.0, parts-append xs ys h.1 k)

flat_parts : (ts : List Tree) → AreMade ts → AreParts (flat_map parts_of ts)
flat_parts [] h = tt
flat_parts (t ∷ ts) h = subst AreParts (sym (flat_map-cons parts_of t ts)) (parts-append (parts_of t) (flat_map parts_of ts) h.0.parts (flat_parts ts h.1))

parts_with_text : (a : List ℕ) (zs : List Tree) → AreParts zs → AreParts (with_text a zs)
parts_with_text a [] h = ((refl, is_single refl), tt)
parts_with_text a (z ∷ zs) h = go (part z)
  where
    go : Part z → AreParts (with_text a (z ∷ zs))
    go (is_text m e) = subst (λ x. AreParts (with_text a (x ∷ zs))) (sym e) ((refl, is_single refl), h.1)
    go (is_other f g p w) = subst AreParts (sym (w a zs)) ((refl, is_single refl), h)

parts_join : (x : Tree) (zs : List Tree) → (is_part x ≡ true) × IsChoice x → AreParts zs → AreParts (join x zs)
parts_join x zs k h = go (part x)
  where
    go : Part x → AreParts (join x zs)
    go (is_text a e) = subst (λ t. AreParts (join t zs)) (sym e) (parts_with_text a zs h)
    go (is_other f g p w) = subst AreParts (sym (f zs)) (k, h)

parts_junction : (xs : List Tree) → AreParts xs → AreParts (junction xs)
parts_junction [] h = tt
parts_junction (x ∷ xs) h = parts_join x (junction xs) h.0 (parts_junction xs h.1)

parts_of_row : (ts : List Tree) → AreParts ts → parts_of (in_a_row ts) ≡ ts
parts_of_row [] h = refl
parts_of_row (t ∷ []) h = parts_alone t h.0.0
parts_of_row (t ∷ u ∷ rest) h = list_of-trees (t ∷ u ∷ rest)

row_choice : (ts : List Tree) → AreParts ts → IsChoice (in_a_row ts)
row_choice [] h = is_single refl
row_choice (t ∷ []) h = h.0.1
row_choice (t ∷ u ∷ rest) h = is_single refl

concat_made : (ts : List Tree) → AreMade ts → IsMade (concat_of ts)
concat_made ts h =
    let xs = flat_map parts_of ts in
    let joined : AreParts (junction xs) = parts_junction xs (flat_parts ts h) in
    record {
      choice = row_choice (junction xs) joined;
      parts = subst AreParts (sym (parts_of_row (junction xs) joined)) joined;
      row = ap (λ ps. in_a_row (junction ps)) (parts_of_row (junction xs) joined) ∙ ap in_a_row (junction-twice xs);
    }

-- ---- alternations

chars_made : (ranges : List (ℕ × ℕ)) → IsMade (char_tree ranges)
chars_made ranges = go (sole_member ranges)
  where
    go : (o : Option ℕ) → IsMade (unwrap_or (option_map (λ c. literal (encode_utf8 c)) o) (char_class ranges))
    go (Some c) = part_made (literal (encode_utf8 c)) refl (is_single refl)
    go None = part_made (char_class ranges) refl (is_single refl)

bytes_made : (ranges : List (ℕ × ℕ)) → IsMade (byte_tree ranges)
bytes_made ranges = go (sole_member ranges)
  where
    go : (o : Option ℕ) → IsMade (unwrap_or (option_map (λ b. literal (b ∷ [])) o) (byte_class ranges))
    go (Some b) = part_made (literal (b ∷ [])) refl (is_single refl)
    go None = part_made (byte_class ranges) refl (is_single refl)

choice_made : (u v : Tree) (rest : List Tree) → IsMade (choice_of (u ∷ v ∷ rest))
choice_made u v rest = by_chars (all_ranges char_ranges_of (u ∷ v ∷ rest)) refl
  where
    by_bytes : all_ranges char_ranges_of (u ∷ v ∷ rest) ≡ None → (o : Option (List (ℕ × ℕ))) → all_ranges byte_ranges_of (u ∷ v ∷ rest) ≡ o → IsMade (bytes_or (u ∷ v ∷ rest) o)
    by_bytes no_chars (Some ranges) e = bytes_made (byte_ranges (members ranges))
    by_bytes no_chars None e =
        part_made (alternation (trees (u ∷ v ∷ rest))) refl
        (is_several u v rest (list_of-trees (u ∷ v ∷ rest)) (ap (chars_or (u ∷ v ∷ rest)) no_chars ∙ ap (bytes_or (u ∷ v ∷ rest)) e))

    by_chars : (o : Option (List (ℕ × ℕ))) → all_ranges char_ranges_of (u ∷ v ∷ rest) ≡ o → IsMade (chars_or (u ∷ v ∷ rest) o)
    by_chars (Some ranges) e = chars_made (char_ranges (members ranges))
    by_chars None e = by_bytes e (all_ranges byte_ranges_of (u ∷ v ∷ rest)) refl

alternation_made : (ts : List Tree) → AreMade ts → IsMade (alternation_of ts)
alternation_made [] h = chars_made (char_ranges (members []))
alternation_made (t ∷ ts) h = subst (λ bs. IsMade (choice_of bs)) (sym (flat_map-cons branches_of t ts)) (of_first h.0.choice (flat_map branches_of ts))
  where
    of_first : IsChoice t → (fs : List Tree) → IsMade (choice_of (branches_of t ++ fs))
    of_first (is_single e) [] = subst (λ bs. IsMade (choice_of (bs ++ []))) (sym e) h.0
    of_first (is_single e) (f ∷ fs) = subst (λ bs. IsMade (choice_of (bs ++ f ∷ fs))) (sym e) (choice_made t f fs)
    of_first (is_several u v rest e same) fs = subst (λ bs. IsMade (choice_of (bs ++ fs))) (sym e) (choice_made u v (rest ++ fs))

-- ---- repetitions

either_made : (b : Bool) (x y : Tree) → IsMade x → IsMade y → IsMade (cond b x y)
either_made true x y h k = h
either_made false x y h k = k

times_made : (least : ℕ) (most : Option ℕ) (greedy : Bool) (body : Tree) → IsMade body → IsMade (times least most greedy body)
times_made least most greedy body h =
    either_made ((least == 1) && is_most 1 most) body (repetition least most greedy body) h (part_made (repetition least most greedy body) refl (is_single refl))

empty_made : IsMade empty
empty_made = record { choice = is_single refl; parts = tt; row = refl }

repetition_made : (least : ℕ) (most : Option ℕ) (greedy : Bool) (body : Tree) → IsMade body → IsMade (repetition_of least most greedy body)
repetition_made least most greedy body h =
    either_made (is_most 0 most) empty _ empty_made
    (either_made (is_byteless body) (times (min least 1) (cut most) greedy body) (times least most greedy body) (times_made (min least 1) (cut most) greedy body h) (times_made least most greedy body h))

-- ---- all trees

mutual
  pub simplest_made : (t : Tree) → IsMade (simplest t)
  simplest_made empty = empty_made
  simplest_made (literal text) = part_made (literal text) refl (is_single refl)
  simplest_made (byte_class ranges) = part_made (byte_class ranges) refl (is_single refl)
  simplest_made (char_class ranges) = part_made (char_class ranges) refl (is_single refl)
  simplest_made (look l) = part_made (look l) refl (is_single refl)
  simplest_made (repetition least most greedy body) = repetition_made least most greedy (simplest body) (simplest_made body)
  simplest_made (capture body) = part_made (capture (simplest body)) refl (is_single refl)
  simplest_made (concat parts) = concat_made (all_simplest parts) (all_made parts)
  simplest_made (alternation branches) = alternation_made (all_simplest branches) (all_made branches)

  pub all_made : (ts : Trees) → AreMade (all_simplest ts)
  all_made none = tt
  all_made (also t ts) = (simplest_made t, all_made ts)

-- the parts of a concatenation inside another one are added one by one
pub inner_parts : (ps : List Tree) (ts : Trees) → add_parts ps (flat_map parts_of (all_simplest ts)) ≡ add_parts ps (parts_of (simplest (concat ts)))
inner_parts ps ts =
    let xs = flat_map parts_of (all_simplest ts) in
    sym (ap (add_parts ps) (parts_of_row (junction xs) (parts_junction xs (flat_parts (all_simplest ts) (all_made ts)))) ∙ add_joined ps xs)

-- one part is itself, and so is one branch
pub one_part_is : (t : Tree) → concat_of (simplest t ∷ []) ≡ simplest t
one_part_is t = ap (λ ts. in_a_row (junction ts)) (flat_map-cons parts_of (simplest t) [] ∙ append-nil (parts_of (simplest t))) ∙ (simplest_made t).row

pub one_branch_is : (t : Tree) → alternation_of (simplest t ∷ []) ≡ simplest t
one_branch_is t = ap choice_of (flat_map-cons branches_of (simplest t) [] ∙ append-nil (branches_of (simplest t))) ∙ of_choice (simplest_made t).choice
  where
    of_choice : IsChoice (simplest t) → choice_of (branches_of (simplest t)) ≡ simplest t
    of_choice (is_single e) = ap choice_of e
    of_choice (is_several u v rest e same) = ap choice_of e ∙ same

-- ---- lists

pub all_simplest-push : (ts : List Tree) (t : Tree) → all_simplest (trees (ts ++ t ∷ [])) ≡ all_simplest (trees ts) ++ simplest t ∷ []
all_simplest-push [] t = refl
all_simplest-push (u ∷ ts) t = ap (λ (xs : List Tree). simplest u ∷ xs) (all_simplest-push ts t)

pub flat_simplest-push : (f : Tree → List Tree) (ts : List Tree) (t : Tree) → flat_map f (all_simplest (trees (ts ++ t ∷ []))) ≡ flat_map f (all_simplest (trees ts)) ++ f (simplest t)
flat_simplest-push f ts t =
    ap (flat_map f) (all_simplest-push ts t) ∙ flat_map-append f (all_simplest (trees ts)) (simplest t ∷ [])
    ∙ ap (λ xs. flat_map f (all_simplest (trees ts)) ++ xs) (flat_map-cons f (simplest t) [] ∙ append-nil (f (simplest t)))

-- ---- trees that are combined unchanged

simplest_trees : (hs : List Hir) → all_simplest (trees (map tree_of hs)) ≡ map simplest_tree hs
simplest_trees [] = refl
simplest_trees (h ∷ hs) = ap (λ (xs : List Tree). simplest_tree h ∷ xs) (simplest_trees hs)

pub simplest_row : (hs : List Hir) → simplest (in_a_row (map tree_of hs)) ≡ concat_of (map simplest_tree hs)
simplest_row [] = refl
simplest_row (h ∷ []) = sym (one_part_is (tree_of h))
simplest_row (h ∷ g ∷ hs) = ap concat_of (simplest_trees (h ∷ g ∷ hs))

pub simplest_branches : (hs : List Hir) → simplest (alternation (trees (map tree_of hs))) ≡ alternation_of (map simplest_tree hs)
simplest_branches hs = ap alternation_of (simplest_trees hs)

pub sole_branch : (hs rest : List Hir) (h : Hir) → hs ≡ rest ++ h ∷ [] → length hs ≤ 1 → simplest_tree h ≡ alternation_of (map simplest_tree hs)
sole_branch hs [] h e few = sym (one_branch_is (tree_of h)) ∙ ap (λ xs. alternation_of (map simplest_tree xs)) (sym e)
sole_branch hs (x ∷ []) h e few = let two : length hs ≡ 2 = ap length e in absurd (omega (arith, two, few))
sole_branch hs (x ∷ y ∷ rest) h e few = let many : length hs ≡ length (x ∷ y ∷ (rest ++ h ∷ [])) = ap length e in absurd (omega (arith, many, few))
