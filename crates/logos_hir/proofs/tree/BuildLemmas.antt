-- The trees that the builders make, step by step.
use Rattle.std.proofs.Common.{◌≡◌, ℕ, ◌<◌, Bool, true, false, cond, not, ◌&&◌, List, [], ◌∷◌, ◌++◌, length, Option, Some, None, unwrap_or, option_map, encode_utf8, refl, sym, ap, ◌∙◌, append_assoc, append-nil, arith}
use Rattle.std.proofs.lemmas.Bool.{leb-true, and_parts, both_ways}
use Rattle.std.proofs.Common.{Vec, Global}
use Rattle.logos_hir.specs.declared.hir.Hir.{Hir}
use Rattle.logos_hir.specs.declared.hir.Hir.TheVariants.{Alternation}
use Rattle.logos_hir.specs.declared.hir.Class.TheVariants.{Bytes, Characters}
use Rattle.logos_hir.specs.Hir.{tree_of}
use Rattle.logos_hir.proofs.tree.TreeViews.{Kind, kind, is_empty, is_literal, is_class, is_look, is_repetition, is_capture, is_concat, is_alternation, tree-Empty, tree-Literal, tree-Class, tree-Look, tree-Repetition, tree-Capture, tree-Concat}
use Rattle.std.proofs.Common.{get_or, chars}
use Rattle.std.specs.Str.{is_utf8, IsUtf8}
use Rattle.std.proofs.lemmas.Str.{IsUtf8-from_is_utf8, is_utf8-from_IsUtf8}
use Rattle.logos_hir.specs.Tree.{Tree, empty, literal, byte_class, char_class, look, repetition, capture, concat, alternation, trees}
use Rattle.logos_hir.specs.Sets.{Set, members, intersection, in_range, AreCanonical}
use Rattle.logos_hir.specs.Build.{sole_item, sole_char, chars_or, choice_of, all_ranges, char_ranges_of, list_of, branches_of, join, with_text, junction, in_a_row, sole_member, char_tree, byte_tree, one_char_of, one_byte_of}
use Rattle.logos_hir.specs.inside.BuildSteps.{part_text, add_text, add_part, add_parts, is_literal_tree, are_apart}
use Rattle.logos_hir.proofs.lemmas.SameMembers.{char_ranges_same, byte_ranges_same, sole_member_is_member}

-- ---- classes

char_tree-is : (xs : List (ℕ × ℕ)) (o : Option ℕ) → sole_member xs ≡ o → char_tree xs ≡ unwrap_or (option_map (λ c. literal (encode_utf8 c)) o) (char_class xs)
char_tree-is xs o e = ap (λ o. unwrap_or (option_map (λ c. literal (encode_utf8 c)) o) (char_class xs)) e

byte_tree-is : (xs : List (ℕ × ℕ)) (o : Option ℕ) → sole_member xs ≡ o → byte_tree xs ≡ unwrap_or (option_map (λ b. literal (b ∷ [])) o) (byte_class xs)
byte_tree-is xs o e = ap (λ o. unwrap_or (option_map (λ b. literal (b ∷ [])) o) (byte_class xs)) e

pub one_char-is : (xs : List (ℕ × ℕ)) (o : Option ℕ) → AreCanonical xs → sole_member xs ≡ o →
    one_char_of (members xs) ≡ unwrap_or (option_map (λ c. literal (encode_utf8 c)) o) (char_class xs)
one_char-is xs o h e = ap char_tree (char_ranges_same xs h) ∙ char_tree-is xs o e

pub one_byte-is : (ys xs : List (ℕ × ℕ)) (o : Option ℕ) → AreCanonical xs → members xs ≡ intersection (members ys) (in_range (0, 255)) → sole_member xs ≡ o →
    one_byte_of (members ys) ≡ unwrap_or (option_map (λ b. literal (b ∷ [])) o) (byte_class xs)
one_byte-is ys xs o h same e = ap byte_tree (byte_ranges_same ys xs h same) ∙ byte_tree-is xs o e

pub sole_is_byte : (ys xs : List (ℕ × ℕ)) (c : ℕ) → AreCanonical xs → members xs ≡ intersection (members ys) (in_range (0, 255)) → sole_member xs ≡ Some c → c < 256
sole_is_byte ys xs c h same e =
    let there : intersection (members ys) (in_range (0, 255)) c ≡ true = sym (ap (λ (s : Set). s c) same) ∙ sole_member_is_member xs c h e in
    let within = and_parts (members ys c) (in_range (0, 255) c) there in
    omega (arith, leb-true c 255 (and_parts _ _ within.1).1)

-- ---- lists of trees

pub list_of-trees : (ts : List Tree) → list_of (trees ts) ≡ ts
list_of-trees [] = refl
list_of-trees (t ∷ ts) = ap (λ (rest : List Tree). t ∷ rest) (list_of-trees ts)

-- the joining of a part with others: as a literal, or not at all
pub data Part (t : Tree) : Type 0 where
  is_text : (a : List ℕ) → t ≡ literal a → Part t
  is_other : ((rest : List Tree) → join t rest ≡ t ∷ rest) → ((parts : List Tree) → add_part parts t ≡ parts ++ t ∷ []) →
      ((b : List ℕ) → part_text t b ≡ t ∷ literal b ∷ []) → ((a : List ℕ) (rest : List Tree) → with_text a (t ∷ rest) ≡ literal a ∷ t ∷ rest) → Part t

pub part : (t : Tree) → Part t
part empty = is_other (λ _. refl) (λ _. refl) (λ _. refl) (λ _ _. refl)
part (literal a) = is_text a refl
part (byte_class ranges) = is_other (λ _. refl) (λ _. refl) (λ _. refl) (λ _ _. refl)
part (char_class ranges) = is_other (λ _. refl) (λ _. refl) (λ _. refl) (λ _ _. refl)
part (look l) = is_other (λ _. refl) (λ _. refl) (λ _. refl) (λ _ _. refl)
part (repetition least most greedy body) = is_other (λ _. refl) (λ _. refl) (λ _. refl) (λ _ _. refl)
part (capture body) = is_other (λ _. refl) (λ _. refl) (λ _. refl) (λ _ _. refl)
part (concat parts) = is_other (λ _. refl) (λ _. refl) (λ _. refl) (λ _ _. refl)
part (alternation branches) = is_other (λ _. refl) (λ _. refl) (λ _. refl) (λ _ _. refl)

-- ---- bytes and parts after others

pub add_text-last : (rs : List Tree) (r : Tree) (b : List ℕ) → add_text (rs ++ r ∷ []) b ≡ rs ++ part_text r b
add_text-last [] r b = refl
add_text-last (p ∷ []) r b = refl
add_text-last (p ∷ q ∷ rs) r b = ap (λ (t : List Tree). p ∷ t) (add_text-last (q ∷ rs) r b)

pub add_parts-append : (ps xs ys : List Tree) → add_parts ps (xs ++ ys) ≡ add_parts (add_parts ps xs) ys
add_parts-append ps [] ys = refl
add_parts-append ps (x ∷ xs) ys = add_parts-append (add_part ps x) xs ys

-- text in front and text after
with_text-add_text : (a b : List ℕ) (zs : List Tree) → with_text a (add_text zs b) ≡ add_text (with_text a zs) b
with_text-add_text a b [] = refl
with_text-add_text a b (z ∷ []) = go (part z)
  where
    go : Part z → with_text a (part_text z b) ≡ add_text (with_text a (z ∷ [])) b
    go (is_text m e) = rw e (ap (λ t. literal t ∷ []) (sym (append_assoc a m b)))
    go (is_other f g p w) = rw (p b, w a (literal b ∷ []), w a []) (ap (λ (t : List Tree). literal a ∷ t) (sym (p b)))
with_text-add_text a b (z ∷ y ∷ rest) = go (part z)
  where
    go : Part z → with_text a (z ∷ add_text (y ∷ rest) b) ≡ add_text (with_text a (z ∷ y ∷ rest)) b
    go (is_text m e) = rw e refl
    go (is_other f g p w) = w a (add_text (y ∷ rest) b) ∙ ap (λ t. add_text t b) (sym (w a (y ∷ rest)))

-- text in front, and another part after
with_text-push : (a : List ℕ) (zs : List Tree) (y : Tree) → ((rest : List Tree) → with_text a (y ∷ rest) ≡ literal a ∷ y ∷ rest) → with_text a (zs ++ y ∷ []) ≡ with_text a zs ++ y ∷ []
with_text-push a [] y h = h []
with_text-push a (z ∷ zs) y h = go (part z)
  where
    go : Part z → with_text a (z ∷ (zs ++ y ∷ [])) ≡ with_text a (z ∷ zs) ++ y ∷ []
    go (is_text m e) = rw e refl
    go (is_other f g p w) = w a (zs ++ y ∷ []) ∙ ap (λ t. t ++ y ∷ []) (sym (w a zs))

join-add_text : (x : Tree) (zs : List Tree) (b : List ℕ) → join x (add_text zs b) ≡ add_text (join x zs) b
join-add_text x zs b = go (part x)
  where
    afterward : (x : Tree) (zs : List Tree) → part_text x b ≡ x ∷ literal b ∷ [] → x ∷ add_text zs b ≡ add_text (x ∷ zs) b
    afterward x [] e = sym e
    afterward x (z ∷ zs) e = refl

    go : Part x → join x (add_text zs b) ≡ add_text (join x zs) b
    go (is_text a e) = rw e (with_text-add_text a b zs)
    go (is_other f g p w) = f (add_text zs b) ∙ afterward x zs (p b) ∙ ap (λ t. add_text t b) (sym (f zs))

join-push : (x y : Tree) (zs : List Tree) → ((a : List ℕ) (rest : List Tree) → with_text a (y ∷ rest) ≡ literal a ∷ y ∷ rest) → join x (zs ++ y ∷ []) ≡ join x zs ++ y ∷ []
join-push x y zs h = go (part x)
  where
    go : Part x → join x (zs ++ y ∷ []) ≡ join x zs ++ y ∷ []
    go (is_text a e) = rw e (with_text-push a zs y (h a))
    go (is_other f g p w) = f (zs ++ y ∷ []) ∙ ap (λ t. t ++ y ∷ []) (sym (f zs))

join-add_part : (x y : Tree) (zs : List Tree) → join x (add_part zs y) ≡ add_part (join x zs) y
join-add_part x y zs = go (part y)
  where
    go : Part y → join x (add_part zs y) ≡ add_part (join x zs) y
    go (is_text b e) = rw e (join-add_text x zs b)
    go (is_other f g p w) = ap (join x) (g zs) ∙ join-push x y zs w ∙ sym (g (join x zs))

junction-push : (xs : List Tree) (y : Tree) → junction (xs ++ y ∷ []) ≡ add_part (junction xs) y
junction-push [] y = go (part y)
  where
    go : Part y → join y [] ≡ add_part [] y
    go (is_text b e) = rw e refl
    go (is_other f g p w) = f [] ∙ sym (g [])
junction-push (x ∷ xs) y = ap (join x) (junction-push xs y) ∙ join-add_part x y (junction xs)

-- parts joined from the left are parts joined
pub junction-append : (xs ys : List Tree) → junction (xs ++ ys) ≡ add_parts (junction xs) ys
junction-append xs [] = ap junction (append-nil xs)
junction-append xs (y ∷ ys) =
    ap junction (sym (append_assoc xs (y ∷ []) ys)) ∙ junction-append (xs ++ y ∷ []) ys ∙ ap (λ ps. add_parts ps ys) (junction-push xs y)

-- parts that do not join stay as they are
join-apart : (t : Tree) (rest : List Tree) → are_apart (is_literal_tree t) rest ≡ true → join t rest ≡ t ∷ rest
join-apart t rest h = go (part t)
  where
    afterward : (a : List ℕ) (rest : List Tree) → are_apart true rest ≡ true → with_text a rest ≡ literal a ∷ rest
    afterward a [] h = refl
    afterward a (u ∷ us) h = at (part u)
      where
        at : Part u → with_text a (u ∷ us) ≡ literal a ∷ u ∷ us
        at (is_text b e) = absurd (both_ways _ (ap (λ (x : Tree). not (is_literal_tree x)) e) (and_parts (not (is_literal_tree u)) (are_apart (is_literal_tree u) us) h).0)
        at (is_other f g p w) = w a us

    go : Part t → join t rest ≡ t ∷ rest
    go (is_text a e) = ap (λ (x : Tree). join x rest) e ∙ afterward a rest (ap (λ (x : Tree). are_apart (is_literal_tree x) rest) (sym e) ∙ h) ∙ ap (λ (x : Tree). x ∷ rest) (sym e)
    go (is_other f g p w) = f rest

junction-apart : (afterward : Bool) (ts : List Tree) → are_apart afterward ts ≡ true → junction ts ≡ ts
junction-apart afterward [] h = refl
junction-apart afterward (t ∷ rest) h =
    let p = and_parts (not (afterward && is_literal_tree t)) (are_apart (is_literal_tree t) rest) h in
    ap (join t) (junction-apart (is_literal_tree t) rest p.1) ∙ join-apart t rest p.1

pub first_parts : (ts : List Tree) → are_apart false ts ≡ true → ts ≡ add_parts [] ts
first_parts ts h = sym (junction-apart false ts h) ∙ junction-append [] ts

pub nil_from_length : {X : Type 0} (xs : List X) → length xs ≡ 0 → xs ≡ []
nil_from_length [] h = refl
nil_from_length (x ∷ xs) h = absurd (omega arith)

pub many_parts : (ts : List Tree) → 1 < length ts → concat (trees ts) ≡ in_a_row ts
many_parts [] h = absurd (omega arith)
many_parts (t ∷ []) h = absurd (omega arith)
many_parts (t ∷ u ∷ ts) h = refl

-- ---- alternations

pub branches-other : (h : Hir) → ((v : Vec Hir Global) → h ≡ Alternation v → ⊥) → branches_of (tree_of h) ≡ tree_of h ∷ []
branches-other h no_more = of_kind (kind h)
  where
    of_kind : Kind h → branches_of (tree_of h) ≡ tree_of h ∷ []
    of_kind (is_empty e) = rw (e, tree-Empty) refl
    of_kind (is_literal bytes e) = rw (e, tree-Literal bytes) refl
    of_kind (is_class (Bytes ranges) e) = rw (e, tree-Class (Bytes ranges)) refl
    of_kind (is_class (Characters ranges) e) = rw (e, tree-Class (Characters ranges)) refl
    of_kind (is_look l e) = rw (e, tree-Look l) refl
    of_kind (is_repetition least most greedy sub e) = rw (e, tree-Repetition least most greedy sub) refl
    of_kind (is_capture sub e) = rw (e, tree-Capture sub) refl
    of_kind (is_concat parts e) = rw (e, tree-Concat parts) refl
    of_kind (is_alternation branches e) = absurd (no_more branches e)

pub not_one_branch : (ts : List Tree) → (length ts ≡ 1 → ⊥) → chars_or ts (all_ranges char_ranges_of ts) ≡ choice_of ts
not_one_branch [] h = refl
not_one_branch (t ∷ []) h = absurd (h refl)
not_one_branch (t ∷ u ∷ ts) h = refl

pub one_branch : (ts : List Tree) (t : Tree) → ts ≡ t ∷ [] → choice_of ts ≡ t
one_branch ts t e = ap choice_of e

-- ---- the character that is a text

pub no_text : (text : List ℕ) → (IsUtf8 text → ⊥) → None ≡ sole_char text
no_text text h = at (is_utf8 text) refl
  where
    at : (b : Bool) → is_utf8 text ≡ b → None ≡ cond b (sole_item (chars text)) None
    at true e = absurd (h (IsUtf8-from_is_utf8 text e))
    at false e = refl

pub of_text : (text : List ℕ) → IsUtf8 text → sole_item (chars text) ≡ sole_char text
of_text text h = at (is_utf8 text) refl
  where
    at : (b : Bool) → is_utf8 text ≡ b → sole_item (chars text) ≡ cond b (sole_item (chars text)) None
    at true e = refl
    at false e = absurd (both_ways _ e (is_utf8-from_IsUtf8 text h))

pub sole_item-one : (cs : List ℕ) (d : ℕ) → length cs ≡ 1 → Some (get_or cs 0 d) ≡ sole_item cs
sole_item-one [] d h = absurd (omega arith)
sole_item-one (c ∷ []) d h = refl
sole_item-one (c ∷ e ∷ cs) d h = absurd (omega arith)

pub sole_item-others : (cs : List ℕ) → (length cs ≡ 1 → ⊥) → None ≡ sole_item cs
sole_item-others [] h = refl
sole_item-others (c ∷ []) h = absurd (h refl)
sole_item-others (c ∷ d ∷ cs) h = refl
