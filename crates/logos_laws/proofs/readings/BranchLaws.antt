-- The tree that the builder of alternations returns has the matches of the branches.
use Rattle.std.proofs.Common.{◌≡◌, ◌↔◌, ◌==◌, ◌&&◌, ◌||◌, ℕ, ◌<◌, ◌⊎◌, inl, inr, Bool, true, false, List, [], ◌∷◌, ◌++◌, slice_get, flat_map, Option, Some, None, encode_utf8, nat_le, chars, refl, sym, ap, ◌∙◌, subst, arith, eqb-true}
use Rattle.std.specs.Char.{IsScalar}
use Rattle.std.specs.Str.{is_utf8}
use Rattle.std.proofs.lemmas.Bool.{and_parts}
use Rattle.std.proofs.lemmas.Bool.Decides.{nat_tests}
use Rattle.std.proofs.lemmas.Option.{slice_get_within, get_or_from_slice_get}
use Rattle.std.proofs.lemmas.Str.{IsUtf8-from_is_utf8, chars_from_encodes}
use lib.Utf8.{scalar}
use Rattle.logos_hir.specs.Text.{IsBytes, OccursAt, InRanges}
use Rattle.logos_hir.specs.Sets.{Set, in_range, in_ranges, members, char_ranges, byte_ranges, AreCanonical}
use Rattle.logos_hir.specs.Tree.{Tree, empty, literal, byte_class, char_class, look, repetition, capture, concat, alternation, Trees, none, also, trees}
use Rattle.logos_hir.specs.Matches.{Matches, SomeMatches}
use Rattle.logos_hir.specs.Build.{list_of, char_tree, byte_tree, one_char_of, one_byte_of, sole_item, sole_char, char_ranges_of, byte_ranges_of, all_ranges, branches_of, bytes_or, chars_or, choice_of, alternation_of}
use Rattle.logos_hir.proofs.lemmas.RangeLemmas.{is_range_parts, rises_parts, in_ranges-append, InRanges-from_test, in_ranges-from_fact}
use Rattle.logos_hir.proofs.lemmas.SameMembers.{char_ranges_canonical, char_ranges_members, byte_ranges_members}
use Rattle.logos_positions.proofs.classes.TextLemmas.{Spells-of_OccursAt}

list_back : (ts : Trees) → trees (list_of ts) ≡ ts
list_back none = refl
list_back (also t rest) = ap (also t) (list_back rest)

-- ---- Members of ranges.

or_left : (x y : Bool) → x ≡ true → (x || y) ≡ true
or_left x y e = rw e refl

or_right : (x y : Bool) → y ≡ true → (x || y) ≡ true
or_right true y e = refl
or_right false y e = e

or_cases : (x y : Bool) → (x || y) ≡ true → (x ≡ true) ⊎ (y ≡ true)
or_cases true y e = inl refl
or_cases false y e = inr e

first_part : (xs ys : List (ℕ × ℕ)) (c : ℕ) → InRanges xs c → InRanges (xs ++ ys) c
first_part xs ys c h = InRanges-from_test (xs ++ ys) c (in_ranges-append xs ys c ∙ or_left (in_ranges xs c) (in_ranges ys c) (in_ranges-from_fact xs c h))

second_part : (xs ys : List (ℕ × ℕ)) (c : ℕ) → InRanges ys c → InRanges (xs ++ ys) c
second_part xs ys c h = InRanges-from_test (xs ++ ys) c (in_ranges-append xs ys c ∙ or_right (in_ranges xs c) (in_ranges ys c) (in_ranges-from_fact ys c h))

either_part : (xs ys : List (ℕ × ℕ)) (c : ℕ) → InRanges (xs ++ ys) c → InRanges xs c ⊎ InRanges ys c
either_part xs ys c h = elim (or_cases (in_ranges xs c) (in_ranges ys c) (sym (in_ranges-append xs ys c) ∙ in_ranges-from_fact (xs ++ ys) c h)) [
  | inl e ↦ inl (InRanges-from_test xs c e)
  | inr e ↦ inr (InRanges-from_test ys c e)
]

no_member : (c : ℕ) → InRanges [] c → ⊥
no_member c h = let e : false ≡ true = in_ranges-from_fact [] c h in cc

only_member : (n c : ℕ) → InRanges ((n, n) ∷ []) c → c ≡ n
only_member n c h =
    let e = in_ranges-from_fact ((n, n) ∷ []) c h in
    elim (or_cases (in_range (n, n) c) false e) [
      | inl f ↦ (let p = and_parts (nat_le n c) (nat_le c n) f in grind (arith, nat_tests, p.0, p.1))
      | inr f ↦ cc
    ]

its_member : (n : ℕ) → InRanges ((n, n) ∷ []) n
its_member n = InRanges-from_test ((n, n) ∷ []) n (or_left (in_range (n, n) n) false (grind (arith, nat_tests)))

small_scalar : (c : ℕ) → c < 256 → scalar c ≡ true
small_scalar c h = grind (arith, nat_tests)

chars_kept : (set : Set) (c : ℕ) → scalar c ≡ true → in_ranges (char_ranges set) c ≡ set c
chars_kept set c e =
    let k : (scalar c && in_ranges (char_ranges set) c) ≡ (scalar c && set c) = ap (λ (s : Set). s c) (char_ranges_members set) in
    let l : in_ranges (char_ranges set) c ≡ set c = rw e at k in l

members_are : (ranges : List (ℕ × ℕ)) (c : ℕ) → scalar c ≡ true → members ranges c ≡ in_ranges ranges c
members_are ranges c e = rw e refl

bytes_kept : (set : Set) (b : ℕ) → b < 256 → in_ranges (byte_ranges set) b ≡ set b
bytes_kept set b h =
    let e = small_scalar b h in
    let inside : in_range (0, 255) b ≡ true = grind (arith, nat_tests) in
    let k : (scalar b && in_ranges (byte_ranges set) b) ≡ (scalar b && (set b && in_range (0, 255) b)) = ap (λ (s : Set). s b) (byte_ranges_members set) in
    let l : in_ranges (byte_ranges set) b ≡ (set b && in_range (0, 255) b) = rw e at k in
    l ∙ (ap (λ (x : Bool). set b && x) inside ∙ and_true (set b))
  where
    and_true : (x : Bool) → (x && true) ≡ x
    and_true true = refl
    and_true false = refl

first_scalar : (r : ℕ × ℕ) (rest : List (ℕ × ℕ)) → AreCanonical (r ∷ rest) → scalar r.0 ≡ true
first_scalar r rest h = (is_range_parts r (rises_parts 0 r rest h).1).0

module _ (bytes : List ℕ) where
  abbrev SomeOf : List Tree → ℕ → ℕ → Type 0
  SomeOf ts from to = SomeMatches (trees ts) bytes from to

  some_both : (xs ys : List Tree) (from to : ℕ) → SomeOf (xs ++ ys) from to ↔ (SomeOf xs from to ⊎ SomeOf ys from to)
  some_both [] ys from to = (λ m. inr m, λ m. elim m [ inl n ↦ absurd n | inr n ↦ n ])
  some_both (x ∷ xs) ys from to =
      let k = some_both xs ys from to in (
        λ m. elim m [
          | inl n ↦ inl (inl n)
          | inr n ↦ elim (k.0 n) [ inl p ↦ inl (inr p) | inr p ↦ inr p ]
        ],
        λ m. elim m [
          | inl n ↦ elim n [ inl p ↦ inl p | inr p ↦ inr (k.1 (inl p)) ]
          | inr n ↦ inr (k.1 (inr n))
        ],
      )

  one_some : (t : Tree) (from to : ℕ) → SomeOf (t ∷ []) from to ↔ Matches t bytes from to
  one_some t from to = (λ m. elim m [ inl n ↦ n | inr n ↦ absurd n ], λ m. inl m)

  branches_same : (t : Tree) (from to : ℕ) → SomeOf (branches_of t) from to ↔ Matches t bytes from to
  branches_same (alternation branches) from to =
      (λ m. subst (λ (ts : Trees). SomeMatches ts bytes from to) (list_back branches) m, λ m. subst (λ (ts : Trees). SomeMatches ts bytes from to) (sym (list_back branches)) m)
  branches_same empty from to = one_some empty from to
  branches_same (literal text) from to = one_some (literal text) from to
  branches_same (byte_class ranges) from to = one_some (byte_class ranges) from to
  branches_same (char_class ranges) from to = one_some (char_class ranges) from to
  branches_same (look l) from to = one_some (look l) from to
  branches_same (repetition least most greedy body) from to = one_some (repetition least most greedy body) from to
  branches_same (capture body) from to = one_some (capture body) from to
  branches_same (concat parts) from to = one_some (concat parts) from to

  flat_same : (ts : List Tree) (from to : ℕ) → SomeOf (flat_map branches_of ts) from to ↔ SomeOf ts from to
  flat_same [] from to = (λ m. m, λ m. m)
  flat_same (t ∷ rest) from to =
      let b = some_both (branches_of t) (flat_map branches_of rest) from to in
      let k = branches_same t from to in
      let l = flat_same rest from to in (
        λ m. elim (b.0 m) [ inl n ↦ inl (k.0 n) | inr n ↦ inr (l.0 n) ],
        λ m. elim m [ inl n ↦ b.1 (inl (k.1 n)) | inr n ↦ b.1 (inr (l.1 n)) ],
      )

  -- ---- Characters.

  abbrev CharIn : List (ℕ × ℕ) → ℕ → ℕ → Type 0
  CharIn ranges from to = Matches (char_class ranges) bytes from to

  char_text : (c from to : ℕ) → IsScalar c → OccursAt (encode_utf8 c) bytes from to ↔ CharIn ((c, c) ∷ []) from to
  char_text c from to s =
      (λ m. (c, s, its_member c, m), λ m. subst (λ (d : ℕ). OccursAt (encode_utf8 d) bytes from to) (only_member c m.0 m.2) m.3)

  sole_is : (text : List ℕ) (c : ℕ) → sole_char text ≡ Some c → IsScalar c × (encode_utf8 c ≡ text)
  sole_is text c e = go (is_utf8 text) refl
    where
      one : (cs : List ℕ) → (item : sole_item cs ≡ Some c) → cs ≡ c ∷ []
      one [] item = cc
      one (d ∷ []) item = let same : d ≡ c = cc in ap (λ (n : ℕ). n ∷ []) same
      one (d ∷ (f ∷ rest)) item = cc

      plain : (xs : List ℕ) → xs ++ [] ≡ xs
      plain [] = refl
      plain (x ∷ xs) = ap (λ (l : List ℕ). x ∷ l) (plain xs)

      go : (x : Bool) → is_utf8 text ≡ x → IsScalar c × (encode_utf8 c ≡ text)
      go true f =
          let u = IsUtf8-from_is_utf8 text f in
          let item : sole_item (chars text) ≡ Some c = rw f at e in
          let cs : u.0 ≡ c ∷ [] = chars_from_encodes u.0 text u u.1.1 ∙ one (chars text) item in
          let scalars_are : (scalar c && true) ≡ true = rw cs at u.1.0 in
          let spelled : encode_utf8 c ++ [] ≡ text = rw cs at u.1.1 in
          ((and_parts (scalar c) true scalars_are).0, sym (plain (encode_utf8 c)) ∙ spelled)
      go false f = let g : ◌≡◌ {A = Option ℕ} None (Some c) = rw f at e in cc

  char_one : (from to : ℕ) (t : Tree) (rs : List (ℕ × ℕ)) → char_ranges_of t ≡ Some rs → Matches t bytes from to ↔ CharIn rs from to
  char_one from to empty rs e = cc
  char_one from to (byte_class ranges) rs e = cc
  char_one from to (look l) rs e = cc
  char_one from to (repetition least most greedy body) rs e = cc
  char_one from to (capture body) rs e = cc
  char_one from to (concat parts) rs e = cc
  char_one from to (alternation branches) rs e = cc
  char_one from to (char_class ranges) rs e = let same : ranges ≡ rs = cc in subst (λ (r : List (ℕ × ℕ)). CharIn ranges from to ↔ CharIn r from to) same (λ m. m, λ m. m)
  char_one from to (literal text) rs e = go (sole_char text) refl
    where
      go : (o : Option ℕ) → sole_char text ≡ o → OccursAt text bytes from to ↔ CharIn rs from to
      go None f = let g : ◌≡◌ {A = Option (List (ℕ × ℕ))} None (Some rs) = rw f at e in cc
      go (Some c) f =
          let g : ◌≡◌ {A = Option (List (ℕ × ℕ))} (Some ((c, c) ∷ [])) (Some rs) = rw f at e in
          let same : (c, c) ∷ [] ≡ rs = cc in
          let k = sole_is text c f in
          let l = char_text c from to k.0 in
          let m : OccursAt text bytes from to ↔ CharIn ((c, c) ∷ []) from to = subst (λ (x : List ℕ). OccursAt x bytes from to ↔ CharIn ((c, c) ∷ []) from to) k.1 l in
          subst (λ (r : List (ℕ × ℕ)). OccursAt text bytes from to ↔ CharIn r from to) same m

  char_either : (from to : ℕ) (xs ys : List (ℕ × ℕ)) → CharIn (xs ++ ys) from to ↔ (CharIn xs from to ⊎ CharIn ys from to)
  char_either from to xs ys = (
    λ m. elim (either_part xs ys m.0 m.2) [ inl h ↦ inl (m.0, m.1, h, m.3) | inr h ↦ inr (m.0, m.1, h, m.3) ],
    λ m. elim m [ inl n ↦ (n.0, n.1, first_part xs ys n.0 n.2, n.3) | inr n ↦ (n.0, n.1, second_part xs ys n.0 n.2, n.3) ],
  )

  char_tree_same : (from to : ℕ) (ranges : List (ℕ × ℕ)) → AreCanonical ranges → Matches (char_tree ranges) bytes from to ↔ CharIn ranges from to
  char_tree_same from to [] h = (λ m. m, λ m. m)
  char_tree_same from to (r ∷ (s ∷ rest)) h = (λ m. m, λ m. m)
  char_tree_same from to (r ∷ []) h = go (r.0 == r.1) refl
    where
      go : (x : Bool) → (r.0 == r.1) ≡ x → Matches (char_tree (r ∷ [])) bytes from to ↔ CharIn (r ∷ []) from to
      go true e =
          let l = char_text r.0 from to (first_scalar r [] h) in
          let same : (r.0, r.0) ∷ [] ≡ r ∷ [] = ap (λ (n : ℕ). (r.0, n) ∷ []) (eqb-true r.0 r.1 e) in
          rw e (subst (λ (rs : List (ℕ × ℕ)). OccursAt (encode_utf8 r.0) bytes from to ↔ CharIn rs from to) same l)
      go false e = rw e (λ m. m, λ m. m)

  one_char_same : (from to : ℕ) (ranges : List (ℕ × ℕ)) → Matches (one_char_of (members ranges)) bytes from to ↔ CharIn ranges from to
  one_char_same from to ranges =
      let set = members ranges in
      let k = char_tree_same from to (char_ranges set) (char_ranges_canonical set) in
      let same : (c : ℕ) → scalar c ≡ true → in_ranges (char_ranges set) c ≡ in_ranges ranges c = λ c e. chars_kept set c e ∙ members_are ranges c e in (
        λ m. let n = k.0 m in (n.0, n.1, InRanges-from_test ranges n.0 (sym (same n.0 n.1) ∙ in_ranges-from_fact (char_ranges set) n.0 n.2), n.3),
        λ m. k.1 (m.0, m.1, InRanges-from_test (char_ranges set) m.0 (same m.0 m.1 ∙ in_ranges-from_fact ranges m.0 m.2), m.3),
      )

  -- ---- Bytes.

  abbrev ByteIn : List (ℕ × ℕ) → ℕ → ℕ → Type 0
  ByteIn ranges from to = Matches (byte_class ranges) bytes from to

  byte_text : (b from to : ℕ) → OccursAt (b ∷ []) bytes from to ↔ ByteIn ((b, b) ∷ []) from to
  byte_text b from to = (λ m. (b, its_member b, m), λ m. subst (λ (d : ℕ). OccursAt (d ∷ []) bytes from to) (only_member b m.0 m.1) m.2)

  byte_one : (from to : ℕ) (t : Tree) (rs : List (ℕ × ℕ)) → byte_ranges_of t ≡ Some rs → Matches t bytes from to ↔ ByteIn rs from to
  byte_one from to empty rs e = cc
  byte_one from to (char_class ranges) rs e = cc
  byte_one from to (look l) rs e = cc
  byte_one from to (repetition least most greedy body) rs e = cc
  byte_one from to (capture body) rs e = cc
  byte_one from to (concat parts) rs e = cc
  byte_one from to (alternation branches) rs e = cc
  byte_one from to (byte_class ranges) rs e = let same : ranges ≡ rs = cc in subst (λ (r : List (ℕ × ℕ)). ByteIn ranges from to ↔ ByteIn r from to) same (λ m. m, λ m. m)
  byte_one from to (literal []) rs e = cc
  byte_one from to (literal (b ∷ (c ∷ rest))) rs e = cc
  byte_one from to (literal (b ∷ [])) rs e = let same : (b, b) ∷ [] ≡ rs = cc in subst (λ (r : List (ℕ × ℕ)). OccursAt (b ∷ []) bytes from to ↔ ByteIn r from to) same (byte_text b from to)

  byte_either : (from to : ℕ) (xs ys : List (ℕ × ℕ)) → ByteIn (xs ++ ys) from to ↔ (ByteIn xs from to ⊎ ByteIn ys from to)
  byte_either from to xs ys = (
    λ m. elim (either_part xs ys m.0 m.1) [ inl h ↦ inl (m.0, h, m.2) | inr h ↦ inr (m.0, h, m.2) ],
    λ m. elim m [ inl n ↦ (n.0, first_part xs ys n.0 n.1, n.2) | inr n ↦ (n.0, second_part xs ys n.0 n.1, n.2) ],
  )

  byte_tree_same : (from to : ℕ) (ranges : List (ℕ × ℕ)) → Matches (byte_tree ranges) bytes from to ↔ ByteIn ranges from to
  byte_tree_same from to [] = (λ m. m, λ m. m)
  byte_tree_same from to (r ∷ (s ∷ rest)) = (λ m. m, λ m. m)
  byte_tree_same from to (r ∷ []) = go (r.0 == r.1) refl
    where
      go : (x : Bool) → (r.0 == r.1) ≡ x → Matches (byte_tree (r ∷ [])) bytes from to ↔ ByteIn (r ∷ []) from to
      go true e =
          let same : (r.0, r.0) ∷ [] ≡ r ∷ [] = ap (λ (n : ℕ). (r.0, n) ∷ []) (eqb-true r.0 r.1 e) in
          rw e (subst (λ (rs : List (ℕ × ℕ)). OccursAt (r.0 ∷ []) bytes from to ↔ ByteIn rs from to) same (byte_text r.0 from to))
      go false e = rw e (λ m. m, λ m. m)

  is_byte : IsBytes bytes → (b from to : ℕ) → OccursAt (b ∷ []) bytes from to → b < 256
  is_byte ok b from to s =
      let h : slice_get bytes from ≡ Some b = (Spells-of_OccursAt bytes (b ∷ []) from to s).0 in
      subst (λ (x : ℕ). x < 256) (get_or_from_slice_get bytes from b b h) (ok from b (slice_get_within bytes from b h))

  one_byte_same : IsBytes bytes → (from to : ℕ) (ranges : List (ℕ × ℕ)) → Matches (one_byte_of (members ranges)) bytes from to ↔ ByteIn ranges from to
  one_byte_same ok from to ranges =
      let set = members ranges in
      let k = byte_tree_same from to (byte_ranges set) in
      let same : (b : ℕ) → b < 256 → in_ranges (byte_ranges set) b ≡ in_ranges ranges b = λ b h. bytes_kept set b h ∙ members_are ranges b (small_scalar b h) in (
        λ m. let n = k.0 m in (n.0, InRanges-from_test ranges n.0 (sym (same n.0 (is_byte ok n.0 from to n.2)) ∙ in_ranges-from_fact (byte_ranges set) n.0 n.1), n.2),
        λ m. k.1 (m.0, InRanges-from_test (byte_ranges set) m.0 (same m.0 (is_byte ok m.0 from to m.2) ∙ in_ranges-from_fact ranges m.0 m.1), m.2),
      )

  -- ---- All branches.

  module _ (ranges_of : Tree → Option (List (ℕ × ℕ))) (In : List (ℕ × ℕ) → Type 0) (from to : ℕ) (nothing : In [] → ⊥)
      (either : (xs ys : List (ℕ × ℕ)) → In (xs ++ ys) ↔ (In xs ⊎ In ys)) (each : (t : Tree) (rs : List (ℕ × ℕ)) → ranges_of t ≡ Some rs → Matches t bytes from to ↔ In rs) where
    all_some : (ts : List Tree) (rs : List (ℕ × ℕ)) → all_ranges ranges_of ts ≡ Some rs → SomeOf ts from to ↔ In rs
    all_some [] rs e = let same : [] ≡ rs = cc in subst (λ (r : List (ℕ × ℕ)). ⊥ ↔ In r) same (λ m. absurd m, nothing)
    all_some (t ∷ rest) rs e = go (ranges_of t) (all_ranges ranges_of rest) refl refl (λ more f. all_some rest more f)
      where
        go : (o p : Option (List (ℕ × ℕ))) → ranges_of t ≡ o → all_ranges ranges_of rest ≡ p → ((more : List (ℕ × ℕ)) → all_ranges ranges_of rest ≡ Some more → SomeOf rest from to ↔ In more) → SomeOf (t ∷ rest) from to ↔ In rs
        go None p f g k = let z : ◌≡◌ {A = Option (List (ℕ × ℕ))} None (Some rs) = rw f at e in cc
        go (Some first) None f g k = let z : ◌≡◌ {A = Option (List (ℕ × ℕ))} None (Some rs) = rw (f, g) at e in cc
        go (Some first) (Some more) f g k =
            let z : ◌≡◌ {A = Option (List (ℕ × ℕ))} (Some (first ++ more)) (Some rs) = rw (f, g) at e in
            let same : first ++ more ≡ rs = cc in
            let a = each t first f in
            let b = k more g in
            let c = either first more in
            subst (λ (r : List (ℕ × ℕ)). SomeOf (t ∷ rest) from to ↔ In r) same (
              λ m. elim m [ inl n ↦ c.1 (inl (a.0 n)) | inr n ↦ c.1 (inr (b.0 n)) ],
              λ m. elim (c.0 m) [ inl n ↦ inl (a.1 n) | inr n ↦ inr (b.1 n) ],
            )

  chars_same : (from to : ℕ) (ts : List Tree) (rs : List (ℕ × ℕ)) → all_ranges char_ranges_of ts ≡ Some rs → Matches (one_char_of (members rs)) bytes from to ↔ SomeOf ts from to
  chars_same from to ts rs e =
      let a = one_char_same from to rs in
      let b = all_some char_ranges_of (λ r. CharIn r from to) from to (λ m. no_member m.0 m.2) (char_either from to) (char_one from to) ts rs e in
      (λ m. b.1 (a.0 m), λ m. a.1 (b.0 m))

  bytes_same : IsBytes bytes → (from to : ℕ) (ts : List Tree) (rs : List (ℕ × ℕ)) → all_ranges byte_ranges_of ts ≡ Some rs → Matches (one_byte_of (members rs)) bytes from to ↔ SomeOf ts from to
  bytes_same ok from to ts rs e =
      let a = one_byte_same ok from to rs in
      let b = all_some byte_ranges_of (λ r. ByteIn r from to) from to (λ m. no_member m.0 m.1) (byte_either from to) (byte_one from to) ts rs e in
      (λ m. b.1 (a.0 m), λ m. a.1 (b.0 m))

  rest_same : IsBytes bytes → (from to : ℕ) (ts : List Tree) → Matches (bytes_or ts (all_ranges byte_ranges_of ts)) bytes from to ↔ SomeOf ts from to
  rest_same ok from to ts = go (all_ranges byte_ranges_of ts) refl
    where
      go : (o : Option (List (ℕ × ℕ))) → all_ranges byte_ranges_of ts ≡ o → Matches (bytes_or ts (all_ranges byte_ranges_of ts)) bytes from to ↔ SomeOf ts from to
      go None f = rw f (λ m. m, λ m. m)
      go (Some rs) f = rw f (bytes_same ok from to ts rs f)

  choice_by : IsBytes bytes → (from to : ℕ) (ts : List Tree) → Matches (chars_or ts (all_ranges char_ranges_of ts)) bytes from to ↔ SomeOf ts from to
  choice_by ok from to ts = go (all_ranges char_ranges_of ts) refl
    where
      go : (o : Option (List (ℕ × ℕ))) → all_ranges char_ranges_of ts ≡ o → Matches (chars_or ts (all_ranges char_ranges_of ts)) bytes from to ↔ SomeOf ts from to
      go None f = rw f (rest_same ok from to ts)
      go (Some rs) f = rw f (chars_same from to ts rs f)

  choice_same : IsBytes bytes → (from to : ℕ) (ts : List Tree) → Matches (choice_of ts) bytes from to ↔ SomeOf ts from to
  choice_same ok from to [] = choice_by ok from to []
  choice_same ok from to (t ∷ []) = let k = one_some t from to in (k.1, k.0)
  choice_same ok from to (t ∷ (u ∷ rest)) = choice_by ok from to (t ∷ (u ∷ rest))

  pub alternation_same : IsBytes bytes → (ts : List Tree) (from to : ℕ) → Matches (alternation_of ts) bytes from to ↔ SomeMatches (trees ts) bytes from to
  alternation_same ok ts from to =
      let a = choice_same ok from to (flat_map branches_of ts) in
      let b = flat_same ts from to in
      (λ m. b.0 (a.0 m), λ m. a.1 (b.1 m))
