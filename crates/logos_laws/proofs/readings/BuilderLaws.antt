-- The trees that builders return have the matches of their parts.
use Rattle.std.proofs.Common.{◌≡◌, ◌↔◌, ◌==◌, ◌&&◌, ℕ, zero, suc, ◌≤◌, inl, inr, min, Bool, true, false, List, [], ◌∷◌, ◌++◌, flat_map, Option, Some, None, IfSome, refl, sym, ap, ◌∙◌, subst, arith, eqb-true}
use Rattle.logos_hir.specs.Text.{OccursAt}
use Rattle.logos_hir.specs.Tree.{Tree, empty, literal, byte_class, char_class, look, repetition, capture, concat, alternation, Trees, none, also, trees}
use Rattle.logos_hir.specs.Matches.{Matches, MatchesInOrder, SomeMatches, Pieces, IsCount}
use Rattle.logos_hir.specs.Build.{list_of, is_byteless, all_byteless, is_most, cut, times, repetition_of, parts_of, with_text, join, junction, in_a_row, concat_of}
use Rattle.logos_positions.specs.inside.Reader.{Spells}
use Rattle.logos_positions.proofs.classes.TextLemmas.{OccursAt-of_Spells, Spells-of_OccursAt}

list_back : (ts : Trees) → trees (list_of ts) ≡ ts
list_back none = refl
list_back (also t rest) = ap (also t) (list_back rest)

module _ (bytes : List ℕ) where
  abbrev InOrder : List Tree → ℕ → ℕ → Type 0
  InOrder ts from to = MatchesInOrder (trees ts) bytes from to

  -- ---- Texts in a row.

  spells_cut : (text more : List ℕ) (from to : ℕ) → Spells bytes (text ++ more) from to → (cut : ℕ) × Spells bytes text from cut × Spells bytes more cut to
  spells_cut [] more from to s = (from, refl, s)
  spells_cut (b ∷ text) more from to s = let k = spells_cut text more (suc from) to s.1 in (k.0, (s.0, k.1), k.2)

  spells_join : (text more : List ℕ) (from middle to : ℕ) → Spells bytes text from middle → Spells bytes more middle to → Spells bytes (text ++ more) from to
  spells_join [] more from middle to e s = subst (λ (n : ℕ). Spells bytes more n to) e s
  spells_join (b ∷ text) more from middle to s k = (s.0, spells_join text more (suc from) middle to s.1 k)

  occurs_cut : (text more : List ℕ) (from to : ℕ) → OccursAt (text ++ more) bytes from to → (cut : ℕ) × OccursAt text bytes from cut × OccursAt more bytes cut to
  occurs_cut text more from to s =
      let k = spells_cut text more from to (Spells-of_OccursAt bytes (text ++ more) from to s) in
      (k.0, OccursAt-of_Spells bytes text from k.0 k.1, OccursAt-of_Spells bytes more k.0 to k.2)

  occurs_join : (text more : List ℕ) (from middle to : ℕ) → OccursAt text bytes from middle → OccursAt more bytes middle to → OccursAt (text ++ more) bytes from to
  occurs_join text more from middle to s k =
      OccursAt-of_Spells bytes (text ++ more) from to (spells_join text more from middle to (Spells-of_OccursAt bytes text from middle s) (Spells-of_OccursAt bytes more middle to k))

  -- ---- Concatenations.

  row_to : (ts : List Tree) (from to : ℕ) → Matches (in_a_row ts) bytes from to → InOrder ts from to
  row_to [] from to m = m
  row_to (t ∷ []) from to m = (to, m, refl)
  row_to (t ∷ (u ∷ rest)) from to m = m

  row_from : (ts : List Tree) (from to : ℕ) → InOrder ts from to → Matches (in_a_row ts) bytes from to
  row_from [] from to m = m
  row_from (t ∷ []) from to m = subst (λ (n : ℕ). Matches t bytes from n) m.2 m.1
  row_from (t ∷ (u ∷ rest)) from to m = m

  text_to : (text : List ℕ) (ts : List Tree) (from to : ℕ) → InOrder (with_text text ts) from to → InOrder (literal text ∷ ts) from to
  text_to text [] from to m = m
  text_to text (literal more ∷ rest) from to m = let k = occurs_cut text more from m.0 m.1 in (k.0, k.1, (m.0, k.2, m.2))
  text_to text (empty ∷ rest) from to m = m
  text_to text (byte_class ranges ∷ rest) from to m = m
  text_to text (char_class ranges ∷ rest) from to m = m
  text_to text (look l ∷ rest) from to m = m
  text_to text (repetition least most greedy body ∷ rest) from to m = m
  text_to text (capture body ∷ rest) from to m = m
  text_to text (concat parts ∷ rest) from to m = m
  text_to text (alternation branches ∷ rest) from to m = m

  text_from : (text : List ℕ) (ts : List Tree) (from to : ℕ) → InOrder (literal text ∷ ts) from to → InOrder (with_text text ts) from to
  text_from text [] from to m = m
  text_from text (literal more ∷ rest) from to (middle, s, (next, k, m)) = (next, occurs_join text more from middle next s k, m)
  text_from text (empty ∷ rest) from to m = m
  text_from text (byte_class ranges ∷ rest) from to m = m
  text_from text (char_class ranges ∷ rest) from to m = m
  text_from text (look l ∷ rest) from to m = m
  text_from text (repetition least most greedy body ∷ rest) from to m = m
  text_from text (capture body ∷ rest) from to m = m
  text_from text (concat parts ∷ rest) from to m = m
  text_from text (alternation branches ∷ rest) from to m = m

  join_to : (t : Tree) (ts : List Tree) (from to : ℕ) → InOrder (join t ts) from to → InOrder (t ∷ ts) from to
  join_to (literal text) ts from to m = text_to text ts from to m
  join_to empty ts from to m = m
  join_to (byte_class ranges) ts from to m = m
  join_to (char_class ranges) ts from to m = m
  join_to (look l) ts from to m = m
  join_to (repetition least most greedy body) ts from to m = m
  join_to (capture body) ts from to m = m
  join_to (concat parts) ts from to m = m
  join_to (alternation branches) ts from to m = m

  join_from : (t : Tree) (ts : List Tree) (from to : ℕ) → InOrder (t ∷ ts) from to → InOrder (join t ts) from to
  join_from (literal text) ts from to m = text_from text ts from to m
  join_from empty ts from to m = m
  join_from (byte_class ranges) ts from to m = m
  join_from (char_class ranges) ts from to m = m
  join_from (look l) ts from to m = m
  join_from (repetition least most greedy body) ts from to m = m
  join_from (capture body) ts from to m = m
  join_from (concat parts) ts from to m = m
  join_from (alternation branches) ts from to m = m

  junction_to : (ts : List Tree) (from to : ℕ) → InOrder (junction ts) from to → InOrder ts from to
  junction_to [] from to m = m
  junction_to (t ∷ rest) from to m = let k = join_to t (junction rest) from to m in (k.0, k.1, junction_to rest k.0 to k.2)

  junction_from : (ts : List Tree) (from to : ℕ) → InOrder ts from to → InOrder (junction ts) from to
  junction_from [] from to m = m
  junction_from (t ∷ rest) from to m = join_from t (junction rest) from to (m.0, m.1, junction_from rest m.0 to m.2)

  both_to : (xs ys : List Tree) (from to : ℕ) → InOrder (xs ++ ys) from to → (cut : ℕ) × InOrder xs from cut × InOrder ys cut to
  both_to [] ys from to m = (from, refl, m)
  both_to (x ∷ xs) ys from to m = let k = both_to xs ys m.0 to m.2 in (k.0, (m.0, m.1, k.1), k.2)

  both_from : (xs ys : List Tree) (from middle to : ℕ) → InOrder xs from middle → InOrder ys middle to → InOrder (xs ++ ys) from to
  both_from [] ys from middle to e m = subst (λ (n : ℕ). InOrder ys n to) (sym e) m
  both_from (x ∷ xs) ys from middle to k m = (k.0, k.1, both_from xs ys k.0 middle to k.2 m)

  parts_to : (t : Tree) (from to : ℕ) → InOrder (parts_of t) from to → Matches t bytes from to
  parts_to empty from to m = m
  parts_to (concat parts) from to m = subst (λ (ts : Trees). MatchesInOrder ts bytes from to) (list_back parts) m
  parts_to (literal text) from to m = row_from (literal text ∷ []) from to m
  parts_to (byte_class ranges) from to m = row_from (byte_class ranges ∷ []) from to m
  parts_to (char_class ranges) from to m = row_from (char_class ranges ∷ []) from to m
  parts_to (look l) from to m = row_from (look l ∷ []) from to m
  parts_to (repetition least most greedy body) from to m = row_from (repetition least most greedy body ∷ []) from to m
  parts_to (capture body) from to m = row_from (capture body ∷ []) from to m
  parts_to (alternation branches) from to m = row_from (alternation branches ∷ []) from to m

  parts_from : (t : Tree) (from to : ℕ) → Matches t bytes from to → InOrder (parts_of t) from to
  parts_from empty from to m = m
  parts_from (concat parts) from to m = subst (λ (ts : Trees). MatchesInOrder ts bytes from to) (sym (list_back parts)) m
  parts_from (literal text) from to m = (to, m, refl)
  parts_from (byte_class ranges) from to m = (to, m, refl)
  parts_from (char_class ranges) from to m = (to, m, refl)
  parts_from (look l) from to m = (to, m, refl)
  parts_from (repetition least most greedy body) from to m = (to, m, refl)
  parts_from (capture body) from to m = (to, m, refl)
  parts_from (alternation branches) from to m = (to, m, refl)

  flat_to : (ts : List Tree) (from to : ℕ) → InOrder (flat_map parts_of ts) from to → InOrder ts from to
  flat_to [] from to m = m
  flat_to (t ∷ rest) from to m =
      let k = both_to (parts_of t) (flat_map parts_of rest) from to m in (k.0, parts_to t from k.0 k.1, flat_to rest k.0 to k.2)

  flat_from : (ts : List Tree) (from to : ℕ) → InOrder ts from to → InOrder (flat_map parts_of ts) from to
  flat_from [] from to m = m
  flat_from (t ∷ rest) from to m = both_from (parts_of t) (flat_map parts_of rest) from m.0 to (parts_from t from m.0 m.1) (flat_from rest m.0 to m.2)

  pub concat_same : (ts : List Tree) (from to : ℕ) → Matches (concat_of ts) bytes from to ↔ MatchesInOrder (trees ts) bytes from to
  concat_same ts from to = (
    λ m. flat_to ts from to (junction_to (flat_map parts_of ts) from to (row_to (junction (flat_map parts_of ts)) from to m)),
    λ m. row_from (junction (flat_map parts_of ts)) from to (junction_from (flat_map parts_of ts) from to (flat_from ts from to m)),
  )

  -- ---- Repetitions.

  both_true : (x y : Bool) → (x && y) ≡ true → (x ≡ true) × (y ≡ true)
  both_true true y e = (refl, e)
  both_true false y e = cc

  pieces_stay : (R : ℕ → ℕ → Type 0) → ((i j : ℕ) → R i j → i ≡ j) → (n from to : ℕ) → Pieces R n from to → from ≡ to
  pieces_stay R h zero from to p = p
  pieces_stay R h (suc n) from to p = h from p.0 p.1 ∙ pieces_stay R h n p.0 to p.2

  mutual
    byteless_stays : (t : Tree) (from to : ℕ) → is_byteless t ≡ true → Matches t bytes from to → from ≡ to
    byteless_stays empty from to e m = m
    byteless_stays (literal text) from to e m = cc
    byteless_stays (byte_class ranges) from to e m = cc
    byteless_stays (char_class ranges) from to e m = cc
    byteless_stays (look l) from to e m = m.0
    byteless_stays (repetition least most greedy body) from to e m = pieces_stay (Matches body bytes) (λ i j k. byteless_stays body i j e k) m.0 from to m.2
    byteless_stays (capture body) from to e m = byteless_stays body from to e m
    byteless_stays (concat parts) from to e m = parts_stay parts from to e m
    byteless_stays (alternation branches) from to e m = branch_stays branches from to e m

    parts_stay : (ts : Trees) (from to : ℕ) → all_byteless ts ≡ true → MatchesInOrder ts bytes from to → from ≡ to
    parts_stay none from to e m = m
    parts_stay (also t rest) from to e m = let k = both_true (is_byteless t) (all_byteless rest) e in byteless_stays t from m.0 k.0 m.1 ∙ parts_stay rest m.0 to k.1 m.2

    branch_stays : (ts : Trees) (from to : ℕ) → all_byteless ts ≡ true → SomeMatches ts bytes from to → from ≡ to
    branch_stays none from to e m = absurd m
    branch_stays (also t rest) from to e (inl m) = byteless_stays t from to (both_true (is_byteless t) (all_byteless rest) e).0 m
    branch_stays (also t rest) from to e (inr m) = branch_stays rest from to (both_true (is_byteless t) (all_byteless rest) e).1 m

  module _ (least : ℕ) (most : Option ℕ) (greedy : Bool) (body : Tree) (from to : ℕ) where
    abbrev Repeats : ℕ → Option ℕ → Type 0
    Repeats low high = Matches (repetition low high greedy body) bytes from to

    once_to : Matches body bytes from to → Repeats 1 (Some 1)
    once_to m = (1, (omega arith, omega arith), (to, m, refl))

    once_from : Repeats 1 (Some 1) → Matches body bytes from to
    once_from (n, c, p) = let one : n ≡ 1 = omega (arith, c.0, c.1) in let k : Pieces (Matches body bytes) 1 from to = subst (λ (i : ℕ). Pieces (Matches body bytes) i from to) one p in subst (λ (i : ℕ). Matches body bytes from i) k.2 k.1

    most_is : (n : ℕ) (high : Option ℕ) → is_most n high ≡ true → high ≡ Some n
    most_is n None e = cc
    most_is n (Some m) e = ap (λ (i : ℕ). Some i) (eqb-true m n e)

    times_same : (low : ℕ) (high : Option ℕ) → Matches (times low high greedy body) bytes from to ↔ Repeats low high
    times_same low high = go (low == 1 && is_most 1 high) refl
      where
        go : (x : Bool) → (low == 1 && is_most 1 high) ≡ x → Matches (times low high greedy body) bytes from to ↔ Repeats low high
        go true e =
            let k = both_true (low == 1) (is_most 1 high) e in
            let one : low ≡ 1 = eqb-true low 1 k.0 in
            let top : high ≡ Some 1 = most_is 1 high k.1 in
            rw (one, top) (once_to, once_from)
        go false e = rw e (λ m. m, λ m. m)

    many : (n : ℕ) → Matches body bytes from from → Pieces (Matches body bytes) n from from
    many zero m = refl
    many (suc n) m = (from, m, many n m)

    none_cut : (high : Option ℕ) → IfSome high (λ m. least ≤ m) → least ≤ 0 → IsCount least high 0
    none_cut None b l = (l, tt)
    none_cut (Some m) b l = (l, omega arith)

    cut_none : (high : Option ℕ) → least ≤ 0 → IsCount (min least 1) (cut high) 0
    cut_none None l = (omega (arith, l), omega arith)
    cut_none (Some m) l = (omega (arith, l), omega arith)

    cut_one : (high : Option ℕ) (k : ℕ) → IsCount least high (suc k) → IsCount (min least 1) (cut high) 1
    cut_one None k c = (omega arith, omega arith)
    cut_one (Some m) k c = (omega arith, omega (arith, c.1))

    -- a number of times that is at least `low` and at least one, and the least such number
    often : (low : ℕ) → (n : ℕ) × (low ≤ n) × ((m : ℕ) → low ≤ m → 1 ≤ m → n ≤ m)
    often zero = (1, omega arith, λ m a b. b)
    often (suc low) = (suc low, omega arith, λ m a b. a)

    one_often : (high : Option ℕ) (k : ℕ) → IfSome high (λ m. least ≤ m) → IsCount (min least 1) (cut high) (suc k) → IsCount least high (often least).0
    one_often None k b c = ((often least).1, tt)
    one_often (Some m) k b c = ((often least).1, (often least).2 m b (omega (arith, c.1)))

    cut_to : is_byteless body ≡ true → IfSome most (λ m. least ≤ m) → Repeats (min least 1) (cut most) → Repeats least most
    cut_to e b (zero, c, p) = (0, none_cut most b (omega (arith, c.0)), p)
    cut_to e b (suc k, c, p) =
        let here : from ≡ p.0 = byteless_stays body from p.0 e p.1 in
        let still : Matches body bytes from from = subst (λ (i : ℕ). Matches body bytes from i) (sym here) p.1 in
        let all : from ≡ to = here ∙ pieces_stay (Matches body bytes) (λ i j m. byteless_stays body i j e m) k p.0 to p.2 in
        ((often least).0, one_often most k b c, subst (λ (i : ℕ). Pieces (Matches body bytes) (often least).0 from i) all (many (often least).0 still))

    cut_from : is_byteless body ≡ true → Repeats least most → Repeats (min least 1) (cut most)
    cut_from e (zero, c, p) = (0, cut_none most c.0, p)
    cut_from e (suc k, c, p) = (1, cut_one most k c, (p.0, p.1, pieces_stay (Matches body bytes) (λ i j m. byteless_stays body i j e m) k p.0 to p.2))

    never_to : least ≤ 0 → from ≡ to → Repeats least (Some 0)
    never_to l e = (0, (l, omega arith), e)

    never_from : Repeats least (Some 0) → from ≡ to
    never_from (zero, c, p) = p
    never_from (suc k, c, p) = absurd (omega (arith, c.1))

    pub repetition_same : IfSome most (λ m. least ≤ m) → Matches (repetition_of least most greedy body) bytes from to ↔ Matches (repetition least most greedy body) bytes from to
    repetition_same b = go (is_most 0 most) (is_byteless body) refl refl
      where
        go : (x y : Bool) → is_most 0 most ≡ x → is_byteless body ≡ y → Matches (repetition_of least most greedy body) bytes from to ↔ Repeats least most
        go true y e f =
            let top : most ≡ Some 0 = most_is 0 most e in
            let l : least ≤ 0 = subst (λ (o : Option ℕ). IfSome o (λ m. least ≤ m)) top b in
            rw e (subst (λ (o : Option ℕ). (from ≡ to) ↔ Repeats least o) (sym top) (never_to l, never_from))
        go false true e f =
            let k = times_same (min least 1) (cut most) in rw (e, f) (λ m. cut_to f b (k.0 m), λ m. k.1 (cut_from f m))
        go false false e f = rw (e, f) (times_same least most)
