-- Matches of text, and the items of a text, start and end between characters.
use Rattle.std.proofs.Common.{◌≡◌, ℕ, zero, suc, ◌-◌, ◌<◌, ◌≤◌, Bool, true, false, ◌&&◌, nat_lt, List, [], ◌∷◌, ◌++◌, length, map, take, drop, All, Option, Some, None, IsSomeAnd, slice_get, slice_range, slice_index_or, if◌then◌else◌, refl, ap, ◌∙◌, subst, arith, inl, inr, IsUtf8, IsCharBoundary}
use Rattle.std.specs.List.{list_all}
use Rattle.std.proofs.lemmas.Bool.{ltb-true}
use Rattle.std.proofs.lemmas.List.{length-take, length-drop}
use Rattle.std.proofs.lemmas.Option.{slice_get_within, get_or_from_slice_get}
use Rattle.std.proofs.lemmas.Str.{IsUtf8-append, IsUtf8-take, IsUtf8-encode, IsUtf8-from_ascii, IsUtf8-from_is_utf8, IsCharBoundary-from_take}
use Rattle.std.proofs.Math.Seq.{take-add}
use Rattle.logos_hir.specs.Text.{OccursAt}
use Rattle.logos_hir.specs.Tree.{Tree, empty, literal, byte_class, char_class, look, repetition, capture, concat, alternation, Trees, none, also}
use Rattle.logos_hir.specs.Matches.{Matches, Pieces, MatchesInOrder, SomeMatches}
use Rattle.logos_hir.specs.Measure.{is_text, all_text}
use Rattle.logos_automaton.specs.Munch.{Use, Rule, RuleMatches}
use Rattle.logos_code.specs.declared.action.Action.{Action}
use Rattle.logos_code.specs.declared.action.Action.TheVariants.{Emit, Skip, Error}
use Rattle.logos_code.specs.Headline.{IsCut}
use Rattle.logos_code.specs.Items.{Callback, Item, Items, token, items_of, over, match, fault}

both : (a b : Bool) → (a && b) ≡ true → (a ≡ true) × (b ≡ true)
both true b e = (refl, e)
both false b e = absurd (cc)

-- the result of the test for all ranges holds for one
one_of : (ranges : List (ℕ × ℕ)) (k : ℕ) (r : ℕ × ℕ) → list_all (λ r. nat_lt r.1 128) ranges ≡ true → k < length ranges → slice_index_or ranges k r ≡ r → r.1 < 128
one_of [] k r all lt e = absurd (omega (arith, lt))
one_of (s ∷ ranges) zero r all lt e = let same : s ≡ r = e in subst (λ (x : ℕ × ℕ). x.1 < 128) same (ltb-true s.1 128 (both (nat_lt s.1 128) (list_all (λ r. nat_lt r.1 128) ranges) all).0)
one_of (s ∷ ranges) (suc k) r all lt e = one_of ranges k r (both (nat_lt s.1 128) (list_all (λ r. nat_lt r.1 128) ranges) all).1 (omega (arith, lt)) e

ascii_text : (b : ℕ) → b < 128 → IsUtf8 (b ∷ [])
ascii_text b h = IsUtf8-from_ascii (b ∷ []) small
  where
    small : (i : ℕ) → slice_index_or (b ∷ []) i 0 < 128
    small zero = h
    small (suc i) = omega arith

module _ (bytes : List ℕ) (valid : IsUtf8 bytes) where
  -- a text that begins at a character boundary ends at one
  is_at_cut : (text : List ℕ) (from to : ℕ) → IsUtf8 text → OccursAt text bytes from to → IsCharBoundary bytes from → IsCharBoundary bytes to
  is_at_cut text from to is_text is_at cut = IsCharBoundary-from_take bytes to valid within (rw whole (IsUtf8-append (take from bytes) text (IsUtf8-take bytes from valid cut) is_text))
    where
      here : take (length text) (drop from bytes) ≡ text
      here = let e : length text ≡ to - from = omega (arith, is_at.end) in ap (λ n. take n (drop from bytes)) e ∙ is_at.here

      within : to ≤ length bytes
      within = omega (arith, is_at.end, cut.0, ap length here, length-take (length text) (drop from bytes), length-drop from bytes)

      whole : take to bytes ≡ take from bytes ++ text
      whole = ap (λ n. take n bytes) is_at.end ∙ take-add from (length text) bytes ∙ ap (λ t. take from bytes ++ t) here

  abbrev Keeps : (ℕ → ℕ → Type 0) → Type 0
  Keeps Piece = (from to : ℕ) → Piece from to → IsCharBoundary bytes from → IsCharBoundary bytes to

  pieces_cut : (Piece : ℕ → ℕ → Type 0) → Keeps Piece → (n from to : ℕ) → Pieces Piece n from to → IsCharBoundary bytes from → IsCharBoundary bytes to
  pieces_cut Piece keeps zero from to m cut = subst (IsCharBoundary bytes) m cut
  pieces_cut Piece keeps (suc n) from to m cut = pieces_cut Piece keeps n m.0 to m.2 (keeps from m.0 m.1 cut)

  mutual
    tree_cut : (tree : Tree) → is_text tree ≡ true → (from to : ℕ) → Matches tree bytes from to → IsCharBoundary bytes from → IsCharBoundary bytes to
    tree_cut empty t from to m cut = subst (IsCharBoundary bytes) m cut
    tree_cut (literal text) t from to m cut = is_at_cut text from to (IsUtf8-from_is_utf8 text t) m cut
    tree_cut (byte_class ranges) t from to m cut =
        let one = one_of ranges m.1.0 m.1.1 t m.1.2 m.1.3 in
        is_at_cut (m.0 ∷ []) from to (ascii_text m.0 (omega (arith, one, m.1.4.1))) m.2 cut
    tree_cut (char_class ranges) t from to m cut = is_at_cut _ from to (IsUtf8-encode m.0 m.1) m.3 cut
    tree_cut (look l) t from to m cut = subst (IsCharBoundary bytes) m.0 cut
    tree_cut (repetition least most greedy body) t from to m cut = pieces_cut (Matches body bytes) (tree_cut body t) m.0 from to m.2 cut
    tree_cut (capture body) t from to m cut = tree_cut body t from to m cut
    tree_cut (concat parts) t from to m cut = parts_cut parts t from to m cut
    tree_cut (alternation branches) t from to m cut = some_cut branches t from to m cut

    parts_cut : (parts : Trees) → all_text parts ≡ true → (from to : ℕ) → MatchesInOrder parts bytes from to → IsCharBoundary bytes from → IsCharBoundary bytes to
    parts_cut none t from to m cut = subst (IsCharBoundary bytes) m cut
    parts_cut (also part parts) t from to m cut =
        let s = both (is_text part) (all_text parts) t in
        parts_cut parts s.1 m.0 to m.2 (tree_cut part s.0 from m.0 m.1 cut)

    some_cut : (branches : Trees) → all_text branches ≡ true → (from to : ℕ) → SomeMatches branches bytes from to → IsCharBoundary bytes from → IsCharBoundary bytes to
    some_cut none t from to m cut = absurd m
    some_cut (also branch branches) t from to (inl m) cut = tree_cut branch (both (is_text branch) (all_text branches) t).0 from to m cut
    some_cut (also branch branches) t from to (inr m) cut = some_cut branches (both (is_text branch) (all_text branches) t).1 from to m cut

  module _ (rules : List Rule) (texts : All (λ rule. is_text rule.tree ≡ true) rules) where
    rule_cut : (leaf from to : ℕ) → RuleMatches rules leaf bytes from to → IsCharBoundary bytes from → IsCharBoundary bytes to
    rule_cut leaf from to m cut = go (slice_get rules leaf) refl m
      where
        go : (o : Option Rule) → slice_get rules leaf ≡ o → IsSomeAnd o (λ rule. Matches rule.tree bytes from to) → IsCharBoundary bytes to
        go None e m = absurd m
        go (Some rule) e m =
            let t = rw (get_or_from_slice_get rules leaf rule rule e) at (texts leaf rule (slice_get_within rules leaf rule e)) in
            tree_cut rule.tree t from to m cut

    abbrev Are : List Item → Type 0
    Are items = All (IsCut bytes) items

    are_none : Are []
    are_none i d h = absurd (omega (arith, h))

    are_also : (item : Item) (items : List Item) → IsCut bytes item → Are items → Are (item ∷ items)
    are_also item items is are zero d h = is
    are_also item items is are (suc i) d h = are i d (omega (arith, h))

    match_cut : (uses : List Use) (callback : Callback) (answer : Action) (leaf from to : ℕ) (rest : List Item) → IsCharBoundary bytes from → IsCharBoundary bytes to →
        Are rest → Are (items_of uses callback bytes answer leaf from to ++ rest)
    match_cut uses callback Emit leaf from to rest cut end are = go (Rattle.logos_code.specs.Items.skips uses callback bytes leaf)
      where
        go : (b : Bool) → Are ((if b then [] else token leaf from to (slice_range bytes from to) ∷ []) ++ rest)
        go true = are
        go false = are_also _ rest (cut, end) are
    match_cut uses callback Skip leaf from to rest cut end are = are
    match_cut uses callback Error leaf from to rest cut end are = are_also _ rest (cut, end) are

    pub items_cut : (callback : Callback) {from : ℕ} {items : List Item} → IsCharBoundary bytes from → Items rules callback true bytes from items → Are items
    items_cut callback cut (over from s) = are_none
    items_cut callback cut (match from to leaf answer rest s a l) =
        let end = rule_cut leaf from to s.matches cut in
        match_cut (map (λ rule. rule.use_of) rules) callback answer leaf from to rest cut end (items_cut callback end l)
    items_cut callback cut (fault from to rest s l) =
        let end = s.2.may_stop.boundary refl in
        are_also _ rest (cut, end) (items_cut callback end l)
