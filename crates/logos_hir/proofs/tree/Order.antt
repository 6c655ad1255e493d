-- A match lies within the bytes, or is empty after them.
use Rattle.std.proofs.Common.{◌≡◌, ℕ, zero, suc, ◌-◌, ◌≤◌, List, [], ◌∷◌, length, drop, slice_range, min, max, sym, ◌∙◌, ap, arith, inl, inr, encode_utf8}
use Rattle.std.proofs.lemmas.List.{length-take, length-drop}
use Rattle.logos_hir.specs.Text.{OccursAt}
use Rattle.logos_hir.specs.Tree.{Tree, empty, literal, byte_class, char_class, look, repetition, capture, concat, alternation, Trees, none, also}
use Rattle.logos_hir.specs.Matches.{Matches, MatchesInOrder, SomeMatches, Pieces}

-- the points are in order, and the second is within n or the first
abbrev pub InOrder : ℕ → ℕ → ℕ → Type 0
InOrder n from to = (from ≤ to) × (to ≤ max from n)

pub occurs_order : (text bytes : List ℕ) (from to : ℕ) → OccursAt text bytes from to → InOrder (length bytes) from to
occurs_order text bytes from to s =
    let size : length (slice_range bytes from to) ≡ length text = ap length s.here in
    let counted : min (to - from) (length bytes - from) ≡ length text =
    ap (min (to - from)) (sym (length-drop from bytes)) ∙ sym (length-take (to - from) (drop from bytes)) ∙ size in
    (omega (arith, s.end), omega (arith, s.end, counted))

pub pieces_order : (R : ℕ → ℕ → Type 0) (n : ℕ) → ((i j : ℕ) → R i j → InOrder n i j) →
    (k from to : ℕ) → Pieces R k from to → InOrder n from to
pieces_order R n h zero from to e = (omega (arith, e), omega (arith, e))
pieces_order R n h (suc k) from to p =
    let first = h from p.0 p.1 in
    let rest = pieces_order R n h k p.0 to p.2 in
    (omega (arith, first.0, rest.0), omega (arith, first.0, first.1, rest.0, rest.1))

mutual
  pub matches_order : (t : Tree) (bytes : List ℕ) (from to : ℕ) → Matches t bytes from to → InOrder (length bytes) from to
  matches_order empty bytes from to e = (omega (arith, e), omega (arith, e))
  matches_order (literal text) bytes from to s = occurs_order text bytes from to s
  matches_order (byte_class ranges) bytes from to s = occurs_order (s.0 ∷ []) bytes from to s.2
  matches_order (char_class ranges) bytes from to s = occurs_order (encode_utf8 s.0) bytes from to s.3
  matches_order (look l) bytes from to e = (omega (arith, e.0), omega (arith, e.0))
  matches_order (repetition least most greedy body) bytes from to m =
      pieces_order (Matches body bytes) (length bytes) (matches_order body bytes) m.0 from to m.2
  matches_order (capture body) bytes from to m = matches_order body bytes from to m
  matches_order (concat parts) bytes from to m = parts_order parts bytes from to m
  matches_order (alternation branches) bytes from to m = branches_order branches bytes from to m

  pub parts_order : (ts : Trees) (bytes : List ℕ) (from to : ℕ) → MatchesInOrder ts bytes from to → InOrder (length bytes) from to
  parts_order none bytes from to e = (omega (arith, e), omega (arith, e))
  parts_order (also t ts) bytes from to m =
      let first = matches_order t bytes from m.0 m.1 in
      let rest = parts_order ts bytes m.0 to m.2 in
      (omega (arith, first.0, rest.0), omega (arith, first.0, first.1, rest.0, rest.1))

  pub branches_order : (ts : Trees) (bytes : List ℕ) (from to : ℕ) → SomeMatches ts bytes from to → InOrder (length bytes) from to
  branches_order none bytes from to m = absurd m
  branches_order (also t ts) bytes from to (inl m) = matches_order t bytes from to m
  branches_order (also t ts) bytes from to (inr m) = branches_order ts bytes from to m
