-- A match lies within the bytes.
use Rattle.std.proofs.Common.{◌≡◌, ℕ, zero, suc, ◌-◌, ◌≤◌, List, [], ◌∷◌, length, drop, slice_range, min, sym, ◌∙◌, ap, arith, inl, inr, encode_utf8}
use Rattle.std.proofs.lemmas.List.{length-take, length-drop}
use Rattle.logos_hir.specs.Text.{OccursAt}
use Rattle.logos_hir.specs.Tree.{Tree, empty, literal, byte_class, char_class, look, repetition, capture, concat, alternation, Trees, none, also}
use Rattle.logos_hir.specs.Matches.{Matches, MatchesInOrder, SomeMatches, Pieces}

-- the points are in order and within n
abbrev pub Within : ℕ → ℕ → ℕ → Type 0
Within n from to = from ≤ n → (from ≤ to) × (to ≤ n)

pub occurs_within : (text bytes : List ℕ) (from to : ℕ) → OccursAt text bytes from to → Within (length bytes) from to
occurs_within text bytes from to s b =
    let size : length (slice_range bytes from to) ≡ length text = ap length s.here in
    let counted : min (to - from) (length bytes - from) ≡ length text =
    ap (min (to - from)) (sym (length-drop from bytes)) ∙ sym (length-take (to - from) (drop from bytes)) ∙ size in
    (omega (arith, s.end), omega (arith, s.end, counted, b))

pub pieces_within : (R : ℕ → ℕ → Type 0) (n : ℕ) → ((i j : ℕ) → R i j → Within n i j) →
    (k from to : ℕ) → Pieces R k from to → Within n from to
pieces_within R n h zero from to e b = (omega (arith, e), omega (arith, e, b))
pieces_within R n h (suc k) from to p b =
    let first = h from p.0 p.1 b in
    let rest = pieces_within R n h k p.0 to p.2 first.1 in
    (omega (arith, first.0, rest.0), rest.1)

mutual
  pub matches_within : (t : Tree) (bytes : List ℕ) (from to : ℕ) → Matches t bytes from to → Within (length bytes) from to
  matches_within empty bytes from to e b = (omega (arith, e), omega (arith, e, b))
  matches_within (literal text) bytes from to s b = occurs_within text bytes from to s b
  matches_within (byte_class ranges) bytes from to s b = occurs_within (s.0 ∷ []) bytes from to s.2 b
  matches_within (char_class ranges) bytes from to s b = occurs_within (encode_utf8 s.0) bytes from to s.3 b
  matches_within (look l) bytes from to e b = (omega (arith, e.0), omega (arith, e.0, b))
  matches_within (repetition least most greedy body) bytes from to m b =
      pieces_within (Matches body bytes) (length bytes) (matches_within body bytes) m.0 from to m.2 b
  matches_within (capture body) bytes from to m b = matches_within body bytes from to m b
  matches_within (concat parts) bytes from to m b = parts_within parts bytes from to m b
  matches_within (alternation branches) bytes from to m b = branches_within branches bytes from to m b

  pub parts_within : (ts : Trees) (bytes : List ℕ) (from to : ℕ) → MatchesInOrder ts bytes from to → Within (length bytes) from to
  parts_within none bytes from to e b = (omega (arith, e), omega (arith, e, b))
  parts_within (also t ts) bytes from to m b =
      let first = matches_within t bytes from m.0 m.1 b in
      let rest = parts_within ts bytes m.0 to m.2 first.1 in
      (omega (arith, first.0, rest.0), rest.1)

  pub branches_within : (ts : Trees) (bytes : List ℕ) (from to : ℕ) → SomeMatches ts bytes from to → Within (length bytes) from to
  branches_within none bytes from to m b = absurd m
  branches_within (also t ts) bytes from to (inl m) b = matches_within t bytes from to m b
  branches_within (also t ts) bytes from to (inr m) b = branches_within ts bytes from to m b
