-- Laws of look-around assertions, and of trees that match an empty span.
use Rattle.std.proofs.Common.{◌≡◌, ◌≢◌, ℕ, zero, suc, ◌+◌, ◌≤◌, ◌<◌, ◌⊎◌, inl, inr, Bool, true, false, ◌&&◌, ◌||◌, List, [], ◌∷◌, ◌++◌, ◌-◌, length, slice_get, if◌then◌else◌, ◌==◌, Option, None, Some, IsTrue, refl, sym, ap, subst, ◌∙◌, arith, encode_utf8}
use Rattle.std.proofs.lemmas.Bool.Decides.{nat_tests}
use Rattle.std.proofs.lemmas.List.{length-append}
use Rattle.std.proofs.lemmas.Option.{slice_get-get_or, slice_get_past}
use Rattle.std.proofs.lemmas.Str.{length-encode, len_utf8_bounds}
use Rattle.std.proofs.Math.ListN.{get_or-append}
use Rattle.std.proofs.Math.Seq.{get_or-append_seam}
use Rattle.logos_hir.specs.Text.{OccursAt, byte_before, byte_after}
use Rattle.logos_hir.proofs.tree.Bounds.{Within, pieces_within, matches_within, parts_within}
use Rattle.logos_hir.specs.Tree.{Tree, empty, literal, byte_class, char_class, look, repetition, capture, concat, alternation, Trees, none, also}
use Rattle.logos_hir.specs.declared.hir.Look.{Look}
use Rattle.logos_hir.specs.declared.hir.Look.TheVariants.{Start, End, StartLF, EndLF, StartCRLF, EndCRLF, WordAscii, WordAsciiNegate}
use Rattle.logos_hir.specs.Looks.{holds_between, is_word, Holds}
use Rattle.logos_hir.specs.Matches.{Matches, MatchesInOrder, SomeMatches, Pieces}
use Rattle.logos_hir.specs.Passable.{passable, all_passable, some_passable}

not_lf : (b : ℕ) → b ≢ 10 → (b == 10) ≡ false
not_lf b lf = grind (arith, nat_tests)

-- a look-around assertion that holds before a byte that is neither a word byte nor CR nor LF also
-- holds at the end
pub holds_at_end : (l : Look) (before : Option ℕ) (b : ℕ) → is_word (Some b) ≡ false → b ≢ 10 → b ≢ 13 →
    IsTrue (holds_between l before (Some b)) → IsTrue (holds_between l before None)
holds_at_end Start before b w lf cr h = h
holds_at_end End before b w lf cr h = refl
holds_at_end StartLF before b w lf cr h = h
holds_at_end EndLF before b w lf cr h = refl
holds_at_end StartCRLF before b w lf cr h = rw (not_lf b lf) at h
holds_at_end EndCRLF before b w lf cr h = refl
holds_at_end WordAscii before b w lf cr h = rw w at h
holds_at_end WordAsciiNegate before b w lf cr h = rw w at h

before_same : (bytes rest : List ℕ) (at : ℕ) → at ≤ length bytes → byte_before (bytes ++ rest) at ≡ byte_before bytes at
before_same bytes rest at l = go (at == 0) refl
  where
    go : (b : Bool) → (at == 0) ≡ b → (if b then None else slice_get (bytes ++ rest) (at - 1)) ≡ (if b then None else slice_get bytes (at - 1))
    go true e = refl
    go false e =
        let some : 0 < at = grind (arith, nat_tests, e) in
        slice_get-get_or (bytes ++ rest) (at - 1) 0 (let n = length-append bytes rest in omega (arith, n, some, l))
        ∙ ap Some (get_or-append bytes rest 0 (at - 1) (omega (arith, some, l)))
        ∙ sym (slice_get-get_or bytes (at - 1) 0 (omega (arith, some, l)))

after_there : (bytes rest : List ℕ) (b : ℕ) → byte_after (bytes ++ b ∷ rest) (length bytes) ≡ Some b
after_there bytes rest b =
    slice_get-get_or (bytes ++ b ∷ rest) (length bytes) 0 (let e = length-append bytes (b ∷ rest) in omega (arith, e))
    ∙ ap Some (get_or-append_seam bytes b rest 0)

-- bytes, and a byte after them, in the same way
pub held_at_end : (l : Look) (bytes rest : List ℕ) (b : ℕ) → is_word (Some b) ≡ false → b ≢ 10 → b ≢ 13 →
    Holds l (bytes ++ b ∷ rest) (length bytes) → Holds l bytes (length bytes)
held_at_end l bytes rest b w lf cr h =
    let there : IsTrue (holds_between l (byte_before bytes (length bytes)) (Some b)) =
    subst (λ (after : Option ℕ). IsTrue (holds_between l (byte_before bytes (length bytes)) after)) (after_there bytes rest b)
    (subst (λ (before : Option ℕ). IsTrue (holds_between l before (byte_after (bytes ++ b ∷ rest) (length bytes)))) (before_same bytes (b ∷ rest) (length bytes) (omega arith)) h)
    in
    subst (λ (after : Option ℕ). IsTrue (holds_between l (byte_before bytes (length bytes)) after)) (sym (slice_get_past bytes (length bytes) (omega arith)))
    (holds_at_end l (byte_before bytes (length bytes)) b w lf cr there)

-- an empty span has no byte
pub no_text : (text bytes : List ℕ) (at : ℕ) → 0 < length text → OccursAt text bytes at at → ⊥
no_text text bytes at some s = let e : at ≡ at + length text = s.end in omega (arith, e, some)

pub is_zero : (n : ℕ) → n ≡ 0 → IsTrue (n == 0)
is_zero n e = rw e refl

-- a character takes a byte at least
pub encoded : (c : ℕ) → 0 < length (encode_utf8 c)
encoded c = rw (length-encode c) (len_utf8_bounds c).0

pub either_true : (a b : Bool) → (IsTrue a ⊎ IsTrue b) → IsTrue (a || b)
either_true true b e = refl
either_true false b (inl e) = absurd (false_is_not_true e)
  where
    false_is_not_true : IsTrue false → ⊥
    false_is_not_true h = cc
either_true false b (inr e) = e

pub both_true : (a b : Bool) → IsTrue a → IsTrue b → IsTrue (a && b)
both_true true b x y = y
both_true false b x y = cc

-- the first of some pieces on an empty span is on an empty span
pub piece_there : (R : ℕ → ℕ → Type 0) (size : ℕ) → ((i j : ℕ) → R i j → Within size i j) →
    (n at : ℕ) → at ≤ size → Pieces R (suc n) at at → R at at
piece_there R size within n at ok (cut, first, rest) =
    let a = within at cut first ok in
    let b = pieces_within R size within n cut at rest a.1 in
    let e : cut ≡ at = omega (arith, a.0, b.0) in
    rw e at first

mutual
  -- a tree that matches an empty span can be passed
  pub passes : (t : Tree) (bytes : List ℕ) (at : ℕ) → at ≤ length bytes → Matches t bytes at at → IsTrue (passable t)
  passes empty bytes at ok m = refl
  passes (literal text) bytes at ok m = let e : at ≡ at + length text = m.end in is_zero (length text) (omega (arith, e))
  passes (byte_class ranges) bytes at ok m = absurd (no_text (m.0 ∷ []) bytes at (omega arith) m.2)
  passes (char_class ranges) bytes at ok m = absurd (no_text (encode_utf8 m.0) bytes at (encoded m.0) m.3)
  passes (look l) bytes at ok m = refl
  passes (repetition least most greedy body) bytes at ok (zero, count, pieces) = either_true _ _ (inl (is_zero least (omega (arith, count.0))))
  passes (repetition least most greedy body) bytes at ok (suc n, count, pieces) =
      either_true _ _ (inr (passes body bytes at ok (piece_there (Matches body bytes) (length bytes) (matches_within body bytes) n at ok pieces)))
  passes (capture body) bytes at ok m = passes body bytes at ok m
  passes (concat parts) bytes at ok m = all_pass parts bytes at ok m
  passes (alternation branches) bytes at ok m = some_pass branches bytes at ok m

  pub all_pass : (ts : Trees) (bytes : List ℕ) (at : ℕ) → at ≤ length bytes → MatchesInOrder ts bytes at at → IsTrue (all_passable ts)
  all_pass none bytes at ok m = refl
  all_pass (also t ts) bytes at ok (cut, first, rest) =
      let a = matches_within t bytes at cut first ok in
      let b = parts_within ts bytes cut at rest a.1 in
      let e : cut ≡ at = omega (arith, a.0, b.0) in
      both_true _ _ (passes t bytes at ok (rw e at first)) (all_pass ts bytes at ok (rw e at rest))

  pub some_pass : (ts : Trees) (bytes : List ℕ) (at : ℕ) → at ≤ length bytes → SomeMatches ts bytes at at → IsTrue (some_passable ts)
  some_pass none bytes at ok m = absurd m
  some_pass (also t ts) bytes at ok (inl m) = either_true _ _ (inl (passes t bytes at ok m))
  some_pass (also t ts) bytes at ok (inr m) = either_true _ _ (inr (some_pass ts bytes at ok m))
