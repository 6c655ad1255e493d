-- A type that is read has no more nested types than its levels, and is read with as many levels as
-- its depth.
use Rattle.std.proofs.Common.{◌≡◌, ℕ, ◌+◌, ◌-◌, ◌<◌, ◌≤◌, ◌⊎◌, inl, inr, max, Bool, List, [], ◌∷◌, ◌++◌, refl, sym, subst, arith}
use Rattle.logos_token.specs.Tokens.{Token, identifier, punctuation, literal, doc, group, TokenList, none as no_token_left, also as and_token}
use Rattle.logos_type.specs.Parts.{Tree, sign, trees, closing}
use Rattle.logos_type_reader.specs.StillRuns.{still_token, still_run}
use Rattle.logos_type.specs.Depth.{depth, depth_of}
use Rattle.logos_type_reader.specs.Table.{Spot, Fault, too_deep}
use Rattle.logos_type_reader.specs.Reading.{IsType, name_alone, formed, IsMove, a_token, a_bar, a_type, a_still_type, still_tokens, a_nest, AreParts, ended, further, NoType}
use Rattle.logos_type_reader.proofs.ReadingLaws.{one_type, refused_type}
use Rattle.logos_type_reader.proofs.ReadingTotal.{type_or_fault}

depth_append : (xs ys : List Tree) → depth_of (trees (xs ++ ys)) ≡ max (depth_of (trees xs)) (depth_of (trees ys))
depth_append [] ys = omega arith
depth_append (x ∷ xs) ys = let h = depth_append xs ys in omega (arith, h)

mutual
  flat_token : (t : Token) → depth_of (trees (still_token t)) ≡ 0
  flat_token (identifier text span) = omega arith
  flat_token (punctuation character spacing span) = omega arith
  flat_token (literal text span) = omega arith
  flat_token (doc text span) = omega arith
  flat_token (group delimiter span inside) = let h = flat_run inside in let k = depth_append (still_run inside) (sign (closing delimiter) ∷ []) in omega (arith, h, k)

  flat_run : (ts : TokenList) → depth_of (trees (still_run ts)) ≡ 0
  flat_run no_token_left = refl
  flat_run (and_token t ts) = let h = flat_token t in let k = flat_run ts in omega (arith, h, k, depth_append (still_token t) (still_run ts))

mutual
  pub type_within : {n : ℕ} {plus : Bool} {run rest : TokenList} {t : Tree} → IsType n plus run t rest → depth t ≤ n
  type_within (name_alone a e) = omega (arith, a)
  type_within (formed a e b h) = let k = parts_within h in omega (arith, a, k)

  move_within : {n : ℕ} {b : Bool} {spot outside : Spot} {ps : List Tree} → IsMove n b spot ps outside → depth_of (trees ps) ≤ n
  move_within (a_token e) = omega arith
  move_within (a_bar e) = omega arith
  move_within (a_type e h) = let k = type_within h in omega (arith, k)
  move_within (a_still_type e h) = let k = type_within h in omega (arith, k)
  move_within (still_tokens {run = run} e) = let k = flat_run run in omega (arith, k)
  move_within (a_nest e h) = let k = parts_within h in omega (arith, k)

  parts_within : {n : ℕ} {b : Bool} {spot : Spot} {ps : List Tree} {rest : TokenList} → AreParts n b spot ps rest → depth_of (trees ps) ≤ n
  parts_within (ended e) = omega arith
  parts_within (further {front = front} {parts = parts} m a e) = let k = move_within m in let l = parts_within a in omega (arith, k, l, depth_append front parts)

first_deep : {m : ℕ} (front parts : List Tree) → depth_of (trees (front ++ parts)) ≤ m → depth_of (trees front) ≤ m
first_deep front parts d = omega (arith, d, depth_append front parts)

rest_deep : {m : ℕ} (front parts : List Tree) → depth_of (trees (front ++ parts)) ≤ m → depth_of (trees parts) ≤ m
rest_deep front parts d = omega (arith, d, depth_append front parts)

whole_some : {m : ℕ} (d : ℕ) → 1 + d ≤ m → 0 < m
whole_some d h = omega (arith, h)

whole_deep : {m : ℕ} (d : ℕ) → 1 + max 0 d ≤ m → d ≤ m - 1
whole_deep d h = omega (arith, h)

alone_deep : {m : ℕ} (d : ℕ) → max d 0 ≤ m → d ≤ m
alone_deep d h = omega (arith, h)

kept_deep : {m : ℕ} (d : ℕ) → max (max d 0) 0 ≤ m → d ≤ m
kept_deep d h = omega (arith, h)

after_deep : {m : ℕ} (d : ℕ) → max 0 d ≤ m → d ≤ m
after_deep d h = omega (arith, h)

mutual
  pub type_enough : {n m : ℕ} {plus : Bool} {run rest : TokenList} {t : Tree} → IsType n plus run t rest → depth t ≤ m → IsType m plus run t rest
  type_enough (name_alone a e) d = name_alone (omega (arith, d)) e
  type_enough (formed a e b h) d = formed (whole_some _ d) e b (parts_enough h (whole_deep _ d))

  move_enough : {n m : ℕ} {b : Bool} {spot outside : Spot} {ps : List Tree} → IsMove n b spot ps outside → depth_of (trees ps) ≤ m → IsMove m b spot ps outside
  move_enough (a_token e) d = a_token e
  move_enough (a_bar e) d = a_bar e
  move_enough (a_type e h) d = a_type e (type_enough h (alone_deep _ d))
  move_enough (a_still_type e h) d = a_still_type e (type_enough h (kept_deep _ d))
  move_enough (still_tokens e) d = still_tokens e
  move_enough (a_nest e h) d = a_nest e (parts_enough h (after_deep _ d))

  parts_enough : {n m : ℕ} {b : Bool} {spot : Spot} {ps : List Tree} {rest : TokenList} → AreParts n b spot ps rest → depth_of (trees ps) ≤ m → AreParts m b spot ps rest
  parts_enough (ended e) d = ended e
  parts_enough (further {front = front} {parts = parts} x a e) d = further (move_enough x (first_deep front parts d)) (parts_enough a (rest_deep front parts d)) e

-- a type that holds more is refused for that alone
pub passes : {n m : ℕ} {plus : Bool} {run rest : TokenList} {t : Tree} → IsType n plus run t rest → m < depth t → NoType m plus run too_deep
passes {n} {m} {plus} {run} {rest} {t} h d = go (type_or_fault m plus run)
  where
    go : (((u : Tree) × (other : TokenList) × IsType m plus run u other) ⊎ ((fault : Fault) × NoType m plus run fault)) → NoType m plus run too_deep
    go (inl k) = let same = one_type h k.2 in let within = subst (λ (x : Tree). depth x ≤ m) (sym same.0) (type_within k.2) in absurd (omega (arith, within, d))
    go (inr k) = let deeper = refused_type k.1 h in subst (NoType m plus run) deeper.0 k.1
