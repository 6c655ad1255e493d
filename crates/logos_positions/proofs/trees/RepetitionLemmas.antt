-- The core pattern of a repetition.
use Rattle.std.proofs.Common.{◌≡◌, ℕ, zero, suc, ◌+◌, ◌-◌, ◌*◌, ◌^◌, min, ◌<◌, ◌≤◌, Bool, List, Option, Some, None, option_map, IfSome, refl, sym, ap, ◌∙◌, arith}
use Rattle.std.proofs.Math.Nat.{mul-le-mul_left}
use Rattle.std.proofs.lemmas.Option.{same_Some}
use Rattle.logos_hir.specs.Tree as tree
use Rattle.logos_hir.specs.Tree.{Tree}
use Rattle.logos_hir.specs.Matches.{Matches, Pieces}
use Rattle.logos_positions.specs.Core as core
use Rattle.logos_positions.specs.Core.{Core, width, IsFree}
use Rattle.logos_positions.specs.Positions.{Position, byte_of, member, within, copies}
use Rattle.logos_positions.specs.Repeat.{IsOrdered, count_of, in_front, up_to, repeated}
use Rattle.logos_positions.specs.Size.{size}
use Rattle.logos_positions.specs.IsCore.{IsCoreOf}
use Rattle.logos_positions.proofs.trees.CopyLemmas.{TurnReads, repeated-turns, turns-repeated}
use Rattle.logos_positions.proofs.trees.RepeatLemmas.{Pieces-map, repeated-of_Pieces, Pieces-of_repeated}
use Rattle.logos_positions.proofs.trees.WidthLemmas.{width-repeated}

-- a position in a copy, without the copy's number
abbrev copy_number : ℕ → ℕ → (Position → Option ℕ) → Position → Option ℕ
copy_number w count f (byte_of n) = None
copy_number w count f (member bytes) = None
copy_number w count f (within c position) = option_map (λ q. w * min (c - 1) (count - 1) + q) (f position)

-- the copy for a turn, by either count
same_copy : (least : ℕ) (most : Option ℕ) (k : ℕ) → IsOrdered least most → IfSome most (λ n. k < n) →
    min (min (k + 1) (copies least most) - 1) (count_of least most - 1) ≡ min k (count_of least most - 1)
same_copy zero None k o h = omega arith
same_copy (suc least) None k o h = omega arith
same_copy least (Some most) k o h = omega arith

few_copies : (least : ℕ) (most : Option ℕ) → count_of least most ≤ copies least most
few_copies least None = omega arith
few_copies least (Some most) = omega arith

free_in_front : (n : ℕ) (a b : Core) → IsFree a → IsFree b → IsFree (in_front n a b)
free_in_front zero a b f g = g
free_in_front (suc n) a b f g = (f, free_in_front n a b f g)

free_up_to : (n : ℕ) (a : Core) → IsFree a → IsFree (up_to n a)
free_up_to zero a f = tt
free_up_to (suc n) a f = ((f, free_up_to n a f), tt)

free_repeated : (least : ℕ) (most : Option ℕ) (a : Core) → IsFree a → IsFree (repeated least most a)
free_repeated zero None a f = (f, tt)
free_repeated (suc least) None a f = free_in_front least a (core.plus a) f f
free_repeated least (Some most) a f = free_in_front least a (up_to (most - least) a) f (free_up_to (most - least) a f)

shifted : (w p : ℕ) (o : Option ℕ) → option_map (λ q. w + q) o ≡ Some p → (q : ℕ) × (o ≡ Some q) × (p ≡ w + q)
shifted w p None e = absurd (cc)
shifted w p (Some q) e = (q, refl, sym (same_Some (w + q) p e))

small_product : (w k n s : ℕ) → w ≤ 2 ^ 16 * s → k ≤ n → w * k ≤ 2 ^ 16 * (s * n)
small_product w k n s f g =
    let a = mul-le-mul_left w g in
    let b = mul-le-mul_left n f in
    omega (arith, a, b)

pub core_repetition : (least : ℕ) (most : Option ℕ) (greedy : Bool) (t : Tree) (c : Core) → IsOrdered least most → IsCoreOf t c →
    IsCoreOf (tree.repetition least most greedy t) (repeated least most c)
core_repetition least most greedy t c o h = record {
  matches = λ bytes i j. (
    λ m. let u = Pieces-of_repeated bytes c least most i j o m in
        (u.0, u.1, Pieces-map (core.Matches bytes c) (Matches t bytes) (λ x y r. (h.matches bytes x y).0 r) u.0 i j u.2),
    λ m. repeated-of_Pieces bytes c least most m.0 i j m.1
        (Pieces-map (Matches t bytes) (core.Matches bytes c) (λ x y r. (h.matches bytes x y).1 r) m.0 i j m.2),
  );
  number = copy_number (width c) (count_of least most) h.number;
  reads = λ bytes i at p. (
    λ r. let u : TurnReads bytes c (suc at) least most i p = repeated-turns bytes c (suc at) least most i p o r in
        let k = u.0 in
        let cut = u.4.0 in
        let v = (h.reads bytes cut at u.1).0 u.4.2 in
        let e = same_copy least most k o u.2 in (
          within (min (k + 1) (copies least most)) v.0,
          (k, cut, v.0, u.2, Pieces-map (core.Matches bytes c) (Matches t bytes) (λ x y s. (h.matches bytes x y).0 s) k i cut u.4.1, v.1, refl),
          rw (v.2, e) (ap Some (sym u.3)),
        ),
    λ v. let k = v.1.0 in
        let cut = v.1.1 in
        let inner = v.1.2 in
        let few : IfSome most (λ n. k < n) = v.1.3 in
        let e = same_copy least most k o few in
        let f = rw e at (ap (copy_number (width c) (count_of least most) h.number) (sym v.1.6) ∙ v.2) in
        let s = shifted (width c * min k (count_of least most - 1)) p (h.number inner) f in
        let r = (h.reads bytes cut at s.0).1 (inner, v.1.5, s.1) in
        turns-repeated bytes c (suc at) least most i p o
        (k, s.0, few, s.2, (cut, Pieces-map (Matches t bytes) (core.Matches bytes c) (λ x y m. (h.matches bytes x y).1 m) k i cut v.1.4, r)),
  );
  free = λ e. free_repeated least most c (h.free e);
  small = rw (width-repeated least most c o) (small_product (width c) (count_of least most) (copies least most) (size t) h.small (few_copies least most));
}

-- the counts leave out each number
pub core_no_count : (least most : ℕ) (greedy : Bool) (t : Tree) → most < least → IsCoreOf (tree.repetition least (Some most) greedy t) core.void
core_no_count least most greedy t lt = record {
  matches = λ bytes i j. (λ m. absurd m, λ m. absurd (omega (arith, m.1.0, m.1.1)));
  number = λ position. None;
  reads = λ bytes i at p. (λ r. absurd r, λ v. absurd (cc));
  free = λ e. tt;
  small = omega arith;
}

-- no turn is meant
pub core_no_turn : (greedy : Bool) (t : Tree) → IsCoreOf (tree.repetition 0 (Some 0) greedy t) core.empty
core_no_turn greedy t = record {
  matches = λ bytes i j. (λ m. (0, (omega arith, omega arith), sym m), λ m. go bytes i j m.0 m.1.1 m.2);
  number = λ position. None;
  reads = λ bytes i at p. (λ r. absurd r, λ v. absurd (cc));
  free = λ e. tt;
  small = omega arith;
}
  where
    go : (bytes : List ℕ) (i j n : ℕ) → n ≤ 0 → Pieces (Matches t bytes) n i j → j ≡ i
    go bytes i j zero le h = sym h
    go bytes i j (suc n) le h = absurd (omega arith)
