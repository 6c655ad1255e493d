-- Bytes that the parts of a pattern do not distinguish.
use Rattle.std.proofs.Common.{◌≡◌, ℕ, zero, suc, ◌+◌, ◌-◌, ◌*◌, ◌<◌, ◌≤◌, ◌⊎◌, ◌↔◌, ◌==◌, Bool, true, false, ◌&&◌, nat_le, nat_lt, if◌then◌else◌, List, [], ◌∷◌, length, map, slice_index, slice_index_or, Option, Some, None, refl, sym, ap, ◌∙◌, subst, inl, inr, ⊎_elim, arith}
use Rattle.std.proofs.lemmas.Bool.Decides.{nat_tests}
use Rattle.std.proofs.Math.Nat.{mul-le-mul_left}
use Rattle.logos_automaton.specs.Rules.{AreFree}
use Rattle.logos_automaton.specs.inside.Alike.{MayPass, MayLeave, OpensAlike, GoesAlike, IsCopyAlike, SetsFlags}
use Rattle.logos_positions.specs.Core.{Core, void, empty, byte_in, character, look, cat, alt, plus, width, IsFree}
use Rattle.logos_positions.specs.Repeat.{in_front, up_to, repeated, spelled, count_of, IsOrdered}
use Rattle.logos_positions.specs.Table.{reader_of}
use Rattle.logos_positions.specs.Node.{core_of}
use Rattle.logos_positions.specs.declared.node.Node.{Node}
use Rattle.logos_positions.specs.declared.characters.reader.CharacterTable.{CharacterTable}

-- fewer marks
pub leave_map : (t : Core) (M N : ℕ → Type 0) → ((q : ℕ) → q < width t → M q → N q) → MayLeave t M → MayLeave t N
leave_map void M N f h = h
leave_map empty M N f h = h
leave_map (byte_in c) M N f h = f 0 (omega arith) h
leave_map (character r) M N f h = f 0 (omega arith) h
leave_map (look l) M N f h = h
leave_map (cat a b) M N f h =
    ⊎_elim (λ u. inl (leave_map a M N (λ q lt. f q (omega arith)) u.0, u.1))
    (λ u. inr (leave_map b (λ q. M (width a + q)) (λ q. N (width a + q)) (λ q lt. f (width a + q) (omega arith)) u)) h
leave_map (alt a b) M N f h =
    ⊎_elim (λ u. inl (leave_map a M N (λ q lt. f q (omega arith)) u))
    (λ u. inr (leave_map b (λ q. M (width a + q)) (λ q. N (width a + q)) (λ q lt. f (width a + q) (omega arith)) u)) h
leave_map (plus a) M N f h = leave_map a M N f h

-- nothing is marked
leave_void : (t : Core) → MayLeave t (λ q. ⊥) → ⊥
leave_void void h = h
leave_void empty h = h
leave_void (byte_in c) h = h
leave_void (character r) h = h
leave_void (look l) h = h
leave_void (cat a b) h = ⊎_elim (λ u. leave_void a u.0) (leave_void b) h
leave_void (alt a b) h = ⊎_elim (leave_void a) (leave_void b) h
leave_void (plus a) h = leave_void a h

pub leave_none : (t : Core) (M : ℕ → Type 0) → ((q : ℕ) → q < width t → M q → ⊥) → MayLeave t M → ⊥
leave_none t M none h = leave_void t (leave_map t M (λ q. ⊥) none h)

module _ (x y : ℕ) where
  pub goes_map : (t : Core) (M N : ℕ → Type 0) → ((q : ℕ) → q < width t → N q → M q) → GoesAlike t M x y → GoesAlike t N x y
  goes_map void M N f h = tt
  goes_map empty M N f h = tt
  goes_map (byte_in c) M N f h = tt
  goes_map (character r) M N f h = λ q le m. h q le (f q (omega arith) m)
  goes_map (look l) M N f h = tt
  goes_map (cat a b) M N f h = (
    goes_map a M N (λ q lt. f q (omega arith)) h.0,
    λ l. h.1 (leave_map a N M (λ q lt. f q (omega arith)) l),
    goes_map b (λ q. M (width a + q)) (λ q. N (width a + q)) (λ q lt. f (width a + q) (omega arith)) h.2,
  )
  goes_map (alt a b) M N f h = (
    goes_map a M N (λ q lt. f q (omega arith)) h.0,
    goes_map b (λ q. M (width a + q)) (λ q. N (width a + q)) (λ q lt. f (width a + q) (omega arith)) h.1,
  )
  goes_map (plus a) M N f h = (goes_map a M N f h.0, λ l. h.1 (leave_map a N M f l))

  goes_void : (t : Core) → GoesAlike t (λ q. ⊥) x y
  goes_void void = tt
  goes_void empty = tt
  goes_void (byte_in c) = tt
  goes_void (character r) = λ q le m. absurd m
  goes_void (look l) = tt
  goes_void (cat a b) = (goes_void a, λ l. absurd (leave_void a l), goes_void b)
  goes_void (alt a b) = (goes_void a, goes_void b)
  goes_void (plus a) = (goes_void a, λ l. absurd (leave_void a l))

  pub goes_none : (t : Core) (M : ℕ → Type 0) → ((q : ℕ) → q < width t → M q → ⊥) → GoesAlike t M x y
  goes_none t M none = goes_map t (λ q. ⊥) M none (goes_void t)

  -- the copies of a body
  opens_in_front : (n : ℕ) (a b : Core) → OpensAlike a x y → OpensAlike b x y → OpensAlike (in_front n a b) x y
  opens_in_front zero a b h k = k
  opens_in_front (suc n) a b h k = (h, λ p. opens_in_front n a b h k)

  opens_up_to : (n : ℕ) (a : Core) → OpensAlike a x y → OpensAlike (up_to n a) x y
  opens_up_to zero a h = tt
  opens_up_to (suc n) a h = ((h, λ p. opens_up_to n a h), tt)

  pub opens_repeated : (least : ℕ) (most : Option ℕ) (a : Core) → OpensAlike a x y → OpensAlike (repeated least most a) x y
  opens_repeated zero None a h = (h, tt)
  opens_repeated (suc n) None a h = opens_in_front n a (plus a) h h
  opens_repeated least (Some most) a h = opens_in_front least a (up_to (most - least) a) h (opens_up_to (most - least) a h)

  module _ (a : Core) where
    pub copy_map : (M N : ℕ → Type 0) → ((q : ℕ) → N q → M q) → IsCopyAlike a M x y → IsCopyAlike a N x y
    copy_map M N f h = (goes_map a M N (λ q lt. f q) h.0, λ l. h.1 (leave_map a N M (λ q lt. f q) l))

    moved : (M : ℕ → Type 0) (i j : ℕ) → i ≡ j → M i → M j
    moved M i j e = subst M e

    goes_in_front : (n : ℕ) (b : Core) (M : ℕ → Type 0) → ((k : ℕ) → k < n → IsCopyAlike a (λ q. M (width a * k + q)) x y) → (OpensAlike a x y → OpensAlike b x y) →
        GoesAlike b (λ q. M (width a * n + q)) x y → GoesAlike (in_front n a b) M x y
    goes_in_front zero b M each opens rest = goes_map b (λ q. M (width a * 0 + q)) M (λ q lt. moved M q (width a * 0 + q) (omega arith)) rest
    goes_in_front (suc n) b M each opens rest =
        let first = copy_map (λ q. M (width a * 0 + q)) M (λ q. moved M q (width a * 0 + q) (omega arith)) (each 0 (omega arith)) in (
          first.0,
          λ l. opens_in_front n a b (first.1 l) (opens (first.1 l)),
          goes_in_front n b (λ q. M (width a + q))
              (λ k lt. copy_map (λ q. M (width a * suc k + q)) (λ q. M (width a + (width a * k + q))) (λ q. moved M (width a + (width a * k + q)) (width a * suc k + q) (omega arith)) (each (suc k) (omega arith)))
              opens
              (goes_map b (λ q. M (width a * suc n + q)) (λ q. M (width a + (width a * n + q))) (λ q lt. moved M (width a + (width a * n + q)) (width a * suc n + q) (omega arith)) rest),
        )

    goes_up_to : (n : ℕ) (M : ℕ → Type 0) → ((k : ℕ) → k < n → IsCopyAlike a (λ q. M (width a * k + q)) x y) → GoesAlike (up_to n a) M x y
    goes_up_to zero M each = tt
    goes_up_to (suc n) M each =
        let first = copy_map (λ q. M (width a * 0 + q)) M (λ q. moved M q (width a * 0 + q) (omega arith)) (each 0 (omega arith)) in (
          (
            first.0,
            λ l. opens_up_to n a (first.1 l),
            goes_up_to n (λ q. M (width a + q))
                (λ k lt. copy_map (λ q. M (width a * suc k + q)) (λ q. M (width a + (width a * k + q))) (λ q. moved M (width a + (width a * k + q)) (width a * suc k + q) (omega arith)) (each (suc k) (omega arith))),
          ),
          tt,
        )

    pub goes_repeated : (least : ℕ) (most : Option ℕ) (M : ℕ → Type 0) → IsOrdered least most → ((k : ℕ) → k < count_of least most → IsCopyAlike a (λ q. M (width a * k + q)) x y) →
        GoesAlike (repeated least most a) M x y
    goes_repeated zero None M ordered each = (copy_map (λ q. M (width a * 0 + q)) M (λ q. moved M q (width a * 0 + q) (omega arith)) (each 0 (omega arith)), tt)
    goes_repeated (suc n) None M ordered each = goes_in_front n (plus a) M (λ k lt. each k (omega arith)) (λ o. o) (each n (omega arith))
    goes_repeated least (Some most) M ordered each =
        goes_in_front least (up_to (most - least) a) M (λ k lt. each k (omega (arith, lt, ordered.0))) (opens_up_to (most - least) a)
        (goes_up_to (most - least) (λ q. M (width a * least + q))
        (λ k lt. copy_map (λ q. M (width a * (least + k) + q)) (λ q. M (width a * least + (width a * k + q)))
        (λ q. moved M (width a * least + (width a * k + q)) (width a * (least + k) + q) (split (width a) least k q)) (each (least + k) (omega (arith, lt, ordered.0)))))
      where
        split : (w d k q : ℕ) → w * d + (w * k + q) ≡ w * (d + k) + q
        split w d k q = omega arith

-- a repetition that is passed has no copy that must be there, or a body that is passed
pass_in_front : (n : ℕ) (a b : Core) → MayPass (in_front (suc n) a b) → MayPass a
pass_in_front n a b h = h.0

pub pass_repeated : (least : ℕ) (most : Option ℕ) (a : Core) → MayPass (repeated least most a) → (least ≡ 0) ⊎ MayPass a
pass_repeated zero most a h = inl refl
pass_repeated (suc zero) None a h = inr h
pass_repeated (suc (suc n)) None a h = inr h.0
pass_repeated (suc n) (Some most) a h = inr h.0

module _ (a : Core) where
  -- one of the copies is left
  record IsLeft (M : ℕ → Type 0) (n : ℕ) : Type 0 where
    pub copy : ℕ
    pub within : copy < n
    pub leaves : MayLeave a (λ q. M (width a * copy + q))

  shifted : (M : ℕ → Type 0) (i j : ℕ) → i ≡ j → M i → M j
  shifted M i j e = subst M e

  left_first : (M : ℕ → Type 0) (n : ℕ) → MayLeave a M → IsLeft M (suc n)
  left_first M n h = record { copy = 0; within = omega arith; leaves = leave_map a M (λ q. M (width a * 0 + q)) (λ q lt. shifted M q (width a * 0 + q) (omega arith)) h }

  left_later : (M : ℕ → Type 0) (n : ℕ) → IsLeft (λ q. M (width a + q)) n → IsLeft M (suc n)
  left_later M n h = record {
    copy = suc h.copy;
    within = omega (arith, h.within);
    leaves = leave_map a (λ q. M (width a + (width a * h.copy + q))) (λ q. M (width a * suc h.copy + q))
        (λ q lt. shifted M (width a + (width a * h.copy + q)) (width a * suc h.copy + q) (omega arith)) h.leaves;
  }

  leave_in_front : (n : ℕ) (b : Core) (M : ℕ → Type 0) → MayLeave (in_front n a b) M → IsLeft M n ⊎ MayLeave b (λ q. M (width a * n + q))
  leave_in_front zero b M h = inr (leave_map b M (λ q. M (width a * 0 + q)) (λ q lt. shifted M q (width a * 0 + q) (omega arith)) h)
  leave_in_front (suc n) b M h =
      ⊎_elim (λ u. inl (left_first M n u.0))
      (λ u. ⊎_elim (λ l. inl (left_later M n l))
      (λ l. inr (leave_map b (λ q. M (width a + (width a * n + q))) (λ q. M (width a * suc n + q)) (λ q lt. shifted M (width a + (width a * n + q)) (width a * suc n + q) (omega arith)) l))
      (leave_in_front n b (λ q. M (width a + q)) u)) h

  leave_up_to : (n : ℕ) (M : ℕ → Type 0) → MayLeave (up_to n a) M → IsLeft M n
  leave_up_to zero M h = absurd h
  leave_up_to (suc n) M h =
      ⊎_elim (λ v. ⊎_elim (λ u. left_first M n u.0) (λ u. left_later M n (leave_up_to n (λ q. M (width a + q)) u)) v) (λ v. absurd v) h

  pub leave_repeated : (least : ℕ) (most : Option ℕ) (M : ℕ → Type 0) → IsOrdered least most → MayLeave (repeated least most a) M →
      (k : ℕ) × (k < count_of least most) × MayLeave a (λ q. M (width a * k + q))
  leave_repeated zero None M ordered h = ⊎_elim (λ u. let l = left_first M 0 u in (l.copy, omega (arith, l.within), l.leaves)) (λ v. absurd v) h
  leave_repeated (suc n) None M ordered h =
      ⊎_elim (λ l. (l.copy, omega (arith, l.within), l.leaves)) (λ l. (n, omega arith, l)) (leave_in_front n (plus a) M h)
  leave_repeated least (Some most) M ordered h =
      ⊎_elim (λ l. (l.copy, omega (arith, l.within, ordered.0), l.leaves))
      (λ u. let l = leave_up_to (most - least) (λ q. M (width a * least + q)) u in (
        least + l.copy,
        omega (arith, l.within, ordered.0),
        leave_map a (λ q. M (width a * least + (width a * l.copy + q))) (λ q. M (width a * (least + l.copy) + q))
            (λ q lt. shifted M (width a * least + (width a * l.copy + q)) (width a * (least + l.copy) + q) (split (width a) least l.copy q)) l.leaves,
      ))
      (leave_in_front least (up_to (most - least) a) M h)
    where
      split : (w d k q : ℕ) → w * d + (w * k + q) ≡ w * (d + k) + q
      split w d k q = omega arith

-- literals
pub opens_spelled : (text : List ℕ) (x y : ℕ) → (0 < length text → (x == slice_index text 0) ≡ (y == slice_index text 0)) → OpensAlike (spelled text) x y
opens_spelled [] x y h = tt
opens_spelled (b ∷ bs) x y h = (h (omega arith), λ p. absurd p)

pub pass_spelled : (text : List ℕ) → MayPass (spelled text) → length text ≡ 0
pass_spelled [] h = refl
pass_spelled (b ∷ bs) h = absurd h.0

pub goes_spelled : (text : List ℕ) (M : ℕ → Type 0) (x y : ℕ) →
    ((k : ℕ) → M k → k + 1 < length text → (x == slice_index text (k + 1)) ≡ (y == slice_index text (k + 1))) → GoesAlike (spelled text) M x y
goes_spelled [] M x y h = tt
goes_spelled (b ∷ bs) M x y h = (
  tt,
  λ m. opens_spelled bs x y (λ some. h 0 m (omega (arith, some))),
  goes_spelled bs (λ q. M (1 + q)) x y (λ k m lt. let e : k + 1 + 1 ≡ 1 + k + 1 = omega arith in later k (h (1 + k) m (omega (arith, lt)))),
)
  where
    later : (k : ℕ) → (x == slice_index (b ∷ bs) (1 + k + 1)) ≡ (y == slice_index (b ∷ bs) (1 + k + 1)) → (x == slice_index bs (k + 1)) ≡ (y == slice_index bs (k + 1))
    later k h = let e : 1 + k + 1 ≡ suc (k + 1) = omega arith in rw e at h

pub leave_spelled : (text : List ℕ) (M : ℕ → Type 0) → MayLeave (spelled text) M → (k : ℕ) × (k + 1 ≡ length text) × M k
leave_spelled [] M h = absurd h
leave_spelled (b ∷ bs) M h =
    ⊎_elim (λ u. (0, (let e = pass_spelled bs u.1 in omega (arith, e)), u.0))
    (λ u. let l = leave_spelled bs (λ q. M (1 + q)) u in (1 + l.0, omega (arith, l.1), l.2)) h

-- While parts are processed in order: the first n parts hold of each byte that is not marked.
pub record AreDone (P : ℕ → ℕ → ℕ → Type 0) (old new : List Bool) (n : ℕ) : Type 0 where
  pub done : (x : ℕ) → x + 1 < 256 → slice_index_or new (x + 1) false ≡ false →
      (slice_index_or old (x + 1) false ≡ false) × ((k : ℕ) → k < n → P k x (x + 1))

pub done_first : (P : ℕ → ℕ → ℕ → Type 0) (old : List Bool) (n : ℕ) → ((k x : ℕ) → k < n → P k x (x + 1)) → AreDone P old old n
done_first P old n h = record { done = λ x lt unmarked. (unmarked, λ k below. h k x below) }

-- one more part is processed, and those after it up to m hold with it
pub done_more : (P : ℕ → ℕ → ℕ → Type 0) (Q : ℕ → ℕ → Type 0) (old mid new : List Bool) (n m : ℕ) → ((x : ℕ) → Q x (x + 1) → P n x (x + 1)) →
    ((k x : ℕ) → n < k → k < m → P n x (x + 1) → P k x (x + 1)) → SetsFlags Q mid new → AreDone P old mid n → AreDone P old new m
done_more P Q old mid new n m one rest marks h = record {
  done = λ x lt unmarked.
      let now = marks x lt unmarked in
      let before = h.done x lt now.0 in
      let here = one x now.1 in (
        before.0,
        λ k below. cases k (λ low. before.1 k low) (λ e. subst (λ j. P j x (x + 1)) (sym e) here) (λ high. rest k x high below here),
      );
}
  where
    three : (a b : ℕ) → (a < b) ⊎ ((a ≡ b) ⊎ (b < a))
    three a b = grind arith

    cases : (k : ℕ) {R : Type 0} → (k < n → R) → (k ≡ n → R) → (n < k → R) → R
    cases k f g h = ⊎_elim f (λ u. ⊎_elim g h u) (three k n)

-- a row of a class leads nowhere by a byte that does not continue with a character
pub follow_low : (t : CharacterTable) (q b : ℕ) → b < 0x80 → (reader_of t).follow q b ≡ None
follow_low t q b lt = let e : nat_le 0x80 b ≡ false = grind (arith, nat_tests) in rw e refl

pub follow_high : (t : CharacterTable) (q b : ℕ) → 0xC0 ≤ b → (reader_of t).follow q b ≡ None
follow_high t q b le = let e : nat_lt b 0xC0 ≡ false = grind (arith, nat_tests) in go (nat_le 0x80 b) e
  where
    go : (c : Bool) → nat_lt b 0xC0 ≡ false → (if c && nat_lt b 0xC0 then slice_index_or t.follow.items (q * 64 + (b - 0x80)) None else None) ≡ None
    go true e = rw e refl
    go false e = refl

-- copies that are not marked
pub passed_copy : (M : ℕ → Type 0) (a : Core) (base each from to : ℕ) → each ≡ width a → ((q : ℕ) → each * from ≤ q → q < each * to → M (base + q) → ⊥) →
    (k : ℕ) → from ≤ k → k < to → (q : ℕ) → q < width a → M (base + each * k + q) → ⊥
passed_copy M a base each from to is none k ge lt q below m =
    let low = mul-le-mul_left each ge in
    let one : k + 1 ≤ to = omega (arith, lt) in
    let high = mul-le-mul_left each one in
    none (each * k + q) (omega (arith, low)) (omega (arith, high, below, is)) (subst M (omega arith) m)

-- copies that are marked as the one with the number `done`
pub alike_copy : (M : ℕ → Type 0) (base each done more start reach k : ℕ) → start ≡ base + each * done → reach ≡ each → done ≤ k → k ≤ done + more →
    ((j q : ℕ) → j ≤ more → q < reach → M (start + reach * j + q) ↔ M (start + q)) → (q : ℕ) → q < each → M (base + each * k + q) → M (base + each * done + q)
alike_copy M base each done more start reach k begins same ge le alike q below m =
    let j = k - done in
    let e : k ≡ done + j = omega (arith, ge) in
    let at : base + each * k ≡ base + each * done + each * j = ap (λ n. base + each * n) e ∙ split base each done j in
    let scaled : reach * j ≡ each * j = ap (λ n. n * j) same in
    let there : base + each * k + q ≡ start + reach * j + q = omega (arith, at, scaled, begins) in
    let here : start + q ≡ base + each * done + q = omega (arith, begins) in
    subst M here ((alike j q (omega (arith, ge, le)) (omega (arith, below, same))).0 (subst M there m))
  where
    split : (base w d j : ℕ) → base + w * (d + j) ≡ base + w * d + w * j
    split base w d j = omega arith

-- a tree in a list of trees
pub one_node : (nodes : List Node) (i : ℕ) (a b : Node) → i < length nodes → a ≡ slice_index_or nodes i a → b ≡ slice_index_or nodes i b → a ≡ b
one_node [] i a b lt p q = absurd (omega (arith, lt))
one_node (n ∷ nodes) zero a b lt p q = p ∙ sym q
one_node (n ∷ nodes) (suc i) a b lt p q = one_node nodes i a b (omega (arith, lt)) p q

pub free_at : (nodes : List Node) (i : ℕ) (node : Node) → i < length nodes → node ≡ slice_index_or nodes i node → AreFree (map core_of nodes) → IsFree (core_of node)
free_at [] i node lt is free = absurd (omega (arith, lt))
free_at (n ∷ nodes) zero node lt is free = subst (λ (m : Node). IsFree (core_of m)) (sym is) free.0
free_at (n ∷ nodes) (suc i) node lt is free = free_at nodes i node (omega (arith, lt)) is free.1
