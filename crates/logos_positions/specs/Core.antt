-- Core patterns, in which repetitions are expanded, with their matches and their positions.
use Rattle.std.specs.Prelude.{◌≡◌, ℕ, zero, suc, ◌+◌, ◌-◌, ◌<◌, ◌≤◌, Bool, true, ◌⊎◌, List, Option, Some, slice_get}
use Rattle.logos_hir.specs.Looks.{holds_between}
use Rattle.logos_hir.specs.Text.{byte_before, byte_after}
use Rattle.logos_hir.specs.declared.hir.Look.{Look}

-- The reader of a character of a class: the number of its positions besides position 0, the
-- position that reads a first byte, and the position that reads a byte after another position. At
-- position 0 a whole character has been read.
pub record Reader : Type 0 where
  pub others : ℕ
  pub first : ℕ → Option ℕ
  pub follow : ℕ → ℕ → Option ℕ

-- A core pattern: a pattern without counted repetitions.
pub data Core : Type 0 where
  -- Matches nothing.
  void : Core
  empty : Core
  byte_in : (ℕ → Bool) → Core
  character : Reader → Core
  look : Look → Core
  cat : Core → Core → Core
  alt : Core → Core → Core
  -- One or more repetitions.
  plus : Core → Core

-- The number of positions, each of which reads one byte.
abbrev pub width : Core → ℕ
width void = 0
width empty = 0
width (byte_in c) = 1
width (character r) = suc r.others
width (look l) = 0
width (cat a b) = width a + width b
width (alt a b) = width a + width b
width (plus a) = width a

-- Any number of rounds of `R` lead from `i` to the last number.
pub data Many (R : ℕ → ℕ → Type 0) (i : ℕ) : ℕ → Type 0 where
  none : Many R i i
  more : (l j : ℕ) → Many R i l → R l j → Many R i j

-- The byte at i is one of the class.
pub record IsIn (c : ℕ → Bool) (bytes : List ℕ) (i : ℕ) : Type 0 where
  pub byte : ℕ
  pub is : slice_get bytes i ≡ Some byte
  pub within : c byte ≡ true

-- The reader, entered at `i`, reads the byte before `m` at position `p`.
abbrev pub Occurs : Reader → List ℕ → ℕ → ℕ → ℕ → Type 0
Occurs r bytes i zero p = ⊥
Occurs r bytes i (suc m) p =
    (x : ℕ) × (slice_get bytes m ≡ Some x) × (p ≤ r.others)
    × (((i ≡ m) × (r.first x ≡ Some p)) ⊎ ((q : ℕ) × (q ≤ r.others) × Occurs r bytes i m q × (r.follow q x ≡ Some p)))

-- Whether a look-around assertion holds at a point of the bytes.
abbrev pub holds_at : List ℕ → ℕ → Look → Bool
holds_at bytes at l = holds_between l (byte_before bytes at) (byte_after bytes at)

module _ (bytes : List ℕ) where
  -- The textbook relation: the pattern matches the bytes from `i` to `j`.
  abbrev pub Matches : Core → ℕ → ℕ → Type 0
  Matches void i j = ⊥
  Matches empty i j = j ≡ i
  Matches (byte_in c) i j = IsIn c bytes i × (j ≡ suc i)
  Matches (character r) i j = Occurs r bytes i j 0
  Matches (look l) i j = (holds_at bytes i l ≡ true) × (j ≡ i)
  Matches (cat a b) i j = (l : ℕ) × Matches a i l × Matches b l j
  Matches (alt a b) i j = Matches a i j ⊎ Matches b i j
  Matches (plus a) i j = (l : ℕ) × Many (Matches a) i l × Matches a l j

  -- A match that began at one of the points `S` ends at `m`.
  abbrev pub Leaves : Core → (ℕ → Type 0) → ℕ → Type 0
  Leaves a S m = (i : ℕ) × S i × Matches a i m

  -- A round of the loop, which was entered at one of the points `S`, begins at `m`.
  abbrev pub Begins : Core → (ℕ → Type 0) → ℕ → Type 0
  Begins a S m = (i : ℕ) × S i × Many (Matches a) i m

  -- In a match that began at one of the points `S`, the byte before `m` is read at position `p`.
  abbrev pub Reads : Core → (ℕ → Type 0) → ℕ → ℕ → Type 0
  Reads void S p m = ⊥
  Reads empty S p m = ⊥
  Reads (byte_in c) S p m = (p ≡ 0) × Leaves (byte_in c) S m
  Reads (character r) S p m = (i : ℕ) × S i × Occurs r bytes i m p
  Reads (look l) S p m = ⊥
  Reads (cat a b) S p m = ((p < width a) × Reads a S p m) ⊎ ((width a ≤ p) × Reads b (Leaves a S) (p - width a) m)
  Reads (alt a b) S p m = ((p < width a) × Reads a S p m) ⊎ ((width a ≤ p) × Reads b S (p - width a) m)
  Reads (plus a) S p m = Reads a (Begins a S) p m

-- The pattern begins only at `i`.
abbrev pub At : ℕ → ℕ → Type 0
At i k = k ≡ i

-- The pattern can be left here. `M` are the positions that read the last byte, `entered` is whether
-- the pattern begins here, and `test` determines the look-around assertions that hold here.
abbrev pub Exits : Core → (Look → Bool) → (ℕ → Type 0) → Type 0 → Type 0
Exits void test M entered = ⊥
Exits empty test M entered = entered
Exits (byte_in c) test M entered = M 0
Exits (character r) test M entered = M 0
Exits (look l) test M entered = entered × (test l ≡ true)
Exits (cat a b) test M entered = Exits b test (λ q. M (width a + q)) (Exits a test M entered)
Exits (alt a b) test M entered = Exits a test M entered ⊎ Exits b test (λ q. M (width a + q)) entered
Exits (plus a) test M entered = Exits a test M entered

-- Position `p` can read the byte `x` here.
abbrev pub Steps : Core → (Look → Bool) → ℕ → (ℕ → Type 0) → Type 0 → ℕ → Type 0
Steps void test x M entered p = ⊥
Steps empty test x M entered p = ⊥
Steps (byte_in c) test x M entered p = (p ≡ 0) × entered × (c x ≡ true)
Steps (character r) test x M entered p =
    (p ≤ r.others) × ((entered × (r.first x ≡ Some p)) ⊎ ((q : ℕ) × (q ≤ r.others) × M q × (r.follow q x ≡ Some p)))
Steps (look l) test x M entered p = ⊥
Steps (cat a b) test x M entered p =
    ((p < width a) × Steps a test x M entered p)
    ⊎ ((width a ≤ p) × Steps b test x (λ q. M (width a + q)) (Exits a test M entered) (p - width a))
Steps (alt a b) test x M entered p =
    ((p < width a) × Steps a test x M entered p)
    ⊎ ((width a ≤ p) × Steps b test x (λ q. M (width a + q)) entered (p - width a))
Steps (plus a) test x M entered p = Steps a test x M (entered ⊎ Exits a test M ⊥) p

-- The pattern has no look-around assertion.
abbrev pub IsFree : Core → Type 0
IsFree void = Unit {0}
IsFree empty = Unit {0}
IsFree (byte_in c) = Unit {0}
IsFree (character r) = Unit {0}
IsFree (look l) = ⊥
IsFree (cat a b) = IsFree a × IsFree b
IsFree (alt a b) = IsFree a × IsFree b
IsFree (plus a) = IsFree a
