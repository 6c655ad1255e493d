-- Bytes that a pattern does not distinguish.
use Rattle.std.specs.Prelude.{◌≡◌, ℕ, ◌+◌, ◌<◌, ◌≤◌, ◌↔◌, ◌⊎◌, Bool, false, IsTrue, List, slice_index, slice_index_or}
use Rattle.logos_positions.specs.Core.{Core, void, empty, byte_in, character, look, cat, alt, plus, width}
use Rattle.logos_positions.specs.Kinds.{kind_of_byte}
use Rattle.logos_positions.specs.Marks.{Has}
use Rattle.logos_positions.specs.Node.{core_of}
use Rattle.logos_positions.specs.Run.{StepsIn}
use Rattle.logos_positions.specs.declared.node.Node.{Node}
use Rattle.logos_hir.specs.declared.hir.Look.{Look}

-- The pattern, entered, can match the empty string if look-around assertions allow it.
abbrev pub MayPass : Core → Type 0
MayPass void = ⊥
MayPass empty = Unit {0}
MayPass (byte_in c) = ⊥
MayPass (character r) = ⊥
MayPass (look l) = Unit {0}
MayPass (cat a b) = MayPass a × MayPass b
MayPass (alt a b) = MayPass a ⊎ MayPass b
MayPass (plus a) = MayPass a

-- The pattern can be left from the positions `M` if look-around assertions allow it.
abbrev pub MayLeave : Core → (ℕ → Type 0) → Type 0
MayLeave void M = ⊥
MayLeave empty M = ⊥
MayLeave (byte_in c) M = M 0
MayLeave (character r) M = M 0
MayLeave (look l) M = ⊥
MayLeave (cat a b) M = (MayLeave a M × MayPass b) ⊎ MayLeave b (λ q. M (width a + q))
MayLeave (alt a b) M = MayLeave a M ⊎ MayLeave b (λ q. M (width a + q))
MayLeave (plus a) M = MayLeave a M

-- The pattern, entered, has the same transitions for both bytes.
abbrev pub OpensAlike : Core → ℕ → ℕ → Type 0
OpensAlike void x y = Unit {0}
OpensAlike empty x y = Unit {0}
OpensAlike (byte_in c) x y = c x ≡ c y
OpensAlike (character r) x y = r.first x ≡ r.first y
OpensAlike (look l) x y = Unit {0}
OpensAlike (cat a b) x y = OpensAlike a x y × (MayPass a → OpensAlike b x y)
OpensAlike (alt a b) x y = OpensAlike a x y × OpensAlike b x y
OpensAlike (plus a) x y = OpensAlike a x y

-- The pattern, not entered, has the same transitions from the positions `M` for both bytes.
abbrev pub GoesAlike : Core → (ℕ → Type 0) → ℕ → ℕ → Type 0
GoesAlike void M x y = Unit {0}
GoesAlike empty M x y = Unit {0}
GoesAlike (byte_in c) M x y = Unit {0}
GoesAlike (character r) M x y = (q : ℕ) → q ≤ r.others → M q → r.follow q x ≡ r.follow q y
GoesAlike (look l) M x y = Unit {0}
GoesAlike (cat a b) M x y = GoesAlike a M x y × (MayLeave a M → OpensAlike b x y) × GoesAlike b (λ q. M (width a + q)) x y
GoesAlike (alt a b) M x y = GoesAlike a M x y × GoesAlike b (λ q. M (width a + q)) x y
GoesAlike (plus a) M x y = GoesAlike a M x y × (MayLeave a M → OpensAlike a x y)

-- More flags are set, including the flag of each byte that is not related to the byte before.
abbrev pub SetsFlags : (ℕ → ℕ → Type 0) → List Bool → List Bool → Type 0
SetsFlags Same old new = (byte : ℕ) → byte + 1 < 256 → slice_index_or new (byte + 1) false ≡ false →
    (slice_index_or old (byte + 1) false ≡ false) × Same byte (byte + 1)

-- A body has the same transitions for both bytes from the positions `M`, and from its start if it
-- is entered again after them.
abbrev pub IsCopyAlike : Core → (ℕ → Type 0) → ℕ → ℕ → Type 0
IsCopyAlike a M x y = GoesAlike a M x y × (MayLeave a M → OpensAlike a x y)

-- From these positions the same positions read both bytes.
abbrev pub AreReadAlike : List Core → (ℕ → Type 0) → Type 0 → ℕ → ℕ → Type 0
AreReadAlike ts M entered x y = (test : Look → Bool) (q : ℕ) → StepsIn ts test x M entered q ↔ StepsIn ts test y M entered q

-- The flag of each byte whose kind differs from that of the byte before is set.
abbrev pub AreKindBytes : List Bool → Type 0
AreKindBytes first = (byte : ℕ) → byte + 1 < 256 → slice_index_or first (byte + 1) false ≡ false → kind_of_byte byte ≡ kind_of_byte (byte + 1)

-- The flag of each byte is set that the patterns, from these positions, or look-around assertions
-- distinguish from the byte before.
abbrev pub AreFirstBytes : List Core → Bool → (ℕ → Type 0) → Type 0 → List Bool → Type 0
AreFirstBytes ts looks M entered first = (byte : ℕ) → byte + 1 < 256 → slice_index_or first (byte + 1) false ≡ false →
    AreReadAlike ts M entered byte (byte + 1) × (IsTrue looks → kind_of_byte byte ≡ kind_of_byte (byte + 1))

-- Each byte whose entry differs from that of the byte before is in the list.
abbrev pub AreChangesOf : List ℕ → List ℕ → Type 0
AreChangesOf by_byte changes = (x : ℕ) → x + 1 < 256 → (Has changes (x + 1) → ⊥) → slice_index by_byte x ≡ slice_index by_byte (x + 1)

-- Each byte whose flag is not set has the same transitions from these positions, and the same kind
-- for look-around assertions, as the byte before.
abbrev pub AreFirstOf : List Node → Bool → ℕ → List ℕ → ℕ → List Bool → Type 0
AreFirstOf nodes looks i positions base first = (node : Node) → node ≡ slice_index_or nodes i node → (byte : ℕ) → byte + 1 < 256 → slice_index_or first (byte + 1) false ≡ false →
    GoesAlike (core_of node) (λ q. Has positions (base + q)) byte (byte + 1) × (IsTrue looks → kind_of_byte byte ≡ kind_of_byte (byte + 1))
