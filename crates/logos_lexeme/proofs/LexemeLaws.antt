-- The laws of lexemes: a lexeme or gap at an offset ends after it, between characters, and is
-- unique; a fault is at each offset without one.
use Rattle.std.proofs.Common.{◌≡◌, ℕ, ◌<◌, ◌≤◌, List, length, IsUtf8, refl, sym, ◌∙◌, subst, arith}
use Rattle.std.specs.Str.{IsCharBoundary}
use Rattle.logos_lexeme.specs.LexemeOpenings.{opening_at}
use Rattle.logos_lexeme.specs.Lexemes.{IsSuffixed, IsNext, IsFaulty, IsStuck}
use Rattle.logos_lexeme.specs.declared.lexeme.Span.{Span}
use Rattle.logos_lexeme.specs.declared.lexeme.LexemeKind.{LexemeKind}
use Rattle.logos_lexeme.specs.declared.lexeme.LexemeKind.TheVariants.{Gap, Identifier, Literal, Doc, Punctuation, Opening, Closing}
use Rattle.logos_lexeme.specs.declared.lexeme.LexicalKind.{LexicalKind}
use Rattle.logos_lexeme.specs.declared.lexeme.LexicalKind.TheVariants.{BadCharacter, BadLiteral, Unterminated, Unbalanced}
use Rattle.logos_lexeme.specs.LexemeEnds.{Ends}
use Rattle.logos_lexeme.proofs.EndLaws.{Ends-one, Ends-after, Ends-boundary, IsSuffix-one, IsSuffix-le, IsSuffix-boundary}

suffixed-le : (bytes : List ℕ) (kind : LexemeKind) (end to : ℕ) → IsSuffixed bytes kind end to → end ≤ to
suffixed-le bytes Literal end to p = IsSuffix-le bytes end to p
suffixed-le bytes Gap end to p = omega arith
suffixed-le bytes Identifier end to p = omega arith
suffixed-le bytes Doc end to p = omega arith
suffixed-le bytes (Punctuation spacing) end to p = omega arith
suffixed-le bytes (Opening delimiter) end to p = omega arith
suffixed-le bytes (Closing delimiter) end to p = omega arith

suffixed-boundary : (bytes : List ℕ) (kind : LexemeKind) (end to : ℕ) → IsUtf8 bytes → IsCharBoundary bytes end → IsSuffixed bytes kind end to → IsCharBoundary bytes to
suffixed-boundary bytes Literal end to utf8 here p = IsSuffix-boundary bytes end utf8 here to p
suffixed-boundary bytes Gap end to utf8 here p = rw p here
suffixed-boundary bytes Identifier end to utf8 here p = rw p here
suffixed-boundary bytes Doc end to utf8 here p = rw p here
suffixed-boundary bytes (Punctuation spacing) end to utf8 here p = rw p here
suffixed-boundary bytes (Opening delimiter) end to utf8 here p = rw p here
suffixed-boundary bytes (Closing delimiter) end to utf8 here p = rw p here

suffixed-one : (bytes : List ℕ) (kind : LexemeKind) (end a b : ℕ) → IsSuffixed bytes kind end a → IsSuffixed bytes kind end b → a ≡ b
suffixed-one bytes Literal end a b p q = IsSuffix-one bytes end a b p q
suffixed-one bytes Gap end a b p q = p ∙ sym q
suffixed-one bytes Identifier end a b p q = p ∙ sym q
suffixed-one bytes Doc end a b p q = p ∙ sym q
suffixed-one bytes (Punctuation spacing) end a b p q = p ∙ sym q
suffixed-one bytes (Opening delimiter) end a b p q = p ∙ sym q
suffixed-one bytes (Closing delimiter) end a b p q = p ∙ sym q

-- a lexeme that is not a literal has no suffix
pub no_suffix : (bytes : List ℕ) (kind : LexemeKind) (end : ℕ) → (kind ≡ Literal → ⊥) → IsSuffixed bytes kind end end
no_suffix bytes Literal end other = absurd (other refl)
no_suffix bytes Gap end other = refl
no_suffix bytes Identifier end other = refl
no_suffix bytes Doc end other = refl
no_suffix bytes (Punctuation spacing) end other = refl
no_suffix bytes (Opening delimiter) end other = refl
no_suffix bytes (Closing delimiter) end other = refl

-- a lexeme or gap at an offset is not empty, and is in the source
pub next_advances : {bytes : List ℕ} {from : ℕ} {kind : LexemeKind} {to : ℕ} → IsNext bytes from kind to → (from < to) × (to ≤ length bytes)
next_advances {bytes} {from} {kind} {to} n = (omega (arith, Ends-after bytes from (opening_at bytes from) n.end n.ends, suffixed-le bytes kind n.end to n.suffixed), n.within)

-- and ends where a character does
pub next_boundary : {bytes : List ℕ} {from : ℕ} {kind : LexemeKind} {to : ℕ} → IsUtf8 bytes → IsCharBoundary bytes from → IsNext bytes from kind to → IsCharBoundary bytes to
next_boundary {bytes} {from} {kind} {to} utf8 here n =
    let advances = next_advances n in
    suffixed-boundary bytes kind n.end to utf8 (Ends-boundary bytes utf8 from (omega (arith, advances.0, advances.1)) here (opening_at bytes from) n.end n.ends) n.suffixed

-- no other lexeme is there
pub next_one : {bytes : List ℕ} {from : ℕ} {kind other : LexemeKind} {to end : ℕ} → IsNext bytes from kind to → IsNext bytes from other end → (kind ≡ other) × (to ≡ end)
next_one {bytes} {from} {kind} {other} {to} {end} m n =
    let same_kind : other ≡ kind = n.is_kind ∙ sym m.is_kind in
    let same_end = Ends-one bytes from (opening_at bytes from) n.end m.end n.ends m.ends in
    let suffixed : IsSuffixed bytes kind m.end end = subst (λ (e : ℕ). IsSuffixed bytes kind e end) same_end (subst (λ (k : LexemeKind). IsSuffixed bytes k n.end end) same_kind n.suffixed) in
    (sym same_kind, suffixed-one bytes kind m.end to end m.suffixed suffixed)

faulty : (bytes : List ℕ) (from : ℕ) (fault : LexicalKind) (end : ℕ) (kind : LexemeKind) (to : ℕ) → IsFaulty bytes from fault end → IsNext bytes from kind to → ⊥
faulty bytes from BadCharacter end kind to f n = let nothing = subst (λ opening. Ends bytes from opening n.end) f.0 n.ends in nothing
faulty bytes from BadLiteral end kind to f n = f.1 (rw (Ends-one bytes from (opening_at bytes from) end n.end f.0 n.ends) n.sound)
faulty bytes from Unterminated end kind to f n = f.1 n.end n.ends
faulty bytes from Unbalanced end kind to f n = f

-- and no fault
pub stuck_excludes : {bytes : List ℕ} {from to : ℕ} {fault : LexicalKind} {span : Span} {kind : LexemeKind} → IsStuck bytes from fault span → IsNext bytes from kind to → ⊥
stuck_excludes {bytes} {from} {to} {fault} {span} {kind} s n = faulty bytes from fault span.to kind to s.fault n
