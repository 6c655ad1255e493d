-- Bytes of numbers.
use Rattle.std.proofs.Common.{◌≡◌, ℕ, zero, suc, ◌-◌, ◌/◌, ◌%◌, ◌<◌, List, ◌++◌, append_assoc, arith, sym, ◌∙◌, ap}
use Rattle.logos_byte_class.specs.ClassText.{byte_text}
use Rattle.logos_tables.specs.Texts.{entry_text}

-- the lowest byte, and those that are left
entry_next : (left rest : ℕ) → 0 < left → entry_text left rest ≡ byte_text (rest % 256) ++ entry_text (left - 1) (rest / 256)
entry_next zero rest h = absurd (omega (arith, h))
entry_next (suc left) rest h = let e : left ≡ suc left - 1 = omega arith in ap (λ n. byte_text (rest % 256) ++ entry_text n (rest / 256)) e

-- one more byte is appended
pub entry_turn : (old new whole : List ℕ) (left rest : ℕ) → 0 < left → new ≡ old ++ byte_text (rest % 256) → old ++ entry_text left rest ≡ whole →
    new ++ entry_text (left - 1) (rest / 256) ≡ whole
entry_turn old new whole left rest h is before =
    ap (λ xs. xs ++ entry_text (left - 1) (rest / 256)) is ∙ append_assoc old (byte_text (rest % 256)) (entry_text (left - 1) (rest / 256))
    ∙ ap (λ xs. old ++ xs) (sym (entry_next left rest h)) ∙ before
