-- Parts of a text.
use Rattle.std.proofs.Common.{◌≡◌, ℕ, zero, suc, ◌+◌, ◌-◌, ◌<◌, List, [], ◌∷◌, ◌++◌, length, drop, Bool, true, false, Some, ap, refl, ◌∙◌, sym, arith}
use Rattle.std.proofs.lemmas.List.{length-drop}
use Rattle.logos_leaf.specs.subpattern.Substitution.{is_word, word_front, word_rest, closed, reference, Part, used, parts}

split-one : (c : ℕ) (rest : List ℕ) (b : Bool) → is_word c ≡ b → rest ≡ word_front rest ++ word_rest rest → c ∷ rest ≡ word_front (c ∷ rest) ++ word_rest (c ∷ rest)
split-one c rest true e h = rw e (ap (λ (xs : List ℕ). c ∷ xs) h)
split-one c rest false e h = rw e refl

-- a name and the characters after it
pub word_split : (text : List ℕ) → text ≡ word_front text ++ word_rest text
word_split [] = refl
word_split (c ∷ rest) = split-one c rest (is_word c) refl (word_split rest)

-- the characters that are passed over
pub parts_passed : (passed : ℕ) (text : List ℕ) → parts passed text ≡ parts 0 (drop passed text)
parts_passed zero text = refl
parts_passed (suc passed) [] = refl
parts_passed (suc passed) (c ∷ rest) = parts_passed passed rest

after_name : (name : List ℕ) (c : ℕ) (after : List ℕ) → drop (suc (length name)) (name ++ c ∷ after) ≡ after
after_name [] c after = refl
after_name (x ∷ name) c after = after_name name c after

closed_some : (name after : List ℕ) → (name ≡ [] → ⊥) → closed name (41 ∷ after) ≡ Some name
closed_some [] after h = absurd (h refl)
closed_some (x ∷ name) after h = refl

-- a subpattern's name, and the characters after it
pub reference_is : (text rest name close after : List ℕ) → text ≡ 40 ∷ 63 ∷ 38 ∷ rest → name ≡ word_front rest → close ≡ word_rest rest → close ≡ 41 ∷ after → (name ≡ [] → ⊥) →
    (reference text ≡ Some name) × (after ≡ drop (4 + length name) text)
reference_is text rest name close after t n c b some =
    let whole : rest ≡ name ++ 41 ∷ after = word_split rest ∙ rw (sym n, sym c, b) refl in
    let four : 4 + length name ≡ suc (suc (suc (suc (length name)))) = omega arith in
    (rw (t, sym n, sym c, b) (closed_some name after some), rw (t, whole, four) (sym (after_name name 41 after)))

part_by : (first : ℕ) (rest name : List ℕ) → reference (first ∷ rest) ≡ Some name → parts 0 (first ∷ rest) ≡ used name ∷ parts (3 + length name) rest
part_by first rest name r = rw (r, parts) refl

-- a part that is a subpattern
pub part_used : (text name after : List ℕ) (first : ℕ) (rest : List ℕ) → text ≡ first ∷ rest → reference text ≡ Some name → after ≡ drop (4 + length name) text →
    parts 0 text ≡ used name ∷ parts 0 after
part_used text name after first rest t r b =
    let four : 4 + length name ≡ suc (3 + length name) = omega arith in
    let left : after ≡ drop (3 + length name) rest = b ∙ rw (t, four) refl in
    rw (t, left) (part_by first rest name (rw t at r) ∙ ap (λ (ps : List Part). used name ∷ ps) (parts_passed (3 + length name) rest))

pub used_shorter : (text name after : List ℕ) (first : ℕ) (rest : List ℕ) → text ≡ first ∷ rest → after ≡ drop (4 + length name) text → length after < length text
used_shorter text name after first rest t b =
    let l : length after ≡ length text - (4 + length name) = ap length b ∙ length-drop (4 + length name) text in
    let m : length text ≡ suc (length rest) = ap length t in
    omega arith
