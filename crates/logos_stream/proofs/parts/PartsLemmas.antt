-- The bytes of a buffer, as they are passed and read.
use Rattle.std.proofs.Common.{◌≡◌, ◌≢◌, ◌∙◌, ⊎_elim, ℕ, zero, suc, ◌+◌, ◌-◌, ◌^◌, ◌<◌, ◌≤◌, min, Bool, true, false, nat_eq, IsTrue, IsFalse, List, [], ◌++◌, length, take, drop, slice_range, Option, refl, sym, ap, arith}
use Rattle.std.specs.Io.KnownBytes.{Consumes, IsAtEnd}
use Rattle.std.specs.List.{copy_within}
use Rattle.std.proofs.Math.Seq.{take-add}
use Rattle.std.proofs.lemmas.List.{drop-take, length-take, length-drop}
use Rattle.std.proofs.lemmas.Bool.Decides.{eqb_tells}
use Rattle.std.proofs.lemmas.List.Edits.{take-paste, length-paste}
use Rattle.logos_stream.specs.parts.PartsValue.{PartsValue, Reads, without}

some_read : (count : ℕ) → IsFalse (nat_eq count 0) → 0 < count
some_read count h = ⊎_elim (λ p. absurd (let f : true ≡ false = sym p.0 ∙ h in cc)) (λ p. positive count p.1) (eqb_tells count 0)
  where
    positive : (n : ℕ) → n ≢ 0 → 0 < n
    positive zero other = absurd (other refl)
    positive (suc n) other = omega arith

none_read : (count : ℕ) → IsTrue (nat_eq count 0) → count ≡ 0
none_read count h = ⊎_elim (λ p. p.1) (λ p. absurd (let f : false ≡ true = sym p.0 ∙ h in cc)) (eqb_tells count 0)

no_bytes : (n : ℕ) (xs : List ℕ) → n ≡ 0 → take n xs ≡ []
no_bytes n xs e = ap (λ k. take k xs) e

-- the bytes that were read follow those that were held
pub read_adds : {R : Type 0} (remaining : R → Option (List ℕ)) (reader next : R) (items after : List ℕ) (held count before : ℕ) (over : Bool) →
    held + count ≤ length after → length after ≡ length items → take held after ≡ take held items →
    Consumes (remaining reader) (remaining next) (slice_range after held (held + count)) → (count ≡ 0 → IsAtEnd (remaining next)) →
    Reads {R = R} remaining (record { reader = reader; part = take held items; bound = length items; before = before; is_over = over })
    (record { reader = next; part = take (held + count) after; bound = length after; before = before; is_over = nat_eq count 0 })
read_adds remaining reader next items after held count before over fits same front consumed end =
    let e : held + count - held ≡ count = omega arith in
    record {
      added = slice_range after held (held + count);
      part = take-add held count after ∙ ap (λ l. l ++ take count (drop held after)) front ∙ ap (λ n. take held items ++ take n (drop held after)) (sym e);
      consumed = consumed;
      bound = same;
      before = refl;
      continues = λ h. omega (arith, some_read count h, fits, length-take (held + count - held) (drop held after), length-drop held after);
      over = λ h. (no_bytes (held + count - held) (drop held after) (e ∙ none_read count h), end (none_read count h));
    }

-- the passed bytes are removed from the front
front_gone : (items : List ℕ) (held bytes : ℕ) → held ≤ length items → bytes ≤ held → take (held - bytes) (copy_within items bytes held 0) ≡ drop bytes (take held items)
front_gone items held bytes fits passed =
    let n : 0 + (held - bytes) ≡ held - bytes = omega arith in
    let m : bytes + (held - bytes) ≡ held = omega (arith, passed) in
    ap (λ k. take k (copy_within items bytes held 0)) (sym n)
    ∙ take-paste items 0 (drop bytes items) (held - bytes) (omega arith) (omega (arith, fits, length-drop bytes items))
    ∙ sym (drop-take bytes (held - bytes) items) ∙ ap (λ k. drop bytes (take k items)) m

pub passed_gone : {R : Type 0} (reader : R) (items after : List ℕ) (held bytes before sum : ℕ) (over : Bool) → held ≤ length items → bytes ≤ length (take held items) →
    after ≡ copy_within items bytes held 0 → sum ≡ min (before + bytes) (2 ^ 64 - 1) →
    ◌≡◌ {A = PartsValue R} (record { reader = reader; part = take (held - bytes) after; bound = length after; before = sum; is_over = over })
    (without bytes (record { reader = reader; part = take held items; bound = length items; before = before; is_over = over }))
passed_gone reader items after held bytes before sum over fits passed is total =
    let within : bytes ≤ held = omega (arith, passed, length-take held items) in
    let same = ap length is ∙ length-paste items 0 (drop bytes items) (held - bytes) (omega (arith, fits, within)) (omega (arith, fits, length-drop bytes items)) in
    let gone = ap (take (held - bytes)) is ∙ front_gone items held bytes fits within in
    λ i. record { reader = reader; part = gone i; bound = same i; before = total i; is_over = over }
