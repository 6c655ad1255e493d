-- Runs of bytes that are alike.
use Rattle.std.proofs.Common.{◌≡◌, ℕ, ◌+◌, ◌<◌, ◌≤◌, ◌⊎◌, ⊎_elim, Bool, true, false, ◌||◌, ◌==◌, nat_le, cond, List, ◌∷◌, map, length, drop, drop-cons, add-one, get_or, find, Option, None, Some, option_map, slice_index, slice_index_or, refl, sym, ap, ap₂, ◌∙◌, arith}
use Rattle.std.proofs.lemmas.Bool.{ne_eqb}
use Rattle.std.proofs.lemmas.Bool.Decides.{nat_tests}
use Rattle.std.proofs.lemmas.List.{drop_all, get_or-map}
use Rattle.std.specs.List.{list_any}
use Rattle.logos_byte_class.specs.Bytes.{Comparison, compares, is_among}
use Rattle.logos_code.specs.Code.{CodeValue, Condition, by_conditions}
use Rattle.logos_code.specs.CodeView.{entry_of, jumps_of}
use Rattle.logos_code.specs.Runs.{passes, target}
use Rattle.logos_code.specs.inside.Alike.{EndsRun}

either : (a b : ℕ) → (a < b) ⊎ (b ≤ a)
either a b = grind arith

le_test : (a b : ℕ) → a ≤ b → nat_le a b ≡ true
le_test a b l = grind (arith, nat_tests)

not_le_test : (a b : ℕ) → b < a → nat_le a b ≡ false
not_le_test a b l = grind (arith, nat_tests)

-- a run does not go over where it is cut
from_there : (at byte k : ℕ) → byte ≤ k → (byte < at → k < at) → nat_le at k ≡ nat_le at byte
from_there at byte k h cut = ⊎_elim
    (λ l. not_le_test at k (cut l) ∙ sym (not_le_test at byte l))
    (λ l. le_test at k (omega (arith, l, h)) ∙ sym (le_test at byte l))
    (either byte at)

up_to : (at byte k : ℕ) → byte ≤ k → (byte < at + 1 → k < at + 1) → nat_le k at ≡ nat_le byte at
up_to at byte k h cut = ⊎_elim
    (λ l. let m = cut l in le_test k at (omega (arith, m)) ∙ sym (le_test byte at (omega (arith, l))))
    (λ l. not_le_test k at (omega (arith, l, h)) ∙ sym (not_le_test byte at (omega (arith, l))))
    (either byte (at + 1))

equals : (at byte k : ℕ) → byte ≤ k → (byte < at → k < at) → (byte < at + 1 → k < at + 1) → (at == k) ≡ (at == byte)
equals at byte k h low high = ⊎_elim before (λ l. ⊎_elim (on l) after (either byte (at + 1))) (either byte at)
  where
    before : byte < at → (at == k) ≡ (at == byte)
    before l = let m = low l in ne_eqb at k (λ e. omega (arith, e, m)) ∙ sym (ne_eqb at byte (λ e. omega (arith, e, l)))

    on : at ≤ byte → byte < at + 1 → (at == k) ≡ (at == byte)
    on l m = let n = high m in let e : k ≡ byte = omega (arith, l, h, n) in ap (λ n. at == n) e

    after : at + 1 ≤ byte → (at == k) ≡ (at == byte)
    after l = ne_eqb at k (λ e. omega (arith, e, l, h)) ∙ sym (ne_eqb at byte (λ e. omega (arith, e, l)))

-- a run that is cut at a byte and after it
pub exception_run : (at byte most cut end : ℕ) → byte < end → end ≤ cut → cut ≤ most → (byte < at → cut ≤ at) → (byte < at + 1 → end ≤ at + 1) →
    EndsRun (λ b. at == b) byte most end
exception_run at byte most cut end some on within low high =
    (some, omega (arith, on, within), λ k h l. equals at byte k h (λ b. let m = low b in omega (arith, m, on, l)) (λ b. let m = high b in omega (arith, m, l)))

-- the run of a comparison
pub comparison_run : (c : Comparison) (byte most cut until end : ℕ) → cut ≤ most → until ≤ cut → (byte < c.first → cut ≤ c.first) → (byte < c.last + 1 → until ≤ c.last + 1) →
    EndsRun (is_among c.except) byte until end → EndsRun (compares c) byte most end
comparison_run c byte most cut until end within on low high run =
    (run.0, let m = run.1 in omega (arith, m, on, within), λ k h l. rw (first k h l, last k h l, run.2 k h l) refl)
  where
    first : (k : ℕ) → byte ≤ k → k < end → nat_le c.first k ≡ nat_le c.first byte
    first k h l = from_there c.first byte k h (λ b. let m = low b in let n = run.1 in omega (arith, m, n, on, l))

    last : (k : ℕ) → byte ≤ k → k < end → nat_le k c.last ≡ nat_le byte c.last
    last k h l = up_to c.last byte k h (λ b. let m = high b in let n = run.1 in omega (arith, m, n, l))

-- a run of the same entry of a jump table
pub table_run : (table : List ℕ) (entry byte end : ℕ) → end ≤ length table → byte < end → ((k : ℕ) → byte ≤ k → k < end → slice_index table k ≡ entry) →
    (k : ℕ) → byte ≤ k → k < end → slice_index_or (jumps_of table) k None ≡ slice_index_or (jumps_of table) byte None
table_run table entry byte end within some same k h l = jumps k h l ∙ sym (jumps byte (omega arith) some)
  where
    jumps : (n : ℕ) → byte ≤ n → n < end → slice_index_or (jumps_of table) n None ≡ entry_of entry
    jumps n h l = get_or-map entry_of table n 0 None (omega (arith, within, l)) ∙ ap entry_of (same n h l)

-- a run for which all are alike where those that are left are
abbrev pub EndsRunIf : {A : Type 0} → (left all : ℕ → A) → (byte most end : ℕ) → Type 0
EndsRunIf left all byte most end = (byte < end) × (end ≤ most) × ((k : ℕ) → byte ≤ k → k < end → left k ≡ left byte → all k ≡ all byte)

-- an element of a mapped list
pub mapped_at : {A B : Type 0} (f : A → B) (xs : List A) (i : ℕ) (x : A) → i < length xs → x ≡ get_or xs i x → f x ≡ get_or (map f xs) i (f x)
mapped_at f xs i x h is = ap f is ∙ sym (get_or-map f xs i x (f x) h)

front : {A : Type 0} (xs : List A) (i : ℕ) (x : A) → i < length xs → x ≡ get_or xs i x → drop i xs ≡ x ∷ drop (i + 1) xs
front xs i x h is = drop-cons xs i x h ∙ ap (λ k. get_or xs i x ∷ drop k xs) (sym (add-one i)) ∙ ap (λ y. y ∷ drop (i + 1) xs) (sym is)

-- a run of one more
run_on : {A B : Type 0} (one : ℕ → B) (left next all : ℕ → A) (byte most until end : ℕ) → ((k : ℕ) → one k ≡ one byte → next k ≡ next byte → left k ≡ left byte) →
    EndsRun one byte until end → EndsRunIf left all byte most until → EndsRunIf next all byte most end
run_on one left next all byte most until end step run before =
    let m = run.1 in
    let n = before.1 in
    (run.0, omega (arith, m, n), λ k h l same. before.2 k h (omega (arith, m, l)) (step k (run.2 k h l) same))

module _ {A : Type 0} (p : A → ℕ → Bool) (xs : List A) where
  abbrev some : List A → ℕ → Bool
  some ys b = list_any (λ y. p y b) ys

  -- one element more of those of which one passes
  pub any_turn : (i : ℕ) (x : A) (byte most until end : ℕ) → i < length xs → x ≡ get_or xs i x → EndsRun (p x) byte until end →
      EndsRunIf (some (drop i xs)) (some xs) byte most until → EndsRunIf (some (drop (i + 1) xs)) (some xs) byte most end
  any_turn i x byte most until end h is = run_on (p x) (some (drop i xs)) (some (drop (i + 1) xs)) (some xs) byte most until end step
    where
      step : (k : ℕ) → p x k ≡ p x byte → some (drop (i + 1) xs) k ≡ some (drop (i + 1) xs) byte → some (drop i xs) k ≡ some (drop i xs) byte
      step k one next = rw (front xs i x h is) (ap₂ (λ a b. a || b) one next)

  pub any_done : (i byte most end : ℕ) → length xs ≤ i → EndsRunIf (some (drop i xs)) (some xs) byte most end → EndsRun (some xs) byte most end
  any_done i byte most end h run = (run.0, run.1, λ k a b. run.2 k a b (rw (drop_all i xs h) refl))

module _ (code : CodeValue) (edges : List (Condition × ℕ)) where
  abbrev leads : List (Condition × ℕ) → ℕ → Option ℕ
  leads left = target code (by_conditions left)

  first_or : (t : Bool) (edge : Condition × ℕ) (o p : Option (Condition × ℕ)) → option_map (λ e. e.1) o ≡ option_map (λ e. e.1) p →
      option_map (λ e. e.1) (cond t (Some edge) o) ≡ option_map (λ e. e.1) (cond t (Some edge) p)
  first_or true edge o p same = refl
  first_or false edge o p same = same

  -- one branch more
  pub branch_turn : (i : ℕ) (edge : Condition × ℕ) (byte most until end : ℕ) → i < length edges → edge ≡ get_or edges i edge → EndsRun (passes code edge.0) byte until end →
      EndsRunIf (leads (drop i edges)) (leads edges) byte most until → EndsRunIf (leads (drop (i + 1) edges)) (leads edges) byte most end
  branch_turn i edge byte most until end h is = run_on (passes code edge.0) (leads (drop i edges)) (leads (drop (i + 1) edges)) (leads edges) byte most until end step
    where
      step : (k : ℕ) → passes code edge.0 k ≡ passes code edge.0 byte → leads (drop (i + 1) edges) k ≡ leads (drop (i + 1) edges) byte → leads (drop i edges) k ≡ leads (drop i edges) byte
      step k one next = rw (front edges i edge h is, one)
          (first_or (passes code edge.0 byte) edge (find (λ e. passes code e.0 k) (drop (i + 1) edges)) (find (λ e. passes code e.0 byte) (drop (i + 1) edges)) next)

  pub branches_done : (i byte most end : ℕ) → length edges ≤ i → EndsRunIf (leads (drop i edges)) (leads edges) byte most end → EndsRun (leads edges) byte most end
  branches_done i byte most end h run = (run.0, run.1, λ k a b. run.2 k a b (rw (drop_all i edges h) refl))
