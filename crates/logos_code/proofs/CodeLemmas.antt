-- Parts of a code value, by its fields.
use Rattle.std.proofs.Common.{◌≡◌, ℕ, zero, suc, ◌*◌, ◌/◌, ◌%◌, ◌^◌, ◌<◌, ◌≤◌, ◌⊎◌, not, ◌==◌, List, [], length, map, All, Option, Some, None, IsSomeAnd, slice_get, slice_index, get_or, refl, sym, ap, ◌∙◌, arith, ⊎_elim}
use Rattle.std.specs.Int.{bit_at}
use Rattle.std.proofs.lemmas.Option.{slice_get-get_or, slice_get_within}
use Rattle.std.proofs.lemmas.Nat.Bits.{and_pow, bit_at-lt}
use Rattle.std.proofs.lemmas.Nat.{pow_pos}
use Rattle.std.proofs.lemmas.Bool.{ne_eqb}
use Rattle.std.proofs.lemmas.List.{get_or-map, length-map}
use Rattle.std.proofs.Math.Pow.{pow-lt}
use Rattle.logos_code.specs.Bytes.{passes_test}
use Rattle.std.proofs.Math.ListN.{get_or-eq_default}
use Rattle.logos_code.specs.Code.{CodeValue, CodeState}
use Rattle.logos_code.specs.Headline.{IsSound, IsRoot, NamesExisting, NamesFork}
use Rattle.logos_code.specs.CodeView.{has_mask, jumps_of, fork_of, state_of, code_of}
use Rattle.logos_code.specs.declared.code.CodeState.{CodeState as TheState}
use Rattle.logos_code.specs.declared.code.Fork.TheVariants.{Table}
use Rattle.logos_code.specs.declared.code.CodeParts.{CodeParts}

-- a bit as a test: whether it leaves something of a power
some_of_power : (bit power : ℕ) → bit < 2 → 0 < power → not (bit * power == 0) ≡ (bit == 1)
some_of_power zero power h p = let e : zero * power ≡ 0 = omega arith in rw e refl
some_of_power (suc zero) zero h p = absurd (omega (arith, p))
some_of_power (suc zero) (suc power) h p = let e : suc zero * suc power ≡ suc power = omega arith in rw (e, ne_eqb (suc power) 0 (λ f. omega (arith, f))) refl
some_of_power (suc (suc n)) power h p = absurd (omega (arith, h))

-- a bit of a byte, shifted
pub small_power : (i : ℕ) → i < 8 → 1 * 2 ^ i % 256 ≡ 2 ^ i
small_power i h = let p : 2 ^ i < 2 ^ 8 = pow-lt h in omega arith

-- the bit of a mask of one bit is the result of the test of that bit
pub mask_tests : (tables : List (List ℕ)) (k : ℕ) (table : List ℕ) → k < 8 * length tables → table ≡ get_or tables (k / 8) table →
    (b : ℕ) → has_mask table (1 * 2 ^ (k % 8) % 256) b ≡ passes_test tables k b
mask_tests tables k table h is b =
    let small : k % 8 < 8 = omega arith in
    let within : k / 8 < length tables = omega arith in
    let found : slice_get tables (k / 8) ≡ Some table = slice_get-get_or tables (k / 8) table within ∙ ap Some (sym is) in
    rw (found, small_power (k % 8) small, and_pow (slice_index table b) (k % 8))
    (some_of_power (bit_at (slice_index table b) (k % 8)) (2 ^ (k % 8)) (bit_at-lt (slice_index table b) (k % 8)) (pow_pos (k % 8)))

-- a property of each element of a mapped list
pub All-map : {A B : Type 0} (P : B → Type 0) (f : A → B) (xs : List A) (i : ℕ) (x : A) → All P (map f xs) → i < length xs → x ≡ get_or xs i x → P (f x)
All-map P f xs i x all h is =
    rw (← is) at (rw (get_or-map f xs i x (f x) h) at (all i (f x) (rw length-map h)))

-- the tables and states that a state names exist
pub state_names : (code : CodeParts) (s : ℕ) (state : TheState) → IsSound (code_of code) → s < length (code_of code).states →
    state ≡ get_or code.states.items s state → NamesExisting (code_of code) (state_of code.jump_tables.items state)
state_names code s state sound l is =
    All-map (NamesExisting (code_of code)) (state_of code.jump_tables.items) code.states.items s state sound.states (rw length-map at l) is

-- a jump table that a fork names is there
pub table_there : (code : CodeValue) (tables : List (List ℕ)) (k : ℕ) → NamesFork code (fork_of tables (Table k)) → k < length tables
table_there code tables k names = ⊎_elim (λ h. h) past (either k (length tables))
  where
    either : (a b : ℕ) → (a < b) ⊎ (b ≤ a)
    either a b = grind arith

    past : length tables ≤ k → k < length tables
    past h =
        let e : get_or tables k [] ≡ [] = get_or-eq_default tables [] h in
        let long : length (jumps_of (get_or tables k [])) ≡ 256 = names.0 in
        absurd (omega (arith, rw e at long))

-- the root of a sound code is there
pub root_there : (code : CodeValue) → IsSound code → code.root < length code.states
root_there code sound = go (slice_get code.states code.root) refl sound.root
  where
    go : (o : Option CodeState) → slice_get code.states code.root ≡ o → IsSomeAnd o (IsRoot code) → code.root < length code.states
    go None e h = absurd h
    go (Some state) e h = slice_get_within code.states code.root state e
