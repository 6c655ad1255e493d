-- The steps of a code value at small inputs.
use Rattle.std.proofs.Common.{ℕ, zero, suc, ◌<◌, true, false, List, [], ◌∷◌, ◌++◌, None, Some, refl, arith}
use Rattle.logos_automaton.specs.Munch.{matched, failed}
use Rattle.logos_code.specs.Code.{CodeValue, by_comparisons, by_conditions}
use Rattle.logos_code.specs.Runs.{Attempts, continues, acts_on}
use Rattle.logos_code.specs.declared.code.Header.{Header}

abbrev pub aaa : List ℕ
aaa = 97 ∷ 97 ∷ 97 ∷ []

-- `a*b` as code: state 0 loops over `a`, `b` leads to state 1, which marks a match
abbrev pub only_a : ℕ → List ℕ
only_a zero = []
only_a (suc n) = 0 ∷ only_a n

abbrev pub star_b_code : Header → CodeValue
star_b_code header = record {
  states =
      record { fast_loop = Some 0; mark = None; fork = by_conditions ((by_comparisons (record { first = 98; last = 98; except = [] } ∷ []), 1) ∷ []); at_end = None }
      ∷ record { fast_loop = None; mark = Some (record { leaf = 0; late = false }); fork = by_conditions []; at_end = None } ∷ [];
  bit_tables = (only_a 97 ++ 1 ∷ []) ∷ [];
  leaves = record { skips = false; calls_back = false } ∷ [];
  root = 0;
  utf8 = true;
  jump_tables = [];
  header = header;
  code_leaves = [];
}

-- the error on `aaa` takes all three bytes, and its match attempt enters one state
pub star_b_code_fails : (header : Header) → Attempts (star_b_code header) aaa 0 (failed 3) 1
star_b_code_fails header = acts_on _ None 3 (failed 3) (_, refl, refl) record {
  past = omega arith;
  boundary = λ t. (omega arith, λ h. absurd (not_less h));
  least = λ other p b. p;
}
  where
    not_less : 3 < 3 → ⊥
    not_less h = omega (arith, h)

-- on `aab` it finds the match 0..3, in two states
pub star_b_code_matches : (header : Header) → Attempts (star_b_code header) (97 ∷ 97 ∷ 98 ∷ []) 0 (matched 0 3) 2
star_b_code_matches header = continues _ _ (matched 0 3) 1 (_, refl, refl) (acts_on _ (Some (0, 3)) 3 (matched 0 3) (_, refl, refl) refl)
