-- A type becomes at most one type, and a deeper one if the limit is exceeded.
use Rattle.std.proofs.Common.{◌≡◌, ℕ, ◌-◌, ◌<◌, List, true, false, refl, sym, ap, ◌∙◌, arith}
use Rattle.logos_type.specs.Parts.{Tree, name, whole, Trees, also}
use Rattle.logos_type.specs.Depth.{some_exceed}
use Rattle.logos_type.proofs.DepthLemmas.{some_deeper as some_over, some_within}
use Rattle.logos_type_params.specs.Substitution.{Params, a_name, a_type, After, token, stays, named, put, inside, stays_still, AllAfter, none_after, also_after, Passes, name_here, type_here, put_inside, type_inside, still_here, SomePasses, first_passes, later_passes}

-- a type that exceeds one number of levels is deeper than another number that it does not exceed
still_deeper : (n m : ℕ) (ts : Trees) → some_exceed n ts ≡ true → some_exceed m ts ≡ false → n < m
still_deeper n m ts e f = let h = some_over n ts e in let k = some_within m ts f in omega (arith, h, k)

name_same : {a b : List ℕ} → a_name a ≡ a_name b → a ≡ b
name_same e = cc

type_same : {a b : Trees} → a_type a ≡ a_type b → a ≡ b
type_same e = cc

also_first : {t u : Tree} {ts us : Trees} → also t ts ≡ also u us → t ≡ u
also_first e = cc

also_rest : {t u : Tree} {ts us : Trees} → also t ts ≡ also u us → ts ≡ us
also_rest e = cc

outside : {n m : ℕ} → 0 < n → n - 1 < m - 1 → n < m
outside a h = omega arith

module _ (params : Params) where
  mutual
    pub one_after : {n m : ℕ} {t u v : Tree} → After params n t u → After params m t v → u ≡ v
    one_after token token = refl
    one_after (stays a e) (stays b f) = refl
    one_after (stays a e) (named b f) = absurd (let k = sym e ∙ f in cc)
    one_after (stays a e) (put b f h) = absurd (let k = sym e ∙ f in cc)
    one_after (named a e) (stays b f) = absurd (let k = sym e ∙ f in cc)
    one_after (named a e) (named b f) = ap name (name_same (sym e ∙ f))
    one_after (named a e) (put b f h) = absurd (let k = sym e ∙ f in cc)
    one_after (put a e h) (stays b f) = absurd (let k = sym e ∙ f in cc)
    one_after (put a e h) (named b f) = absurd (let k = sym e ∙ f in cc)
    one_after (put a e h) (put b f g) = ap whole (all_same (type_same (sym e ∙ f)) h g)
    one_after (inside a h) (inside b g) = ap whole (all_same refl h g)
    one_after (stays_still e) (stays_still f) = refl

    all_same : {n m : ℕ} {ts ts' us vs : Trees} → ts ≡ ts' → AllAfter params n ts us → AllAfter params m ts' vs → us ≡ vs
    all_same e none_after none_after = refl
    all_same e none_after (also_after a h) = absurd cc
    all_same e (also_after a h) none_after = absurd cc
    all_same e (also_after {other = u} {others = us} a h) (also_after {other = v} b g) =
        ap (λ (x : Tree). also x us) (one_after a (rw (sym (also_first e)) at b)) ∙ ap (also v) (all_same (also_rest e) h g)

  mutual
    pub deeper : {n m : ℕ} {t u : Tree} → Passes params n t → After params m t u → n < m
    deeper (name_here z) (stays b f) = omega (arith, z, b)
    deeper (name_here z) (named b f) = omega (arith, z, b)
    deeper (name_here z) (put b f h) = omega (arith, z, b)
    deeper (type_here z) (inside b h) = omega (arith, z, b)
    deeper (put_inside a e p) (stays b f) = absurd (let k = sym e ∙ f in cc)
    deeper (put_inside a e p) (named b f) = absurd (let k = sym e ∙ f in cc)
    deeper (put_inside a e p) (put b f h) = outside a (some_deeper (type_same (sym e ∙ f)) p h)
    deeper (type_inside a p) (inside b h) = outside a (some_deeper refl p h)
    deeper {n} {m} (still_here {parts = ps} e) (stays_still f) = still_deeper n m ps e f

    some_deeper : {n m : ℕ} {ts ts' us : Trees} → ts ≡ ts' → SomePasses params n ts → AllAfter params m ts' us → n < m
    some_deeper e (first_passes p) none_after = absurd cc
    some_deeper e (first_passes p) (also_after a h) = deeper p (rw (sym (also_first e)) at a)
    some_deeper e (later_passes p) none_after = absurd cc
    some_deeper e (later_passes p) (also_after a h) = some_deeper (also_rest e) p h
