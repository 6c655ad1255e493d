-- Steps, and where they lead.
use Rattle.std.proofs.Common.{◌≡◌, ℕ, ◌<◌, ◌≤◌, ◌⊎◌, inl, inr, refl, sym, subst, arith}
use Rattle.std.proofs.lemmas.Bool.{cases_order}
use Rattle.logos_lexeme.specs.LexemeRuns.{Steps, here, step, Until, IsLast, Run, IsFirst}

module _ (Step : ℕ → ℕ → Type 0) where
  pub Steps-join : {a b c : ℕ} → Steps Step a b → Steps Step b c → Steps Step a c
  Steps-join here t = t
  Steps-join (step s r) t = step s (Steps-join r t)

  pub Steps-push : {a b c : ℕ} → Steps Step a b → Step b c → Steps Step a c
  Steps-push r s = Steps-join r (step s here)

  -- properties that steps preserve
  pub Steps-keep : (P : ℕ → Type 0) → ((at next : ℕ) → P at → Step at next → P next) → {a b : ℕ} → Steps Step a b → P a → P b
  Steps-keep P keep here p = p
  Steps-keep P keep (step s r) p = Steps-keep P keep r (keep _ _ p s)

  pub Steps-le : ((at next : ℕ) → Step at next → at < next) → {a b : ℕ} → Steps Step a b → a ≤ b
  Steps-le moves here = omega arith
  Steps-le moves (step {at} {mid} s r) = omega (arith, moves at mid s, Steps-le moves r)

  -- from a last offset steps lead to no other offset
  pub Steps-last : {at to : ℕ} → IsLast Step at → Steps Step at to → at ≡ to
  Steps-last last here = refl
  Steps-last {at} last (step {mid = mid} s r) = absurd (last mid s)

  -- an offset has at most one next
  abbrev pub IsFunction : Type 0
  IsFunction = (at m n : ℕ) → Step at m → Step at n → m ≡ n

  module _ (one : IsFunction) where
    -- steps that do not end here continue by the one step that there is
    pub Steps-back : {at next to : ℕ} → Step at next → Steps Step at to → (at ≡ to) ⊎ Steps Step next to
    Steps-back s here = inl refl
    Steps-back {at} {next} {to} s (step {mid = mid} s' r) = inr (subst (λ m. Steps Step m to) (one at mid next s' s) r)

    pub Steps-on : {at next to : ℕ} → Step at next → at < to → Steps Step at to → Steps Step next to
    Steps-on {at} {next} {to} s ahead r = elim (Steps-back s r) [ inl e ↦ absurd (omega arith) | inr t ↦ t ]

    module _ (Stop : ℕ → Type 0) (apart : (at next : ℕ) → Stop at → Step at next → ⊥) where
      stops-once : {a b c : ℕ} → Steps Step a b → Stop b → Steps Step a c → Stop c → b ≡ c
      stops-once here p here q = refl
      stops-once here p (step s r) q = absurd (apart _ _ p s)
      stops-once (step s r) p here q = absurd (apart _ _ q s)
      stops-once {a} {b} {c} (step {mid = m} s r) p (step {mid = n} t u) q = stops-once r p (subst (λ k. Steps Step k c) (one a n m t s) u) q

      pub Until-one : {a b c : ℕ} → Until Step Stop a b → Until Step Stop a c → b ≡ c
      Until-one u v = stops-once u.steps u.stop v.steps v.stop

      pub Until-back : {at next to : ℕ} → Step at next → Until Step Stop at to → Until Step Stop next to
      Until-back {at} {next} {to} s u = elim (Steps-back s u.steps) [
        | inl e ↦ absurd (apart at next (subst Stop (sym e) u.stop) s)
        | inr r ↦ record { steps = r; stop = u.stop }
      ]

    pub Run-one : {a b c : ℕ} → Run Step a b → Run Step a c → b ≡ c
    Run-one u v = Until-one (IsLast Step) (λ at next p s. p next s) u v

  pub Until-step : {Stop : ℕ → Type 0} {at next to : ℕ} → Step at next → Until Step Stop next to → Until Step Stop at to
  Until-step s u = record { steps = step s u.steps; stop = u.stop }

pub IsFirst-one : {P : ℕ → Type 0} {from a b : ℕ} → IsFirst P from a → IsFirst P from b → a ≡ b
IsFirst-one {P} {from} {a} {b} u v = elim (cases_order a b) [
  | inl e ↦ e
  | inr (inl l) ↦ absurd (v.first a u.begun l u.holds)
  | inr (inr l) ↦ absurd (u.first b v.begun l v.holds)
]
