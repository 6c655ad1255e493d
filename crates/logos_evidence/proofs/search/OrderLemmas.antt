-- Each byte occurs once in the order.
use Rattle.std.proofs.Common.{◌≡◌, ℕ, ◌+◌, ◌-◌, ◌<◌, ◌≤◌, ◌⊎◌, inl, inr, arith}
use Rattle.std.proofs.lemmas.Bool.{cases_lt}
use Rattle.logos_evidence.specs.search.inside.Order.{IsByteAt}

pub one_byte : (site b c : ℕ) → IsByteAt site b → IsByteAt site c → b ≡ c
one_byte site b c h k =
    elim (cases_lt site 26) [
      | inl l ↦ let p = h.small l in let q = k.small l in omega (arith, p, q)
      | inr l ↦ elim (cases_lt site 52) [
        | inl m ↦ let p = h.capital l m in let q = k.capital l m in omega (arith, p, q)
        | inr m ↦ elim (cases_lt site 62) [
          | inl n ↦ let p = h.digit m n in let q = k.digit m n in omega (arith, p, q)
          | inr n ↦ elim (cases_lt site 78) [
            | inl o ↦ let p = h.blank n o in let q = k.blank n o in omega (arith, p, q)
            | inr o ↦ elim (cases_lt site 85) [
              | inl r ↦ let p = h.colon o r in let q = k.colon o r in omega (arith, p, q)
              | inr r ↦ elim (cases_lt site 91) [
                | inl s ↦ let p = h.bracket r s in let q = k.bracket r s in omega (arith, p, q)
                | inr s ↦ elim (cases_lt site 95) [
                  | inl t ↦ let p = h.brace s t in let q = k.brace s t in omega (arith, p, q)
                  | inr t ↦ elim (cases_lt site 127) [
                    | inl u ↦ let p = h.control t u in let q = k.control t u in omega (arith, p, q)
                    | inr u ↦ let p = h.others u in let q = k.others u in omega (arith, p, q)
                  ]
                ]
              ]
            ]
          ]
        ]
      ]
    ]

at_site : (site b : ℕ) → (site < 26 → b ≡ 97 + site) → (26 ≤ site → site < 52 → b ≡ 39 + site) → (52 ≤ site → site < 62 → b + 4 ≡ site) →
    (62 ≤ site → site < 78 → b + 30 ≡ site) → (78 ≤ site → site < 85 → b + 20 ≡ site) → (85 ≤ site → site < 91 → b ≡ 6 + site) →
    (91 ≤ site → site < 95 → b ≡ 32 + site) → (95 ≤ site → site < 127 → b + 95 ≡ site) → (127 ≤ site → b ≡ site) → IsByteAt site b
at_site site b p q r s t u v w x = record { small = p; capital = q; digit = r; blank = s; colon = t; bracket = u; brace = v; control = w; others = x }

placed_at : (b site : ℕ) → ((97 ≤ b) × (b < 123) × (b ≡ 97 + site)) ⊎ (((65 ≤ b) × (b < 91) × (b ≡ 39 + site)) ⊎ (((48 ≤ b) × (b < 58) × (b + 4 ≡ site)) ⊎
    (((32 ≤ b) × (b < 48) × (b + 30 ≡ site)) ⊎ (((58 ≤ b) × (b < 65) × (b + 20 ≡ site)) ⊎ (((91 ≤ b) × (b < 97) × (b ≡ 6 + site)) ⊎
    (((123 ≤ b) × (b < 127) × (b ≡ 32 + site)) ⊎ (((b < 32) × (b + 95 ≡ site)) ⊎ ((127 ≤ b) × (b ≡ site))))))))) → IsByteAt site b
placed_at b site h =
    at_site site b (λ l. grind (arith, h, l)) (λ l m. grind (arith, h, l, m)) (λ l m. grind (arith, h, l, m)) (λ l m. grind (arith, h, l, m)) (λ l m. grind (arith, h, l, m))
    (λ l m. grind (arith, h, l, m)) (λ l m. grind (arith, h, l, m)) (λ l m. grind (arith, h, l, m)) (λ l. grind (arith, h, l))

pub placed : (b : ℕ) → b < 256 → (site : ℕ) × (site < 256) × IsByteAt site b
placed b l =
    elim (cases_lt b 32) [
      | inl m ↦ (b + 95, omega arith, placed_at b (b + 95) (inr (inr (inr (inr (inr (inr (inr (inl (m, omega arith))))))))))
      | inr m ↦ elim (cases_lt b 48) [
        | inl n ↦ (b + 30, omega arith, placed_at b (b + 30) (inr (inr (inr (inl (m, n, omega arith))))))
        | inr n ↦ elim (cases_lt b 58) [
          | inl o ↦ (b + 4, omega arith, placed_at b (b + 4) (inr (inr (inl (n, o, omega arith)))))
          | inr o ↦ elim (cases_lt b 65) [
            | inl p ↦ (b + 20, omega arith, placed_at b (b + 20) (inr (inr (inr (inr (inl (o, p, omega arith)))))))
            | inr p ↦ elim (cases_lt b 91) [
              | inl q ↦ (b - 39, omega arith, placed_at b (b - 39) (inr (inl (p, q, omega arith))))
              | inr q ↦ elim (cases_lt b 97) [
                | inl r ↦ (b - 6, omega arith, placed_at b (b - 6) (inr (inr (inr (inr (inr (inl (q, r, omega arith))))))))
                | inr r ↦ elim (cases_lt b 123) [
                  | inl s ↦ (b - 97, omega arith, placed_at b (b - 97) (inl (r, s, omega arith)))
                  | inr s ↦ elim (cases_lt b 127) [
                    | inl t ↦ (b - 32, omega arith, placed_at b (b - 32) (inr (inr (inr (inr (inr (inr (inl (s, t, omega arith)))))))))
                    | inr t ↦ (b, l, placed_at b b (inr (inr (inr (inr (inr (inr (inr (inr (t, omega arith))))))))))
                  ]
                ]
              ]
            ]
          ]
        ]
      ]
    ]
