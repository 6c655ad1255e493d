-- The automaton of a class of characters reads its characters' bytes.
use Rattle.std.proofs.Common.{◌≡◌, ℕ, zero, suc, ◌+◌, ◌-◌, ◌*◌, ◌/◌, ◌%◌, ◌<◌, ◌≤◌, ◌↔◌, Bool, true, List, [], ◌∷◌, ◌++◌, length, Some, None, refl, sym, ap, ◌∙◌, subst, ⊎_elim, arith, lt-ltb, le-ltb, le-leb, append-nil, nat_le}
use Rattle.std.proofs.lemmas.Bool.Decides.{nat_tests}
use Rattle.std.proofs.lemmas.Bool.{cases_lt, cond-true, cond-false, and_parts, and_from}
use Rattle.std.proofs.lemmas.Option.{same_Some, none-some}
use Rattle.std.specs.Char.{encode_utf8, IsScalar}
use Rattle.logos_positions.specs.inside.Characters.{size, Lead, lead, after_lead, after_byte, After, Reads, IsOpen, IsWhole, IsBegun, IsCharOf, IsBeginningOf, IsOfScalars}

-- the bytes that pick the offset o
abbrev pub tail_of : ℕ → ℕ → List ℕ
tail_of zero o = []
tail_of (suc n) o = (0x80 + o / size n) ∷ tail_of n (o % size n)

length-tail_of : (n o : ℕ) → length (tail_of n o) ≡ n
length-tail_of zero o = refl
length-tail_of (suc n) o = let e = length-tail_of n (o % size n) in omega arith

-- one byte and the rest
pub part_bound : (n h o : ℕ) → n < 3 → h < 64 → o < size n → h * size n + o < size (suc n)
part_bound zero h o lt a b = omega arith
part_bound (suc zero) h o lt a b = omega arith
part_bound (suc (suc zero)) h o lt a b = omega arith
part_bound (suc (suc (suc n))) h o lt a b = absurd (omega arith)

part_div : (n h o : ℕ) → n < 3 → o < size n → (h * size n + o) / size n ≡ h
part_div zero h o lt b = omega arith
part_div (suc zero) h o lt b = omega arith
part_div (suc (suc zero)) h o lt b = omega arith
part_div (suc (suc (suc n))) h o lt b = absurd (omega arith)

part_mod : (n h o : ℕ) → n < 3 → o < size n → (h * size n + o) % size n ≡ o
part_mod zero h o lt b = omega arith
part_mod (suc zero) h o lt b = omega arith
part_mod (suc (suc zero)) h o lt b = omega arith
part_mod (suc (suc (suc n))) h o lt b = absurd (omega arith)

div_bound : (n o : ℕ) → n < 3 → o < size (suc n) → o / size n < 64
div_bound zero o lt b = omega arith
div_bound (suc zero) o lt b = omega arith
div_bound (suc (suc zero)) o lt b = omega arith
div_bound (suc (suc (suc n))) o lt b = absurd (omega arith)

mod_bound : (n o : ℕ) → o % size n < size n
mod_bound zero o = omega arith
mod_bound (suc zero) o = omega arith
mod_bound (suc (suc zero)) o = omega arith
mod_bound (suc (suc (suc n))) o = omega arith

div_mod : (n o : ℕ) → o / size n * size n + o % size n ≡ o
div_mod zero o = omega arith
div_mod (suc zero) o = omega arith
div_mod (suc (suc zero)) o = omega arith
div_mod (suc (suc (suc n))) o = omega arith

-- the bytes are the first of those that pick an offset, and k are left
pub record Picks (k left : ℕ) (has : ℕ → Bool) (bytes : List ℕ) : Type 0 where
  pub at : ℕ
  pub below : at < size left
  pub is : has at ≡ true
  pub rest : List ℕ
  pub long : length rest ≡ k
  pub spelled : tail_of left at ≡ bytes ++ rest

abbrev pub IsOpenWith : ℕ → ℕ → (ℕ → Bool) → Type 0
IsOpenWith k left has = (left ≡ k) × IsOpen left has

pub Picks-of_After : (k left : ℕ) (has : ℕ → Bool) (bs : List ℕ) → left ≤ 3 → After (IsOpenWith k) left has bs → Picks k left has bs
Picks-of_After k left has [] le h =
    record { at = h.1.0; below = h.1.1; is = h.1.2; rest = tail_of left h.1.0; long = length-tail_of left h.1.0 ∙ h.0; spelled = refl }
Picks-of_After k zero has (b ∷ bs) le h = absurd h
Picks-of_After k (suc n) has (b ∷ bs) le h =
    let p = Picks-of_After k n (after_byte n has b) bs (omega arith) h.2 in
    let lt : n < 3 = omega arith in
    let d = part_div n (b - 0x80) p.at lt p.below in
    let m = part_mod n (b - 0x80) p.at lt p.below in
    record {
      at = (b - 0x80) * size n + p.at;
      below = part_bound n (b - 0x80) p.at lt (omega (arith, h.0, h.1)) p.below;
      is = p.is;
      rest = p.rest;
      long = p.long;
      spelled = let e : 0x80 + ((b - 0x80) * size n + p.at) / size n ≡ b = omega (arith, d, h.0) in
          ap (λ x. x ∷ tail_of n (((b - 0x80) * size n + p.at) % size n)) e ∙ ap (λ x. b ∷ tail_of n x) m ∙ ap (λ l. b ∷ l) p.spelled;
    }

pub After-of_tail : (left : ℕ) (has : ℕ → Bool) (bs rest : List ℕ) (o : ℕ) → left ≤ 3 → o < size left → has o ≡ true →
    tail_of left o ≡ bs ++ rest → After (IsOpenWith (length rest)) left has bs
After-of_tail left has [] rest o le lt is e = (sym (length-tail_of left o) ∙ ap length e, (o, lt, is))
After-of_tail zero has (b ∷ bs) rest o le lt is e = cc
After-of_tail (suc n) has (b ∷ bs) rest o le lt is e =
    let h : 0x80 + o / size n ≡ b = cc in
    let t : tail_of n (o % size n) ≡ bs ++ rest = cc in
    let small : n < 3 = omega arith in
    let d = div_bound n o small lt in
    let back : (b - 0x80) * size n + o % size n ≡ o = ap (λ x. x * size n + o % size n) (omega arith) ∙ div_mod n o in
    (omega arith, omega arith, After-of_tail n (after_byte n has b) bs rest (o % size n) (omega arith) (mod_bound n o) (ap has back ∙ is) t)

-- each length's bytes
encode_one : (c : ℕ) → c < 0x80 → encode_utf8 c ≡ c ∷ []
unfolding encode_utf8
encode_one c low = cond-true _ _ _ (lt-ltb c 128 low)

encode_two : (c : ℕ) → 0x80 ≤ c → c < 0x800 → encode_utf8 c ≡ (192 + c / 64) ∷ (128 + c % 64) ∷ []
unfolding encode_utf8
encode_two c low high = cond-false _ _ _ (le-ltb c 128 low) ∙ cond-true _ _ _ (lt-ltb c 2048 high)

encode_three : (c : ℕ) → 0x800 ≤ c → c < 0x1_0000 →
    encode_utf8 c ≡ (224 + c / 4096) ∷ (128 + (c / 64) % 64) ∷ (128 + c % 64) ∷ []
unfolding encode_utf8
encode_three c low high =
    cond-false _ _ _ (le-ltb c 128 (omega arith)) ∙ cond-false _ _ _ (le-ltb c 2048 low) ∙ cond-true _ _ _ (lt-ltb c 65536 high)

encode_four : (c : ℕ) → 0x1_0000 ≤ c →
    encode_utf8 c ≡ (240 + c / 262144) ∷ (128 + (c / 4096) % 64) ∷ (128 + (c / 64) % 64) ∷ (128 + c % 64) ∷ []
unfolding encode_utf8
encode_four c low =
    cond-false _ _ _ (le-ltb c 128 (omega arith)) ∙ cond-false _ _ _ (le-ltb c 2048 (omega arith)) ∙ cond-false _ _ _ (le-ltb c 65536 low)

same_one : (a b : ℕ) → a ≡ b → a ∷ [] ≡ b ∷ []
same_one a b e = cc

same_two : (a b c d : ℕ) → a ≡ c → b ≡ d → a ∷ b ∷ [] ≡ c ∷ d ∷ []
same_two a b c d e f = cc

same_three : (a b c x y z : ℕ) → a ≡ x → b ≡ y → c ≡ z → a ∷ b ∷ c ∷ [] ≡ x ∷ y ∷ z ∷ []
same_three a b c x y z e f g = cc

same_four : (a b c d x y z w : ℕ) → a ≡ x → b ≡ y → c ≡ z → d ≡ w → a ∷ b ∷ c ∷ d ∷ [] ≡ x ∷ y ∷ z ∷ w ∷ []
same_four a b c d x y z w e f g h = cc

-- the character at an offset of the block of the first byte is spelled by that byte and those that
-- select the offset
abbrev Spelled : ℕ → Lead → Type 0
Spelled b l = (o : ℕ) → o < size l.left → l.floor ≤ l.start + o → encode_utf8 (l.start + o) ≡ b ∷ tail_of l.left o

spelled_one : (b : ℕ) → b < 0x80 → Spelled b (record { left = 0; start = b; floor = 0 })
spelled_one b lt o below floor = encode_one (b + o) (omega arith) ∙ same_one _ _ (omega arith)

spelled_two : (b : ℕ) → 0xC0 ≤ b → b < 0xE0 → Spelled b (record { left = 1; start = (b - 0xC0) * 64; floor = 0x80 })
spelled_two b ge lt o below floor = encode_two _ floor (omega arith) ∙ same_two _ _ _ _ (omega arith) (omega arith)

spelled_three : (b : ℕ) → 0xE0 ≤ b → b < 0xF0 → Spelled b (record { left = 2; start = (b - 0xE0) * 4096; floor = 0x800 })
spelled_three b ge lt o below floor = encode_three _ floor (omega arith) ∙ same_three _ _ _ _ _ _ (omega arith) (omega arith) (omega arith)

spelled_four : (b : ℕ) → 0xF0 ≤ b → b < 0xF8 → Spelled b (record { left = 3; start = (b - 0xF0) * 262144; floor = 0x1_0000 })
spelled_four b ge lt o below floor =
    encode_four _ floor ∙ same_four _ _ _ _ _ _ _ _ (omega arith) (omega arith) (omega arith) (omega arith)

-- the first bytes of each length
lead_one : (b : ℕ) → b < 0x80 → lead b ≡ Some (record { left = 0; start = b; floor = 0 })
lead_one b lt = cond-true _ _ _ (lt-ltb b 0x80 lt)

lead_two : (b : ℕ) → 0xC0 ≤ b → b < 0xE0 → lead b ≡ Some (record { left = 1; start = (b - 0xC0) * 64; floor = 0x80 })
lead_two b ge lt =
    cond-false _ _ _ (le-ltb b 0x80 (omega arith)) ∙ cond-false _ _ _ (le-ltb b 0xC0 ge) ∙ cond-true _ _ _ (lt-ltb b 0xE0 lt)

lead_three : (b : ℕ) → 0xE0 ≤ b → b < 0xF0 → lead b ≡ Some (record { left = 2; start = (b - 0xE0) * 4096; floor = 0x800 })
lead_three b ge lt =
    cond-false _ _ _ (le-ltb b 0x80 (omega arith)) ∙ cond-false _ _ _ (le-ltb b 0xC0 (omega arith))
    ∙ cond-false _ _ _ (le-ltb b 0xE0 ge) ∙ cond-true _ _ _ (lt-ltb b 0xF0 lt)

lead_four : (b : ℕ) → 0xF0 ≤ b → b < 0xF8 → lead b ≡ Some (record { left = 3; start = (b - 0xF0) * 262144; floor = 0x1_0000 })
lead_four b ge lt =
    cond-false _ _ _ (le-ltb b 0x80 (omega arith)) ∙ cond-false _ _ _ (le-ltb b 0xC0 (omega arith))
    ∙ cond-false _ _ _ (le-ltb b 0xE0 (omega arith)) ∙ cond-false _ _ _ (le-ltb b 0xF0 ge) ∙ cond-true _ _ _ (lt-ltb b 0xF8 lt)

pub lead_middle : (b : ℕ) → 0x80 ≤ b → b < 0xC0 → lead b ≡ None
lead_middle b ge lt = cond-false _ _ _ (le-ltb b 0x80 ge) ∙ cond-true _ _ _ (lt-ltb b 0xC0 lt)

lead_past : (b : ℕ) → 0xF8 ≤ b → lead b ≡ None
lead_past b ge =
    cond-false _ _ _ (le-ltb b 0x80 (omega arith)) ∙ cond-false _ _ _ (le-ltb b 0xC0 (omega arith))
    ∙ cond-false _ _ _ (le-ltb b 0xE0 (omega arith)) ∙ cond-false _ _ _ (le-ltb b 0xF0 (omega arith)) ∙ cond-false _ _ _ (le-ltb b 0xF8 ge)

-- a property of each first byte
module _ (P : ℕ → Lead → Type 0)
    (one : (b : ℕ) → b < 0x80 → P b (record { left = 0; start = b; floor = 0 }))
    (two : (b : ℕ) → 0xC0 ≤ b → b < 0xE0 → P b (record { left = 1; start = (b - 0xC0) * 64; floor = 0x80 }))
    (three : (b : ℕ) → 0xE0 ≤ b → b < 0xF0 → P b (record { left = 2; start = (b - 0xE0) * 4096; floor = 0x800 }))
    (four : (b : ℕ) → 0xF0 ≤ b → b < 0xF8 → P b (record { left = 3; start = (b - 0xF0) * 262144; floor = 0x1_0000 })) where
  pub at_leads : (b : ℕ) (l : Lead) → lead b ≡ Some l → P b l
  at_leads b l e =
      let with : (k : Lead) → lead b ≡ Some k → P b k → P b l = λ k f p. subst (P b) (same_Some k l (sym f ∙ e)) p in
      ⊎_elim (λ h. with _ (lead_one b h) (one b h))
      (λ h1. ⊎_elim (λ h. absurd (none-some l (sym (lead_middle b h1 h) ∙ e)))
      (λ h2. ⊎_elim (λ h. with _ (lead_two b h2 h) (two b h2 h))
      (λ h3. ⊎_elim (λ h. with _ (lead_three b h3 h) (three b h3 h))
      (λ h4. ⊎_elim (λ h. with _ (lead_four b h4 h) (four b h4 h))
      (λ h. absurd (none-some l (sym (lead_past b h) ∙ e)))
      (cases_lt b 0xF8)) (cases_lt b 0xF0)) (cases_lt b 0xE0)) (cases_lt b 0xC0)) (cases_lt b 0x80)

pub spelled_by_lead : (b : ℕ) (l : Lead) → lead b ≡ Some l → Spelled b l
spelled_by_lead = at_leads Spelled spelled_one spelled_two spelled_three spelled_four

pub left_bound : (b : ℕ) (l : Lead) → lead b ≡ Some l → l.left ≤ 3
left_bound = at_leads (λ b l. l.left ≤ 3) (λ b h. omega arith) (λ b g h. omega arith) (λ b g h. omega arith) (λ b g h. omega arith)

-- the first byte of a character, and its offset in that byte's block
pub record Begun (c : ℕ) : Type 0 where
  pub byte : ℕ
  pub by : Lead
  pub leads : lead byte ≡ Some by
  pub offset : ℕ
  pub below : offset < size by.left
  pub floor : by.floor ≤ c
  pub is : by.start + offset ≡ c

begun : (c : ℕ) → c < 0x11_0000 → Begun c
begun c small =
    ⊎_elim (λ h. record { byte = c; by = _; leads = lead_one c h; offset = 0; below = omega arith; floor = omega arith; is = omega arith })
    (λ h1. ⊎_elim (λ h. record { byte = 0xC0 + c / 64; by = _; leads = lead_two (0xC0 + c / 64) (omega arith) (omega arith); offset = c % 64; below = omega arith; floor = h1; is = omega arith })
    (λ h2. ⊎_elim (λ h. record { byte = 0xE0 + c / 4096; by = _; leads = lead_three (0xE0 + c / 4096) (omega arith) (omega arith); offset = c % 4096; below = omega arith; floor = h2; is = omega arith })
    (λ h3. record { byte = 0xF0 + c / 262144; by = _; leads = lead_four (0xF0 + c / 262144) (omega arith) (omega arith); offset = c % 262144; below = omega arith; floor = h3; is = omega arith })
    (cases_lt c 0x1_0000)) (cases_lt c 0x800)) (cases_lt c 0x80)

-- P may be replaced by a consequence of it
pub After-map : (P Q : ℕ → (ℕ → Bool) → Type 0) → ((n : ℕ) (f : ℕ → Bool) → P n f → Q n f) →
    (left : ℕ) (has : ℕ → Bool) (bs : List ℕ) → After P left has bs → After Q left has bs
After-map P Q g left has [] h = g left has h
After-map P Q g zero has (b ∷ bs) h = absurd h
After-map P Q g (suc n) has (b ∷ bs) h = (h.0, h.1, After-map P Q g n (after_byte n has b) bs h.2)

pub Reads-map : (P Q : ℕ → (ℕ → Bool) → Type 0) → ((n : ℕ) (f : ℕ → Bool) → P n f → Q n f) →
    (c : ℕ → Bool) (bs : List ℕ) → Reads P c bs → Reads Q c bs
Reads-map P Q g c [] h = absurd h
Reads-map P Q g c (b ∷ bs) h = (h.0, h.1, After-map P Q g h.0.left (after_lead c h.0) bs h.2)

-- a character of the class begins with the bytes, and k more end it
pub record BeginsChar (k : ℕ) (c : ℕ → Bool) (bs : List ℕ) : Type 0 where
  pub rest : List ℕ
  pub long : length rest ≡ k
  pub whole : IsCharOf c (bs ++ rest)

le_of_test : (a b : ℕ) → nat_le a b ≡ true → a ≤ b
le_of_test a b h = grind (arith, nat_tests)

pub BeginsChar-of_Reads : (c : ℕ → Bool) → IsOfScalars c → (k : ℕ) (bs : List ℕ) → Reads (IsOpenWith k) c bs → BeginsChar k c bs
BeginsChar-of_Reads c proper k [] h = absurd h
BeginsChar-of_Reads c proper k (b ∷ bs) h =
    let l = h.0 in
    let p = Picks-of_After k l.left (after_lead c l) bs (left_bound b l h.1) h.2 in
    let within : c (l.start + p.at) ≡ true = (and_parts (nat_le l.floor (l.start + p.at)) (c (l.start + p.at)) p.is).1 in
    let floor : l.floor ≤ l.start + p.at = le_of_test l.floor (l.start + p.at) (and_parts (nat_le l.floor (l.start + p.at)) (c (l.start + p.at)) p.is).0 in
    record {
      rest = p.rest;
      long = p.long;
      whole = record {
        char = l.start + p.at;
        scalar = proper (l.start + p.at) within;
        within = within;
        spelled = spelled_by_lead b l h.1 p.at p.below floor ∙ ap (λ t. b ∷ t) p.spelled;
      };
    }

small_scalar : (c : ℕ) → IsScalar c → c < 0x11_0000
small_scalar c h = grind (arith, nat_tests)

pub Reads-of_BeginsChar : (c : ℕ → Bool) (bs rest : List ℕ) → 0 < length bs → IsCharOf c (bs ++ rest) → Reads (IsOpenWith (length rest)) c bs
Reads-of_BeginsChar c [] rest some w = absurd (omega arith)
Reads-of_BeginsChar c (b ∷ bs) rest some w =
    let g = begun w.char (small_scalar w.char w.scalar) in
    let l = g.by in
    let floor : l.floor ≤ l.start + g.offset = omega (arith, g.floor, g.is) in
    let e : g.byte ∷ tail_of l.left g.offset ≡ b ∷ (bs ++ rest) =
    sym (spelled_by_lead g.byte l g.leads g.offset g.below floor) ∙ ap encode_utf8 g.is ∙ w.spelled in
    let first : g.byte ≡ b = cc in
    let tail : tail_of l.left g.offset ≡ bs ++ rest = cc in
    let within : c (l.start + g.offset) ≡ true = ap c g.is ∙ w.within in
    let has : after_lead c l g.offset ≡ true = and_from _ _ (le-leb l.floor (l.start + g.offset) floor) within in
    (l, ap lead (sym first) ∙ g.leads, After-of_tail l.left (after_lead c l) bs rest g.offset (left_bound g.byte l g.leads) g.below has tail)

pub open_of_whole : (n : ℕ) (f : ℕ → Bool) → IsWhole n f → IsOpenWith 0 n f
open_of_whole zero f h = (h.0, (0, omega arith, h.1))
open_of_whole (suc n) f h = absurd (omega (arith, h.0))

whole_of_open : (n : ℕ) (f : ℕ → Bool) → IsOpenWith 0 n f → IsWhole n f
whole_of_open zero f h = let e : h.1.0 ≡ 0 = omega (arith, h.1.1) in (h.0, ap f (sym e) ∙ h.1.2)
whole_of_open (suc n) f h = absurd (omega (arith, h.0))

not_empty : (c : ℕ → Bool) → IsCharOf c [] → ⊥
not_empty c w =
    let g = begun w.char (small_scalar w.char w.scalar) in
    let l = g.by in
    let e : g.byte ∷ tail_of l.left g.offset ≡ [] =
    sym (spelled_by_lead g.byte l g.leads g.offset g.below (omega (arith, g.floor, g.is))) ∙ ap encode_utf8 g.is ∙ w.spelled in
    cc

-- the bytes are a character of the class exactly if the automaton reads them to its end
pub chars_are_read : (c : ℕ → Bool) → IsOfScalars c → (bs : List ℕ) → IsCharOf c bs ↔ Reads IsWhole c bs
chars_are_read c proper bs = (
  λ w. Reads-map (IsOpenWith 0) IsWhole whole_of_open c bs (there bs w),
  λ h. let p = BeginsChar-of_Reads c proper 0 bs (Reads-map IsWhole (IsOpenWith 0) open_of_whole c bs h) in
      subst (IsCharOf c) (all bs p.rest p.long) p.whole,
)
  where
    there : (bs : List ℕ) → IsCharOf c bs → Reads (IsOpenWith 0) c bs
    there [] w = absurd (not_empty c w)
    there (b ∷ bs) w = Reads-of_BeginsChar c (b ∷ bs) [] (omega arith) (subst (IsCharOf c) (sym (append-nil (b ∷ bs))) w)

    all : (bs rest : List ℕ) → length rest ≡ 0 → bs ++ rest ≡ bs
    all bs [] e = append-nil bs
    all bs (x ∷ rest) e = absurd (omega arith)

-- the number of bytes that are left is a function of the bytes that are read
pub left_known : (left : ℕ) (has : ℕ → Bool) (bs : List ℕ) → After IsBegun left has bs →
    (k : ℕ) × (0 < k) × After (IsOpenWith k) left has bs
left_known left has [] h = (left, h.0, (refl, h.1))
left_known zero has (b ∷ bs) h = absurd h
left_known (suc n) has (b ∷ bs) h = let r = left_known n (after_byte n has b) bs h.2 in (r.0, r.1, (h.0, h.1, r.2))

-- The bytes begin a character of the class, and more bytes complete it, exactly if the automaton is
-- at a position with some offset after them.
pub beginnings_are_read : (c : ℕ → Bool) → IsOfScalars c → (bs : List ℕ) → IsBeginningOf c bs ↔ Reads IsBegun c bs
beginnings_are_read c proper bs = (
  λ w. Reads-map (IsOpenWith (length w.rest)) IsBegun (λ n f h. (omega (arith, h.0, w.unended), h.1)) c bs
      (Reads-of_BeginsChar c bs w.rest w.begun w.whole),
  λ h. back bs h,
)
  where
    back : (bs : List ℕ) → Reads IsBegun c bs → IsBeginningOf c bs
    back [] h = absurd h
    back (b ∷ bs) h =
        let r = left_known h.0.left (after_lead c h.0) bs h.2 in
        let p = BeginsChar-of_Reads c proper r.0 (b ∷ bs) (h.0, h.1, r.2) in
        record { rest = p.rest; whole = p.whole; begun = omega arith; unended = omega (arith, r.1, p.long) }
