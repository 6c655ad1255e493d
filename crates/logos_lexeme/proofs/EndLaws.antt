-- A lexeme or gap that opens at an offset ends after it, between characters, and at only one
-- offset.
use Rattle.std.proofs.Common.{◌≡◌, ◌≢◌, ℕ, ◌+◌, ◌-◌, ◌<◌, ◌≤◌, ◌⊎◌, inl, inr, Bool, true, false, cond, ◌&&◌, nat_eq, List, length, get_or, Option, Some, None, IsUtf8, MatchOption, refl, sym, ◌∙◌, ap, arith}
use Rattle.std.proofs.lemmas.Bool.{cases_lt, and_parts, eqb-true, false≢true}
use Rattle.std.proofs.lemmas.Str.{IsCharBoundary-end, IsCharBoundary-after_ascii}
use Rattle.std.proofs.Math.Nat.{eq-or-lt_of_le}
use Rattle.std.specs.Str.{IsCharBoundary}
use Rattle.unicode_ident.proofs.IdentLemmas.{is_xid_start-ascii}
use Rattle.logos_lexeme.specs.LexemeCharacters.{character, past, is_space, is_start, is_continuing}
use Rattle.logos_lexeme.specs.LexemeRuns.{Steps, here, step, Run, IsFirst, Passes}
use Rattle.logos_lexeme.specs.LexemeOpenings.{name_at, prefix_of}
use Rattle.logos_lexeme.specs.LexemeEnds.{IsLineEnd, IsPair, Closes, closed, opens, closes, inside, IsName, IsSuffix, has_base, Continues, letter, point, sign, InQuotes, escaped, plain, ReachesQuote, IsQuoted, IsRaw, IsCharacter, Ends}
use Rattle.logos_lexeme.specs.inside.CommentReads.{IsOnward}
use Rattle.logos_lexeme.specs.declared.lexeme.openings.Opening.{Opening}
use Rattle.logos_lexeme.specs.declared.lexeme.openings.Opening.TheVariants.{Space, Line, Block, Word, Number, Quotes, Raw, Apostrophes, Character, Single, Nothing}
use Rattle.logos_lexeme.proofs.CharacterLaws.{past-boundary, past-ascii, past-moves, inside_from_byte, character-end, boundary-after, boundary-before}
use Rattle.logos_lexeme.proofs.RunLaws.{Steps-keep, Steps-le, Until-one, Until-back, Until-step, Run-one, IsFirst-one}

-- steps have one end

pub Passes-one : (test : ℕ → Bool) (bytes : List ℕ) (at m n : ℕ) → Passes test bytes at m → Passes test bytes at n → m ≡ n
Passes-one test bytes at m n p q = p.moves ∙ sym q.moves

module _ (based : Bool) (bytes : List ℕ) where
  -- a sign and a point are ASCII, and end after one byte also where they continue an identifier
  one_after : (at n : ℕ) → Continues based bytes at n → get_or bytes at 0 < 128 → n ≡ at + 1
  one_after at n (letter p) h = p.moves ∙ past-ascii bytes at h
  one_after at n (point b e d m) h = m
  one_after at n (sign b e f d m) h = m

  sign_ascii : (at : ℕ) → (get_or bytes at 0 ≡ 43) ⊎ (get_or bytes at 0 ≡ 45) → get_or bytes at 0 < 128
  sign_ascii at (inl e) = omega arith
  sign_ascii at (inr e) = omega arith

  pub Continues-one : (at m n : ℕ) → Continues based bytes at m → Continues based bytes at n → m ≡ n
  Continues-one at m n (letter p) (letter q) = p.moves ∙ sym q.moves
  Continues-one at m n (letter p) (point b e d w) = p.moves ∙ past-ascii bytes at (omega arith) ∙ sym w
  Continues-one at m n (letter p) (sign b e f d w) = p.moves ∙ past-ascii bytes at (sign_ascii at f) ∙ sym w
  Continues-one at m n (point b e d w) g = w ∙ sym (one_after at n g (omega arith))
  Continues-one at m n (sign b e f d w) g = w ∙ sym (one_after at n g (sign_ascii at f))

  pub Continues-moves : (at n : ℕ) → Continues based bytes at n → at < n
  Continues-moves at n (letter p) = omega (arith, p.moves, past-moves bytes at)
  Continues-moves at n (point b e d w) = omega arith
  Continues-moves at n (sign b e f d w) = omega arith

module _ (quote : ℕ) (bytes : List ℕ) where
  pub InQuotes-one : (at m n : ℕ) → InQuotes quote bytes at m → InQuotes quote bytes at n → m ≡ n
  InQuotes-one at m n (escaped e v) (escaped f w) = v ∙ sym w
  InQuotes-one at m n (escaped e v) (plain i f g w) = absurd (f e)
  InQuotes-one at m n (plain i f g v) (escaped e w) = absurd (f e)
  InQuotes-one at m n (plain i e f v) (plain j g h w) = v ∙ sym w

  pub InQuotes-apart : quote ≢ 92 → (at next : ℕ) → get_or bytes at 0 ≡ quote → InQuotes quote bytes at next → ⊥
  InQuotes-apart other at next p (escaped e v) = other (sym p ∙ e)
  InQuotes-apart other at next p (plain i e f v) = f p

  pub InQuotes-moves : (at next : ℕ) → InQuotes quote bytes at next → at < next
  InQuotes-moves at next (escaped e v) = omega arith
  InQuotes-moves at next (plain i e f v) = omega arith

  pub quote-inside : 0 < quote → (at : ℕ) → get_or bytes at 0 ≡ quote → at < length bytes
  quote-inside visible at e = inside_from_byte bytes at (omega arith)

  -- from an offset with another byte the same quote is reached after it
  pub quote-on : (at next to : ℕ) → InQuotes quote bytes at next → ReachesQuote quote bytes next to → ReachesQuote quote bytes at to
  quote-on at next to s u = Until-step (InQuotes quote bytes) s u

  pub quote-back : quote ≢ 92 → (at next to : ℕ) → InQuotes quote bytes at next → ReachesQuote quote bytes at to → ReachesQuote quote bytes next to
  quote-back other at next to s u = Until-back (InQuotes quote bytes) InQuotes-one (λ i. get_or bytes i 0 ≡ quote) (InQuotes-apart other) s u

  pub quote-here : (at : ℕ) → get_or bytes at 0 ≡ quote → ReachesQuote quote bytes at at
  quote-here at e = record { steps = here; stop = e }

  -- and none at the end
  past_end : 0 < quote → (at to : ℕ) → Steps (InQuotes quote bytes) at to → get_or bytes to 0 ≡ quote → at < length bytes
  past_end visible at to here e = quote-inside visible at e
  past_end visible at to (step (escaped f v) r) e = inside_from_byte bytes at (omega arith)
  past_end visible at to (step (plain i f g v) r) e = i

  pub no_quote : 0 < quote → (at to : ℕ) → length bytes ≤ at → ReachesQuote quote bytes at to → ⊥
  no_quote visible at to end u = let l = past_end visible at to u.steps u.stop in omega arith

  pub IsQuoted-one : quote ≢ 92 → (body a b : ℕ) → IsQuoted quote bytes body a → IsQuoted quote bytes body b → a ≡ b
  IsQuoted-one other body a b p q = p.after ∙ ap (λ n. n + 1) (Until-one (InQuotes quote bytes) InQuotes-one (λ at. get_or bytes at 0 ≡ quote) (InQuotes-apart other) p.until q.until) ∙ sym q.after

module _ (bytes : List ℕ) where
  pub Closes-one : (depth at a b : ℕ) → Closes bytes depth at a → Closes bytes depth at b → a ≡ b
  Closes-one depth at a b closed closed = refl
  Closes-one depth at a b closed (opens h p q) = absurd (omega arith)
  Closes-one depth at a b closed (closes h p q) = absurd (omega arith)
  Closes-one depth at a b closed (inside h i f g q) = absurd (omega arith)
  Closes-one depth at a b (opens h p q) closed = absurd (omega arith)
  Closes-one depth at a b (opens h p q) (opens i r s) = Closes-one _ _ _ _ q s
  Closes-one depth at a b (opens h p q) (closes i r s) = absurd (let e = p.0 in let f = r.0 in omega arith)
  Closes-one depth at a b (opens h p q) (inside i j f g s) = absurd (f p)
  Closes-one depth at a b (closes h p q) closed = absurd (omega arith)
  Closes-one depth at a b (closes h p q) (opens i r s) = absurd (let e = p.0 in let f = r.0 in omega arith)
  Closes-one depth at a b (closes h p q) (closes i r s) = Closes-one _ _ _ _ q s
  Closes-one depth at a b (closes h p q) (inside i j f g s) = absurd (g p)
  Closes-one depth at a b (inside h i f g q) closed = absurd (omega arith)
  Closes-one depth at a b (inside h i f g q) (opens j r s) = absurd (f r)
  Closes-one depth at a b (inside h i f g q) (closes j r s) = absurd (g r)
  Closes-one depth at a b (inside h i f g q) (inside j k l m s) = Closes-one _ _ _ _ q s

  pub Closes-le : (depth at to : ℕ) → Closes bytes depth at to → at ≤ to
  Closes-le depth at to closed = omega arith
  Closes-le depth at to (opens h p q) = omega (arith, Closes-le _ _ _ q)
  Closes-le depth at to (closes h p q) = omega (arith, Closes-le _ _ _ q)
  Closes-le depth at to (inside h i f g q) = omega (arith, Closes-le _ _ _ q)

  no-more : (depth at to : ℕ) → Closes bytes depth at to → depth ≡ 0 → at ≡ to
  no-more depth at to closed e = refl
  no-more depth at to (opens h p q) e = absurd (omega arith)
  no-more depth at to (closes h p q) e = absurd (omega arith)
  no-more depth at to (inside h i f g q) e = absurd (omega arith)

  -- the slash that closes a comment
  pub Closes-slash : (depth at to : ℕ) → Closes bytes depth at to → 0 < depth → get_or bytes (to - 1) 0 ≡ 47
  Closes-slash depth at to closed h = absurd (omega arith)
  Closes-slash depth at to (opens h p q) _ = Closes-slash _ _ _ q (omega arith)
  Closes-slash depth at to (inside h i f g q) _ = Closes-slash _ _ _ q h
  Closes-slash depth at to (closes h p q) _ = elim (cases_lt 0 (depth - 1)) [
    | inl l ↦ Closes-slash _ _ _ q l
    | inr l ↦ let k : to - 1 ≡ at + 1 = omega (arith, no-more _ _ _ q (omega arith)) in rw k p.1
  ]

  -- each step into, inside and out of comments leads on to the same end
  back-opens : (depth at to : ℕ) → IsPair bytes at 47 42 → 0 < depth → Closes bytes depth at to → Closes bytes (depth + 1) (at + 2) to
  back-opens depth at to p h closed = absurd (omega arith)
  back-opens depth at to p h (opens i q r) = r
  back-opens depth at to p h (closes i q r) = absurd (let e = p.0 in let f = q.0 in omega arith)
  back-opens depth at to p h (inside i j f g r) = absurd (f p)

  back-closes : (depth at to : ℕ) → IsPair bytes at 42 47 → 0 < depth → Closes bytes depth at to → Closes bytes (depth - 1) (at + 2) to
  back-closes depth at to p h closed = absurd (omega arith)
  back-closes depth at to p h (opens i q r) = absurd (let e = p.0 in let f = q.0 in omega arith)
  back-closes depth at to p h (closes i q r) = r
  back-closes depth at to p h (inside i j f g r) = absurd (g p)

  back-inside : (depth at to : ℕ) → (IsPair bytes at 47 42 → ⊥) → (IsPair bytes at 42 47 → ⊥) → 0 < depth → Closes bytes depth at to → Closes bytes depth (at + 1) to
  back-inside depth at to f g h closed = absurd (omega arith)
  back-inside depth at to f g h (opens i q r) = absurd (f q)
  back-inside depth at to f g h (closes i q r) = absurd (g q)
  back-inside depth at to f g h (inside i j k l r) = r

  pub onward-opens : (depth at : ℕ) → 0 < depth → depth ≤ at + 1 → IsPair bytes at 47 42 → IsOnward bytes depth at (depth + 1) (at + 2)
  onward-opens depth at h shallow p = record {
    moves = omega arith;
    within = let e = p.1 in omega (arith, inside_from_byte bytes (at + 1) (omega arith));
    shallow = omega arith;
    on = λ to q. opens h p q;
    back = λ to q. back-opens depth at to p h q;
  }

  pub onward-closes : (depth at : ℕ) → 0 < depth → depth ≤ at + 1 → IsPair bytes at 42 47 → IsOnward bytes depth at (depth - 1) (at + 2)
  onward-closes depth at h shallow p = record {
    moves = omega arith;
    within = let e = p.1 in omega (arith, inside_from_byte bytes (at + 1) (omega arith));
    shallow = omega arith;
    on = λ to q. closes h p q;
    back = λ to q. back-closes depth at to p h q;
  }

  pub onward-inside : (depth at : ℕ) → 0 < depth → depth ≤ at + 1 → at < length bytes → (IsPair bytes at 47 42 → ⊥) → (IsPair bytes at 42 47 → ⊥) → IsOnward bytes depth at depth (at + 1)
  onward-inside depth at h shallow within f g = record {
    moves = omega arith;
    within = omega arith;
    shallow = omega arith;
    on = λ to q. inside h within f g q;
    back = λ to q. back-inside depth at to f g h q;
  }

  pub closed_at : (depth at : ℕ) → depth ≤ 0 → Closes bytes depth at at
  closed_at depth at h = let e : depth ≡ 0 = omega arith in rw e closed

  pub no_pair : (at first second : ℕ) → ((get_or bytes at 0 ≡ first) × (get_or bytes (at + 1) 0 ≡ second → ⊥)) ⊎ (get_or bytes at 0 ≡ first → ⊥) → IsPair bytes at first second → ⊥
  no_pair at first second (inl (e, f)) p = f p.1
  no_pair at first second (inr f) p = f p.0

-- where an identifier begins there is a character
is_start-nothing : is_start 0 ≡ false
unfolding is_start
is_start-nothing = rw (is_xid_start-ascii 0 (omega arith)) refl

starts_inside : (bytes : List ℕ) (at : ℕ) → is_start (character bytes at) ≡ true → at < length bytes
starts_inside bytes at e = elim (cases_lt at (length bytes)) [
  | inl l ↦ l
  | inr l ↦ absurd (false≢true (sym is_start-nothing ∙ ap is_start (sym (character-end bytes at l)) ∙ e))
]

-- the facts about the offset where the name of an identifier begins
pub record IsNameStart (bytes : List ℕ) (at name : ℕ) : Type 0 where
  pub after : at ≤ name
  pub begins : name < length bytes
  pub boundary : IsUtf8 bytes → IsCharBoundary bytes at → IsCharBoundary bytes name

name_cases : (p q : Bool) (a b name : ℕ) → cond p (Some a) (cond q (Some b) None) ≡ Some name → ((p ≡ true) × (name ≡ a)) ⊎ ((q ≡ true) × (name ≡ b))
name_cases true q a b name e = inl (refl, cc)
name_cases false true a b name e = inr (refl, cc)
name_cases false false a b name e = absurd (cc)

raw-start : (bytes : List ℕ) (at : ℕ) → ((nat_eq (get_or bytes at 0) 114 && nat_eq (get_or bytes (at + 1) 0) 35) && is_start (character bytes (at + 2))) ≡ true → IsNameStart bytes at (at + 2)
raw-start bytes at e =
    let both = and_parts (nat_eq (get_or bytes at 0) 114 && nat_eq (get_or bytes (at + 1) 0) 35) (is_start (character bytes (at + 2))) e in
    let two = and_parts (nat_eq (get_or bytes at 0) 114) (nat_eq (get_or bytes (at + 1) 0) 35) both.0 in
    let hash = eqb-true (get_or bytes (at + 1) 0) 35 two.1 in
    record {
      after = omega arith;
      begins = starts_inside bytes (at + 2) both.1;
      boundary = λ utf8 bound. let k : at + 1 + 1 ≡ at + 2 = omega arith in rw k at (IsCharBoundary-after_ascii bytes (at + 1) utf8 (inside_from_byte bytes (at + 1) (omega arith)) (omega arith));
    }

pub name_at-start : (bytes : List ℕ) (at name : ℕ) → name_at bytes at ≡ Some name → IsNameStart bytes at name
unfolding name_at
name_at-start bytes at name e = elim (name_cases _ _ (at + 2) at name e) [
  | inl (t, k) ↦ rw k (raw-start bytes at t)
  | inr (t, k) ↦ rw k (record { after = omega arith; begins = starts_inside bytes at t; boundary = λ utf8 bound. bound })
]

-- an identifier

abbrev Letters : List ℕ → ℕ → ℕ → Type 0
Letters bytes name to = Run (Passes is_continuing bytes) (past bytes name) to

module _ (test : ℕ → Bool) (bytes : List ℕ) where
  pub Passes-moves : (at next : ℕ) → Passes test bytes at next → at < next
  Passes-moves at next p = omega (arith, p.moves, past-moves bytes at)

  Passes-boundary : IsUtf8 bytes → (at next : ℕ) → IsCharBoundary bytes at → Passes test bytes at next → IsCharBoundary bytes next
  Passes-boundary utf8 at next bound p = rw p.moves (past-boundary bytes at utf8 bound p.inside)

  pub run-boundary : IsUtf8 bytes → (from to : ℕ) → IsCharBoundary bytes from → Run (Passes test bytes) from to → IsCharBoundary bytes to
  run-boundary utf8 from to bound run = Steps-keep (Passes test bytes) (IsCharBoundary bytes) (Passes-boundary utf8) run.steps bound

  pub run-le : (from to : ℕ) → Run (Passes test bytes) from to → from ≤ to
  run-le from to run = Steps-le (Passes test bytes) Passes-moves run.steps

  pub run-one : (from a b : ℕ) → Run (Passes test bytes) from a → Run (Passes test bytes) from b → a ≡ b
  run-one from a b p q = Run-one (Passes test bytes) (Passes-one test bytes) p q

module _ (bytes : List ℕ) (at : ℕ) where
  IsName-one_at : (name : Option ℕ) (a b : ℕ) → MatchOption name ⊥ (λ n. Letters bytes n a) → MatchOption name ⊥ (λ n. Letters bytes n b) → a ≡ b
  IsName-one_at None a b p q = absurd p
  IsName-one_at (Some n) a b p q = run-one is_continuing bytes (past bytes n) a b p q

  pub IsName-one : (a b : ℕ) → IsName bytes at a → IsName bytes at b → a ≡ b
  IsName-one a b p q = IsName-one_at (name_at bytes at) a b p q

  IsSuffix-one_at : (name : Option ℕ) (a b : ℕ) → MatchOption name (a ≡ at) (λ n. Letters bytes n a) → MatchOption name (b ≡ at) (λ n. Letters bytes n b) → a ≡ b
  IsSuffix-one_at None a b p q = p ∙ sym q
  IsSuffix-one_at (Some n) a b p q = run-one is_continuing bytes (past bytes n) a b p q

  pub IsSuffix-one : (a b : ℕ) → IsSuffix bytes at a → IsSuffix bytes at b → a ≡ b
  IsSuffix-one a b p q = IsSuffix-one_at (name_at bytes at) a b p q

  letters-after : (name to : ℕ) → IsNameStart bytes at name → Letters bytes name to → at < to
  letters-after name to start run = omega (arith, start.after, past-moves bytes name, run-le is_continuing bytes (past bytes name) to run)

  letters-boundary : IsUtf8 bytes → IsCharBoundary bytes at → (name to : ℕ) → IsNameStart bytes at name → Letters bytes name to → IsCharBoundary bytes to
  letters-boundary utf8 bound name to start run = run-boundary is_continuing bytes utf8 (past bytes name) to (past-boundary bytes name utf8 (start.boundary utf8 bound) start.begins) run

  name-after : (name : Option ℕ) → name_at bytes at ≡ name → (to : ℕ) → MatchOption name ⊥ (λ n. Letters bytes n to) → at < to
  name-after None e to p = absurd p
  name-after (Some n) e to p = letters-after n to (name_at-start bytes at n e) p

  pub IsName-after : (to : ℕ) → IsName bytes at to → at < to
  IsName-after to p = name-after (name_at bytes at) refl to p

  name-boundary : IsUtf8 bytes → IsCharBoundary bytes at → (name : Option ℕ) → name_at bytes at ≡ name → (to : ℕ) → MatchOption name ⊥ (λ n. Letters bytes n to) → IsCharBoundary bytes to
  name-boundary utf8 bound None e to p = absurd p
  name-boundary utf8 bound (Some n) e to p = letters-boundary utf8 bound n to (name_at-start bytes at n e) p

  pub IsName-boundary : IsUtf8 bytes → IsCharBoundary bytes at → (to : ℕ) → IsName bytes at to → IsCharBoundary bytes to
  IsName-boundary utf8 bound to p = name-boundary utf8 bound (name_at bytes at) refl to p

  suffix-le : (name : Option ℕ) → name_at bytes at ≡ name → (to : ℕ) → MatchOption name (to ≡ at) (λ n. Letters bytes n to) → at ≤ to
  suffix-le None e to p = omega arith
  suffix-le (Some n) e to p = omega (arith, letters-after n to (name_at-start bytes at n e) p)

  pub IsSuffix-le : (to : ℕ) → IsSuffix bytes at to → at ≤ to
  IsSuffix-le to p = suffix-le (name_at bytes at) refl to p

  suffix-boundary : IsUtf8 bytes → IsCharBoundary bytes at → (name : Option ℕ) → name_at bytes at ≡ name → (to : ℕ) → MatchOption name (to ≡ at) (λ n. Letters bytes n to) → IsCharBoundary bytes to
  suffix-boundary utf8 bound None e to p = rw p bound
  suffix-boundary utf8 bound (Some n) e to p = letters-boundary utf8 bound n to (name_at-start bytes at n e) p

  pub IsSuffix-boundary : IsUtf8 bytes → IsCharBoundary bytes at → (to : ℕ) → IsSuffix bytes at to → IsCharBoundary bytes to
  IsSuffix-boundary utf8 bound to p = suffix-boundary utf8 bound (name_at bytes at) refl to p

-- a lexeme that opens at an offset has one end

IsRaw-one : (count : ℕ) (bytes : List ℕ) (body a b : ℕ) → IsRaw count bytes body a → IsRaw count bytes body b → a ≡ b
IsRaw-one count bytes body a b p q = p.after ∙ ap (λ n. n + 1 + count) (IsFirst-one p.first q.first) ∙ sym q.after

quotes-one : (bytes : List ℕ) (body a b : ℕ) → IsQuoted 34 bytes body a → IsQuoted 34 bytes body b → a ≡ b
quotes-one bytes body a b p q = IsQuoted-one 34 bytes (λ e. omega arith) body a b p q

apostrophes-one : (bytes : List ℕ) (body a b : ℕ) → IsQuoted 39 bytes body a → IsQuoted 39 bytes body b → a ≡ b
apostrophes-one bytes body a b p q = IsQuoted-one 39 bytes (λ e. omega arith) body a b p q

number-one : (based : Bool) (bytes : List ℕ) (from a b : ℕ) → Run (Continues based bytes) from a → Run (Continues based bytes) from b → a ≡ b
number-one based bytes from a b p q = Run-one (Continues based bytes) (Continues-one based bytes) p q

character-one : (bytes : List ℕ) (from a b : ℕ) → IsCharacter bytes from a → IsCharacter bytes from b → a ≡ b
character-one bytes from a b p q = p.after ∙ sym q.after

same_spot : (n a b : ℕ) → a ≡ n → b ≡ n → a ≡ b
same_spot n a b p q = p ∙ sym q

line-one : (bytes : List ℕ) (from a b : ℕ) → IsFirst (IsLineEnd bytes) from a → IsFirst (IsLineEnd bytes) from b → a ≡ b
line-one bytes from a b p q = IsFirst-one p q

pub Ends-one : (bytes : List ℕ) (from : ℕ) (opening : Opening) (a b : ℕ) → Ends bytes from opening a → Ends bytes from opening b → a ≡ b
Ends-one bytes from Space a b p q = run-one is_space bytes (past bytes from) a b p q
Ends-one bytes from (Line kind) a b p q = line-one bytes (from + 2) a b p q
Ends-one bytes from (Block kind) a b p q = Closes-one bytes 1 (from + 2) a b p q
Ends-one bytes from Word a b p q = IsName-one bytes from a b p q
Ends-one bytes from Number a b p q = number-one (has_base bytes from) bytes (past bytes from) a b p q
Ends-one bytes from (Quotes content) a b p q = quotes-one bytes (from + prefix_of content + 1) a b p q
Ends-one bytes from (Raw content count) a b p q = IsRaw-one count bytes (from + prefix_of content + 1 + count + 1) a b p q
Ends-one bytes from (Apostrophes content) a b p q = apostrophes-one bytes (from + prefix_of content + 1) a b p q
Ends-one bytes from Character a b p q = character-one bytes from a b p q
Ends-one bytes from (Single kind) a b p q = same_spot (past bytes from) a b p q
Ends-one bytes from Nothing a b p q = absurd p

-- and after the offset

pub IsQuoted-after : (quote : ℕ) (bytes : List ℕ) (body to : ℕ) → IsQuoted quote bytes body to → body < to
IsQuoted-after quote bytes body to p = omega (arith, p.after, Steps-le (InQuotes quote bytes) (InQuotes-moves quote bytes) p.until.steps)

pub Ends-after : (bytes : List ℕ) (from : ℕ) (opening : Opening) (to : ℕ) → Ends bytes from opening to → from < to
Ends-after bytes from Space to p = omega (arith, past-moves bytes from, run-le is_space bytes (past bytes from) to p)
Ends-after bytes from (Line kind) to p = omega (arith, p.begun)
Ends-after bytes from (Block kind) to p = omega (arith, Closes-le bytes 1 (from + 2) to p)
Ends-after bytes from Word to p = IsName-after bytes from to p
Ends-after bytes from Number to p = omega (arith, past-moves bytes from, Steps-le (Continues (has_base bytes from) bytes) (Continues-moves (has_base bytes from) bytes) p.steps)
Ends-after bytes from (Quotes content) to p = omega (arith, IsQuoted-after 34 bytes (from + prefix_of content + 1) to p)
Ends-after bytes from (Raw content count) to p = omega (arith, p.after, p.first.begun)
Ends-after bytes from (Apostrophes content) to p = omega (arith, IsQuoted-after 39 bytes (from + prefix_of content + 1) to p)
Ends-after bytes from Character to p = omega (arith, p.after, past-moves bytes (from + 1))
Ends-after bytes from (Single kind) to p = omega (arith, past-moves bytes from)
Ends-after bytes from Nothing to p = absurd p

-- and between characters

module _ (bytes : List ℕ) (utf8 : IsUtf8 bytes) where
  line-boundary : (to : ℕ) → IsLineEnd bytes to → IsCharBoundary bytes to
  line-boundary to p = elim (eq-or-lt_of_le p.begun) [
    | inl e ↦ elim p.closes [
      | inl f ↦ rw (e ∙ f) (IsCharBoundary-end bytes)
      | inr f ↦ let g = rw (← e) at f in boundary-before bytes to (omega arith) (omega arith)
    ]
    | inr l ↦ let f = p.returns to (omega arith) l in boundary-before bytes to (omega arith) (omega arith)
  ]

  pub step-boundary : (based : Bool) (at next : ℕ) → IsCharBoundary bytes at → Continues based bytes at next → IsCharBoundary bytes next
  step-boundary based at next bound (letter p) = rw p.moves (past-boundary bytes at utf8 bound p.inside)
  step-boundary based at next bound (point b e d w) = boundary-after bytes utf8 at next (omega arith) (omega arith) w
  step-boundary based at next bound (sign b e (inl f) d w) = boundary-after bytes utf8 at next (omega arith) (omega arith) w
  step-boundary based at next bound (sign b e (inr f) d w) = boundary-after bytes utf8 at next (omega arith) (omega arith) w

  quoted-boundary : (quote body to : ℕ) → 0 < quote → quote < 128 → IsQuoted quote bytes body to → IsCharBoundary bytes to
  quoted-boundary quote body to low high p = let e = p.until.stop in boundary-after bytes utf8 p.quote_at to (omega arith) (omega arith) p.after

  raw-boundary : (count body to : ℕ) → IsRaw count bytes body to → IsCharBoundary bytes to
  raw-boundary count body to p = elim (cases_lt 0 count) [
    | inl l ↦ let e = p.first.holds.hashes (count - 1) (omega arith) in boundary-after bytes utf8 (p.quote_at + 1 + (count - 1)) to (omega arith) (omega arith) (omega (arith, p.after))
    | inr l ↦ let e = p.first.holds.quote in boundary-after bytes utf8 p.quote_at to (omega arith) (omega arith) (omega (arith, p.after))
  ]

  pub Ends-boundary : (from : ℕ) → from < length bytes → IsCharBoundary bytes from → (opening : Opening) (to : ℕ) → Ends bytes from opening to → IsCharBoundary bytes to
  Ends-boundary from within bound Space to p = run-boundary is_space bytes utf8 (past bytes from) to (past-boundary bytes from utf8 bound within) p
  Ends-boundary from within bound (Line kind) to p = line-boundary to p.holds
  Ends-boundary from within bound (Block kind) to p = let e = Closes-slash bytes 1 (from + 2) to p (omega arith) in boundary-after bytes utf8 (to - 1) to (omega arith) (omega arith) (omega (arith, Closes-le bytes 1 (from + 2) to p))
  Ends-boundary from within bound Word to p = IsName-boundary bytes from utf8 bound to p
  Ends-boundary from within bound Number to p = Steps-keep (Continues (has_base bytes from) bytes) (IsCharBoundary bytes) (step-boundary (has_base bytes from)) p.steps (past-boundary bytes from utf8 bound within)
  Ends-boundary from within bound (Quotes content) to p = quoted-boundary 34 (from + prefix_of content + 1) to (omega arith) (omega arith) p
  Ends-boundary from within bound (Raw content count) to p = raw-boundary count (from + prefix_of content + 1 + count + 1) to p
  Ends-boundary from within bound (Apostrophes content) to p = quoted-boundary 39 (from + prefix_of content + 1) to (omega arith) (omega arith) p
  Ends-boundary from within bound Character to p = let e = p.quote in boundary-after bytes utf8 (past bytes (from + 1)) to (omega arith) (omega arith) p.after
  Ends-boundary from within bound (Single kind) to p = rw p (past-boundary bytes from utf8 bound within)
  Ends-boundary from within bound Nothing to p = absurd p
