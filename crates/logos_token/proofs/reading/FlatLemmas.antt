-- Tokens and their flat form determine each other.
use Rattle.std.proofs.Common.{◌≡◌, ℕ, zero, suc, ◌+◌, ◌-◌, ◌≤◌, List, ◌∷◌, ◌++◌, length, take, drop, arith, sym, ◌∙◌, ap, subst, refl, length-append, append_assoc}
use Rattle.std.proofs.Math.Seq.{take-append_seam, drop-append_seam}
use Rattle.logos_token.specs.Tokens.{identifier, punctuation, literal, doc, group, TokenList, none, also, append}
use Rattle.logos_lexeme.specs.declared.lexeme.Span.{Span}
use Rattle.logos_lexeme.specs.declared.lexeme.Delimiter.{Delimiter}
use Rattle.logos_token.specs.Flat.{EntryValue, group_entry, flat, flat_token, trees_of}

-- the tokens of the flat form of tokens are these tokens
pub trees-flat : (tokens : TokenList) (n : ℕ) → length (flat tokens) ≤ n → trees_of n (flat tokens) ≡ tokens
trees-flat none zero h = refl
trees-flat none (suc n) h = refl
trees-flat (also (identifier text span) rest) zero h = absurd (omega arith)
trees-flat (also (identifier text span) rest) (suc n) h = ap (also (identifier text span)) (trees-flat rest n (omega arith))
trees-flat (also (punctuation character spacing span) rest) zero h = absurd (omega arith)
trees-flat (also (punctuation character spacing span) rest) (suc n) h = ap (also (punctuation character spacing span)) (trees-flat rest n (omega arith))
trees-flat (also (literal text span) rest) zero h = absurd (omega arith)
trees-flat (also (literal text span) rest) (suc n) h = ap (also (literal text span)) (trees-flat rest n (omega arith))
trees-flat (also (doc text span) rest) zero h = absurd (omega arith)
trees-flat (also (doc text span) rest) (suc n) h = ap (also (doc text span)) (trees-flat rest n (omega arith))
trees-flat (also (group delimiter span inside) rest) zero h = absurd (omega arith)
trees-flat (also (group delimiter span inside) rest) (suc n) h =
    let size = length-append (flat inside) (flat rest) in
    rw (take-append_seam (flat inside) (flat rest), drop-append_seam (flat inside) (flat rest), trees-flat inside n (omega arith), trees-flat rest n (omega arith)) refl

pub tokens-from_flat : (tokens : TokenList) (entries : List EntryValue) → flat tokens ≡ entries → trees_of (length entries) entries ≡ tokens
tokens-from_flat tokens entries is = let P : List EntryValue → Type 0 = λ es. trees_of (length es) es ≡ tokens in subst P is (trees-flat tokens (length (flat tokens)) (omega arith))

pub flat-from_flat : (tokens : TokenList) (entries : List EntryValue) → flat tokens ≡ entries → flat (trees_of (length entries) entries) ≡ entries
flat-from_flat tokens entries is = ap flat (tokens-from_flat tokens entries is) ∙ is

-- a group's entry, in front of those inside it and of those after it
pub record OpensRun (delimiter : Delimiter) (span : Span) (size : ℕ) (entries : List EntryValue) : Type 0 where
  pub within : size ≤ length entries
  pub inside : flat (trees_of size (take size entries)) ≡ take size entries
  pub afterward : flat (trees_of (length entries - size) (drop size entries)) ≡ drop size entries
  pub tokens : trees_of (suc (length entries)) (group_entry delimiter span size ∷ entries) ≡ also (group delimiter span (trees_of size (take size entries))) (trees_of (length entries - size) (drop size entries))

module _ (delimiter : Delimiter) (span : Span) where
  opens-parts : (size : ℕ) (entries : List EntryValue) (inside afterward : TokenList) → length (flat inside) ≡ size → flat inside ++ flat afterward ≡ entries →
      trees_of (length entries) (take size entries) ≡ inside → trees_of (length entries) (drop size entries) ≡ afterward → OpensRun delimiter span size entries
  opens-parts size entries inside afterward size-is entries-is inside-is afterward-is =
      let front : take size entries ≡ flat inside = rw (← entries-is, ← size-is) (take-append_seam (flat inside) (flat afterward)) in
      let back : drop size entries ≡ flat afterward = rw (← entries-is, ← size-is) (drop-append_seam (flat inside) (flat afterward)) in
      let whole : length (flat inside) + length (flat afterward) ≡ length entries = rw (← entries-is) (sym (length-append (flat inside) (flat afterward))) in
      let first : trees_of size (take size entries) ≡ inside = rw front (trees-flat inside size (omega arith)) in
      let rest : trees_of (length entries - size) (drop size entries) ≡ afterward = rw back (trees-flat afterward (length entries - size) (omega arith)) in
      record {
        within = omega arith;
        inside = rw (first, front) refl;
        afterward = rw (rest, back) refl;
        tokens = rw (first, rest, inside-is, afterward-is) refl;
      }

  pub opens-run : (size : ℕ) (entries : List EntryValue) → flat (trees_of (suc (length entries)) (group_entry delimiter span size ∷ entries)) ≡ group_entry delimiter span size ∷ entries → OpensRun delimiter span size entries
  opens-run size entries is =
      opens-parts size entries (trees_of (length entries) (take size entries)) (trees_of (length entries) (drop size entries)) (cc) (cc) refl refl

pub flat-append : (front back : TokenList) → flat (append front back) ≡ flat front ++ flat back
flat-append none back = refl
flat-append (also token rest) back = ap (λ es. flat_token token ++ es) (flat-append rest back) ∙ sym (append_assoc (flat_token token) (flat rest) (flat back))
