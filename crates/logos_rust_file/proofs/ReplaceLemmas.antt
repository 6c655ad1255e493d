-- Parts of a text in turn.
use Rattle.std.proofs.Common.{◌≡◌, ◌≤◌, ◌<◌, ◌+◌, ℕ, suc, List, [], ◌∷◌, ◌++◌, append_assoc, length, get_or, drop, map, slice_range, string_bytes, sym, ap, ◌∙◌, arith, subst}
use Rattle.std.proofs.Math.Seq.{drop-cons}
use Rattle.logos_lexeme.specs.declared.lexeme.Span.{Span}
use Rattle.logos_rust_file.specs.declared.replacement.Replacement.{Replacement}
use Rattle.logos_rust_file.specs.Replacing.{AreInOrder, part_span, replaced}

next_part : (parts : List Replacement) (i : ℕ) (part : Replacement) → i < length parts → part ≡ get_or parts i part → drop i parts ≡ part ∷ drop (i + 1) parts
next_part parts i part l e =
    let k : suc i ≡ i + 1 = omega arith in
    drop-cons parts i part l ∙ ap (λ x. x ∷ drop (suc i) parts) (sym e) ∙ ap (λ n. part ∷ drop n parts) k

order_end : (from : ℕ) (spans : List Span) (to : ℕ) → AreInOrder from spans to → from ≤ to
order_end from [] to s = s
order_end from (span ∷ rest) to s = omega (arith, s.0, s.1, order_end span.to rest to s.2)

-- the next part follows this offset, and the others follow the part
pub record Next (from : ℕ) (part : Replacement) (rest : List Replacement) (to : ℕ) : Type 0 where
  pub after : from ≤ part.span.from
  pub inside : part.span.from ≤ to
  pub order : AreInOrder part.span.to (map part_span rest) to

pub order_next : (parts : List Replacement) (i : ℕ) (part : Replacement) (from to : ℕ) → i < length parts → part ≡ get_or parts i part → AreInOrder from (map part_span (drop i parts)) to →
    Next from part (drop (i + 1) parts) to
order_next parts i part from to l e s =
    let t = subst (λ list. AreInOrder from (map part_span list) to) (next_part parts i part l e) s in
    let h = order_end part.span.to (map part_span (drop (i + 1) parts)) to t.2 in
    record { after = t.0; inside = omega (arith, t.1, h); order = t.2 }

pub made_next : (bytes made : List ℕ) (from : ℕ) (parts : List Replacement) (i : ℕ) (part : Replacement) → i < length parts → part ≡ get_or parts i part →
    made ++ replaced bytes from (drop i parts) ≡ ((made ++ slice_range bytes from part.span.from) ++ string_bytes part.text) ++ replaced bytes part.span.to (drop (i + 1) parts)
made_next bytes made from parts i part l e =
    ap (λ list. made ++ replaced bytes from list) (next_part parts i part l e)
    ∙ sym (append_assoc made (slice_range bytes from part.span.from) (string_bytes part.text ++ replaced bytes part.span.to (drop (i + 1) parts)))
    ∙ sym (append_assoc (made ++ slice_range bytes from part.span.from) (string_bytes part.text) (replaced bytes part.span.to (drop (i + 1) parts)))
