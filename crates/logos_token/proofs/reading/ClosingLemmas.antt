-- Invariants of reading a source, at closing delimiters and at the end.
use Rattle.std.proofs.Common.{◌≡◌, ℕ, ◌+◌, ◌-◌, ◌≤◌, false, List, [], ◌∷◌, ◌++◌, length, set, arith, sym, ◌∙◌, subst, ap, refl, append_assoc, length-append}
use Rattle.std.proofs.lemmas.List.{append-nil, same_from_push, set_at, length_push}
use Rattle.logos_lexeme.specs.declared.lexeme.Span.{Span}
use Rattle.logos_lexeme.specs.declared.lexeme.Delimiter.{Delimiter}
use Rattle.logos_lexeme.specs.declared.lexeme.Delimiter.TheVariants.{Parenthesis, Bracket, Brace}
use Rattle.logos_lexeme.specs.declared.lexeme.LexemeKind.TheVariants.{Opening, Closing}
use Rattle.logos_lexeme.specs.declared.lexeme.LexicalKind.TheVariants.{Unbalanced}
use Rattle.logos_token.specs.declared.token.reader.OpenGroup.{OpenGroup}
use Rattle.logos_token.specs.Tokens.{Token, group, none, also, append}
use Rattle.logos_token.specs.Flat.{EntryValue, group_entry, flat, flat_token}
use Rattle.logos_lexeme.specs.Lexemes.{IsNext}
use Rattle.logos_token.specs.Spelling.{opens, closes, lexemes, token_lexemes, is_partner, IsUnreadable, unmatched, unclosed}
use Rattle.logos_token.specs.inside.Reading.{Frame, frame_lexemes, frame_entries, frame_spots, AreOpenings, IsRead}
use Rattle.logos_token.proofs.reading.ReadingLemmas.{marks, frame_lexemes-append, frame_entries-append, read-front, read-shallow, read-more}

spot_of : Frame → List Frame → OpenGroup
spot_of f rest = record { delimiter = f.delimiter; span = f.span; spot = length (frame_entries rest f.before) }

-- the innermost group that is begun
record Innermost (frames : List Frame) (begun : List OpenGroup) (top : OpenGroup) : Type 0 where
  frame : Frame
  rest : List Frame
  is : frames ≡ frame ∷ rest
  spots : frame_spots rest ≡ begun
  is-top : spot_of frame rest ≡ top

innermost : (frames : List Frame) (begun : List OpenGroup) (top : OpenGroup) → frame_spots frames ≡ begun ++ top ∷ [] → Innermost frames begun top
unfolding spot_of
innermost [] begun top e = absurd (let n = length_push begun top in let m = ap length e in omega arith)
innermost (f ∷ rest) begun top e =
    let same = same_from_push (frame_spots rest) begun (spot_of f rest) top e in
    record { frame = f; rest = rest; is = refl; spots = same.0; is-top = same.1 }

module _ (bytes : List ℕ) (delimiter : Delimiter) (span : Span) (entries : List EntryValue) (begun : List OpenGroup) (top : OpenGroup) (r : IsRead bytes span.from entries (begun ++ top ∷ [])) where
  i : Innermost r.frames begun top
  i = innermost r.frames begun top r.spots

  top-delimiter : i.frame.delimiter ≡ top.delimiter
  unfolding spot_of
  top-delimiter = ap (λ b. b.delimiter) i.is-top

  top-span : i.frame.span ≡ top.span
  unfolding spot_of
  top-span = ap (λ b. b.span) i.is-top

  top-spot : length (frame_entries i.rest i.frame.before) ≡ top.spot
  unfolding spot_of
  top-spot = ap (λ b. b.spot) i.is-top

  held : frame_entries i.rest i.frame.before ++ group_entry i.frame.delimiter i.frame.span 0 ∷ flat r.current ≡ entries
  held = ap (λ fs. frame_entries fs r.current) (sym i.is) ∙ r.held

  pub top-within : top.spot + 1 ≤ length entries
  top-within =
      let e = ap length (sym held) ∙ length-append (frame_entries i.rest i.frame.before) (group_entry i.frame.delimiter i.frame.span 0 ∷ flat r.current) in
      let p = top-spot in
      omega arith

  top-size : length entries - top.spot - 1 ≡ length (flat r.current)
  top-size =
      let e = ap length (sym held) ∙ length-append (frame_entries i.rest i.frame.before) (group_entry i.frame.delimiter i.frame.span 0 ∷ flat r.current) in
      let p = top-spot in
      omega arith

  module _ (same : top.delimiter ≡ delimiter) (next : IsNext bytes span.from (Closing delimiter) span.to) where
    whole : Span
    whole = record { from = i.frame.span.from; to = span.to }

    abbrev closed : Token
    closed = group i.frame.delimiter (record { from = i.frame.span.from; to = span.to }) r.current

    closed-lexemes : frame_lexemes i.rest (append i.frame.before (also closed none)) ≡ frame_lexemes r.frames r.current ++ closes delimiter span.to ∷ []
    closed-lexemes =
        frame_lexemes-append i.rest i.frame.before (also closed none)
        ∙ ap (λ ls. frame_lexemes i.rest i.frame.before ++ ls) (append-nil (token_lexemes closed))
        ∙ sym (append_assoc (frame_lexemes i.rest i.frame.before) (opens i.frame.delimiter i.frame.span.from ∷ lexemes r.current) (closes i.frame.delimiter span.to ∷ []))
        ∙ ap (λ d. (frame_lexemes i.rest i.frame.before ++ opens i.frame.delimiter i.frame.span.from ∷ lexemes r.current) ++ closes d span.to ∷ []) (top-delimiter ∙ same)
        ∙ ap (λ fs. frame_lexemes fs r.current ++ closes delimiter span.to ∷ []) (sym i.is)

    closed-entries : frame_entries i.rest (append i.frame.before (also closed none)) ≡ set entries top.spot (group_entry delimiter (record { from = top.span.from; to = span.to }) (length entries - top.spot - 1))
    closed-entries =
        let front = frame_entries i.rest i.frame.before in
        let E : Delimiter → ℕ → ℕ → EntryValue = λ d from size. group_entry d (record { from = from; to = span.to }) size in
        frame_entries-append i.rest i.frame.before (also closed none)
        ∙ ap (λ es. front ++ es) (append-nil (flat_token closed))
        ∙ ap (λ d. front ++ E d i.frame.span.from (length (flat r.current)) ∷ flat r.current) (top-delimiter ∙ same)
        ∙ ap (λ s. front ++ E delimiter s.from (length (flat r.current)) ∷ flat r.current) top-span
        ∙ ap (λ n. front ++ E delimiter top.span.from n ∷ flat r.current) (sym top-size)
        ∙ sym (set_at front (group_entry i.frame.delimiter i.frame.span 0) (flat r.current) (E delimiter top.span.from (length entries - top.spot - 1)) top.spot top-spot)
        ∙ ap (λ es. set es top.spot (E delimiter top.span.from (length entries - top.spot - 1))) held

    pub read-closing : IsRead bytes span.to (set entries top.spot (group_entry delimiter (record { from = top.span.from; to = span.to }) (length entries - top.spot - 1))) begun
    read-closing =
        let shallow = read-shallow bytes span.from entries (begun ++ top ∷ []) r in
        let openings : AreOpenings bytes (i.frame ∷ i.rest) = rw i.is at r.openings in
        let more = read-more bytes (Closing delimiter) span entries (begun ++ top ∷ []) r next i.rest (append i.frame.before (also closed none)) openings.1 closed-lexemes (omega arith) in
        rw (closed-entries, i.spots) at more

is_partner-apart : (a b : Delimiter) → (a ≡ b → ⊥) → is_partner a b ≡ false
is_partner-apart Parenthesis Parenthesis h = absurd (h refl)
is_partner-apart Bracket Bracket h = absurd (h refl)
is_partner-apart Brace Brace h = absurd (h refl)
is_partner-apart Parenthesis Bracket h = refl
is_partner-apart Parenthesis Brace h = refl
is_partner-apart Bracket Parenthesis h = refl
is_partner-apart Bracket Brace h = refl
is_partner-apart Brace Parenthesis h = refl
is_partner-apart Brace Bracket h = refl

-- the open delimiters where this group is the innermost one
top-marks : (frames : List Frame) (begun : List OpenGroup) (top : OpenGroup) (n : Innermost frames begun top) → marks frames ≡ (top.delimiter, top.span.from) ∷ marks n.rest
unfolding spot_of
top-marks frames begun top n = ap marks n.is ∙ ap (λ b. (b.delimiter, b.span.from) ∷ marks n.rest) n.is-top

-- a closing delimiter that does not match the innermost group
pub read-apart : (bytes : List ℕ) (delimiter : Delimiter) (span : Span) (entries : List EntryValue) (begun : List OpenGroup) (top : OpenGroup) → IsRead bytes span.from entries (begun ++ top ∷ []) → (top.delimiter ≡ delimiter → ⊥) →
    IsNext bytes span.from (Closing delimiter) span.to → IsUnreadable bytes Unbalanced span
read-apart bytes delimiter span entries begun top r differs next =
    let n = innermost r.frames begun top r.spots in
    unmatched (record {
      around = marks r.frames;
      delimiter = delimiter;
      front = read-front bytes span.from entries (begun ++ top ∷ []) r;
      piece = next;
      apart = rw (top-marks r.frames begun top n, is_partner-apart top.delimiter delimiter differs) refl;
    })

-- a group that is begun at the end of the source
pub read-unclosed : (bytes : List ℕ) (entries : List EntryValue) (begun : List OpenGroup) (top : OpenGroup) → IsRead bytes (length bytes) entries (begun ++ top ∷ []) → IsUnreadable bytes Unbalanced top.span
unfolding spot_of
read-unclosed bytes entries begun top r =
    let n = innermost r.frames begun top r.spots in
    let openings : AreOpenings bytes (n.frame ∷ n.rest) = rw n.is at r.openings in
    let O : OpenGroup → Type 0 = λ b. IsNext bytes b.span.from (Opening b.delimiter) b.span.to in
    unclosed (record {
      around = marks n.rest;
      delimiter = top.delimiter;
      front = rw (top-marks r.frames begun top n) at (read-front bytes (length bytes) entries (begun ++ top ∷ []) r);
      piece = subst O n.is-top openings.0;
    })
