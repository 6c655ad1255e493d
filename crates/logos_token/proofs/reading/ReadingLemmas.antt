-- Invariants of reading a source, piece by piece.
use Rattle.std.proofs.Common.{◌≡◌, ℕ, ◌+◌, ◌<◌, ◌≤◌, max, List, [], ◌∷◌, ◌++◌, length, Some, arith, sym, ◌∙◌, ap, refl, append_assoc}
use Rattle.std.proofs.lemmas.List.{append-nil, length_push}
use Rattle.logos_lexeme.specs.declared.lexeme.Span.{Span}
use Rattle.logos_lexeme.specs.declared.lexeme.Delimiter.{Delimiter}
use Rattle.logos_lexeme.specs.declared.lexeme.LexemeKind.{LexemeKind}
use Rattle.logos_lexeme.specs.declared.lexeme.LexemeKind.TheVariants.{Gap, Opening, Closing}
use Rattle.logos_lexeme.specs.declared.lexeme.LexicalKind.TheVariants.{Unbalanced}
use Rattle.logos_token.specs.declared.token.reader.OpenGroup.{OpenGroup}
use Rattle.logos_token.specs.Tokens.{Token, TokenList, none, also, append, depth_of}
use Rattle.logos_token.specs.Flat.{EntryValue, group_entry, flat, flat_token}
use Rattle.logos_lexeme.specs.Lexemes.{IsNext}
use Rattle.logos_token.specs.Spelling.{Piece, leaf, opens, lexeme_of, seen, lexemes, token_lexemes, opened, most_open, Spells, IsFront, IsUnreadable, unmatched, IsTooDeep}
use Rattle.logos_token.specs.inside.Reading.{Frame, frame_lexemes, frame_entries, frame_spots, AreOpenings, IsRead}
use Rattle.logos_token.proofs.reading.FlatLemmas.{flat-append}
use Rattle.logos_token.proofs.reading.PieceLemmas.{Pieces-push, seen-append}
use Rattle.logos_token.proofs.reading.NestingLemmas.{opened-lexemes, opened-append, most_open-lexemes, most_open-append}

-- the open delimiters of groups that are begun
abbrev pub marks : List Frame → List (Delimiter × ℕ)
marks [] = []
marks (f ∷ frames) = (f.delimiter, f.span.from) ∷ marks frames

pub marks-length : (frames : List Frame) → length (frame_spots frames) ≡ length (marks frames)
marks-length [] = refl
marks-length (f ∷ frames) = length_push (frame_spots frames) (record { delimiter = f.delimiter; span = f.span; spot = length (frame_entries frames f.before) }) ∙ omega (arith, marks-length frames)

pub frames-opened : (frames : List Frame) (current : TokenList) → opened [] (frame_lexemes frames current) ≡ Some (marks frames)
frames-opened [] current = ap (opened []) (sym (append-nil (lexemes current))) ∙ opened-lexemes current [] []
frames-opened (f ∷ frames) current =
    opened-append (frame_lexemes frames f.before) (opens f.delimiter f.span.from ∷ lexemes current) [] (marks frames) (frames-opened frames f.before)
    ∙ ap (opened ((f.delimiter, f.span.from) ∷ marks frames)) (sym (append-nil (lexemes current))) ∙ opened-lexemes current ((f.delimiter, f.span.from) ∷ marks frames) []

pub lexemes-append : (front back : TokenList) → lexemes (append front back) ≡ lexemes front ++ lexemes back
lexemes-append none back = refl
lexemes-append (also token rest) back = ap (λ ls. token_lexemes token ++ ls) (lexemes-append rest back) ∙ sym (append_assoc (token_lexemes token) (lexemes rest) (lexemes back))

pub frame_lexemes-append : (frames : List Frame) (front back : TokenList) → frame_lexemes frames (append front back) ≡ frame_lexemes frames front ++ lexemes back
frame_lexemes-append [] front back = lexemes-append front back
frame_lexemes-append (f ∷ frames) front back =
    ap (λ ls. frame_lexemes frames f.before ++ opens f.delimiter f.span.from ∷ ls) (lexemes-append front back)
    ∙ sym (append_assoc (frame_lexemes frames f.before) (opens f.delimiter f.span.from ∷ lexemes front) (lexemes back))

pub frame_entries-append : (frames : List Frame) (front back : TokenList) → frame_entries frames (append front back) ≡ frame_entries frames front ++ flat back
frame_entries-append [] front back = flat-append front back
frame_entries-append (f ∷ frames) front back =
    ap (λ es. frame_entries frames f.before ++ group_entry f.delimiter f.span 0 ∷ es) (flat-append front back)
    ∙ sym (append_assoc (frame_entries frames f.before) (group_entry f.delimiter f.span 0 ∷ flat front) (flat back))

module _ (bytes : List ℕ) (to : ℕ) (entries : List EntryValue) (begun : List OpenGroup) (r : IsRead bytes to entries begun) where
  pub read-opened : opened [] (seen bytes r.pieces) ≡ Some (marks r.frames)
  read-opened = ap (opened []) (sym r.nested) ∙ frames-opened r.frames r.current

  pub read-front : IsFront bytes to (marks r.frames)
  read-front = record { pieces = r.pieces; filled = r.filled; nested = read-opened; shallow = r.shallow }

  pub read-count : length (marks r.frames) ≡ length begun
  read-count = sym (marks-length r.frames) ∙ ap length r.spots

  pub read-shallow : length (marks r.frames) ≤ 128
  read-shallow =
      let e : most_open 0 (seen bytes r.pieces) ≡ max (most_open 0 (seen bytes r.pieces)) (length (marks r.frames)) = ap (most_open 0) (sym (append-nil (seen bytes r.pieces))) ∙ most_open-append (seen bytes r.pieces) [] [] (marks r.frames) read-opened in
      let s = r.shallow in
      omega arith

-- one piece more
module _ (bytes : List ℕ) (kind : LexemeKind) (span : Span) (entries : List EntryValue) (begun : List OpenGroup) (r : IsRead bytes span.from entries begun) (next : IsNext bytes span.from kind span.to) where
  pub read-more : (frames : List Frame) (current : TokenList) → AreOpenings bytes frames → frame_lexemes frames current ≡ frame_lexemes r.frames r.current ++ lexeme_of bytes kind span →
      most_open (length (marks r.frames)) (lexeme_of bytes kind span) ≤ 128 → IsRead bytes span.to (frame_entries frames current) (frame_spots frames)
  read-more frames current openings nested shallow =
      let piece : Piece = record { kind = kind; span = span } in
      let more : seen bytes (r.pieces ++ piece ∷ []) ≡ seen bytes r.pieces ++ lexeme_of bytes kind span = seen-append bytes r.pieces (piece ∷ []) ∙ ap (λ ls. seen bytes r.pieces ++ ls) (append-nil (lexeme_of bytes kind span)) in
      let most = most_open-append (seen bytes r.pieces) (lexeme_of bytes kind span) [] (marks r.frames) (read-opened bytes span.from entries begun r) in
      let s = r.shallow in
      record {
        pieces = r.pieces ++ piece ∷ [];
        filled = Pieces-push bytes 0 r.pieces span.from kind span r.filled refl next;
        shallow = rw more (omega arith);
        frames = frames;
        current = current;
        openings = openings;
        nested = nested ∙ ap (λ ls. ls ++ lexeme_of bytes kind span) r.nested ∙ sym more;
        held = refl;
        spots = refl;
      }

pub read-gap : (bytes : List ℕ) (span : Span) (entries : List EntryValue) (begun : List OpenGroup) → IsRead bytes span.from entries begun → IsNext bytes span.from Gap span.to → IsRead bytes span.to entries begun
read-gap bytes span entries begun r next =
    let more = read-more bytes Gap span entries begun r next r.frames r.current r.openings (sym (append-nil (frame_lexemes r.frames r.current))) (read-shallow bytes span.from entries begun r) in
    rw (r.held, r.spots) at more

-- a token without others inside
pub read-leaf : (bytes : List ℕ) (kind : LexemeKind) (span : Span) (entries : List EntryValue) (begun : List OpenGroup) (token : Token) (value : EntryValue) → IsRead bytes span.from entries begun → IsNext bytes span.from kind span.to →
    lexeme_of bytes kind span ≡ leaf token ∷ [] → token_lexemes token ≡ leaf token ∷ [] → flat_token token ≡ value ∷ [] → IsRead bytes span.to (entries ++ value ∷ []) begun
read-leaf bytes kind span entries begun token value r next is lexeme entry =
    let new : TokenList = also token none in
    let nested : frame_lexemes r.frames (append r.current new) ≡ frame_lexemes r.frames r.current ++ lexeme_of bytes kind span =
    frame_lexemes-append r.frames r.current new ∙ ap (λ ls. frame_lexemes r.frames r.current ++ ls) (append-nil (token_lexemes token) ∙ lexeme ∙ sym is) in
    let most : most_open (length (marks r.frames)) (lexeme_of bytes kind span) ≤ 128 = rw is (read-shallow bytes span.from entries begun r) in
    let more = read-more bytes kind span entries begun r next r.frames (append r.current new) r.openings nested most in
    let held : frame_entries r.frames (append r.current new) ≡ entries ++ value ∷ [] =
    frame_entries-append r.frames r.current new ∙ ap (λ es. es ++ (flat_token token ++ [])) r.held ∙ ap (λ es. entries ++ es) (append-nil (flat_token token) ∙ entry) in
    rw (held, r.spots) at more

pub read-opening : (bytes : List ℕ) (delimiter : Delimiter) (span : Span) (entries : List EntryValue) (begun : List OpenGroup) (spot : ℕ) → IsRead bytes span.from entries begun → IsNext bytes span.from (Opening delimiter) span.to →
    length begun < 128 → length entries ≡ spot → IsRead bytes span.to (entries ++ group_entry delimiter span 0 ∷ []) (begun ++ (record { delimiter = delimiter; span = span; spot = spot }) ∷ [])
read-opening bytes delimiter span entries begun spot r next room is =
    let frame : Frame = record { before = r.current; delimiter = delimiter; span = span } in
    let count = read-count bytes span.from entries begun r in
    let more = read-more bytes (Opening delimiter) span entries begun r next (frame ∷ r.frames) none (next, r.openings) refl (omega arith) in
    rw (r.held, r.spots, is) at more

pub read-too_deep : (bytes : List ℕ) (delimiter : Delimiter) (span : Span) (entries : List EntryValue) (begun : List OpenGroup) → IsRead bytes span.from entries begun → IsNext bytes span.from (Opening delimiter) span.to →
    128 ≤ length begun → IsTooDeep bytes span
read-too_deep bytes delimiter span entries begun r next full =
    let count = read-count bytes span.from entries begun r in
    let shallow = read-shallow bytes span.from entries begun r in
    record { around = marks r.frames; delimiter = delimiter; front = read-front bytes span.from entries begun r; full = omega arith; piece = next }

-- nothing is read
pub read-start : (bytes : List ℕ) → IsRead bytes 0 [] []
read-start bytes = record { pieces = []; filled = refl; shallow = omega arith; frames = []; current = none; openings = tt; nested = refl; held = refl; spots = refl }

-- no group is begun
no-frames : (frames : List Frame) → frame_spots frames ≡ [] → frames ≡ []
no-frames [] e = refl
no-frames (f ∷ frames) e = absurd (let n = length_push (frame_spots frames) (record { delimiter = f.delimiter; span = f.span; spot = length (frame_entries frames f.before) }) in let m = ap length e in omega arith)

-- a closing delimiter where no group is begun
pub read-unmatched : (bytes : List ℕ) (delimiter : Delimiter) (span : Span) (entries : List EntryValue) → IsRead bytes span.from entries [] → IsNext bytes span.from (Closing delimiter) span.to → IsUnreadable bytes Unbalanced span
read-unmatched bytes delimiter span entries r next =
    let is = no-frames r.frames r.spots in
    unmatched (record { around = marks r.frames; delimiter = delimiter; front = read-front bytes span.from entries [] r; piece = next; apart = rw is refl })

-- the tokens of a source that is read to its end, with no group begun
pub record IsWhole (bytes : List ℕ) (entries : List EntryValue) : Type 0 where
  pub tokens : TokenList
  pub is : flat tokens ≡ entries
  pub spells : Spells bytes tokens
  pub shallow : depth_of tokens ≤ 128

pub read-whole : (bytes : List ℕ) (entries : List EntryValue) → IsRead bytes (length bytes) entries [] → IsWhole bytes entries
read-whole bytes entries r =
    let is = no-frames r.frames r.spots in
    let nested : lexemes r.current ≡ seen bytes r.pieces = ap (λ fs. frame_lexemes fs r.current) (sym is) ∙ r.nested in
    let depth : max (0 + depth_of r.current) 0 ≡ most_open 0 (seen bytes r.pieces) = sym (most_open-lexemes r.current 0 []) ∙ ap (most_open 0) (append-nil (lexemes r.current) ∙ nested) in
    let shallow = r.shallow in
    record {
      tokens = r.current;
      is = ap (λ fs. frame_entries fs r.current) (sym is) ∙ r.held;
      spells = record { pieces = r.pieces; filled = r.filled; nested = nested };
      shallow = omega arith;
    }
