-- Invariants that hold while a source is read.
use Rattle.std.specs.Prelude.{◌≡◌, ℕ, ◌≤◌, List, [], ◌∷◌, ◌++◌, map, length, Result, IfOk, IfErr, OnOk}
use Rattle.logos_lexeme.specs.declared.lexeme.Span.{Span}
use Rattle.logos_lexeme.specs.declared.lexeme.Delimiter.{Delimiter}
use Rattle.logos_lexeme.specs.declared.lexeme.LexemeKind.{LexemeKind}
use Rattle.logos_lexeme.specs.declared.lexeme.LexemeKind.TheVariants.{Opening}
use Rattle.logos_token.specs.declared.token.entry.Entry.{Entry}
use Rattle.logos_token.specs.declared.token.reader.TokenError.{TokenError}
use Rattle.logos_token.specs.declared.token.views.TokenStream.{TokenStream}
use Rattle.logos_token.specs.declared.token.reader.OpenGroup.{OpenGroup}
use Rattle.logos_token.specs.Tokens.{TokenList, depth_of}
use Rattle.logos_token.specs.Flat.{EntryValue, group_entry, flat, value_of}
use Rattle.logos_lexeme.specs.Lexemes.{IsNext}
use Rattle.logos_token.specs.Spelling.{Piece, Pieces, Lexeme, opens, lexemes, seen, most_open, Spells}
use Rattle.logos_token.specs.Refusals.{IsRefusal}
use Rattle.logos_token.specs.Views.{stream_tokens}

-- A group that is open: the tokens before it, and its opening delimiter.
pub record Frame : Type 0 where
  pub before : TokenList
  pub delimiter : Delimiter
  pub span : Span

-- The lexemes of the groups that are open, innermost first, and of the tokens after them.
abbrev pub frame_lexemes : List Frame → TokenList → List Lexeme
frame_lexemes [] current = lexemes current
frame_lexemes (f ∷ frames) current = frame_lexemes frames f.before ++ opens f.delimiter f.span.from ∷ lexemes current

-- The entries of the open groups, which do not count their entries yet.
abbrev pub frame_entries : List Frame → TokenList → List EntryValue
frame_entries [] current = flat current
frame_entries (f ∷ frames) current = frame_entries frames f.before ++ group_entry f.delimiter f.span 0 ∷ flat current

-- The indexes of the entries of the open groups, outermost first.
abbrev pub frame_spots : List Frame → List OpenGroup
frame_spots [] = []
frame_spots (f ∷ frames) = frame_spots frames ++ (record { delimiter = f.delimiter; span = f.span; spot = length (frame_entries frames f.before) }) ∷ []

-- The opening delimiter of each group is in the source.
abbrev pub AreOpenings : List ℕ → List Frame → Type 0
AreOpenings bytes [] = Unit {0}
AreOpenings bytes (f ∷ frames) = IsNext bytes f.span.from (Opening f.delimiter) f.span.to × AreOpenings bytes frames

-- The source is read up to `to` into these entries and these open groups.
pub record IsRead (bytes : List ℕ) (to : ℕ) (entries : List EntryValue) (begun : List OpenGroup) : Type 0 where
  pub pieces : List Piece
  pub filled : Pieces bytes 0 pieces to
  pub shallow : most_open 0 (seen bytes pieces) ≤ 128
  pub frames : List Frame
  pub current : TokenList
  pub openings : AreOpenings bytes frames
  pub nested : frame_lexemes frames current ≡ seen bytes pieces
  pub held : frame_entries frames current ≡ entries
  pub spots : frame_spots frames ≡ begun

-- Unless there is an error, another piece of this kind is read.
abbrev pub ReadsOn : LexemeKind → Span → (entries : List Entry) (open_groups : List OpenGroup) (next_entries : List Entry) (next_open : List OpenGroup) → Result (Unit {0}) TokenError → Type 0
ReadsOn kind span entries open_groups next_entries next_open result =
    (bytes : List ℕ) → IsNext bytes span.from kind span.to → IsRead bytes span.from (map value_of entries) open_groups → OnOk result (IsRead bytes span.to (map value_of next_entries) next_open)

-- An error describes why the source is refused.
abbrev pub RefusesAt : LexemeKind → Span → List Entry → List OpenGroup → Result (Unit {0}) TokenError → Type 0
RefusesAt kind span entries open_groups result =
    (bytes : List ℕ) → IsNext bytes span.from kind span.to → IsRead bytes span.from (map value_of entries) open_groups → IfErr result (IsRefusal bytes)

-- Unless there is an error, the source that was read to its end spells the tokens of the result.
abbrev pub SpellsAtEnd : List Entry → List OpenGroup → Result TokenStream TokenError → Type 0
SpellsAtEnd entries open_groups result =
    (bytes : List ℕ) → IsRead bytes (length bytes) (map value_of entries) open_groups → IfOk result (λ stream. Spells bytes (stream_tokens stream) × (depth_of (stream_tokens stream) ≤ 128))

-- An error at the end describes why the source is refused.
abbrev pub RefusesAtEnd : List Entry → List OpenGroup → Result TokenStream TokenError → Type 0
RefusesAtEnd entries open_groups result =
    (bytes : List ℕ) → IsRead bytes (length bytes) (map value_of entries) open_groups → IfErr result (IsRefusal bytes)
