-- The pieces of a run are its first piece and those of the rest after it.
use Rattle.std.proofs.Common.{◌≡◌, ◌==◌, if◌then◌else◌, ℕ, Bool, true, false, List, ◌∷◌, refl, sym, ◌∙◌, ap, subst, eqb-true}
use Rattle.logos_lexeme.specs.declared.lexeme.Span.{Span}
use Rattle.logos_lexeme.specs.declared.lexeme.Spacing.TheVariants.{Alone, Joint}
use Rattle.logos_token.specs.Tokens.{Token, TokenList, identifier, punctuation, literal, doc, group, none, also, rest_of}
use Rattle.logos_token.specs.Punctuation.{is_alone}
use Rattle.logos_attribute.specs.Pieces.{Piece, unnamed, named, unexpected, assigned, beside, grouped, keyed, comma, equals, name_token, up_to_comma, after_comma, pieces, after_name, after_group, after_keyword, through_comma, rest_after_piece, rest_after_name}
use Rattle.logos_attribute.specs.Slices.{Slice}
use Rattle.logos_laws.specs.readings.PiecesInTurn.{keyed_piece, named_piece, first_piece, ends_in_group, ArePieces, no_piece, one_more, with_group, AreAfterGroup, at_end, at_comma, at_other}

through_one : (piece : TokenList → Piece) (token : Token) (rest : TokenList) (b : Bool) → is_alone comma token ≡ b →
    through_comma (λ run. piece (also token run)) rest ≡ piece (also token (up_to_comma rest)) ∷ pieces (after_comma rest) →
    through_comma piece (also token rest) ≡ piece (up_to_comma (also token rest)) ∷ pieces (after_comma (also token rest))
through_one piece token rest true e h = rw e refl
through_one piece token rest false e h = rw e h

-- a piece up to the next comma
through_cut : (piece : TokenList → Piece) (run : TokenList) → through_comma piece run ≡ piece (up_to_comma run) ∷ pieces (after_comma run)
through_cut piece none = refl
through_cut piece (also token rest) = through_one piece token rest (is_alone comma token) refl (through_cut (λ run. piece (also token run)) rest)

number_apart : (c : ℕ) → (c == equals) ≡ true → (c == comma) ≡ false
number_apart c e = rw (eqb-true c equals e) refl

equals_apart : (token : Token) → is_alone equals token ≡ true → is_alone comma token ≡ false
equals_apart (identifier text span) e = refl
equals_apart (punctuation c Alone span) e = number_apart c e
equals_apart (punctuation c Joint span) e = refl
equals_apart (literal text span) e = refl
equals_apart (doc text span) e = refl
equals_apart (group delimiter span inside) e = refl

abbrev KeyedTurn : Slice → Slice → TokenList → Type 0
KeyedTurn keyword name rest = after_keyword keyword name rest ≡ keyed_piece keyword name rest ∷ pieces (after_comma (rest_of rest))

keyed_turn : (keyword name : Slice) (rest : TokenList) → KeyedTurn keyword name rest
keyed_turn keyword name none = refl
keyed_turn keyword name (also token rest) = go (is_alone equals token) (is_alone comma token) refl refl
  where
    go : (x y : Bool) → is_alone equals token ≡ x → is_alone comma token ≡ y → KeyedTurn keyword name (also token rest)
    go true y e f = rw e (through_cut (λ run. named keyword (keyed name run)) rest)
    go false true e f = rw (e, f) (through_cut (λ run. named keyword (keyed name run)) rest)
    go false false e f = rw (e, f) (through_cut (λ run. unexpected (also token run)) rest)

abbrev MarkTurn : Slice → Token → TokenList → Type 0
MarkTurn name token rest =
    (if is_alone equals token then through_comma (λ run. named name (assigned run)) rest
    else (if is_alone comma token then unnamed (also (name_token name) none) ∷ pieces rest
    else through_comma (λ run. unnamed (also (name_token name) (also token run))) rest))
    ≡ (if is_alone equals token then named name (assigned (up_to_comma rest)) else unnamed (also (name_token name) (up_to_comma (also token rest)))) ∷ pieces (after_comma (also token rest))

mark_turn : (name : Slice) (token : Token) (rest : TokenList) → MarkTurn name token rest
mark_turn name token rest = go (is_alone equals token) (is_alone comma token) refl refl
  where
    go : (x y : Bool) → is_alone equals token ≡ x → is_alone comma token ≡ y → MarkTurn name token rest
    go true y e f = rw (e, equals_apart token e) (through_cut (λ run. named name (assigned run)) rest)
    go false true e f = rw (e, f) refl
    go false false e f = rw (e, f) (through_cut (λ run. unnamed (also (name_token name) (also token run))) rest)

name_turn : (text : List ℕ) (span : Span) (rest : TokenList) → ends_in_group (identifier text span) rest ≡ false →
    after_name (record { text = text; span = span }) rest ≡ named_piece (record { text = text; span = span }) rest ∷ pieces (rest_after_name rest)
name_turn text span none e = refl
name_turn text span (also (identifier other at) rest) e = keyed_turn (record { text = text; span = span }) (record { text = other; span = at }) rest
name_turn text span (also (punctuation c spacing at) rest) e = mark_turn (record { text = text; span = span }) (punctuation c spacing at) rest
name_turn text span (also (literal other at) rest) e = through_cut (λ run. named (record { text = text; span = span }) (beside (record { text = other; span = at }))) rest
name_turn text span (also (doc other at) rest) e = mark_turn (record { text = text; span = span }) (doc other at) rest
name_turn text span (also (group delimiter at inside) rest) e = cc

-- the first piece, and those of the rest
turn : (first : Token) (rest : TokenList) → ends_in_group first rest ≡ false → pieces (also first rest) ≡ first_piece first rest ∷ pieces (rest_after_piece (also first rest))
turn (identifier text span) rest e = name_turn text span rest e
turn (punctuation c spacing span) rest e = through_cut (λ run. unnamed (also (punctuation c spacing span) run)) rest
turn (literal text span) rest e = through_cut (λ run. unnamed (also (literal text span) run)) rest
turn (doc text span) rest e = through_cut (λ run. unnamed (also (doc text span) run)) rest
turn (group delimiter span inside) rest e = through_cut (λ run. unnamed (also (group delimiter span inside) run)) rest

after_turn : (token : Token) (rest : TokenList) (x : Bool) → is_alone comma token ≡ x → ArePieces rest (pieces rest) → ArePieces (after_comma rest) (pieces (after_comma rest)) →
    AreAfterGroup (also token rest) (after_group (also token rest))
after_turn token rest true e h k = subst (AreAfterGroup (also token rest)) (rw e refl) (at_comma e h)
after_turn token rest false e h k = subst (AreAfterGroup (also token rest)) (rw e (sym (through_cut (λ run. unexpected (also token run)) rest))) (at_other e k)

by_turn : (first : Token) (rest : TokenList) → ends_in_group first rest ≡ false → ArePieces (rest_after_piece (also first rest)) (pieces (rest_after_piece (also first rest))) →
    ArePieces (also first rest) (pieces (also first rest))
by_turn first rest e h = subst (ArePieces (also first rest)) (sym (turn first rest e)) (one_more e h)

after_step : (token : Token) (rest : TokenList) (x : Bool) → is_alone comma token ≡ x → ArePieces rest (pieces rest) → ArePieces (after_comma rest) (pieces (after_comma rest)) →
    ArePieces (after_comma (also token rest)) (pieces (after_comma (also token rest)))
after_step token rest true e h k = rw e h
after_step token rest false e h k = rw e k

mutual
  pub are_pieces : (run : TokenList) → ArePieces run (pieces run)
  are_pieces none = no_piece
  are_pieces (also (identifier text span) rest) = named_pieces text span rest
  are_pieces (also (punctuation c spacing span) rest) = by_turn (punctuation c spacing span) rest refl (after_pieces rest)
  are_pieces (also (literal text span) rest) = by_turn (literal text span) rest refl (after_pieces rest)
  are_pieces (also (doc text span) rest) = by_turn (doc text span) rest refl (after_pieces rest)
  are_pieces (also (group delimiter span inside) rest) = by_turn (group delimiter span inside) rest refl (after_pieces rest)

  after_pieces : (run : TokenList) → ArePieces (after_comma run) (pieces (after_comma run))
  after_pieces none = no_piece
  after_pieces (also token rest) = after_step token rest (is_alone comma token) refl (are_pieces rest) (after_pieces rest)

  second_pieces : (run : TokenList) → ArePieces (after_comma (rest_of run)) (pieces (after_comma (rest_of run)))
  second_pieces none = no_piece
  second_pieces (also token rest) = after_pieces rest

  named_pieces : (text : List ℕ) (span : Span) (rest : TokenList) → ArePieces (also (identifier text span) rest) (pieces (also (identifier text span) rest))
  named_pieces text span none = by_turn (identifier text span) none refl no_piece
  named_pieces text span (also (identifier other at) rest) = by_turn (identifier text span) (also (identifier other at) rest) refl (second_pieces rest)
  named_pieces text span (also (punctuation c spacing at) rest) = by_turn (identifier text span) (also (punctuation c spacing at) rest) refl (after_step (punctuation c spacing at) rest (is_alone comma (punctuation c spacing at)) refl (are_pieces rest) (after_pieces rest))
  named_pieces text span (also (literal other at) rest) = by_turn (identifier text span) (also (literal other at) rest) refl (after_pieces rest)
  named_pieces text span (also (doc other at) rest) = by_turn (identifier text span) (also (doc other at) rest) refl (after_pieces rest)
  named_pieces text span (also (group delimiter at inside) rest) = with_group {name = record { text = text; span = span }} (group_pieces rest)

  group_pieces : (rest : TokenList) → AreAfterGroup rest (after_group rest)
  group_pieces none = at_end
  group_pieces (also token rest) = after_turn token rest (is_alone comma token) refl (are_pieces rest) (after_pieces rest)

mutual
  pub only_pieces : (run : TokenList) (list : List Piece) → ArePieces run list → list ≡ pieces run
  only_pieces run list no_piece = refl
  only_pieces run list (one_more {first = first} {rest = rest} {others = others} e h) =
      ap (λ (l : List Piece). first_piece first rest ∷ l) (only_pieces (rest_after_piece (also first rest)) others h) ∙ sym (turn first rest e)
  only_pieces run list (with_group {name = name} {inside = inside} {rest = rest} {others = others} h) = ap (λ (l : List Piece). named name (grouped inside) ∷ l) (only_group rest others h)

  only_group : (rest : TokenList) (list : List Piece) → AreAfterGroup rest list → list ≡ after_group rest
  only_group rest list at_end = refl
  only_group rest list (at_comma {token = token} {rest = others} e h) = rw e (only_pieces others list h)
  only_group rest list (at_other {token = token} {rest = others} {others = more} e h) =
      rw e (ap (λ (l : List Piece). unexpected (also token (up_to_comma others)) ∷ l) (only_pieces (after_comma others) more h) ∙ sym (through_cut (λ run. unexpected (also token run)) others))
