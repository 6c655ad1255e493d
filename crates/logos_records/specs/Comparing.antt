-- The JSON object for a comparison of two lexers.
use Rattle.std.specs.Prelude.{ℕ, Bool, List, ◌∷◌, ◌++◌, codes, option_map}
use Rattle.json.specs.Token.{Token, key}
use Rattle.logos_json.specs.Members.{bool_member, bytes_member, maybe_number, maybe_text, object}
use Rattle.logos_answers.specs.declared.difference.Finding.{Finding}

-- The finding of a lexer, as members: its leaf and its variant, which are null for an error, and
-- its text.
abbrev pub finding_members : Finding → List Token
finding_members finding =
    maybe_number (codes "leaf") finding.leaf ++ (maybe_text (codes "variant") (option_map (λ text. text.now) finding.variant) ++ bytes_member (codes "text") finding.bytes.now)

-- A member with the finding of a lexer.
abbrev pub finding_member : List ℕ → Finding → List Token
finding_member name finding = key name ∷ object (finding_members finding)

-- A member that states whether a lexer reads UTF-8.
abbrev pub mode_member : List ℕ → Bool → List Token
mode_member name is_utf8 = key name ∷ object (bool_member (codes "utf8") is_utf8)
