-- Members of objects.
use Rattle.std.specs.Prelude.{ℕ, List, [], ◌∷◌, ◌++◌, Bool, Option, Some, None, if◌then◌else◌, decimal}
use Rattle.std.specs.List.{flat_map}
use Rattle.std.specs.Str.{is_utf8}
use Rattle.json.specs.Token.{Token, begin_array, begin_object, boolean, end_array, end_object, key, null, number, string}

-- A member with a text.
abbrev pub text_member : List ℕ → List ℕ → List Token
text_member name text = key name ∷ string text ∷ []

-- A member with a number.
abbrev pub number_member : List ℕ → ℕ → List Token
number_member name value = key name ∷ number (decimal value) ∷ []

-- A member with a boolean.
abbrev pub bool_member : List ℕ → Bool → List Token
bool_member name value = key name ∷ boolean value ∷ []

-- A member with null.
abbrev pub null_member : List ℕ → List Token
null_member name = key name ∷ null ∷ []

-- A member with a list of these tokens.
abbrev pub list_member : List ℕ → List Token → List Token
list_member name items = key name ∷ begin_array ∷ (items ++ end_array ∷ [])

-- A byte as an element of a list.
abbrev pub byte_tokens : ℕ → List Token
byte_tokens byte = number (decimal byte) ∷ []

-- A member with bytes: a text, or a list of numbers if they are not UTF-8.
abbrev pub bytes_member : List ℕ → List ℕ → List Token
bytes_member name bytes = if is_utf8 bytes then text_member name bytes else list_member name (flat_map byte_tokens bytes)

-- A member with a text, or with null if there is none.
abbrev pub maybe_text : List ℕ → Option (List ℕ) → List Token
maybe_text name (Some text) = text_member name text
maybe_text name None = null_member name

-- A member with a number, or with null if there is none.
abbrev pub maybe_number : List ℕ → Option ℕ → List Token
maybe_number name (Some value) = number_member name value
maybe_number name None = null_member name

-- A member with bytes, or with null if there are none.
abbrev pub maybe_bytes : List ℕ → Option (List ℕ) → List Token
maybe_bytes name (Some bytes) = bytes_member name bytes
maybe_bytes name None = null_member name

-- An object with these members.
abbrev pub object : List Token → List Token
object members = begin_object ∷ (members ++ end_object ∷ [])
