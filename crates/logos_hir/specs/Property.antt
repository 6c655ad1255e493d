-- Sets that a pattern names.
use Rattle.std.specs.Prelude.{ℕ, Bool, ◌||◌, ◌==◌, List, Option, Some, None, if◌then◌else◌, codes, bytes_eq}
use Rattle.std.specs.Int.{is_in_range}
use Rattle.std.specs.Char.{is_ascii, is_ascii_alphanumeric, is_ascii_alphabetic, is_ascii_control, is_ascii_digit, is_ascii_graphic, is_ascii_lowercase, is_ascii_uppercase, is_ascii_hexdigit}
use Rattle.unicode.specs.Perl.{is_word_char, is_digit_char, is_space_char}
use Rattle.unicode.specs.Lookup.{by_name}
use Rattle.unicode.specs.Loose.{normalize}
use Rattle.unicode.specs.declared.sets.Set.{Set as PropertySet}
use Rattle.unicode.specs.declared.sets.Set.TheVariants.{Any, Assigned}
use Rattle.unicode.specs.declared.sets.Set.TheVariants as property
use Rattle.logos_hir.specs.declared.property.AsciiKind.{AsciiKind}
use Rattle.logos_hir.specs.declared.property.AsciiKind.TheVariants.{Alnum, Alpha, Ascii, Blank, Cntrl, Digit, Graph, Lower, Print, Punct, Space, Upper, Word, Xdigit}
use Rattle.logos_hir.specs.declared.property.PerlKind.{PerlKind}
use Rattle.logos_hir.specs.declared.property.PerlKind.TheVariants as perl
use Rattle.logos_hir.specs.Sets.{Set, difference}

-- The set of `[:alnum:]` and the other ASCII classes.
abbrev pub ascii_set : AsciiKind → Set
ascii_set Alnum = is_ascii_alphanumeric
ascii_set Alpha = is_ascii_alphabetic
ascii_set Ascii = is_ascii
ascii_set Blank = λ c. (c == 9) || (c == 32)
ascii_set Cntrl = is_ascii_control
ascii_set Digit = is_ascii_digit
ascii_set Graph = is_ascii_graphic
ascii_set Lower = is_ascii_lowercase
ascii_set Print = is_in_range 32 126
ascii_set Punct = difference is_ascii_graphic is_ascii_alphanumeric
ascii_set Space = λ c. is_in_range 9 13 c || (c == 32)
ascii_set Upper = is_ascii_uppercase
ascii_set Word = λ c. is_ascii_alphanumeric c || (c == 95)
ascii_set Xdigit = is_ascii_hexdigit

-- The class that the name in `[:name:]` denotes.
abbrev pub ascii_named : List ℕ → Option AsciiKind
ascii_named name =
    if bytes_eq name (codes "alnum") then Some Alnum
    else if bytes_eq name (codes "alpha") then Some Alpha
    else if bytes_eq name (codes "ascii") then Some Ascii
    else if bytes_eq name (codes "blank") then Some Blank
    else if bytes_eq name (codes "cntrl") then Some Cntrl
    else if bytes_eq name (codes "digit") then Some Digit
    else if bytes_eq name (codes "graph") then Some Graph
    else if bytes_eq name (codes "lower") then Some Lower
    else if bytes_eq name (codes "print") then Some Print
    else if bytes_eq name (codes "punct") then Some Punct
    else if bytes_eq name (codes "space") then Some Space
    else if bytes_eq name (codes "upper") then Some Upper
    else if bytes_eq name (codes "word") then Some Word
    else if bytes_eq name (codes "xdigit") then Some Xdigit
    else None

-- The set of `\d`, `\s` and `\w`, of characters or of bytes.
abbrev pub perl_set : PerlKind → Bool → Set
perl_set perl.Digit unicode = if unicode then is_digit_char else ascii_set Digit
perl_set perl.Space unicode = if unicode then is_space_char else ascii_set Space
perl_set perl.Word unicode = if unicode then is_word_char else ascii_set Word

-- The property that a normalized name denotes in `\p{name}`.
abbrev pub property_normalized : List ℕ → Option PropertySet
property_normalized name =
    if bytes_eq name (codes "any") then Some Any
    else if bytes_eq name (codes "ascii") then Some property.Ascii
    else if bytes_eq name (codes "assigned") then Some Assigned
    else by_name name

-- The property that the name in `\p{name}` denotes.
abbrev pub property_named : List ℕ → Option PropertySet
property_named name = property_normalized (normalize name)
