-- The help for a fault in a pattern, chosen by the detail of the fault.
use Rattle.std.specs.Prelude.{◌≡◌, ℕ, ◌==◌, ◌&&◌, ◌||◌, nat_lt, not, Bool, List, codes, Option, Some, if◌then◌else◌}
use Rattle.logos_token.specs.declared.error.detail.Detail.{Detail}
use Rattle.logos_token.specs.declared.error.detail.Detail.TheVariants.{Plain, Lexical, Pattern, ErrorArgument, Ambiguous}
use Rattle.logos_token.specs.declared.error.detail.PatternFront.{PatternFront}
use Rattle.logos_token.specs.declared.error.detail.PatternDetail.{PatternDetail}
use Rattle.logos_token.specs.declared.error.detail.PatternKind.{PatternKind}
use Rattle.logos_token.specs.declared.error.detail.PatternKind.TheVariants.{Unclosed, Unopened, NothingToRepeat, CountSyntax, CountOrder, CountTooLarge, FlagUnsupported, FlagSyntax, GroupSyntax, EscapeUnknown, HexSyntax, HexNotScalar, ClassRange, UnknownProperty, PropertyForm, NotInBytes, UnicodeWordBoundary, WordBoundaryForm}

-- The text begins with `(?` and this byte.
abbrev pub opens_with : PatternFront → ℕ → Bool
opens_with front third = ((front.first == 40) && (front.second == 63)) && (front.third == third)

-- The text begins with a backslash and this byte.
abbrev pub escapes : PatternFront → ℕ → Bool
escapes front second = (front.first == 92) && (front.second == second)

-- The byte is a digit, `0` to `9`.
abbrev pub is_digit : ℕ → Bool
is_digit byte = nat_lt 47 byte && nat_lt byte 58

-- The text begins with a backslash and one or two digits, of which the first is not `0`.
abbrev pub refers_back : PatternFront → Bool
refers_back front = ((front.first == 92) && (is_digit front.second && not (front.second == 48))) && not (is_digit front.third && is_digit front.fourth)

-- The text begins with `(?=` or `(?!`.
abbrev pub looks_ahead : PatternFront → Bool
looks_ahead front = opens_with front 61 || opens_with front 33

-- The text begins with `(?<=` or `(?<!`.
abbrev pub looks_back : PatternFront → Bool
looks_back front = opens_with front 60 && ((front.fourth == 61) || (front.fourth == 33))

abbrev pub reference_help : List ℕ
reference_help = codes "repeat the pattern of the group: there are no backreferences"

-- The help for a group that does not begin with a flag: `(?P=` refers back, and `(?#` is a comment.
abbrev pub flag_help : PatternFront → List ℕ
flag_help front =
    if opens_with front 80 && (front.fourth == 61) then reference_help
    else if opens_with front 35 then codes "remove the comment"
    else codes "write one of `i m s U u R`, as in `(?i)`, or `(?:..)` for a group"

-- The help for an escape that does not exist: `\k` and a number refer back, and `\h`, `\R`, `\Z`
-- and `\Q` are escapes of other languages of patterns.
abbrev pub escape_help : PatternFront → List ℕ
escape_help front =
    if escapes front 107 || refers_back front then reference_help
    else if escapes front 104 then codes "write `[ \\t]` for a blank"
    else if escapes front 82 then codes "write `\\r?\\n` for a line end"
    else if escapes front 90 then codes "write `\\z` for the end of the input"
    else if escapes front 81 then codes "write a backslash before each special character"
    else codes "write the character alone or by its number, as in `\\x1B`"

-- The help for a word boundary at this byte of a pattern.
abbrev pub boundary_help : ℕ → List ℕ
boundary_help at =
    if at == 0 then codes "remove it: a match begins where the previous one ended"
    else codes "write `(?-u:\\b)`, the boundary of ASCII words"

-- The help for a group that is neither plain nor named.
abbrev pub group_help : PatternFront → List ℕ
group_help front =
    if looks_ahead front || looks_back front then codes "write a longer pattern and a priority instead of look-around"
    else codes "write a name once, as in `(?<name>..)`, or `(?:..)` without one"

-- The help for a fault of this kind in a pattern.
abbrev pub kind_help : PatternKind → PatternDetail → List ℕ
kind_help Unclosed detail = codes "close it, or write `\\(`, `\\[` or `\\{` for the character"
kind_help Unopened detail = codes "remove it, or write `\\)` for the character"
kind_help NothingToRepeat detail = codes "write what it repeats before it, or escape the character, as in `\\*`"
kind_help CountSyntax detail = codes "write `{2}`, `{2,}` or `{0,3}` without blanks, or `\\{` for the character"
kind_help CountOrder detail = codes "write the smaller count first"
kind_help CountTooLarge detail = codes "write a count below 4,294,967,296"
kind_help FlagUnsupported detail = codes "remove the flag `x`, and write the pattern without blanks and comments"
kind_help FlagSyntax detail = flag_help detail.front
kind_help GroupSyntax detail = group_help detail.front
kind_help EscapeUnknown detail = escape_help detail.front
kind_help UnicodeWordBoundary detail = boundary_help detail.at
kind_help HexSyntax detail = codes "write two digits, as in `\\x0A`, or put them in braces, as in `\\x{A}`"
kind_help HexNotScalar detail = codes "write a number up to `10FFFF`, but none from `D800` to `DFFF`"
kind_help ClassRange detail = codes "write the smaller end first, and `\\-` for the character next to a class"
kind_help UnknownProperty detail = codes "write a general category, a script or a binary property, as in `\\p{Lu}`"
kind_help PropertyForm detail = codes "write `\\p{Greek}` for a script, and `\\P{..}` for the complement"
kind_help NotInBytes detail = codes "put it in `(?u:..)`, as in `(?u:\\pL)`"
kind_help WordBoundaryForm detail = codes "write `(?-u:\\b)`, with the next character after it"

-- The help for a text that is not a pattern.
abbrev pub pattern_help : PatternDetail → List ℕ
pattern_help detail = kind_help detail.kind detail

-- The help for a fault with this detail. If the detail is only the code of the fault, or that the
-- source is not made of tokens, the help is unspecified.
abbrev pub IsHelp : Detail → Option (List ℕ) → Type 0
IsHelp (Pattern detail) help = help ≡ Some (pattern_help detail)
IsHelp ErrorArgument help = help ≡ Some (codes "write `callback = ..`, or the callback alone")
IsHelp Plain help = Unit {0}
IsHelp (Lexical kind) help = Unit {0}
IsHelp (Ambiguous leaf first) help = Unit {0}
