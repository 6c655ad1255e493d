-- The enum that is chosen among those of a file.
use Rattle.std.proofs.Common.{◌≡◌, ◌<◌, ◌≤◌, ◌+◌, ◌++◌, ℕ, Bool, true, false, List, [], ◌∷◌, Option, Some, None, Result, Ok, Err, IfOk, IfErr, IsOk, IsTrue, ◌↔◌, if◌then◌else◌, length, get_or, drop, string_bytes, sym, ap, ◌∙◌, refl, subst}
use Rattle.std.proofs.lemmas.List.{at_drop_more, at_drop_all, get_or_default}
use Rattle.logos_host.specs.declared.failure.Failure.{Failure}
use Rattle.logos_host.specs.declared.failure.Failure.TheVariants as failures
use Rattle.logos_page.specs.Pages.{Gains, PageValue}
use Rattle.logos_report.specs.Locations.{SourceValue}
use Rattle.logos_rust_file.specs.declared.finder.FoundEnum.{FoundEnum}
use Rattle.logos_rust_file.specs.Files.{AreEnumsOf}
use Rattle.logos_show.specs.Choices.{IsCause, IsChosen, IsChosenIn, IsLexerOf, IsSeveralText, IsUnreadable, RefusesBy, first_deriving, first_near}
use Rattle.logos_show.specs.Choices.IsCause.{several, unreadable}
use Rattle.logos_show.specs.declared.choice.Chosen.{Chosen}
use Rattle.logos_show.specs.declared.choice.Chosen.TheVariants.{One, Several}
use Rattle.logos_token.specs.Faults.{Fault}

-- ---- the first enum

-- the enum that is chosen already, or the first one of the rest
abbrev pub first_of : Option FoundEnum → List FoundEnum → Option FoundEnum
first_of (Some one) rest = Some one
first_of None rest = first_deriving rest

first_step : (first : Option FoundEnum) (one : FoundEnum) (rest : List FoundEnum) → first_of (if one.derives then first_near first one else first) rest ≡ first_of first (one ∷ rest)
first_step (Some first) one rest = some_step one.derives
  where
    some_step : (derives : Bool) → first_of (if derives then Some first else Some first) rest ≡ Some first
    some_step true = refl
    some_step false = refl
first_step None one rest = none_step one.derives
  where
    none_step : (derives : Bool) → first_of (if derives then Some one else None) rest ≡ (if derives then Some one else first_deriving rest)
    none_step true = refl
    none_step false = refl

-- the enums that are left complete the first one
pub first_next : (found : List FoundEnum) (old new : Option FoundEnum) (i : ℕ) (one : FoundEnum) → i < length found → one ≡ get_or found i one → new ≡ (if one.derives then first_near old one else old) →
    first_of old (drop i found) ≡ first_deriving found → first_of new (drop (i + 1) found) ≡ first_deriving found
first_next found old new i one l e is so =
    ap (λ first. first_of first (drop (i + 1) found)) is
    ∙ first_step old one (drop (i + 1) found)
    ∙ ap (λ x. first_of old (x ∷ drop (i + 1) found)) e
    ∙ sym (at_drop_more (first_of old) found i one l)
    ∙ so

-- the same of the enum with this index
pub first_next_at : (found : List FoundEnum) (old new : Option FoundEnum) (i : ℕ) (d : FoundEnum) → i < length found → new ≡ (if (get_or found i d).derives then first_near old (get_or found i d) else old) →
    first_of old (drop i found) ≡ first_deriving found → first_of new (drop (i + 1) found) ≡ first_deriving found
first_next_at found old new i d l is so = first_next found old new i (get_or found i d) l (get_or_default found i d (get_or found i d) l) is so

first_nothing : (first : Option FoundEnum) → first_of first [] ≡ first
first_nothing (Some first) = refl
first_nothing None = refl

-- none is left
pub first_all : (found : List FoundEnum) (first : Option FoundEnum) (i : ℕ) → length found ≤ i → first_of first (drop i found) ≡ first_deriving found → first ≡ first_deriving found
first_all found first i l so = sym (at_drop_all (first_of first) found i l ∙ first_nothing first) ∙ so

-- ---- the chosen enum

-- the enums of a text, and the one that is chosen among them
pub chosen_in : {E : Type 0} (text : List ℕ) (name : Option (List ℕ)) (found : List FoundEnum) (result : Result Chosen E) → AreEnumsOf text found → IfOk result (IsChosen text found name) → IfOk result (IsChosenIn text name)
chosen_in text name found (Ok chosen) are is = record { found = found; are = are; is = is }
chosen_in text name found (Err error) are is = tt

-- one enum is chosen
pub one_taken : (text : List ℕ) (name : Option (List ℕ)) (one : FoundEnum) → IsChosenIn text name (One one) → IsLexerOf text name one
one_taken text None one c = record { found = c.found; are = c.are; is = sym c.is }
one_taken text (Some given) one c = record { found = c.found; are = c.are; is = c.is }

-- the first of several enums is chosen, where no name is given
first_taken : (text : List ℕ) (name : Option (List ℕ)) (one other : FoundEnum) → name ≡ None → IsChosenIn text name (Several one other) → IsLexerOf text name one
first_taken text None one other e c = record { found = c.found; are = c.are; is = sym c.is }
first_taken text (Some given) one other e c = absurd cc

pub several_taken : {E : Type 0} (text : List ℕ) (name : Option (List ℕ)) (one other : FoundEnum) (result : Result FoundEnum E) → IsChosenIn text name (Several one other) → IfOk result (λ taken. (taken ≡ one) × (name ≡ None)) →
    IfOk result (IsLexerOf text name)
several_taken text name one other (Ok taken) c h = subst (IsLexerOf text name) (sym h.0) (first_taken text name one other h.1 c)
several_taken text name one other (Err error) c h = tt

-- ---- refusals

-- a property of the text of a refusal implies another one
pub refuses_also : (Before After : List ℕ → Type 0) (failure : Failure) → ((shown : List ℕ) → Before shown → After shown) → RefusesBy Before failure → RefusesBy After failure
refuses_also Before After (failures.Refused text) f r = f (string_bytes text) r
refuses_also Before After (failures.Misuse what word) f r = r
refuses_also Before After (failures.UnknownOption word nearest) f r = r
refuses_also Before After (failures.OwnOutput path) f r = r
refuses_also Before After (failures.NotUtf8 valid_up_to) f r = r
refuses_also Before After (failures.NotText path valid_up_to) f r = r
refuses_also Before After (failures.Read path reason) f r = r
refuses_also Before After (failures.Write path reason) f r = r
refuses_also Before After failures.Output f r = r
refuses_also Before After failures.Closed f r = r
refuses_also Before After failures.Memory f r = r

-- a file cannot be read into tokens
pub unread_refused : (source : SourceValue) (name : Option (List ℕ)) (failure : Failure) → RefusesBy (λ shown. (faults : List Fault) × IsUnreadable source.text faults) failure → RefusesBy (IsCause source name) failure
unread_refused source name failure r = refuses_also (λ shown. (faults : List Fault) × IsUnreadable source.text faults) (IsCause source name) failure (λ shown u. unreadable u.1) r

-- several enums have the given name
pub several_refused : {A : Type 0} (source : SourceValue) (name : Option (List ℕ)) (one other : FoundEnum) (result : Result A Failure) → IsChosenIn source.text name (Several one other) →
    IfErr result (RefusesBy (λ shown. (given : List ℕ) × (name ≡ Some given) × IsSeveralText source given one other shown)) → IfErr result (RefusesBy (IsCause source name))
several_refused source name one other (Ok taken) c h = tt
several_refused source name one other (Err failure) c h =
    refuses_also (λ shown. (given : List ℕ) × (name ≡ Some given) × IsSeveralText source given one other shown) (IsCause source name) failure (λ shown s. several s.1 c s.2) h

-- the text of a page that was empty, exactly
pub finished_as : (text bytes : List ℕ) (old page : PageValue) → old.text ≡ [] → Gains bytes old page → IsTrue page.is_whole → text ≡ page.text → text ≡ bytes
finished_as text bytes old page empty g whole e = e ∙ (g.whole whole).1 ∙ ap (λ x. x ++ bytes) empty

-- the same of its result
pub finished_exactly : {A E : Type 0} (f : A → List ℕ) (result : Result A E) (bytes : List ℕ) (old page : PageValue) → old.text ≡ [] → Gains bytes old page → (IsOk result ↔ IsTrue page.is_whole) →
    IfOk result (λ text. f text ≡ page.text) → IfOk result (λ text. f text ≡ bytes)
finished_exactly f (Ok text) bytes old page empty g whole e = finished_as (f text) bytes old page empty g (whole.0 refl) e
finished_exactly f (Err error) bytes old page empty g whole e = tt
