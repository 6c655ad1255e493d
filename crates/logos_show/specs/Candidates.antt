-- The enums of a file that a name can select, and the one that it selects.
use Rattle.std.specs.Prelude.{◌≡◌, ◌≢◌, ◌⊎◌, ◌++◌, ℕ, true, false, List, [], ◌∷◌, All, Contains, string_bytes}
use Rattle.logos_rust_file.specs.Paths.{EndsWithPath, IsPathOf}
use Rattle.logos_rust_file.specs.declared.finder.FoundEnum.{FoundEnum}
use Rattle.logos_show.specs.declared.candidates.Candidate.{Candidate}
use Rattle.logos_show.specs.declared.choice.Chosen.{Chosen}
use Rattle.logos_show.specs.declared.choice.Chosen.TheVariants.{Nothing, One, Several}

-- The path of a candidate.
abbrev pub path_in : Candidate → List ℕ
path_in candidate = string_bytes candidate.path

-- An enum with this path has a name: its path is the name, or ends with `::` and the name.
abbrev pub HasName : List ℕ → List ℕ → Type 0
HasName name path = (path ≡ name) ⊎ EndsWithPath path name

-- The path of a candidate is the name.
abbrev pub HasPath : List ℕ → Candidate → Type 0
HasPath name candidate = path_in candidate ≡ name

-- The path of a candidate ends with `::` and the name.
abbrev pub EndsWith : List ℕ → Candidate → Type 0
EndsWith name candidate = EndsWithPath (path_in candidate) name

-- The path of a candidate ends with the name, and differs from `path`.
abbrev pub IsOther : List ℕ → List ℕ → Candidate → Type 0
IsOther name path candidate = EndsWith name candidate × (path_in candidate ≢ path)

-- The enums of a text that derive `Logos`, in order, each with its path.
pub data AreCandidates (text : List ℕ) : List FoundEnum → List Candidate → Type 0 where
  no_enum : AreCandidates text [] []
  passed : {one : FoundEnum} {found : List FoundEnum} {candidates : List Candidate} → one.derives ≡ false → AreCandidates text found candidates → AreCandidates text (one ∷ found) candidates
  added : {found : List FoundEnum} {candidate : Candidate} {candidates : List Candidate} →
      candidate.found.derives ≡ true → IsPathOf text candidate.found (path_in candidate) → AreCandidates text found candidates → AreCandidates text (candidate.found ∷ found) (candidate ∷ candidates)

-- The enum `one` was considered: followed by the candidates of other enums, the added ones are the
-- candidates of all.
pub record AddsCandidate (text : List ℕ) (one : FoundEnum) (old new : List Candidate) : Type 0 where
  pub added : List Candidate
  pub is : new ≡ old ++ added
  pub completes : (found : List FoundEnum) (candidates : List Candidate) → AreCandidates text found candidates → AreCandidates text (one ∷ found) (added ++ candidates)

-- The enum is the only candidate with the name, up to others with an equal path.
pub record IsOnly (candidates : List Candidate) (name : List ℕ) (one : FoundEnum) : Type 0 where
  pub candidate : Candidate
  pub has : Contains candidates candidate
  pub is : candidate.found ≡ one
  pub ends : EndsWith name candidate
  pub only : All (λ other. ¬ IsOther name (path_in candidate) other) candidates

-- The path of this candidate is the name.
pub record IsExact (candidates : List Candidate) (name : List ℕ) (one : FoundEnum) : Type 0 where
  pub candidate : Candidate
  pub has : Contains candidates candidate
  pub is : candidate.found ≡ one
  pub exact : HasPath name candidate

-- Both enums are candidates whose different paths end with the name.
pub record AreTwo (candidates : List Candidate) (name : List ℕ) (one other : FoundEnum) : Type 0 where
  pub first : Candidate
  pub second : Candidate
  pub has_first : Contains candidates first
  pub has_second : Contains candidates second
  pub is_first : first.found ≡ one
  pub is_second : second.found ≡ other
  pub ends : EndsWith name first
  pub differs : IsOther name (path_in first) second

-- No path of a candidate is the name.
abbrev pub NoneHasPath : List Candidate → List ℕ → Type 0
NoneHasPath candidates name = All (λ candidate. ¬ HasPath name candidate) candidates

-- The selection of a name among candidates: nothing, if none has the name; the one whose path is
-- the name, or the only one with the name; or two with the name, if there are such and no path is
-- the name.
abbrev pub IsSelected : List Candidate → List ℕ → Chosen → Type 0
IsSelected candidates name Nothing = NoneHasPath candidates name × All (λ candidate. ¬ EndsWith name candidate) candidates
IsSelected candidates name (One one) = IsExact candidates name one ⊎ (NoneHasPath candidates name × IsOnly candidates name one)
IsSelected candidates name (Several one other) = NoneHasPath candidates name × AreTwo candidates name one other

-- The selection of a name among the enums of a text.
pub record Selects (text : List ℕ) (found : List FoundEnum) (name : List ℕ) (chosen : Chosen) : Type 0 where
  pub candidates : List Candidate
  pub are : AreCandidates text found candidates
  pub is : IsSelected candidates name chosen
