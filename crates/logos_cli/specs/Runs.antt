-- The effects of a run of the program, determined by the content of its files. `yields` relates the
-- files before a read, the path, the bytes that are read, and the files after it; `makes` the files
-- before a write, the path, the bytes that are written, and the files after it; `finds` the files
-- before a comparison, the path, the bytes, the result, and the files after it.
use Rattle.std.specs.Prelude.{◌≡◌, ◌≢◌, ◌⊎◌, ◌++◌, ◌||◌, ℕ, List, [], ◌∷◌, All, Bool, Contains, true, false, IsTrue, Option, Some, None, IfSome, bytes_eq, map, unwrap_or}
use Rattle.std.specs.Io.KnownBytes.{Appends, Keeps}
use Rattle.logos_host.specs.declared.comparison.Occurrence.{Occurrence}
use Rattle.logos_host.specs.declared.comparison.Occurrence.TheVariants.{Same}
use Rattle.logos_host.specs.Reading.{Reads}
use Rattle.logos_expand.specs.Expanding.{IsExpanded}
use Rattle.logos_expand.specs.Gathering.{IsCause}
use Rattle.logos_cli.specs.Orders.{Requested, requests_help, requests_version, requests_expansion, requests_each, OrderValue}
use Rattle.logos_text.specs.Occurrence.{OccurInOrder}

-- A file has bytes other than these, or cannot be read.
pub record IsOther {F : Type 0} (finds : F → List ℕ → List ℕ → Occurrence → F → Type 0) (path bytes : List ℕ) (files after : F) : Type 0 where
  pub occurrence : Occurrence
  pub found : finds files path bytes occurrence after
  pub other : occurrence ≢ Same

-- A file had other bytes, and these were written to it.
pub record IsRewritten {F : Type 0} (makes : F → List ℕ → List ℕ → F → Type 0) (finds : F → List ℕ → List ℕ → Occurrence → F → Type 0) (path bytes : List ℕ) (files after : F) : Type 0 where
  pub between : F
  pub other : IsOther finds path bytes files between
  pub made : makes between path bytes after

module _ {F : Type 0} (yields makes : F → List ℕ → List ℕ → F → Type 0) (finds : F → List ℕ → List ℕ → Occurrence → F → Type 0) where
  -- A file has these bytes, and was not written.
  abbrev pub IsThere : List ℕ → List ℕ → F → F → Type 0
  IsThere path bytes files after = finds files path bytes Same after × yields files path bytes after

  -- The result is in a file: the file had it, or, unless it was only to be compared, it was
  -- written.
  abbrev pub IsSettled : OrderValue → List ℕ → List ℕ → F → F → Type 0
  IsSettled order path bytes files after = IsThere path bytes files after ⊎ ((order.is_check ≡ false) × IsRewritten makes finds path bytes files after)

  -- The result was delivered as requested: to a file, or to the end of standard output. The other
  -- output stays unchanged.
  abbrev pub IsDelivered : OrderValue → Option (List ℕ) → List ℕ → F → F → Option (List ℕ) → Option (List ℕ) → Type 0
  IsDelivered order None bytes files after old new = (after ≡ files) × Appends old new bytes
  IsDelivered order (Some path) bytes files after old new = IsSettled order path bytes files after × Keeps old new

  -- The file is read and expanded, and the result was delivered as requested.
  abbrev pub IsCarriedOut : OrderValue → F → F → Option (List ℕ) → Option (List ℕ) → Type 0
  IsCarriedOut order files after old new =
      Reads yields files order.input (λ text read. (bytes : List ℕ) × IsExpanded order.shape order.input text bytes × IsDelivered order order.output bytes read after old new)

  -- Files are read and expanded one after another, and each result was delivered as requested.
  abbrev pub AreCarriedOut : List OrderValue → F → F → Option (List ℕ) → Option (List ℕ) → Type 0
  AreCarriedOut [] files after old new = (after ≡ files) × (new ≡ old)
  AreCarriedOut (order ∷ rest) files after old new =
      (between : F) × (middle : Option (List ℕ)) × IsCarriedOut order files between old middle × AreCarriedOut rest between after middle new

  -- The request is fulfilled.
  abbrev pub IsDone : Requested → F → F → Option (List ℕ) → Option (List ℕ) → Type 0
  IsDone requests_help files after old new = after ≡ files
  IsDone requests_version files after old new = after ≡ files
  IsDone (requests_expansion order) files after old new = IsCarriedOut order files after old new
  IsDone (requests_each orders) files after old new = AreCarriedOut orders files after old new

  -- The file is read, and has faults, which the text shows, or warnings, which are denied; or its
  -- expansion was only to be compared, and differs from the other file. No file is written.
  abbrev pub IsDeniedOrder : OrderValue → F → F → List ℕ → Type 0
  IsDeniedOrder order files after shown =
      Reads yields files order.input (λ text read. ((after ≡ read) × IsCause order.format order.denies order.shape (record { path = order.input; text = text }) shown)
      ⊎ (IsTrue order.is_check × ((bytes : List ℕ) × IsExpanded order.shape order.input text bytes × IfSome order.output (λ path. IsOther finds path bytes read after))))

  -- The order for a file is fulfilled, or refused with a text.
  abbrev pub EndsOne : OrderValue → F → F → List (List ℕ) → Type 0
  EndsOne order files after texts =
      ((old new : Option (List ℕ)) × IsCarriedOut order files after old new × (texts ≡ [])) ⊎ ((shown : List ℕ) × IsDeniedOrder order files after shown × (texts ≡ shown ∷ []))

  -- The orders for files, one after another, are fulfilled or refused. These texts are those of the
  -- refusals.
  abbrev pub AreEnded : List OrderValue → F → F → List (List ℕ) → Type 0
  AreEnded [] files after texts = (after ≡ files) × (texts ≡ [])
  AreEnded (order ∷ rest) files after texts =
      (between : F) × (first more : List (List ℕ)) × (texts ≡ first ++ more) × EndsOne order files between first × AreEnded rest between after more

  -- Some of these orders are refused with texts that occur in `shown`, in order, and the others are
  -- fulfilled.
  abbrev pub AreDenied : List OrderValue → F → F → List ℕ → Type 0
  AreDenied orders files after shown = (texts : List (List ℕ)) × (texts ≢ []) × AreEnded orders files after texts × OccurInOrder texts shown

  -- The request is refused with this text.
  abbrev pub IsDenied : Requested → F → F → List ℕ → Type 0
  IsDenied requests_help files after shown = ⊥
  IsDenied requests_version files after shown = ⊥
  IsDenied (requests_expansion order) files after shown = IsDeniedOrder order files after shown
  IsDenied (requests_each orders) files after shown = AreDenied orders files after shown

-- The path of the file for the result of an order that has one.
abbrev pub output_of : OrderValue → List ℕ
output_of order = unwrap_or order.output []

-- A path is among these paths.
abbrev pub is_among : List ℕ → List (List ℕ) → Bool
is_among path [] = false
is_among path (other ∷ rest) = bytes_eq other path || is_among path rest

-- Two of these paths are equal.
abbrev pub has_twins : List (List ℕ) → Bool
has_twins [] = false
has_twins (path ∷ rest) = is_among path rest || has_twins rest

module _ {F : Type 0} (same : F → List ℕ → List ℕ → Bool → Type 0) where
  -- The path leads to none of the inputs. `same` relates files, two paths, and whether these lead
  -- to one file.
  abbrev pub IsNoInput : List OrderValue → F → List ℕ → Type 0
  IsNoInput orders files path = All (λ order. same files order.input path false) orders

  -- The path leads to one of the inputs.
  abbrev pub IsInput : List OrderValue → F → List ℕ → Type 0
  IsInput orders files path = (order : OrderValue) × Contains orders order × same files order.input path true

  -- A file for a result is an input, or the file for another result.
  abbrev pub IsOwnOutput : Requested → F → Type 0
  IsOwnOutput requests_help files = ⊥
  IsOwnOutput requests_version files = ⊥
  IsOwnOutput (requests_expansion order) files = IfSome order.output (λ path. same files order.input path true)
  IsOwnOutput (requests_each orders) files =
      ((order : OrderValue) × Contains orders order × IsInput orders files (output_of order)) ⊎ (has_twins (map output_of orders) ≡ true)

  -- No file for a result is an input or the file for another result.
  abbrev pub IsApart : Requested → F → Type 0
  IsApart requests_help files = Unit {0}
  IsApart requests_version files = Unit {0}
  IsApart (requests_expansion order) files = IfSome order.output (λ path. same files order.input path false)
  IsApart (requests_each orders) files = All (λ order. IsNoInput orders files (output_of order)) orders × (has_twins (map output_of orders) ≡ false)

-- The files are unchanged, or `R` relates them.
abbrev pub Perhaps : {F : Type 0} → (F → F → Type 0) → F → F → Type 0
Perhaps R files after = (after ≡ files) ⊎ R files after

-- `reads` relates the files before and after a read or a comparison; `writes` relates the files
-- before a write, the path, and the files after it. Each holds whether the operation succeeds or
-- fails.
module _ {F : Type 0} (reads : F → F → Type 0) (writes : F → List ℕ → F → Type 0) where
  -- The file for a result was written, or writing it failed.
  abbrev pub IsWrite : Option (List ℕ) → F → F → Type 0
  IsWrite output files after = (path : List ℕ) × (output ≡ Some path) × writes files path after

  -- The file for a result was perhaps compared, and then perhaps written.
  abbrev pub MayWrite : Option (List ℕ) → F → F → Type 0
  MayWrite output files after = (compared : F) × Perhaps reads files compared × Perhaps (IsWrite output) compared after

  -- For an order a file was read, and then perhaps the file for the result was compared and
  -- written.
  abbrev pub IsTouched : OrderValue → F → F → Type 0
  IsTouched order files after = (read : F) × reads files read × MayWrite order.output read after

  -- Several orders touched files, one after another.
  abbrev pub AreTouched : List OrderValue → F → F → Type 0
  AreTouched [] files after = after ≡ files
  AreTouched (order ∷ rest) files after = (between : F) × IsTouched order files between × AreTouched rest between after

  -- The operations on files of a request.
  abbrev pub Touches : Requested → F → F → Type 0
  Touches requests_help files after = after ≡ files
  Touches requests_version files after = after ≡ files
  Touches (requests_expansion order) files after = IsTouched order files after
  Touches (requests_each orders) files after = AreTouched orders files after

  -- No file was touched; or no file for a result is an input, and only files for results were
  -- written, each at most once, whatever the exit status.
  abbrev pub IsHarmless : (F → List ℕ → List ℕ → Bool → Type 0) → Requested → F → F → Type 0
  IsHarmless same request files after = (after ≡ files) ⊎ (IsApart same request files × Touches request files after)
