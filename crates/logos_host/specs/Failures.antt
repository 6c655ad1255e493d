-- The failures of a program, and their exit statuses.
use Rattle.std.specs.Prelude.{◌≡◌, ◌⊎◌, ℕ, List}
use Rattle.logos_host.specs.declared.failure.Failure.{Failure}
use Rattle.logos_host.specs.declared.failure.Failure.TheVariants.{Misuse, UnknownOption, OwnOutput, Refused, NotUtf8, NotText, Read, Write, Output, Closed, Memory}
use Rattle.logos_host.specs.declared.files.FileError.{FileError}
use Rattle.logos_host.specs.declared.files.FileError.TheVariants as errors

-- The exit status: 1 if something is refused, 2 if the arguments are invalid or name the input as
-- the output, 3 if a file or memory fails.
abbrev pub status_of : Failure → ℕ
status_of (Misuse what word) = 2
status_of (UnknownOption word nearest) = 2
status_of (OwnOutput path) = 2
status_of (Refused text) = 1
status_of (NotUtf8 valid_up_to) = 1
status_of (NotText path valid_up_to) = 3
status_of (Read path reason) = 3
status_of (Write path reason) = 3
status_of Output = 3
status_of Closed = 3
status_of Memory = 3

-- The arguments were valid: their request is refused, or a file, an output or memory fails.
abbrev pub IsNoMisuse : Failure → Type 0
IsNoMisuse failure = (status_of failure ≡ 1) ⊎ (status_of failure ≡ 3)

-- The failure for a file that cannot be read.
abbrev pub IsReadingFailure : List ℕ → FileError → Failure → Type 0
IsReadingFailure path (errors.Failed reason) (Read at why) = (at.now ≡ path) × (why ≡ reason)
IsReadingFailure path (errors.NotText valid_up_to) (NotText at length) = (at.now ≡ path) × (length ≡ valid_up_to)
IsReadingFailure path errors.Memory Memory = Unit {0}
IsReadingFailure path error failure = ⊥

-- The failure for a file that cannot be written.
abbrev pub IsWritingFailure : List ℕ → FileError → Failure → Type 0
IsWritingFailure path (errors.Failed reason) (Write at why) = (at.now ≡ path) × (why ≡ reason)
IsWritingFailure path (errors.NotText valid_up_to) Memory = Unit {0}
IsWritingFailure path errors.Memory Memory = Unit {0}
IsWritingFailure path error failure = ⊥

-- The file at a path cannot be read: the failure names the path, or memory ran out.
abbrev pub IsUnread : List ℕ → Failure → Type 0
IsUnread path (Read at why) = at.now ≡ path
IsUnread path (NotText at length) = at.now ≡ path
IsUnread path Memory = Unit {0}
IsUnread path failure = ⊥

-- The file at a path cannot be written: the failure names the path, or memory ran out.
abbrev pub IsUnwritten : List ℕ → Failure → Type 0
IsUnwritten path (Write at why) = at.now ≡ path
IsUnwritten path Memory = Unit {0}
IsUnwritten path failure = ⊥

-- Standard output cannot be written.
abbrev pub IsOutputFailure : Failure → Type 0
IsOutputFailure failure = (failure ≡ Output) ⊎ (failure ≡ Closed)
