-- The messages of failures.
use Rattle.std.specs.Prelude.{ℕ, List, [], ◌∷◌, ◌++◌, codes, decimal, string_bytes}
use Rattle.logos_host.specs.declared.failure.Failure.{Failure}
use Rattle.logos_host.specs.declared.failure.Failure.TheVariants.{Misuse, UnknownOption, OwnOutput, Refused, NotUtf8, NotText, Read, Write, Output, Closed, Memory}
use Rattle.logos_host.specs.declared.reason.Reason.{Reason}
use Rattle.logos_host.specs.declared.reason.Reason.TheVariants as reasons
use Rattle.logos_page.specs.Shown.{shown_text}

-- The part of a message after the path.
abbrev pub reason_text : Reason → List ℕ
reason_text reasons.Missing = codes ": there is no such file"
reason_text reasons.Folder = codes ": it is a folder"
reason_text reasons.NoFolder = codes ": a part of the path is not a folder"
reason_text reasons.Permission = codes ": permission denied"
reason_text reasons.Links = codes ": its links lead round"
reason_text reasons.LongName = codes ": the name is too long"
reason_text reasons.Full = codes ": no space is left"
reason_text reasons.TooLarge = codes ": the file is too large"
reason_text reasons.ReadOnly = codes ": the file system is read-only"
reason_text reasons.Taken = codes ": all names for a new file beside it are taken"
reason_text reasons.Other = []

-- The reason that the arguments are invalid, and the invalid argument.
abbrev pub misuse_line : List ℕ → List ℕ → List ℕ
misuse_line what [] = codes "error: " ++ (what ++ codes "\n")
misuse_line what (byte ∷ word) = (codes "error: " ++ (what ++ codes " `")) ++ (shown_text (byte ∷ word) ++ codes "`\n")

-- The option that may be meant.
abbrev pub hint_line : List ℕ → List ℕ
hint_line [] = []
hint_line (byte ∷ word) = codes "help: is `" ++ ((byte ∷ word) ++ codes "` meant?\n")

-- A line with a path between two texts.
abbrev pub path_line : List ℕ → List ℕ → List ℕ → List ℕ
path_line before path after = before ++ (shown_text path ++ (after ++ codes "\n"))

-- The message of a failure on standard error, in which no path and no argument can control a
-- terminal.
abbrev pub message_of : List ℕ → Failure → List ℕ
message_of usage (Misuse what word) = misuse_line what.now word.now ++ usage
message_of usage (UnknownOption word nearest) = misuse_line (codes "unknown option") word.now ++ (hint_line nearest.now ++ usage)
message_of usage (OwnOutput path) = path_line (codes "error: ") path.now (codes " is the input and the output")
message_of usage (Refused text) = string_bytes text
message_of usage (NotUtf8 valid_up_to) = codes "error: the input is not UTF-8 at byte " ++ (decimal valid_up_to ++ codes "\n")
message_of usage (NotText path valid_up_to) = codes "error: cannot read " ++ (shown_text path.now ++ (codes ": it is not UTF-8 at byte " ++ (decimal valid_up_to ++ codes "\n")))
message_of usage (Read path reason) = path_line (codes "error: cannot read ") path.now (reason_text reason)
message_of usage (Write path reason) = path_line (codes "error: cannot write ") path.now (reason_text reason)
message_of usage Output = codes "error: cannot write standard output\n"
message_of usage Closed = []
message_of usage Memory = codes "error: out of memory\n"
