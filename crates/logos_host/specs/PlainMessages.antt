-- The messages of failures in `logos`.
use Rattle.std.specs.Prelude.{ℕ, List, ◌++◌, codes, decimal, string_bytes}
use Rattle.logos_host.specs.declared.failure.Failure.{Failure}
use Rattle.logos_host.specs.declared.failure.Failure.TheVariants.{Misuse, UnknownOption, OwnOutput, Refused, NotUtf8, NotText, Read, Write, Output, Closed, Memory}

-- The message of a failure: one line, without a reason. For invalid arguments it is the usage.
abbrev pub plain_message_of : List ℕ → Failure → List ℕ
plain_message_of usage (Misuse what word) = usage
plain_message_of usage (UnknownOption word nearest) = usage
plain_message_of usage (OwnOutput path) = usage
plain_message_of usage (Refused text) = string_bytes text
plain_message_of usage (NotUtf8 valid_up_to) = codes "NotUtf8 " ++ (decimal valid_up_to ++ codes "\n")
plain_message_of usage (NotText path valid_up_to) = codes "cannot read " ++ (path.now ++ codes "\n")
plain_message_of usage (Read path reason) = codes "cannot read " ++ (path.now ++ codes "\n")
plain_message_of usage (Write path reason) = codes "cannot write " ++ (path.now ++ codes "\n")
plain_message_of usage Output = codes "cannot write standard output\n"
plain_message_of usage Closed = codes "cannot write standard output\n"
plain_message_of usage Memory = codes "out of memory\n"
