-- The paths of a command line.
use Rattle.std.specs.Prelude.{ℕ, List, [], ◌∷◌, ◌++◌, Option, Some, None, if◌then◌else◌, bytes_eq, codes, false, map}
use Rattle.std.specs.Borrow.{Bor}
use Rattle.logos_options.specs.declared.argument_steps.ArgumentProgress.{ArgumentProgress}
use Rattle.logos_options.specs.ArgumentSteps.{StepValue, UseValue, path, step}

-- The path that an argument names: `-` is standard input.
abbrev pub path_named : List ℕ → List ℕ
path_named word = if bytes_eq word (codes "-") then codes "/dev/stdin" else word

-- The path that was found, if a path was found.
abbrev pub found_path : Option UseValue → List (List ℕ)
found_path (Some (path word)) = path_named word ∷ []
found_path other = []

-- The path that an argument names, if it is a path.
abbrev pub next_paths : Option StepValue → List (List ℕ)
next_paths None = []
next_paths (Some next) = found_path next.found

-- The state of reading after an argument.
abbrev pub next_progress : ArgumentProgress → Option StepValue → ArgumentProgress
next_progress progress None = progress
next_progress progress (Some next) = next.progress

-- The paths in the remaining arguments.
abbrev pub paths_from : ArgumentProgress → List (List ℕ) → List (List ℕ)
paths_from progress [] = []
paths_from progress (word ∷ rest) = next_paths (step progress word) ++ paths_from (next_progress progress (step progress word)) rest

-- The state before the first argument.
abbrev pub not_begun : ArgumentProgress
not_begun = record { pending = None; is_over = false }

-- The paths in the arguments, in order.
abbrev pub paths_of : List (List ℕ) → List (List ℕ)
paths_of arguments = paths_from not_begun arguments

-- The texts behind references.
abbrev pub texts_of : List (Bor (List ℕ)) → List (List ℕ)
texts_of list = map (λ text. text.now) list
