-- The shapes of generated code, by their names.
use Rattle.std.specs.Prelude.{ℕ, List, Option, Some, None, true, false, codes, bytes_eq, if◌then◌else◌}
use Rattle.logos_code.specs.declared.code.Config.{Config}

-- The shape with this name.
abbrev pub shape_named : List ℕ → Option Config
shape_named name =
    if bytes_eq name (codes "state_machine") then Some (record { use_state_machine_codegen = true })
    else (if bytes_eq name (codes "tailcall") then Some (record { use_state_machine_codegen = false })
    else None)
