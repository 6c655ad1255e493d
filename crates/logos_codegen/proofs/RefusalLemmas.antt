-- The reasons that a source is refused.
use Rattle.std.proofs.Common.{ℕ, List}
use Rattle.logos_parser.specs.Refusals.{Refuses}
use Rattle.logos_parser.specs.declared.refusal.Refusal.{Refusal}
use Rattle.logos_parser.proofs.RefusalLemmas.{refuses_by, OneEnds}
use Rattle.logos_codegen.specs.Source.{IsRefused, unread}

-- a fault that ends the reading is a reason to refuse
pub ends_refuses : (source : List ℕ) (error : Refusal) → Refuses (OneEnds source) error → Refuses (IsRefused source) error
ends_refuses source error r = refuses_by (OneEnds source) (IsRefused source) (λ faults m. unread m.1 m.2) error r
