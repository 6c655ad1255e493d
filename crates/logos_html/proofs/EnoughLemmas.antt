-- The state of an automaton after one more byte.
use Rattle.std.proofs.Common.{◌≡◌, ◌<◌, ◌+◌, ℕ, List, [], ◌∷◌, Option, Some, length, get_or, take, ap, ◌∙◌}
use Rattle.std.proofs.lemmas.List.{take_more}
use Rattle.logos_automaton.proofs.runs.DfaLemmas.{after_more}
use Rattle.logos_automaton.specs.Automaton.{Automaton, dfa_after, dfa_next}

pub one_more_byte : (dfa : Automaton) (rest : List ℕ) (count s t : ℕ) → count < length rest → dfa_after dfa (Some dfa.start) (take count rest) ≡ Some s → dfa_next dfa (Some s) (get_or rest count 0) ≡ Some t →
    dfa_after dfa (Some dfa.start) (take (count + 1) rest) ≡ Some t
one_more_byte dfa rest count s t l e next =
    ap (dfa_after dfa (Some dfa.start)) (take_more rest count 0 l) ∙ after_more dfa (Some dfa.start) (take count rest) (get_or rest count 0 ∷ []) ∙ ap (λ (o : Option ℕ). dfa_next dfa o (get_or rest count 0)) e ∙ next
