use Rattle.std.proofs.Common.{◌≡◌, ℕ, ◌<◌, ◌↔◌, Contains, length, arith}
use lib.ListN.{length-map}
use Rattle.std.proofs.lemmas.List.FromFn.{length-range_with_len, get_or-range_with_len}
use Rattle.std.specs.List.{range_with_len}
use Rattle.logos_automaton.specs.Reach.{IsReachable}
use Rattle.logos_automaton.specs.DfaView.{dfa_of}
use Rattle.logos_automaton.specs.declared.dfa.Dfa.{Dfa}
use Rattle.logos_automaton.specs.declared.key.Key.{Key}
use Rattle.logos_automaton.proofs.runs.ReachLemmas.{reachable_within}
use Rattle.logos_automaton.proofs.dfa.Dfa.get_states.Goals as goal

in_range : (n s : ℕ) → Contains (range_with_len 0 n) s → s < n
in_range n s (k, l, e) =
    let len = length-range_with_len 0 n in
    let lt : k < n = omega (arith, l, len) in
    let at = get_or-range_with_len 0 n k s lt in
    omega (arith, at, e, lt)

range_has : (n s : ℕ) → s < n → Contains (range_with_len 0 n) s
range_has n s lt =
    let len = length-range_with_len 0 n in
    let at = get_or-range_with_len 0 n s s lt in
    (s, omega (arith, len, lt), omega (arith, at))

exact : (dfa : Dfa) (m : ℕ) → m ≡ length dfa.states.items → (s : ℕ) → Contains (range_with_len 0 m) s ↔ IsReachable (dfa_of dfa) s
exact dfa m e s = (
  λ h. dfa.reached s (let l = in_range m s h in omega (arith, l, e, count)),
  λ r. range_has m s (let l = reachable_within dfa.states.items dfa.rows.items dfa.ends.items dfa.start_there (omega (arith, dfa.rows_there)) (omega (arith, dfa.ends_there)) dfa.leads dfa.ends_within s r in omega (arith, l, e)),
)
  where
    count : length (dfa_of dfa).matches ≡ length dfa.states.items
    count = length-map dfa.states.items (λ (k : Key). k.matches.items)

pub returns-clause-reached : goal.returns-clause-reached
returns-clause-reached c = exact c.args.self.now _ (omega arith)
