use Rattle.std.proofs.Common.{◌≡◌, Bool, false, List, map, Result, Ok, Err, IfOk, IfErr, sym, ◌∙◌, arith}
use Rattle.logos_automaton.specs.Building.{FailsOn, FailsFor}
use Rattle.logos_positions.specs.Core.{Core}
use Rattle.logos_automaton.specs.DfaView.{dfa_of}
use Rattle.logos_automaton.specs.Keys.{AreDistinct, AreReached, IsBuilt}
use Rattle.logos_automaton.specs.Munch.{Rule}
use Rattle.logos_positions.specs.Node.{core_of}
use Rattle.logos_automaton.specs.Rules.{AreRuleCores, AreFree, some_look}
use Rattle.logos_automaton.specs.Faults.{AllStart}
use Rattle.logos_automaton.specs.Automaton.{IsTotal, ReadsOneByteLate}
use Rattle.logos_automaton.specs.View.{rules_of}
use Rattle.logos_automaton.specs.declared.dfa.Dfa.{Dfa}
use Rattle.logos_automaton.specs.declared.errors.BuildError.{BuildError}
use Rattle.logos_automaton.specs.declared.errors.BuildError.TheVariants.{LimitSize, LimitStates, Memory}
use Rattle.logos_automaton.proofs.runs.DfaLemmas.{reads_late}
use Rattle.logos_automaton.proofs.runs.RuleLemmas.{rules_width, rules_free}
use Rattle.logos_automaton.proofs.keys.LimitLemmas.{dead_at_once, more_keys}
use Rattle.logos_automaton.proofs.runs.TotalLemmas.{is_total}
use Rattle.logos_automaton.proofs.dfa.builder.build.Goals as goal

module _ (rules : List Rule) (ts : List Core) (looks : Bool) (are : AreRuleCores rules ts) (looks_is : looks ≡ some_look rules) where
  free : looks ≡ false → AreFree ts
  free e = rules_free rules ts are (sym looks_is ∙ e)

  late : (result : Result Dfa BuildError) → IfOk result (λ dfa. IsBuilt ts looks 0 dfa.states.items dfa.rows.items dfa.ends.items) → IfOk result (λ dfa. ReadsOneByteLate rules (dfa_of dfa))
  late (Ok dfa) built = reads_late ts looks 0 dfa.states.items dfa.rows.items dfa.ends.items built rules are free
  late (Err e) built = tt

  total : AllStart rules → (result : Result Dfa BuildError) → IfOk result (λ dfa. IsBuilt ts looks 0 dfa.states.items dfa.rows.items dfa.ends.items) →
      IfOk result (λ dfa. AreDistinct dfa.states.items) → IfOk result (λ dfa. AreReached ts looks dfa.states.items) → IfOk result (λ dfa. IsTotal (dfa_of dfa))
  total start (Ok dfa) built distinct reached =
      is_total ts looks dfa.states.items dfa.rows.items dfa.ends.items built distinct reached (dead_at_once rules ts are looks looks_is free start)
  total start (Err e) built distinct reached = tt

  fails : AllStart rules → (result : Result Dfa BuildError) → IfErr result (FailsOn ts looks) → IfErr result (FailsFor rules)
  fails start (Ok dfa) why = tt
  fails start (Err LimitSize) why = why
  fails start (Err LimitStates) why = more_keys rules ts are looks looks_is free start why.keys 65536 why.reached why.distinct why.many
  fails start (Err Memory) why = tt

pub build_nodes-requires-clause-fits : goal.build_nodes-requires-clause-fits
build_nodes-requires-clause-fits c =
    let w = rules_width (rules_of c.args.rules.now) (map core_of c.in_ok-nodes.nodes.items) c.in_ok-nodes.ensures.cores in
    rw c.deref.ensures.value (omega (arith, w, c.requires.size))

pub build_nodes-requires-clause-free : goal.build_nodes-requires-clause-free
build_nodes-requires-clause-free c =
    rw c.deref.ensures.value (free (rules_of c.args.rules.now) (map core_of c.in_ok-nodes.nodes.items) c.some_look.result c.in_ok-nodes.ensures.cores c.some_look.ensures)

pub returns-clause-late : goal.returns-clause-late
returns-clause-late c =
    late (rules_of c.args.rules.now) (map core_of c.deref.result.now) c.some_look.result (rw c.deref.ensures.value c.in_ok-nodes.ensures.cores) c.some_look.ensures c.build_nodes.result c.build_nodes.ensures.built

pub returns-clause-total : goal.returns-clause-total
returns-clause-total c =
    total (rules_of c.args.rules.now) (map core_of c.deref.result.now) c.some_look.result (rw c.deref.ensures.value c.in_ok-nodes.ensures.cores) c.some_look.ensures c.requires.start c.build_nodes.result
    c.build_nodes.ensures.built c.build_nodes.ensures.distinct c.build_nodes.ensures.reached

pub returns-clause-fails : goal.returns-clause-fails
returns-clause-fails c =
    fails (rules_of c.args.rules.now) (map core_of c.deref.result.now) c.some_look.result (rw c.deref.ensures.value c.in_ok-nodes.ensures.cores) c.some_look.ensures c.requires.start c.build_nodes.result c.build_nodes.ensures.fails
