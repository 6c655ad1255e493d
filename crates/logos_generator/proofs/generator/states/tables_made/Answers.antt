use Rattle.std.proofs.Common.{◌≡◌, ◌∙◌, List, Bool, ℕ, ap, subst, sym}
use Rattle.logos_generator.specs.Numbering.{numbered, tests_of, uses_from, with_tables, tables_from}
use Rattle.logos_generator.specs.StateView.{AreStatesOf}
use Rattle.logos_generator.proofs.MadeLemmas.{keys_differ}
use Rattle.logos_generator.proofs.generator.states.tables_made.Goals as goal

pub returns-clause-tests : goal.returns-clause-tests
returns-clause-tests c = c.in_ok-states.ensures.numbers ∙ ap (λ tests. numbered tests (uses_from 0 c.args.graph.now.states)) c.requires.tests

pub returns-clause-jumps : goal.returns-clause-jumps
returns-clause-jumps c = c.in_ok-states.ensures.tables ∙ ap (λ jumps. with_tables jumps (tables_from 0 c.args.graph.now.states)) c.requires.jumps

pub returns-clause-tables : goal.returns-clause-tables
returns-clause-tables c =
    let graph = c.args.graph.now.states in
    let all : c.states_of.new.tables.tests.keys ≡ tests_of graph = c.in_ok-states.ensures.numbers ∙ ap (λ tests. numbered tests (uses_from 0 graph)) c.requires.tests in
    let same : c.as_slice.result.now ≡ tests_of graph = c.as_slice.ensures.keys ∙ all in
    let same_jumps = c.in_ok-jump_tables.ensures.items ∙ c.as_slice-2.ensures.keys in
    record {
      are = subst (λ (t : List (List Bool)). AreStatesOf t c.in_ok-jump_tables.jump_tables.items graph c.in_ok-states.states.items) all
          (subst (λ (j : List (List ℕ)). AreStatesOf c.states_of.new.tables.tests.keys j graph c.in_ok-states.states.items) (sym same_jumps) c.in_ok-states.ensures.are);
      hold = rw same at c.in_ok-bit_tables.ensures.tests;
      fit = rw same at c.in_ok-bit_tables.ensures.long;
      tables = rw same at c.in_ok-bit_tables.ensures.are;
      jumps = same_jumps ∙ c.in_ok-states.ensures.tables ∙ ap (λ jumps. with_tables jumps (tables_from 0 graph)) c.requires.jumps;
      once = rw c.in_ok-jump_tables.ensures.items (rw c.as_slice-2.ensures.keys (keys_differ _ c.as_slice-2.ensures.unique));
    }
