use Rattle.std.proofs.Common.{◌≡◌, ◌∙◌, List, map, length, ap, refl, sym, subst, arith}
use Rattle.std.proofs.lemmas.List.{length-map}
use Rattle.std.proofs.lemmas.Result.{IfOk-weaker}
use Rattle.logos_pattern.specs.declared.leaf.Leaf.{Leaf}
use Rattle.logos_graph.specs.FinishedGraph.{IsFinished}
use Rattle.logos_code.specs.CodeView.{code_of, use_of}
use Rattle.logos_generator.specs.Runs.{RunsAs}
use Rattle.logos_generator.specs.Numbering.{HasNodesOf, tests_of}
use Rattle.logos_generator.specs.StateView.{leaf_use}
use Rattle.logos_code.specs.declared.code.CodeLeaf.{CodeLeaf}
use Rattle.logos_code.specs.declared.code.CodeParts.{CodeParts}
use Rattle.logos_generator.proofs.MadeLemmas.{parts_made, parts_nodes, parts_sound}
use Rattle.logos_generator.proofs.RunLemmas.{runs_as}
use Rattle.logos_generator.proofs.generator.states.code_of.Goals as goal

-- there are as many
same_count : (made : List CodeLeaf) (leaves : List Leaf) → map use_of made ≡ map leaf_use leaves → length leaves ≡ length made
same_count made leaves same = sym (length-map leaves leaf_use) ∙ ap length (sym same) ∙ length-map made use_of

pub tables_made-requires-clause-codable : goal.tables_made-requires-clause-codable
tables_made-requires-clause-codable c = λ k d h.
    let f = c.requires.finished.states k d h in
    let few = c.requires.finished.few in
    record { separated = f.neat.separated; targets = λ i e l. let t = f.targets i e l in omega (arith, t, few) }

pub make_code-requires : goal.make_code-requires
make_code-requires c =
    let t = c.in_ok-made.ensures.tables in
    let parts : CodeParts = record { header = c.args.header; states = c.in_ok-made.made.states; bit_tables = c.in_ok-made.made.bit_tables; jump_tables = c.in_ok-made.made.jump_tables; leaves = c.in_ok-leaves.leaves; root = 0; utf8 = c.utf8_mode.result } in
    let finished = subst (IsFinished c.args.graph.now.states) (same_count c.in_ok-leaves.leaves.items c.args.graph.now.leaves (rw c.leaves.ensures at c.in_ok-leaves.ensures.uses)) c.requires.finished in
    record { sound = parts_sound (tests_of c.args.graph.now.states) c.args.graph.now.states parts refl t.are t.hold t.fit finished; once = t.once }

pub returns-clause-runs : goal.returns-clause-runs
returns-clause-runs c =
    let t = c.in_ok-made.ensures.tables in
    let graph = c.args.graph.now.states in
    let parts : CodeParts = record { header = c.args.header; states = c.in_ok-made.made.states; bit_tables = c.in_ok-made.made.bit_tables; jump_tables = c.in_ok-made.made.jump_tables; leaves = c.in_ok-leaves.leaves; root = 0; utf8 = c.utf8_mode.result } in
    let finished = subst (IsFinished graph) (same_count c.in_ok-leaves.leaves.items c.args.graph.now.leaves (rw c.leaves.ensures at c.in_ok-leaves.ensures.uses)) c.requires.finished in
    let runs : RunsAs graph c.args.graph.now.utf8 (code_of parts) = subst (λ u. RunsAs graph u (code_of parts)) c.utf8_mode.ensures
    (runs_as graph c.utf8_mode.result (code_of parts) (parts_made (tests_of graph) graph parts refl t.are t.hold t.fit finished)) in
    IfOk-weaker c.make_code.result (λ code. code ≡ code_of parts) (RunsAs graph c.args.graph.now.utf8) (λ code e. rw e runs) c.make_code.ensures

pub returns-clause-header : goal.returns-clause-header
returns-clause-header c =
    let parts : CodeParts = record { header = c.args.header; states = c.in_ok-made.made.states; bit_tables = c.in_ok-made.made.bit_tables; jump_tables = c.in_ok-made.made.jump_tables; leaves = c.in_ok-leaves.leaves; root = 0; utf8 = c.utf8_mode.result } in
    IfOk-weaker c.make_code.result (λ code. code ≡ code_of parts) (λ code. code.header ≡ c.args.header) (λ code e. ap (λ code. code.header) e) c.make_code.ensures

pub returns-clause-nodes : goal.returns-clause-nodes
returns-clause-nodes c =
    let t = c.in_ok-made.ensures.tables in
    let graph = c.args.graph.now.states in
    let parts : CodeParts = record { header = c.args.header; states = c.in_ok-made.made.states; bit_tables = c.in_ok-made.made.bit_tables; jump_tables = c.in_ok-made.made.jump_tables; leaves = c.in_ok-leaves.leaves; root = 0; utf8 = c.utf8_mode.result } in
    let finished = subst (IsFinished graph) (same_count c.in_ok-leaves.leaves.items c.args.graph.now.leaves (rw c.leaves.ensures at c.in_ok-leaves.ensures.uses)) c.requires.finished in
    let nodes : HasNodesOf graph (code_of parts) = parts_nodes (tests_of graph) graph parts refl t.are t.hold t.fit finished refl t.tables t.jumps in
    IfOk-weaker c.make_code.result (λ code. code ≡ code_of parts) (HasNodesOf graph) (λ code e. rw e nodes) c.make_code.ensures
