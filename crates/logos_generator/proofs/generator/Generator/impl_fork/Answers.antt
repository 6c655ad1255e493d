use Rattle.std.proofs.Common.{◌≡◌, ◌∙◌, ◌<◌, Bool, ap, subst}
use Rattle.logos_byte_class.specs.Bytes.{AreSeparated}
use Rattle.logos_graph.specs.FinishedGraph.{Edge}
use Rattle.logos_graph.specs.GraphView.{edge_of, state_number}
use Rattle.logos_graph.specs.declared.graph.State.{State}
use Rattle.logos_graph.specs.declared.graph.StateData.{StateData}
use Rattle.logos_code.specs.declared.code.Fork.{Fork}
use Rattle.logos_generator.specs.GeneratorValue.{GeneratorValue}
use Rattle.logos_generator.specs.NodeCalls.{MakesFork}
use Rattle.logos_generator.specs.Nodes.{left_out}
use Rattle.logos_generator.proofs.SoundLemmas.{All-map-iff}
use Rattle.logos_generator.proofs.generator.Generator.impl_fork.Goals as goal

pub impl_fork-requires-clause-separated : goal.impl_fork-requires-clause-separated
impl_fork-requires-clause-separated c =
    rw c.deref.ensures.value ((All-map-iff (λ (edge : Edge). AreSeparated edge.0) edge_of c.args.state_data.now.normal.items).1 c.requires.separated)

pub impl_fork-requires-clause-targets : goal.impl_fork-requires-clause-targets
impl_fork-requires-clause-targets c =
    rw c.deref.ensures.value ((All-map-iff (λ (edge : Edge). edge.1 < 4294967295) edge_of c.args.state_data.now.normal.items).1 c.requires.targets)

-- a fork that is made from where the generator began
made_from : (old start new : GeneratorValue) (state : State) (state_data : StateData) (ignore_self : Bool) (fork : Fork) → start ≡ old → MakesFork start new state state_data ignore_self fork → MakesFork old new state state_data ignore_self fork
made_from old start new state state_data ignore_self fork e h = subst (λ (v : GeneratorValue). MakesFork v new state state_data ignore_self fork) e h

pub returns-in-Ok-clause-is : goal.returns-in-Ok-clause-is
returns-in-Ok-clause-is c =
    let s : c.left_out-left_out.result ≡ left_out c.args.ignore_self (state_number c.args.state) = c.left_out-left_out.ensures ∙ ap (left_out c.args.ignore_self) c.index.ensures in
    made_from _ _ _ c.args.state c.args.state_data.now c.args.ignore_self c.in-Ok.fork c.self.view_is (record {
      is = rw (s, c.deref.ensures.value) at c.in-Ok.ensures.is;
      numbers = rw (s, c.deref.ensures.value) at c.in-Ok.ensures.numbers;
      jumps = rw (s, c.deref.ensures.value) at c.in-Ok.ensures.tables;
    })
