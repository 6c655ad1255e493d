use Rattle.logos_automaton.proofs.munch.Unique.{finds_one}
use Rattle.logos_graph.proofs.laws.one_is_found.Goals as goal

pub returns : goal.returns
returns c = λ rules utf8 bytes from f g inside x y. finds_one rules utf8 bytes from inside f g x y
