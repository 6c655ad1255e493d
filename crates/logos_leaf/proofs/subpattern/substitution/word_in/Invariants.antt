use Rattle.std.proofs.Common.{◌≡◌, ◌++◌, ◌≤◌, ◌-◌, length, take, drop}
use Rattle.logos_leaf.specs.subpattern.Substitution.{word_front, word_rest}
use Rattle.logos_leaf.proofs.subpattern.substitution.word_in.Given as goal

abbrev pub invariant-loop-end : goal.invariant-loop-end
invariant-loop-end l = record {
  within : l.end ≤ length l.text;
  front : word_front l.text ≡ take l.end l.text ++ word_front (drop l.end l.text);
  rest : word_rest l.text ≡ word_rest (drop l.end l.text);
}

abbrev pub decreases-loop-end : goal.decreases-loop-end
decreases-loop-end l = length l.text - l.end
