-- The trees that match the empty string, and those in which a look-around assertion can come first.
use Rattle.std.specs.Prelude.{Bool, true, false, ◌&&◌, ◌||◌, length, ◌==◌}
use Rattle.logos_hir.specs.Tree.{Tree, empty, literal, byte_class, char_class, look, repetition, capture, concat, alternation, Trees, none, also}

abbrev mutual
  -- The tree matches the empty string.
  pub passable : Tree → Bool
  passable empty = true
  passable (literal text) = length text == 0
  passable (byte_class ranges) = false
  passable (char_class ranges) = false
  passable (look l) = true
  passable (repetition least most greedy body) = least == 0 || passable body
  passable (capture body) = passable body
  passable (concat parts) = all_passable parts
  passable (alternation branches) = some_passable branches

  pub all_passable : Trees → Bool
  all_passable none = true
  all_passable (also part parts) = passable part && all_passable parts

  pub some_passable : Trees → Bool
  some_passable none = false
  some_passable (also branch branches) = passable branch || some_passable branches

abbrev mutual
  -- The tree can have a look-around assertion before its first byte.
  pub leads : Tree → Bool
  leads empty = false
  leads (literal text) = false
  leads (byte_class ranges) = false
  leads (char_class ranges) = false
  leads (look l) = true
  leads (repetition least most greedy body) = leads body
  leads (capture body) = leads body
  leads (concat parts) = leads_in_order parts
  leads (alternation branches) = some_leads branches

  -- Some part leads, and all parts before it match the empty string.
  pub leads_in_order : Trees → Bool
  leads_in_order none = false
  leads_in_order (also part parts) = leads part || (passable part && leads_in_order parts)

  pub some_leads : Trees → Bool
  some_leads none = false
  some_leads (also branch branches) = leads branch || some_leads branches
