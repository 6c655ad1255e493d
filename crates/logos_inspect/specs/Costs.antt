-- The cost of a lexer.
use Rattle.std.specs.Prelude.{length}
use Rattle.logos_code.specs.Code.{CodeValue}
use Rattle.logos_inspect.specs.declared.costs.Costs.{Costs}

-- The numbers of states, of bit tables and of jump tables of a code.
abbrev pub costs : CodeValue → Costs
costs code = record {
  states = length code.states;
  bit_tables = length code.bit_tables;
  jump_tables = length code.jump_tables;
}
