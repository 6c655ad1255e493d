use Rattle.std.proofs.Common.{◌≡◌, ◌∙◌, ◌<◌, List, [], None, false, nat_le, length, map, refl, sym, get_or, arith}
use Rattle.std.specs.Cmp.{unsigned_Decides}
use Rattle.std.proofs.lemmas.List.{length-map, get_or-map}
use Rattle.std.proofs.lemmas.Option.{get_or_from_slice_get}
use Rattle.std.proofs.lemmas.Slice.Eq.{slice_eq-Decides}
use Rattle.logos_code.specs.CodeView.{entry_of}
use Rattle.logos_graph.specs.GraphView.{edge_of}
use Rattle.logos_graph.specs.declared.byte_class.ByteClass.{ByteClass}
use Rattle.logos_graph.specs.declared.graph.State.{State}
use Rattle.logos_generator.proofs.ForkLemmas.{is_many}
use Rattle.logos_generator.proofs.NumberLemmas.{tables_grow}
use Rattle.logos_generator.proofs.generator.fork.impl_fork.Goals as goal

pub returns-then-edges-gt2-clause-is : goal.returns-then-edges-gt2-clause-is
returns-then-edges-gt2-clause-is c =
    let h = c.in_ok-k.ensures.stored in
    let same = (slice_eq-Decides unsigned_Decides c.table_of.result h.0 _ refl).0 h.2 in
    let e : get_or c.insert_full.new.self.keys c.in_ok-k.k [] ≡ c.table_of.result = get_or_from_slice_get c.insert_full.new.self.keys c.in_ok-k.k h.0 [] h.1 ∙ sym same in
    let n = length-map c.args.edges.now edge_of in
    let more = c.if-edges-gt2.true in
    rw e (
      omega (arith, n, more),
      length-map c.table_of.result entry_of ∙ c.table_of.ensures.long,
      λ b h. get_or-map entry_of c.table_of.result b 0 None (omega (arith, h, c.table_of.ensures.long)) ∙ c.table_of.ensures.leads b h,
    )

pub returns-then-edges-gt2-clause-jumps : goal.returns-then-edges-gt2-clause-jumps
returns-then-edges-gt2-clause-jumps c = rw c.in_ok-k.ensures.keys (tables_grow c.args.tables.now.jumps.keys c.table_of.result)

-- there are more than two edges
many : (edges : List (ByteClass × State)) → 2 < length edges → nat_le (length (map edge_of edges)) 2 ≡ false
many edges more = is_many (length (map edge_of edges)) (omega (arith, length-map edges edge_of, more))

pub returns-then-edges-gt2-clause-numbers : goal.returns-then-edges-gt2-clause-numbers
returns-then-edges-gt2-clause-numbers c = rw (many c.args.edges.now c.if-edges-gt2.true) refl

pub returns-then-edges-gt2-clause-tables : goal.returns-then-edges-gt2-clause-tables
returns-then-edges-gt2-clause-tables c = rw (many c.args.edges.now c.if-edges-gt2.true) (rw c.table_of.ensures.is at c.in_ok-k.ensures.keys)
