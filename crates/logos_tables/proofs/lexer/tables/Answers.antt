use Rattle.std.proofs.Common.{List, ℕ, string_bytes, subst, sym}
use Rattle.logos_codegen.specs.Fronts.{around_made}
use Rattle.logos_text.specs.FrontRuns.{front_runs}
use Rattle.logos_text.specs.Pieces.{ArePrinted}
use Rattle.logos_text.proofs.PieceLemmas.{printed_before}
use Rattle.logos_tables.proofs.lexer.tables.Goals as goal

pub returns-clause-holds : goal.returns-clause-holds
returns-clause-holds c =
    let added = c.in_ok-push_implementation.ensures in
    record {
      tables = added.tables;
      sizes = added.sizes;
      hold = added.hold;
      front = string_bytes c.in_ok-sink.sink.text;
      begins = c.in_ok-sink.ensures.front;
      is = added.is;
    }

pub returns-clause-pieces : goal.returns-clause-pieces
returns-clause-pieces c =
    let runs = front_runs (around_made c.args.made.now) c.args.made.now.code in
    let pieces = c.in_ok-sink.sink.pieces.items in
    subst (λ (text : List ℕ). ArePrinted runs 0 pieces text) (sym c.in_ok-push_implementation.ensures.is) (printed_before runs 0 (string_bytes c.in_ok-sink.sink.text) _ pieces c.in_ok-sink.ensures.pieces)
