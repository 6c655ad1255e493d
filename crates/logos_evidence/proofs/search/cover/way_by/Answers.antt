use Rattle.std.proofs.Common.{◌∷◌, ◌++◌, [], List, ℕ, ap, ◌∙◌, append_assoc}
use Rattle.logos_evidence.specs.search.Rests.{completion}
use Rattle.logos_evidence.proofs.search.cover.way_by.Goals as goal

pub returns : goal.returns
returns c =
    let front = c.in_ok-bytes.bytes.items in
    record {
      front = front;
      parts = c.in_ok-push_rest.ensures ∙ ap (λ (bs : List ℕ). bs ++ completion c.args.rest) c.in_ok-push.ensures.items ∙
          append_assoc front (c.args.reading.byte ∷ []) (completion c.args.rest);
      way = λ next to tree there. c.in_ok-bytes.ensures next to tree there;
    }
