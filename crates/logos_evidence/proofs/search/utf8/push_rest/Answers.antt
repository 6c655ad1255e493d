use Rattle.std.proofs.Common.{◌<◌, ◌++◌, arith}
use Rattle.logos_evidence.specs.search.Rests.{completion}
use Rattle.logos_evidence.proofs.search.CompletionLemmas.{completion_pushed}
use Rattle.logos_evidence.proofs.search.utf8.push_rest.Goals as goal

pub loop-rest-preserved : goal.loop-rest-preserved
loop-rest-preserved c =
    let some_left : 0 < c.loop-rest.rest.count = omega arith in
    completion_pushed c.loop-rest.bytes.items c.push.new.self.items (c.args.bytes.now.items ++ completion c.args.rest) c.loop-rest.rest c.more-rest.result
    some_left c.in_ok-push.ensures.items c.more-rest.ensures c.loop-rest.invariant
