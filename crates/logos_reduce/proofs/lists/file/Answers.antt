use Rattle.std.proofs.Common.{◌+◌, arith}
use Rattle.logos_reduce.proofs.listings.ListLemmas.{has_in-set, has_in-set_at, has_in-set_only}
use Rattle.logos_reduce.proofs.listings.RisingLemmas.{rising-set}
use Rattle.logos_reduce.proofs.lists.file.Goals as goal

pub returns-in_err-add-clause-stays : goal.returns-in_err-add-clause-stays
returns-in_err-add-clause-stays c = has_in-set c.args.lists.now.items c.args.b c.index_mut.result.now c.add.new.list (omega arith) c.index_mut.ensures.value c.add.ensures.stays

pub returns-in_err-add-clause-only : goal.returns-in_err-add-clause-only
returns-in_err-add-clause-only c = has_in-set_only c.args.lists.now.items c.args.b c.args.s c.index_mut.result.now c.add.new.list (omega arith) c.index_mut.ensures.value c.add.ensures.only

pub returns-clause-has : goal.returns-clause-has
returns-clause-has c = has_in-set_at c.args.lists.now.items c.args.b c.add.new.list c.args.s (omega arith) c.in_ok-add.ensures.has

pub returns-clause-stays : goal.returns-clause-stays
returns-clause-stays c = has_in-set c.args.lists.now.items c.args.b c.index_mut.result.now c.add.new.list (omega arith) c.index_mut.ensures.value c.add.ensures.stays

pub returns-clause-only : goal.returns-clause-only
returns-clause-only c = has_in-set_only c.args.lists.now.items c.args.b c.args.s c.index_mut.result.now c.add.new.list (omega arith) c.index_mut.ensures.value c.add.ensures.only

pub returns-in_err-add-clause-rising : goal.returns-in_err-add-clause-rising
returns-in_err-add-clause-rising c = rising-set (c.args.s + 1) c.args.b c.args.lists.now.items c.index_mut.result.now c.add.new.list (omega arith) c.index_mut.ensures.value c.add.ensures.rising

pub returns-clause-rising : goal.returns-clause-rising
returns-clause-rising c = rising-set (c.args.s + 1) c.args.b c.args.lists.now.items c.index_mut.result.now c.add.new.list (omega arith) c.index_mut.ensures.value c.add.ensures.rising
