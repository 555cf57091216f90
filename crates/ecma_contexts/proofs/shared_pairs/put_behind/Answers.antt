use Rattle.std.proofs.Common.{arith}
use Rattle.ecma_contexts.proofs.SharedPairsLemmas.{cut-first, cut-filled, cut-put, last-is, last-put, last-kept}
use Rattle.ecma_contexts.proofs.shared_pairs.put_behind.Goals as goal

pub returns-in_err-block_of-clause-err : goal.returns-in_err-block_of-clause-err
returns-in_err-block_of-clause-err c = let first = (cut-first _ _ _ _ c.requires.filled c.requires.within c.div_ceil.ensures c.truncate.ensures.items).0 in grind (arith, first)

pub returns-in_err-block_of-clause-kept : goal.returns-in_err-block_of-clause-kept
returns-in_err-block_of-clause-kept c = let has = (cut-first _ _ _ _ c.requires.filled c.requires.within c.div_ceil.ensures c.truncate.ensures.items).1 in grind (arith, has)

pub returns-in_err-block_of-clause-filled : goal.returns-in_err-block_of-clause-filled
returns-in_err-block_of-clause-filled c = cut-filled _ _ _ c.requires.filled c.truncate.ensures.items

pub returns-in_ok-push-clause-ok : goal.returns-in_ok-push-clause-ok
returns-in_ok-push-clause-ok c =
    let room = c.requires.room in
    (cut-put _ _ _ _ _ _ _ c.requires.filled c.requires.within c.div_ceil.ensures c.truncate.ensures.items c.if-part-eq0.true c.in_ok-push.ensures.items c.in_ok-block_of.ensures (omega (arith, room))).0

pub returns-in_ok-push-clause-filled : goal.returns-in_ok-push-clause-filled
returns-in_ok-push-clause-filled c =
    let room = c.requires.room in
    (cut-put _ _ _ _ _ _ _ c.requires.filled c.requires.within c.div_ceil.ensures c.truncate.ensures.items c.if-part-eq0.true c.in_ok-push.ensures.items c.in_ok-block_of.ensures (omega (arith, room))).1

pub put_in_block-requires-clause-within : goal.put_in_block-requires-clause-within
put_in_block-requires-clause-within c =
    (last-is _ _ _ _ _ _ c.requires.filled c.requires.within c.div_ceil.ensures c.truncate.ensures.items c.if-part-eq0.false c.truncate.new.self.ok.0 c.in-Some.ensures.value).has

pub returns-in_ok-put_in_block-clause-ok : goal.returns-in_ok-put_in_block-clause-ok
returns-in_ok-put_in_block-clause-ok c =
    let is = last-is _ _ _ _ _ _ c.requires.filled c.requires.within c.div_ceil.ensures c.truncate.ensures.items c.if-part-eq0.false c.truncate.new.self.ok.0 c.in-Some.ensures.value in
    (last-put _ _ _ _ _ _ _ c.requires.filled is c.in_ok-put_in_block.ensures.ok c.requires.room).0

pub returns-in_ok-put_in_block-clause-filled : goal.returns-in_ok-put_in_block-clause-filled
returns-in_ok-put_in_block-clause-filled c =
    let is = last-is _ _ _ _ _ _ c.requires.filled c.requires.within c.div_ceil.ensures c.truncate.ensures.items c.if-part-eq0.false c.truncate.new.self.ok.0 c.in-Some.ensures.value in
    (last-put _ _ _ _ _ _ _ c.requires.filled is c.in_ok-put_in_block.ensures.ok c.requires.room).1

pub returns-in_err-put_in_block-clause-err : goal.returns-in_err-put_in_block-clause-err
returns-in_err-put_in_block-clause-err c =
    let is = last-is _ _ _ _ _ _ c.requires.filled c.requires.within c.div_ceil.ensures c.truncate.ensures.items c.if-part-eq0.false c.truncate.new.self.ok.0 c.in-Some.ensures.value in
    let kept = (last-kept _ _ _ _ _ c.put_in_block.new.block c.requires.filled is c.in_err-put_in_block.ensures.err c.in_err-put_in_block.ensures.kept c.in_err-put_in_block.ensures.fewer).0 in
    grind (arith, kept)

pub returns-in_err-put_in_block-clause-kept : goal.returns-in_err-put_in_block-clause-kept
returns-in_err-put_in_block-clause-kept c =
    let is = last-is _ _ _ _ _ _ c.requires.filled c.requires.within c.div_ceil.ensures c.truncate.ensures.items c.if-part-eq0.false c.truncate.new.self.ok.0 c.in-Some.ensures.value in
    let kept = (last-kept _ _ _ _ _ c.put_in_block.new.block c.requires.filled is c.in_err-put_in_block.ensures.err c.in_err-put_in_block.ensures.kept c.in_err-put_in_block.ensures.fewer).1 in
    grind (arith, kept)

pub returns-in_err-put_in_block-clause-filled : goal.returns-in_err-put_in_block-clause-filled
returns-in_err-put_in_block-clause-filled c =
    let is = last-is _ _ _ _ _ _ c.requires.filled c.requires.within c.div_ceil.ensures c.truncate.ensures.items c.if-part-eq0.false c.truncate.new.self.ok.0 c.in-Some.ensures.value in
    (last-kept _ _ _ _ _ c.put_in_block.new.block c.requires.filled is c.in_err-put_in_block.ensures.err c.in_err-put_in_block.ensures.kept c.in_err-put_in_block.ensures.fewer).2
