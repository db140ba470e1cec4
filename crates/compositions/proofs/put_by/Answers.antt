-- The planes are pushed by a writer as a block's are, and the bits held back are stored. Assumes nothing.
use borrow.Author.Rules.{rules}
use Rattle.std.proofs.Common.{◌∙◌, arith}
use Rattle.bits.specs.Calls.{Reached}
use Rattle.bits.proofs.ReachLaws.{reached_part}
use Rattle.bit_writer.proofs.PushLaws.{finished}
use Rattle.planes.specs.Coder.{planes_code}
use Rattle.compositions.proofs.put_by.Goals as goal

pub returns : goal.returns
returns c =
    let a = c.args in
    let fresh = c.new-writer.ensures in
    let g = rw (fresh.buf, fresh.limit, fresh.at) at c.planes.ensures.begun in
    let r : Reached a.buf.now c.finish.new.self.buf.now (record { at = 0; writes = 0 }) a.end a.end (planes_code a.size a.p a.words.now) c.finish.result =
    reached_part g.done g.more g.split g.enough (omega arith)
    (finished g.pushed (rw (c.planes.ensures.same.limit ∙ fresh.limit) at c.finish.ensures.written)) in
    search (rules, r.bits)
