-- `Sink::put_pair` meets its contract: one byte and two runs of bytes, each from where the one before it ended. Assumes nothing.
use Rattle.std.proofs.Common.{◌≡◌, ◌+◌, ◌*◌, ◌%◌, [], ◌∷◌, take}
use Rattle.fpc_stream.specs.Bytes.{low_bytes}
use Rattle.fpc_stream.specs.Stream.{remaining_count}
use Rattle.fpc_step.specs.Calls.{Appended}
use Rattle.fpc_stream.proofs.CodeLaws.{bytes_le}
use Rattle.fpc_step.proofs.WordLaws.{first_bytes, appended_then}
use Rattle.fpc_step.proofs.sink.Sink.put_pair.Goals as goal

pub returns-clause-appended : goal.returns-clause-appended
returns-clause-appended c =
    let a = c.args in
    let p = c.put.ensures in
    let m = c.put_bytes.ensures.appended in
    let n = c.put_bytes-2.ensures.appended in
    let x = low_bytes (remaining_count (a.a.nibble % 8)) a.a.xor in
    let y = low_bytes (remaining_count (a.b.nibble % 8)) a.b.xor in
    let e : take c.remaining_count.result c.to_le_bytes.result ≡ x = rw (c.to_le_bytes.ensures, c.remaining_count.ensures) (first_bytes (remaining_count (a.a.nibble % 8)) a.a.xor (bytes_le (a.a.nibble % 8))) in
    let f : take c.remaining_count-2.result c.to_le_bytes-2.result ≡ y = rw (c.to_le_bytes-2.ensures, c.remaining_count-2.ensures) (first_bytes (remaining_count (a.b.nibble % 8)) a.b.xor (bytes_le (a.b.nibble % 8))) in
    let o = a.self.now.out.now in
    let h : Appended o a.self.now.at ((16 * a.a.nibble + a.b.nibble) ∷ []) c.put.new.self.at c.put.new.self.out.now = record { moved = p.moved; put = p.put } in
    appended_then _ _ _ _ _ h _ _ _ (appended_then _ _ _ _ _ (rw e at m) _ _ _ (rw f at n))
