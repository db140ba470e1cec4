-- No refusal has the number of a done call. Assumes nothing.
use Rattle.std.proofs.Common.{◌≡◌, arith}
use Rattle.fpc.specs.declared.refusal.StreamRefusal.{StreamRefusal}
use Rattle.fpc.specs.declared.refusal.StreamRefusal.TheVariants.{InvalidTables, InputTooLong, OutputTooLong, NotAStream, PieceRoom, Damaged, NotWhole, TransferClosed}
use Rattle.fpc.specs.Refusal.{number_of}

pub some_number : (e : StreamRefusal) → number_of e ≡ 0 → ⊥
some_number InvalidTables h = omega arith
some_number InputTooLong h = omega arith
some_number (OutputTooLong n) h = omega arith
some_number NotAStream h = omega arith
some_number (PieceRoom n) h = omega arith
some_number (Damaged n) h = omega arith
some_number NotWhole h = omega arith
some_number TransferClosed h = omega arith
