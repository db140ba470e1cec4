-- The answer number of a refusal, and the count that is returned with it.
use Rattle.std.specs.Prelude.{ℕ}
use Rattle.fpc.specs.declared.refusal.StreamRefusal.{StreamRefusal}
use Rattle.fpc.specs.declared.refusal.StreamRefusal.TheVariants.{InvalidTables, InputTooLong, OutputTooLong, NotAStream, PieceRoom, Damaged, NotWhole, TransferClosed}

abbrev pub number_of : StreamRefusal → ℕ
number_of InvalidTables = 20
number_of InputTooLong = 21
number_of (OutputTooLong needed) = 22
number_of NotAStream = 23
number_of (PieceRoom needed) = 22
number_of (Damaged doubles) = 23
number_of NotWhole = 23
number_of TransferClosed = 25

abbrev pub count_of : StreamRefusal → ℕ
count_of InvalidTables = 0
count_of InputTooLong = 0
count_of (OutputTooLong needed) = needed
count_of NotAStream = 0
count_of (PieceRoom needed) = needed
count_of (Damaged doubles) = doubles
count_of NotWhole = 0
count_of TransferClosed = 0
