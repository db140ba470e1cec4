-- What a call on streams did, as its contract says it: the reply, and what the lent buffers and a transfer's record hold at the end.
use Rattle.std.specs.Prelude.{List, ℕ, Result}
use Rattle.std.specs.declared.result.Result.TheVariants.{Ok, Err}
use Rattle.fpc.specs.declared.refusal.StreamRefusal.{StreamRefusal}
use Rattle.fpc.specs.Refusal.{number_of, count_of}
use Rattle.fpc_stream.specs.Outcome.{Outcome}
use Rattle.transfer_step.specs.declared.record.Transfer.{Transfer}
use Rattle.transfer.specs.Outcome as transfer
use Rattle.windlassow.specs.declared.streams.StreamReply.{StreamReply}

-- the reply of a call that counts, and of one that does not
abbrev pub counted : Result ℕ StreamRefusal → StreamReply
counted (Ok n) = record { answer = 0; count = n }
counted (Err e) = record { answer = number_of e; count = count_of e }

abbrev pub settled : Result (Unit {0}) StreamRefusal → StreamReply
settled (Ok _) = record { answer = 0; count = 0 }
settled (Err e) = record { answer = number_of e; count = count_of e }

-- the outcome of a call on a whole stream
abbrev pub outcome : StreamReply → List ℕ → List ℕ → List ℕ → Outcome
outcome r out f d = record { answer = r.answer; count = r.count; out = out; f = f; d = d }

-- an opening and a piece
abbrev pub called : StreamReply → Transfer → List ℕ → List ℕ → List ℕ → transfer.Outcome
called r t out f d = record { answer = r.answer; count = r.count; transfer = t; out = out; f = f; d = d }

-- a close, which is lent nothing else
abbrev pub called_off : StreamReply → Transfer → transfer.Closing
called_off r t = record { answer = r.answer; count = r.count; transfer = t }
