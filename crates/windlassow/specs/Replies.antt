-- What an exported call on slots did, as its contract says it: the reply, and what the lent buffer holds at the end.
use Rattle.std.specs.Prelude.{List, ℕ, Result}
use Rattle.std.specs.declared.result.Result.TheVariants.{Ok, Err}
use Rattle.bits.specs.Stream.{bits_of}
use Rattle.params.specs.declared.refusal.Refusal.{Refusal}
use Rattle.params.specs.Refusals.{number_of, count_of}
use Rattle.slots.specs.declared.Done.{Done}
use Rattle.slots.specs.Outcome.{Counted, Stored, Fetched}
use Rattle.windlassow.specs.declared.Reply.{Reply}

-- 0 when it is done, else the refusal's number and count, with no planes
abbrev pub reply_of : Result Done Refusal → Reply
reply_of (Ok d) = record { answer = 0; count = d.count; planes = d.planes }
reply_of (Err e) = record { answer = number_of e; count = count_of e; planes = 0 }

-- a count
abbrev pub replied : Reply → Counted
replied r = record { answer = r.answer; count = r.count; planes = r.planes }

-- a store, with the archive
abbrev pub stored : Reply → List ℕ → Stored
stored r archive = record { answer = r.answer; count = r.count; planes = r.planes; bits = bits_of archive }

-- a read, with the words
abbrev pub fetched : Reply → List ℕ → Fetched
fetched r words = record { answer = r.answer; count = r.count; planes = r.planes; words = words }
