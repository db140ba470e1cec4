-- All are digits where each is.
use Rattle.std.proofs.Common.{rules}
use Rattle.hexadecimal.proofs.DigitLaws.{all_decides}
use Rattle.hexadecimal.proofs.all_digits.Goals as goal

pub returns : goal.returns
returns c = all_decides c.args.bytes.now c.all.result (search rules)
