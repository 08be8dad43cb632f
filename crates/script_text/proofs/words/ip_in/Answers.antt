-- A text that `parse_ascii` takes is read, and one that it refuses isn't.
use Rattle.std.proofs.Common.{◌∙◌, ap, Some}
use Rattle.script_text.proofs.AddressWords.{ip_read, ip_refused}
use Rattle.script_text.proofs.words.ip_in.Goals as goal

pub returns-in-Ok : goal.returns-in-Ok
returns-in-Ok c = ap Some c.to_bits.ensures ∙ ip_read c.args.word.now c.in-Ok.ip c.in-Ok.ensures

pub returns-in-Err : goal.returns-in-Err
returns-in-Err c = ip_refused c.args.word.now c.in-Err.ensures
