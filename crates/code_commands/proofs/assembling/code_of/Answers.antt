use Rattle.std.proofs.Common.{refl}
use Rattle.code_commands.proofs.Coding.{has_code, has_no_code}
use Rattle.code_commands.proofs.assembling.code_of.Goals as goal

pub returns-in-Ok : goal.returns-in-Ok
returns-in-Ok c = has_code c.args.items.now c.in-Ok.bytes c.in-Ok.ensures.ok c.in-Ok.ensures.bytes

pub returns-in-Err-Twice : goal.returns-in-Err-Twice
returns-in-Err-Twice c = has_no_code c.args.items.now c.in-Err-Twice.field-0 _ _ c.in-Err-Twice.field-0-is c.in-Err-Twice.ensures.err refl

pub returns-in-Err-Unknown : goal.returns-in-Err-Unknown
returns-in-Err-Unknown c = has_no_code c.args.items.now c.in-Err-Unknown.field-0 _ _ c.in-Err-Unknown.field-0-is c.in-Err-Unknown.ensures.err refl

pub returns-in-Err-Backward : goal.returns-in-Err-Backward
returns-in-Err-Backward c = has_no_code c.args.items.now c.in-Err-Backward.field-0 _ _ c.in-Err-Backward.field-0-is c.in-Err-Backward.ensures.err refl

pub returns-in-Err-TooLong : goal.returns-in-Err-TooLong
returns-in-Err-TooLong c = has_no_code c.args.items.now c.in-Err-TooLong.field-0 _ _ c.in-Err-TooLong.field-0-is c.in-Err-TooLong.ensures.err refl
