use Rattle.made_input.proofs.Whole.{whole, capture_short}
use Rattle.made_input.proofs.laws.made_captures_are_whole.Goals as goal

pub returns-clause-kind : goal.returns-clause-kind
returns-clause-kind c n le = (whole n le).kind

pub returns-clause-end : goal.returns-clause-end
returns-clause-end c n le = (whole n le).end

pub returns-clause-frames : goal.returns-clause-frames
returns-clause-frames c n le = (whole n le).frames

pub returns-clause-stamps : goal.returns-clause-stamps
returns-clause-stamps c n le = (whole n le).stamps

pub returns-clause-short : goal.returns-clause-short
returns-clause-short c n le = capture_short n le
