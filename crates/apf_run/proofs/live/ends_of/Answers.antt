use Rattle.std.proofs.Common.{rules, refl}
use Rattle.apf_run.proofs.Boards.{board_rises, board_room}
use Rattle.apf_run.proofs.live.ends_of.Goals as goal

pub drive-ends-requires-clause-numbers : goal.drive-ends-requires-clause-numbers
drive-ends-requires-clause-numbers g c = λ κs within. board_rises _ _ _ _ _ c.in_ok-installer.ensures.made c.args.installs.now c.in-Some.nexts.now c.requires.numbers (search rules)

pub drive-ends-requires-clause-room : goal.drive-ends-requires-clause-room
drive-ends-requires-clause-room g c = λ κs within. board_room _ _ _ _ _ c.in_ok-installer.ensures.made c.args.frames.now refl
