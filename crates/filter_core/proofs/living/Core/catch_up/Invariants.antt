use Rattle.std.proofs.Common.{◌≡◌, ◌≤◌, ◌+◌, take, fold}
use Rattle.filter_core.specs.Replay.{Course, after_event}
use Rattle.filter_core.specs.Standing.{filter_of}
use Rattle.filter_core.proofs.living.Core.catch_up.Given as goal

abbrev pub invariant-loop-event : goal.invariant-loop-event
invariant-loop-event l = record {
  filter : (c : Course) → c.filter ≡ filter_of l.fn.self → filter_of l.self ≡ (fold after_event c (take l.event-index l.events)).filter;
  memory : l.self.memory ≡ l.fn.self.memory;
  least : l.fn.self.install.number ≤ l.self.install.number;
  stays : l.self.install.number ≡ l.fn.self.install.number → l.self.install ≡ l.fn.self.install;
  number : l.self.install.number ≤ l.fn.self.install.number + l.event-index;
}
