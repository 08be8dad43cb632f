-- What a core is seen as.
use Rattle.std.specs.Prelude.{ℕ, List}
use Rattle.ra_records.specs.declared.replies.Held.{Held}
use Rattle.filter_core.specs.declared.install.Install.{Install}
use Rattle.filter_core.specs.Steps.{Filter}
use Rattle.filter_core.specs.Coded.{plain}

-- the install that stands, with its code, the records, how many were ever added, the clock and the counters
pub record Standing : Type 0 where
  pub install : Install
  pub held : List Held
  pub added : ℕ
  pub clock : ℕ
  pub memory : List ℕ

-- what the steps know of it
abbrev pub filter_of : Standing → Filter
filter_of s = record { install = plain s.install; held = s.held; added = s.added; clock = s.clock }
