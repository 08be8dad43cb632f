-- What the ends of a run over the system are seen as.
use Rattle.std.specs.Prelude.{ℕ, ◌-◌, List, [], Option, Some, None, Bool, length, take, if◌then◌else◌}
use Rattle.std.specs.Option.{option_map}
use Rattle.apf_base.specs.Memory.{one_more}

-- a count of failures after one more call, which failed or didn't
abbrev pub failures_after : ℕ → Bool → ℕ
failures_after count failed = if failed then one_more count else count

-- what is left of a reader, where it is told, how many bytes it has given, and how many reads and fetches have failed
pub record Reading : Type 0 where
  pub left : Option (List ℕ)
  pub given : ℕ
  pub faults : ℕ
  pub misses : ℕ

-- what a writer holds, where it is told, and how many bytes at the end of that are not flushed
pub record Writing : Type 0 where
  pub written : Option (List ℕ)
  pub unflushed : ℕ

-- what was written, and how many writes have failed
pub record Output : Type 0 where
  pub writing : Writing
  pub faults : ℕ

-- all but the last of these bytes
abbrev pub without_last : ℕ → List ℕ → List ℕ
without_last count bytes = take (length bytes - count) bytes

-- what was written and flushed
abbrev pub flushed : Writing → Option (List ℕ)
flushed writing = option_map (without_last writing.unflushed) writing.written

-- what a file that is open has left, and nothing where none is
abbrev pub opened_bytes : {F : Type 0} → (F → Option (List ℕ)) → Option F → Option (List ℕ)
opened_bytes remaining (Some file) = remaining file
opened_bytes remaining None = Some []
