-- The bounds of a configuration, and of what is held under it. The numbers are this project's own.
use Rattle.std.specs.Prelude.{ℕ}
use Rattle.apf_base.specs.Limits.{memory_size}

-- a device's bytes for program and memory: at least the memory's
abbrev pub capacity_least : ℕ
capacity_least = memory_size

abbrev pub capacity_most : ℕ
capacity_most = 8192

-- the most ethertypes that are denied
abbrev pub denied_most : ℕ
denied_most = 32

-- the most records that are held
abbrev pub records_most : ℕ
records_most = 10
