-- What a program needs of a device, part by part, in bytes. The numbers are this project's own.
use Rattle.std.specs.Prelude.{ℕ}

-- the base of each program, and what each denied ethertype and each keepalive add to it
abbrev pub base_weight : ℕ
base_weight = 600

abbrev pub denied_weight : ℕ
denied_weight = 9

abbrev pub keepalive_weight : ℕ
keepalive_weight = 80

-- a record, each comparison of it beside the bytes compared, and each lifetime
abbrev pub record_weight : ℕ
record_weight = 29

abbrev pub comparison_weight : ℕ
comparison_weight = 12

abbrev pub lifetime_weight : ℕ
lifetime_weight = 12
