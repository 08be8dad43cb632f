-- Which records a program has room for.
use Rattle.std.specs.Prelude.{ℕ, ◌+◌, ◌<◌, ◌≤◌, List, length, take}
use Rattle.std.specs.List.{sum_by}
use Rattle.ra_records.specs.declared.replies.Held.{Held}
use Rattle.size_fit.specs.Sizes.{weight}

-- what records need with a base
abbrev pub need_with : ℕ → List Held → ℕ
need_with base records = base + sum_by (λ held. weight held.advert) records

-- So many first records fit, and no longer prefix fits.
pub record IsLongestThatFits (base limit : ℕ) (records : List Held) (kept : ℕ) : Type 0 where
  pub within : kept ≤ length records
  pub fits : need_with base (take kept records) ≤ limit
  pub longest : (more : ℕ) → kept < more → more ≤ length records → limit < need_with base (take more records)
