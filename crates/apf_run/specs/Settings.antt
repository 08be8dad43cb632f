-- The values that the words of `program` and `make` spell.
use Rattle.std.specs.Prelude.{ℕ, Bool, true, false, List, nat_le, codes, Option, None, Some, if◌then◌else◌}
use Rattle.std.specs.Str.{bytes_eq}
use Rattle.apf_coding.specs.Reading.{◌>>=◌}
use Rattle.plain_text.specs.Numbers.{number_within}
use Rattle.policy_state.specs.declared.state.Address.{Address}
use Rattle.script_text.specs.WordReading.{mac_of, address_of}
use Rattle.apf_run.specs.declared.setting.Flags.{Flags}
use Rattle.apf_run.specs.declared.setting.MadeWords.{MadeWords}
use Rattle.apf_run.specs.declared.setting.ProgramWords.{ProgramWords}
use Rattle.apf_run.specs.declared.setting.What.{What}
use Rattle.apf_run.specs.declared.setting.What.TheVariants.{Script, Capture, Summary}
use Rattle.policy_state.specs.Limits.{capacity_least, capacity_most}

-- ---- the values of `program`

-- what a program is generated for
pub record Setting : Type 0 where
  pub mac : List ℕ
  pub capacity : ℕ
  pub address : Option Address
  pub flags : Flags

abbrev pub capacity_of : List ℕ → Option ℕ
capacity_of word = do
  n ← number_within capacity_most word
  if nat_le capacity_least n then Some n else None

-- `none`, or an address whose prefix is one
abbrev pub host_address_of : List ℕ → Option (Option Address)
host_address_of word =
    if bytes_eq word (codes "none") then Some None
    else do
      address ← address_of word
      if nat_le address.prefix 32 then Some (Some address) else None

abbrev pub flags : Bool → Bool → Bool → Option Flags
flags drop_802_3 doze multicast = Some (record { drop_802_3 = drop_802_3; doze = doze; multicast = multicast })

-- `none`, or the letters of what is on: `8` for 802.3 frames dropped, `d` for doze, `m` for multicast
abbrev pub flags_of : List ℕ → Option Flags
flags_of word =
    if bytes_eq word (codes "none") then flags false false false
    else if bytes_eq word (codes "8") then flags true false false
    else if bytes_eq word (codes "d") then flags false true false
    else if bytes_eq word (codes "m") then flags false false true
    else if bytes_eq word (codes "8d") then flags true true false
    else if bytes_eq word (codes "8m") then flags true false true
    else if bytes_eq word (codes "dm") then flags false true true
    else if bytes_eq word (codes "8dm") then flags true true true
    else None

-- the setting that words spell
abbrev pub setting_for : List ℕ → List ℕ → List ℕ → List ℕ → Option Setting
setting_for mac capacity address flags = do
  m ← mac_of mac
  c ← capacity_of capacity
  a ← host_address_of address
  f ← flags_of flags
  Some (record { mac = m; capacity = c; address = a; flags = f })

-- what the values of the code set
abbrev pub setting_of : ProgramWords → Setting
setting_of words = record { mac = words.mac; capacity = words.capacity; address = words.address; flags = words.flags }

-- ---- the values of `make`

abbrev pub what_of : List ℕ → Option What
what_of word =
    if bytes_eq word (codes "script") then Some Script
    else if bytes_eq word (codes "capture") then Some Capture
    else if bytes_eq word (codes "summary") then Some Summary
    else None

-- 1 to 100000
abbrev pub count_of : List ℕ → Option ℕ
count_of word = do
  n ← number_within 100000 word
  if nat_le 1 n then Some n else None

-- what is made, and of how many frames
pub record Making : Type 0 where
  pub what : What
  pub n : ℕ

-- what words ask to be made
abbrev pub making_for : List ℕ → List ℕ → Option Making
making_for what n = do
  w ← what_of what
  count ← count_of n
  Some (record { what = w; n = count })

-- what the values of the code ask for
abbrev pub making_of : MadeWords → Making
making_of words = record { what = words.what; n = words.n }
