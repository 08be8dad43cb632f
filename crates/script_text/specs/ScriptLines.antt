-- The lines of scripts, as the texts of what they say. This project's own format.
use Rattle.std.specs.Prelude.{ℕ, ◌^◌, ◌<◌, ◌≤◌, ◌||◌, ◌==◌, Bool, true, false, not, List, [], ◌∷◌, ◌++◌, length, map, filter, slice_index, codes, All, Some, None}
use Rattle.std.specs.Fmt.{decimal}
use Rattle.std.specs.List.{join_with_byte, enumerate_from}
use Rattle.policy_state.specs.Ranges.{IsKeepalive}
use Rattle.policy_state.specs.declared.state.Keepalive.{Keepalive}
use Rattle.policy_state.specs.declared.update.Update.{Update}
use Rattle.policy_state.specs.declared.update.Update.TheVariants as updates
use Rattle.policy_state.specs.declared.basis.Timed.{Timed}
use Rattle.policy_state.specs.declared.basis.Script.{Script}
use Rattle.script_text.specs.declared.words.Endpoint.{Endpoint}
use Rattle.script_text.specs.Words.{mac_word, ethertype_word, address_word, endpoint_word}
use Rattle.plain_text.specs.Lines.{lines_of}
use Rattle.policy_state.specs.Limits.{capacity_least, capacity_most, denied_most}

-- ---- what a script says

-- the values that stand in its lines
pub record Contents : Type 0 where
  pub mac : List ℕ
  pub capacity : ℕ
  pub start : ℕ
  pub drop_802_3 : Bool
  pub deny : List ℕ
  pub events : List Timed

-- what the script of this value says
abbrev pub contents_of : Script → Contents
contents_of s = record {
  mac = s.config.mac;
  capacity = s.config.capacity;
  start = s.start;
  drop_802_3 = s.config.drop_802_3;
  deny = s.config.deny;
  events = s.events;
}

-- ---- the texts of the lines

-- whether something is on
abbrev pub switch_word : Bool → List ℕ
switch_word true = codes "on"
switch_word false = codes "off"

-- `none`, or ethertypes with commas between them
abbrev pub deny_word : List ℕ → List ℕ
deny_word [] = codes "none"
deny_word (e ∷ es) = join_with_byte 44 (map ethertype_word (e ∷ es))

-- the first line
abbrev pub version_line : List ℕ
version_line = codes "apf 1"

-- the second
abbrev pub mac_line : List ℕ → List ℕ
mac_line mac = codes "mac " ++ mac_word mac

-- the third
abbrev pub capacity_line : ℕ → List ℕ
capacity_line n = codes "capacity " ++ decimal n

-- the fourth
abbrev pub start_line : ℕ → List ℕ
start_line n = codes "start " ++ decimal n

-- the fifth
abbrev pub drop_line : Bool → List ℕ
drop_line on = codes "drop802 " ++ switch_word on

-- the sixth
abbrev pub deny_line : List ℕ → List ℕ
deny_line deny = codes "deny " ++ deny_word deny

-- this end of the connection
abbrev pub local_end : Keepalive → Endpoint
local_end sent = record { ip = sent.local; port = sent.local_port }

-- the other end
abbrev pub remote_end : Keepalive → Endpoint
remote_end sent = record { ip = sent.remote; port = sent.remote_port }

-- the slot, the ends, and the numbers as they were sent
abbrev pub keepalive_words : ℕ → Keepalive → List (List ℕ)
keepalive_words slot sent =
    decimal slot
    ∷ endpoint_word (local_end sent)
    ∷ endpoint_word (remote_end sent)
    ∷ decimal sent.sequence
    ∷ decimal sent.acknowledgement
    ∷ []

-- what changes
abbrev pub update_text : Update → List ℕ
update_text (updates.Multicast on) = codes "multicast " ++ switch_word on
update_text (updates.Doze on) = codes "doze " ++ switch_word on
update_text (updates.Address None) = codes "address none"
update_text (updates.Address (Some a)) = codes "address " ++ address_word a
update_text (updates.KeepaliveAdd slot sent) = codes "keepalive add " ++ join_with_byte 32 (keepalive_words slot sent)
update_text (updates.KeepaliveRemove slot) = codes "keepalive remove " ++ decimal slot

-- when it changes, and what
abbrev pub event_line : Timed → List ℕ
event_line e = codes "at " ++ decimal e.time ++ codes " " ++ update_text e.update

-- the first six lines
abbrev pub first_lines : Contents → List (List ℕ)
first_lines c =
    version_line
    ∷ mac_line c.mac
    ∷ capacity_line c.capacity
    ∷ start_line c.start
    ∷ drop_line c.drop_802_3
    ∷ deny_line c.deny
    ∷ []

-- all lines, but for those that are skipped
abbrev pub lines_saying : Contents → List (List ℕ)
lines_saying c = first_lines c ++ map event_line c.events

-- ---- the values that may stand in them

-- the bytes of a device
pub record IsCapacity (n : ℕ) : Type 0 where
  pub least : capacity_least ≤ n
  pub most : n ≤ capacity_most

-- at most 32 numbers of 16 bits
pub record IsDeny (deny : List ℕ) : Type 0 where
  pub few : length deny ≤ denied_most
  pub fit : All (λ e. e < 2 ^ 16) deny

-- a number of 32 bits
abbrev pub IsWordNumber : ℕ → Type 0
IsWordNumber n = n < 2 ^ 32

-- Slots and prefixes that the state refuses may stand in a script.
abbrev pub IsScriptUpdate : Update → Type 0
IsScriptUpdate (updates.Multicast on) = Unit {0}
IsScriptUpdate (updates.Doze on) = Unit {0}
IsScriptUpdate (updates.Address None) = Unit {0}
IsScriptUpdate (updates.Address (Some a)) = IsWordNumber a.ip × (a.prefix ≤ 255)
IsScriptUpdate (updates.KeepaliveAdd slot sent) = IsWordNumber slot × IsKeepalive sent
IsScriptUpdate (updates.KeepaliveRemove slot) = IsWordNumber slot

-- an event at a second
abbrev pub IsEvent : Timed → Type 0
IsEvent e = IsWordNumber e.time × IsScriptUpdate e.update

-- ---- the lines of a text

-- an empty line, or one that begins with `#`
abbrev pub is_skipped : List ℕ → Bool
is_skipped line = (length line == 0) || (slice_index line 0 == 35)

-- the lines that aren't skipped, from one with this number on, each with its number
abbrev pub numbered : ℕ → List (List ℕ) → List (ℕ × List ℕ)
numbered number lines = filter (λ l. not (is_skipped l.1)) (enumerate_from number lines)

-- the lines of a text that aren't skipped, with their numbers, which count from 1 and count all lines
abbrev pub kept_lines : List ℕ → List (ℕ × List ℕ)
kept_lines text = numbered 1 (lines_of text)
