-- Made scripts: a text for each number, and what it says. This project's own.
use Rattle.std.specs.Prelude.{ℕ, ◌+◌, ◌*◌, ◌/◌, ◌%◌, ◌==◌, if◌then◌else◌, Bool, true, List, [], ◌∷◌, ◌++◌, map, codes, Some}
use Rattle.std.specs.Fmt.{decimal}
use Rattle.std.specs.List.{flat_map, range_with_len}
use Rattle.policy_state.specs.declared.basis.Timed.{Timed}
use Rattle.policy_state.specs.declared.update.Update.TheVariants.{Multicast, Doze, Address}
use Rattle.script_text.specs.ScriptLines.{Contents}

-- ---- the text

-- the lines that each of them begins with
abbrev pub opening : List (List ℕ)
opening =
    codes "apf 1"
    ∷ codes "mac 02:00:00:00:00:01"
    ∷ codes "capacity 2048"
    ∷ codes "start 1000"
    ∷ codes "drop802 on"
    ∷ codes "deny 88a2"
    ∷ codes "at 1000 multicast on"
    ∷ codes "at 1000 address 192.168.1.5/24"
    ∷ []

-- whether a number is odd
abbrev pub is_odd : ℕ → Bool
is_odd j = j % 2 == 1

-- the second of the jth of the lines after these
abbrev pub doze_second : ℕ → ℕ
doze_second j = 1000 + 10 * j

-- the jth of the lines after these
unfoldable pub doze_line : ℕ → List ℕ
doze_line j = codes "at " ++ decimal (doze_second j) ++ (if is_odd j then codes " doze on" else codes " doze off")

-- all lines: j is 1, 2 and on while 10 j is at most n
abbrev pub made_lines : ℕ → List (List ℕ)
made_lines n = opening ++ map doze_line (range_with_len 1 (n / 10))

-- a line with its line feed
abbrev pub ended : List ℕ → List ℕ
ended line = line ++ 10 ∷ []

-- the made script of n: its lines, one after another
unfoldable pub made_script : ℕ → List ℕ
made_script n = flat_map ended (made_lines n)

-- ---- what it says

-- the jth change of the doze
abbrev pub doze_event : ℕ → Timed
doze_event j = record { time = doze_second j; update = Doze (is_odd j) }

-- the changes: multicast is filtered from the start on, the address is 192.168.1.5/24, and then the host dozes and wakes
-- in turn
abbrev pub made_events : ℕ → List Timed
made_events n =
    record { time = 1000; update = Multicast true }
    ∷ record { time = 1000; update = Address (Some (record { ip = 0xc0a80105; prefix = 24 })) }
    ∷ map doze_event (range_with_len 1 (n / 10))

-- what the made script of n says
unfoldable pub made_contents : ℕ → Contents
made_contents n = record {
  mac = 0x02 ∷ 0x00 ∷ 0x00 ∷ 0x00 ∷ 0x00 ∷ 0x01 ∷ [];
  capacity = 2048;
  start = 1000;
  drop_802_3 = true;
  deny = 0x88a2 ∷ [];
  events = made_events n;
}
