-- Scripts by functions that compute: what a text says, or its first fault.
use Rattle.std.specs.Prelude.{◌≡◌, ℕ, ◌+◌, ◌==◌, nat_lt, nat_le, if◌then◌else◌, Bool, true, false, List, [], ◌∷◌, ◌++◌, length, take, drop, codes, Option, Some, None, Result, Ok, Err}
use Rattle.std.specs.Str.{bytes_eq}
use Rattle.apf_coding.specs.Reading.{◌>>=◌}
use Rattle.std.specs.Borrow.{Bor}
use Rattle.policy_state.specs.declared.update.Update.{Update}
use Rattle.policy_state.specs.declared.update.Update.TheVariants as updates
use Rattle.policy_state.specs.declared.config.Config.{Config}
use Rattle.policy_state.specs.declared.basis.Timed.{Timed}
use Rattle.script_text.specs.declared.script_error.ScriptKind.TheVariants.{Form, Order, End}
use Rattle.script_text.specs.declared.script_error.ScriptError.{ScriptError}
use Rattle.script_text.specs.declared.script_error.ScriptError.TheVariants.{Bad, OutOfMemory}
use Rattle.script_text.specs.declared.lines.Lines.{Lines}
use Rattle.plain_text.specs.Numbers.{number_within}
use Rattle.script_text.specs.WordReading.{mac_of, ethertype_of, cut_of, address_of, endpoint_of}
use Rattle.plain_text.specs.Lines.{lines_of}
use Rattle.script_text.specs.ScriptLines.{Contents, numbered, kept_lines, version_line}
use Rattle.policy_state.specs.Limits.{capacity_least, capacity_most, denied_most}

-- ---- the lines that are left

abbrev pub left : Lines → List (ℕ × List ℕ)
left lines = numbered (lines.number + 1) (lines_of lines.rest.now)

-- the number of all lines, and one
abbrev pub end_line : Lines → ℕ
end_line lines = lines.number + length (lines_of lines.rest.now) + 1

-- the first of the lines that were left has this number, and the others are left
abbrev pub Gives : Option (Bor (List ℕ)) → List (ℕ × List ℕ) → ℕ → List (ℕ × List ℕ) → Type 0
Gives (Some line) old number new = old ≡ (number, line.now) ∷ new
Gives None old number new = (old ≡ []) × (new ≡ [])

-- ---- lines

-- what stands behind a prefix
unfoldable pub behind : List ℕ → List ℕ → Option (List ℕ)
behind front line = if bytes_eq (take (length front) line) front then Some (drop (length front) line) else None

-- whether the word says that something is on
unfoldable pub switch_of : List ℕ → Option Bool
switch_of word = if bytes_eq word (codes "on") then Some true else if bytes_eq word (codes "off") then Some false else None

-- ethertypes with commas between them
abbrev pub ethertypes_of : List ℕ → Option (List ℕ)
ethertypes_of [] = None
ethertypes_of (a ∷ []) = None
ethertypes_of (a ∷ b ∷ []) = None
ethertypes_of (a ∷ b ∷ c ∷ []) = None
ethertypes_of (a ∷ b ∷ c ∷ d ∷ []) = do
  e ← ethertype_of (a ∷ b ∷ c ∷ d ∷ [])
  Some (e ∷ [])
ethertypes_of (a ∷ b ∷ c ∷ d ∷ comma ∷ rest) = do
  e ← ethertype_of (a ∷ b ∷ c ∷ d ∷ [])
  es ← if comma == 44 then ethertypes_of rest else None
  Some (e ∷ es)

-- the first of ethertypes with commas between them, and what stands behind its comma
unfoldable pub first_ethertype : List ℕ → Option (ℕ × Option (List ℕ))
first_ethertype [] = None
first_ethertype (a ∷ []) = None
first_ethertype (a ∷ b ∷ []) = None
first_ethertype (a ∷ b ∷ c ∷ []) = None
first_ethertype (a ∷ b ∷ c ∷ d ∷ []) = ethertype_of (a ∷ b ∷ c ∷ d ∷ []) >>= λ e. Some (e, None)
first_ethertype (a ∷ b ∷ c ∷ d ∷ comma ∷ rest) = if comma == 44 then (ethertype_of (a ∷ b ∷ c ∷ d ∷ []) >>= λ e. Some (e, Some rest)) else None

-- no more than a script may have
abbrev pub few_of : Option (List ℕ) → Option (List ℕ)
few_of (Some deny) = if nat_le (length deny) denied_most then Some deny else None
few_of None = None

-- none, or some ethertypes
unfoldable pub deny_of : List ℕ → Option (List ℕ)
deny_of word = if bytes_eq word (codes "none") then Some [] else few_of (ethertypes_of word)

-- a number from a limit on
abbrev pub at_least : ℕ → ℕ → Option ℕ
at_least limit n = if nat_le limit n then Some n else None

-- the first of the six lines says nothing but the format
unfoldable pub version_read : List ℕ → Option (Unit {0})
version_read line = if bytes_eq line version_line then Some tt else None

-- the second
unfoldable pub mac_read : List ℕ → Option (List ℕ)
mac_read line = behind (codes "mac ") line >>= mac_of

-- the third
unfoldable pub capacity_read : List ℕ → Option ℕ
capacity_read line = do
  word ← behind (codes "capacity ") line
  n ← number_within capacity_most word
  at_least capacity_least n

-- the fourth
unfoldable pub start_read : List ℕ → Option ℕ
start_read line = behind (codes "start ") line >>= number_within 4294967295

-- the fifth
unfoldable pub drop_read : List ℕ → Option Bool
drop_read line = behind (codes "drop802 ") line >>= switch_of

-- the sixth
unfoldable pub deny_read : List ℕ → Option (List ℕ)
deny_read line = behind (codes "deny ") line >>= deny_of

-- ---- events

-- a slot and a keepalive
unfoldable pub added_read : List ℕ → Option Update
added_read text = do
  a ← cut_of 32 text
  slot ← number_within 4294967295 a.0
  b ← cut_of 32 a.1
  local ← endpoint_of b.0
  c ← cut_of 32 b.1
  remote ← endpoint_of c.0
  d ← cut_of 32 c.1
  sequence ← number_within 4294967295 d.0
  acknowledgement ← number_within 4294967295 d.1
  Some (updates.KeepaliveAdd slot (record {
    local = local.ip;
    local_port = local.port;
    remote = remote.ip;
    remote_port = remote.port;
    sequence = sequence;
    acknowledgement = acknowledgement;
  }))

-- none, or an address
unfoldable pub address_read : List ℕ → Option Update
address_read word = if bytes_eq word (codes "none") then Some (updates.Address None) else (address_of word >>= λ a. Some (updates.Address (Some a)))

-- what is read behind a prefix, and else another reading
abbrev pub tried : Option (List ℕ) → (List ℕ → Option Update) → Option Update → Option Update
tried (Some word) read other = read word
tried None read other = other

-- what an event changes
unfoldable pub update_of : List ℕ → Option Update
update_of text =
    tried (behind (codes "multicast ") text) (λ word. switch_of word >>= λ on. Some (updates.Multicast on))
    (tried (behind (codes "doze ") text) (λ word. switch_of word >>= λ on. Some (updates.Doze on))
    (tried (behind (codes "address ") text) address_read
    (tried (behind (codes "keepalive add ") text) added_read
    (tried (behind (codes "keepalive remove ") text) (λ word. number_within 4294967295 word >>= λ slot. Some (updates.KeepaliveRemove slot))
    None))))

-- the event of a line
unfoldable pub event_of : List ℕ → Option Timed
event_of line = do
  text ← behind (codes "at ") line
  parts ← cut_of 32 text
  time ← number_within 4294967295 parts.0
  update ← update_of parts.1
  Some (record { time = time; update = update })

-- ---- the first six lines

-- the next step, if the one before gave something
infixl 10 ◌>>>◌
abbrev pub ◌>>>◌ : {A B : Type 0} → Result A ScriptError → (A → Result B ScriptError) → Result B ScriptError
(Ok x) >>> f = f x
(Err e) >>> f = Err e

-- what was read, or a line of another form
abbrev pub or_form : {A : Type 0} → Option A → ℕ → Result A ScriptError
or_form (Some x) number = Ok x
or_form None number = Err (Bad number Form)

-- what the first of these lines says, and the others
abbrev pub first : {A : Type 0} → (List ℕ → Option A) → ℕ → List (ℕ × List ℕ) → Result (A × List (ℕ × List ℕ)) ScriptError
first read at_end [] = Err (Bad at_end End)
first read at_end (l ∷ lines) = or_form (read l.1) l.0 >>> λ x. Ok (x, lines)

-- what the first six lines say, without events, and the lines behind them
unfoldable pub first_six : ℕ → List (ℕ × List ℕ) → Result (Contents × List (ℕ × List ℕ)) ScriptError
first_six at_end lines =
    first version_read at_end lines >>> λ version.
    first mac_read at_end version.1 >>> λ mac.
    first capacity_read at_end mac.1 >>> λ capacity.
    first start_read at_end capacity.1 >>> λ start.
    first drop_read at_end start.1 >>> λ dropped.
    first deny_read at_end dropped.1 >>> λ deny.
    Ok (record { mac = mac.0; capacity = capacity.0; start = start.0; drop_802_3 = dropped.0; deny = deny.0; events = [] }, deny.1)

-- what the first six lines say
abbrev pub head_contents : Config → ℕ → Contents
head_contents config start = record { mac = config.mac; capacity = config.capacity; start = start; drop_802_3 = config.drop_802_3; deny = config.deny; events = [] }

-- ---- the events

-- an event that isn't earlier than the latest time
abbrev pub in_time : ℕ → ℕ → Timed → Result Timed ScriptError
in_time latest number e = if nat_lt e.time latest then Err (Bad number Order) else Ok e

-- the event of a line, where the latest time before it is known
abbrev pub event_answer : ℕ → ℕ × List ℕ → Result Timed ScriptError
event_answer latest l = or_form (event_of l.1) l.0 >>> in_time latest l.0

-- events with others before them
abbrev pub with_events : List Timed → Result (List Timed) ScriptError → Result (List Timed) ScriptError
with_events front (Ok events) = Ok (front ++ events)
with_events front (Err e) = Err e

-- the events of the lines, none of which is earlier than the latest time before them
unfoldable pub events_from : ℕ → List (ℕ × List ℕ) → Result (List Timed) ScriptError
events_from latest [] = Ok []
events_from latest (l ∷ lines) = event_answer latest l >>> λ e. with_events (e ∷ []) (events_from e.time lines)

-- ---- the whole

-- what the lines say, where the number of all lines and one is known
unfoldable pub contents_from : ℕ → List (ℕ × List ℕ) → Result Contents ScriptError
contents_from at_end lines =
    first_six at_end lines >>> λ six.
    events_from six.0.start six.1 >>> λ events.
    Ok (record { mac = six.0.mac; capacity = six.0.capacity; start = six.0.start; drop_802_3 = six.0.drop_802_3; deny = six.0.deny; events = events })

-- what a text says, or its first fault
abbrev pub script_answer : List ℕ → Result Contents ScriptError
script_answer text = contents_from (length (lines_of text) + 1) (kept_lines text)

-- ---- what calls answer

-- the error is the answer's, unless memory ran out
abbrev pub Fails : {Y : Type 0} → ScriptError → Result Y ScriptError → Type 0
Fails (Bad number kind) answer = answer ≡ Err (Bad number kind)
Fails OutOfMemory answer = Unit {0}

-- the answer, seen by view, unless memory ran out
abbrev pub ReadsAs : {X Y : Type 0} → (X → Y) → Result X ScriptError → Result Y ScriptError → Type 0
ReadsAs view (Ok x) answer = answer ≡ Ok (view x)
ReadsAs view (Err e) answer = Fails e answer
