-- What an update does to a state.
use Rattle.std.specs.Prelude.{ℕ, ◌==◌, nat_lt, Bool, true, false, ◌&&◌, not, if◌then◌else◌, slice_index_or, slice_set, Option, Some, None, is_some, Result, Ok, Err}
use Rattle.policy_state.specs.declared.state.Address.{Address}
use Rattle.policy_state.specs.declared.state.FilterState.{FilterState}
use Rattle.policy_state.specs.declared.state.Keepalive.{Keepalive}
use Rattle.policy_state.specs.declared.update.Update.{Update}
use Rattle.policy_state.specs.declared.update.Update.TheVariants.{Multicast, Doze, KeepaliveAdd, KeepaliveRemove}
use Rattle.policy_state.specs.declared.update.Update.TheVariants as updates
use Rattle.policy_state.specs.declared.update.StateError.{StateError}
use Rattle.policy_state.specs.declared.update.StateError.TheVariants.{Prefix, SlotRange, SlotInUse, SlotEmpty}
use Rattle.policy_state.specs.declared.update.Changed.{Changed}
use Rattle.policy_state.specs.declared.update.Changed.TheVariants.{Yes, No}

-- ---- the new state, or the one refusal

-- the keepalive in a slot
abbrev pub in_slot : FilterState → ℕ → Option Keepalive
in_slot state slot = slice_index_or state.keepalives slot None

-- the state with another keepalive in a slot, or none
abbrev pub with_slot : FilterState → ℕ → Option Keepalive → FilterState
with_slot state slot keepalive = record state { keepalives = slice_set state.keepalives slot keepalive }

abbrev pub after : FilterState → Update → Result FilterState StateError
after state (Multicast on) = Ok (record state { multicast = on })
after state (Doze on) = Ok (record state { doze = on })
after state (updates.Address None) = Ok (record state { address = None })
after state (updates.Address (Some address)) =
    if nat_lt 32 address.prefix then Err (Prefix address.prefix)
    else Ok (record state { address = Some address })
after state (KeepaliveAdd slot sent) =
    if nat_lt 7 slot then Err (SlotRange slot)
    else if is_some (in_slot state slot) then Err (SlotInUse slot)
    else Ok (with_slot state slot (Some sent))
after state (KeepaliveRemove slot) =
    if nat_lt 7 slot then Err (SlotRange slot)
    else if is_some (in_slot state slot) then Ok (with_slot state slot None)
    else Err (SlotEmpty slot)

-- ---- whether it is the old one

abbrev pub same_setting : Bool → Bool → Bool
same_setting true now = now
same_setting false now = not now

abbrev pub same_address : Option Address → Option Address → Bool
same_address None None = true
same_address None (Some b) = false
same_address (Some a) None = false
same_address (Some a) (Some b) = (a.ip == b.ip) && (a.prefix == b.prefix)

-- an update asks for what stands already. A keepalive is never added over one that stands, and only a standing one is removed
abbrev pub is_same : FilterState → Update → Bool
is_same state (Multicast on) = same_setting on state.multicast
is_same state (Doze on) = same_setting on state.doze
is_same state (updates.Address to) = same_address to state.address
is_same state (KeepaliveAdd slot sent) = false
is_same state (KeepaliveRemove slot) = false

-- ---- what the call says and leaves

abbrev pub apply_answer : Bool → Result FilterState StateError → Result Changed StateError
apply_answer same (Ok state) = Ok (if same then No else Yes)
apply_answer same (Err refusal) = Err refusal

abbrev pub answer_to : FilterState → Update → Result Changed StateError
answer_to state update = apply_answer (is_same state update) (after state update)

-- a refusal leaves the old state
abbrev pub state_or : FilterState → Result FilterState StateError → FilterState
state_or old (Ok state) = state
state_or old (Err refusal) = old

abbrev pub state_after : FilterState → Update → FilterState
state_after state update = state_or state (after state update)
