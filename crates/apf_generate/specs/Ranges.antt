-- What holds of each value of the code by its types and its invariants: numbers lie in their ranges, and records are read
-- of their bytes. Definitions range over all numbers, so laws that need it say it.
use Rattle.std.specs.Prelude.{◌≡◌, ◌<◌, ◌≤◌, ◌^◌, length, All, IfSome, Ok}
use Rattle.apf_coding.specs.Words.{AreBytes}
use Rattle.ra_records.specs.Advert.{Advert, lifetimes_in}
use Rattle.policy_state.specs.Ranges.{IsMac, IsKeepalive}
use Rattle.policy_state.specs.declared.basis.Basis.{Basis}
use Rattle.policy_state.specs.declared.basis.Chosen.{Chosen}
use Rattle.policy_state.specs.declared.basis.Script.{Script}
use Rattle.policy_state.specs.declared.config.Config.{Config}
use Rattle.policy_state.specs.declared.state.Address.{Address}
use Rattle.policy_state.specs.declared.state.FilterState.{FilterState}
use Rattle.policy_state.specs.declared.update.Update.{Update}
use Rattle.policy_state.specs.declared.update.Update.TheVariants.{Multicast, Doze, KeepaliveAdd, KeepaliveRemove}
use Rattle.policy_state.specs.declared.update.Update.TheVariants as updates

-- ---- configuration

-- a MAC and ethertypes; the capacity and the number of the ethertypes are bounded by the type itself
pub record IsConfig (config : Config) : Type 0 where
  pub mac : IsMac config.mac
  pub deny : All (λ e. e < 2 ^ 16) config.deny

-- ---- state

-- a number of 32 bits, and a prefix of no more than 32
pub record IsAddress (address : Address) : Type 0 where
  pub ip : address.ip < 2 ^ 32
  pub prefix : address.prefix ≤ 32

-- an address or none, and eight slots with a keepalive or none
pub record IsState (state : FilterState) : Type 0 where
  pub address : IfSome state.address IsAddress
  pub slots : length state.keepalives ≡ 8
  pub keepalives : All (λ slot. IfSome slot IsKeepalive) state.keepalives

-- ---- records

-- bytes, with the lifetimes that are read of them
pub record IsRecord (r : Advert) : Type 0 where
  pub bytes : AreBytes r.bytes
  pub read : lifetimes_in r.bytes ≡ Ok r.lifetimes

-- a record with a hold of 32 bits
pub record IsChosen (chosen : Chosen) : Type 0 where
  pub advert : IsRecord chosen.advert
  pub hold : chosen.hold < 2 ^ 32

-- ---- the whole

-- what a program is made from
pub record IsBasis (basis : Basis) : Type 0 where
  pub config : IsConfig basis.config
  pub state : IsState basis.state
  pub chosen : All IsChosen basis.chosen

-- ---- what comes to a filter

-- An address is a number of 32 bits. Slots and prefixes that the state refuses are asked of nothing.
abbrev pub IsUpdate : Update → Type 0
IsUpdate (Multicast on) = Unit {0}
IsUpdate (Doze on) = Unit {0}
IsUpdate (updates.Address to) = IfSome to (λ address. address.ip < 2 ^ 32)
IsUpdate (KeepaliveAdd slot sent) = IsKeepalive sent
IsUpdate (KeepaliveRemove slot) = Unit {0}

-- a configuration, and updates
pub record IsScript (script : Script) : Type 0 where
  pub config : IsConfig script.config
  pub events : All (λ event. IsUpdate event.update) script.events
