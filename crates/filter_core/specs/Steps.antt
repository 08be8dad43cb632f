-- The steps of a filter: an update of its state, an advertisement, a frame. No code, no memory and no bytes of a program
-- stand here.
use Rattle.std.specs.Prelude.{ℕ, ◌+◌, ◌-◌, ◌==◌, nat_lt, max, Bool, false, if◌then◌else◌, List, [], slice_index, Option, Some, None, Result, Ok, Err}
use Rattle.policy_state.specs.declared.basis.UpdateReply.{UpdateReply}
use Rattle.policy_state.specs.declared.basis.UpdateReply.TheVariants as updates
use Rattle.policy_state.specs.declared.config.Config.{Config}
use Rattle.policy_state.specs.declared.state.FilterState.{FilterState}
use Rattle.policy_state.specs.declared.update.StateError.{StateError}
use Rattle.policy_state.specs.declared.update.Update.{Update}
use Rattle.policy_state.specs.Effects.{after, is_same}
use Rattle.policy_state.specs.States.{start}
use Rattle.policy_state.specs.Whole.{Fate, policy}
use Rattle.ra_records.specs.Advert.{Advert, advert, least}
use Rattle.ra_records.specs.declared.replies.Held.{Held}
use Rattle.ra_records.specs.declared.replies.RaReply.{RaReply}
use Rattle.ra_records.specs.declared.replies.RaReply.TheVariants as adverts
use Rattle.ra_records.specs.declared.span.RaError.{RaError}
use Rattle.size_fit.specs.Sizes.{base, limit_of}
use Rattle.filter_core.specs.Records.{standing, match_of, ids_of, to_front, with_last, is_full}
use Rattle.filter_core.specs.Installs.{Installed, install_of, end_of}

-- What a filter is: the install that stands, the records held, how many were ever added, and the clock. Configuration
-- and state are those of the install, since a state that doesn't fit is refused whole.
pub record Filter : Type 0 where
  pub install : Installed
  pub held : List Held
  pub added : ℕ
  pub clock : ℕ

abbrev pub config_of : Filter → Config
config_of f = f.install.basis.config

abbrev pub state_of : Filter → FilterState
state_of f = f.install.basis.state

-- the filter at its start, where the first base fits
abbrev pub first : Config → ℕ → Filter
first config now = record { install = install_of 0 now config start []; held = []; added = 0; clock = now }

-- the clock never goes back
abbrev pub moved : Filter → ℕ → Filter
moved f now = record f { clock = max f.clock now }

-- a new install with this state at the clock's time, of the records that aren't expired then
abbrev pub reinstalled : Filter → FilterState → Filter
reinstalled f state =
    let left = standing f.clock f.held in
    record f { install = install_of (f.install.number + 1) f.clock (config_of f) state left; held = left }

-- ---- an update

-- with another state: where its base doesn't fit, nothing changes
abbrev pub with_state : Filter → FilterState → Filter × UpdateReply
with_state f state =
    let need = base (config_of f) state in
    let limit = limit_of (config_of f) in
    if nat_lt limit need then (f, updates.NotInstalled need limit) else (reinstalled f state, updates.Installed)

-- with the state that an update gives, which may be the old one, or with its refusal
abbrev pub by_state : Filter → Bool → Result FilterState StateError → Filter × UpdateReply
by_state f same (Err refusal) = (f, updates.Refused refusal)
by_state f same (Ok state) = if same then (f, updates.Same) else with_state f state

-- the filter after an update, and the reply
abbrev pub updated : Filter → Update → ℕ → Filter × UpdateReply
updated f u now = by_state (moved f now) (is_same (state_of f) u) (after (state_of f) u)

-- ---- an advertisement

-- the install's end is near: below the clock and 30 seconds
abbrev pub is_ending : ℕ → Option ℕ → Bool
is_ending clock None = false
is_ending clock (Some end) = nat_lt end (clock + 30)

-- A record that was seen again goes to the front. Where the install's end is near, a new program is made.
abbrev pub seen_again : Filter → Advert → ℕ → Filter × RaReply
seen_again f advert place =
    let id = slice_index (ids_of f.held) place in
    let g = record f { held = to_front place advert f.held } in
    if is_ending f.clock (end_of f.install) then (reinstalled g (state_of f), adverts.Refreshed id) else (g, adverts.Match id)

-- A record that isn't held yet goes last and a new program is made, unless ten are held or it has no time.
abbrev pub seen_first : Filter → Advert → Filter × RaReply
seen_first f advert =
    let id = f.added + 1 in
    let g = record f { held = with_last f.held (record { id = id; advert = advert }); added = id } in
    if is_full f.held then (f, adverts.Full)
    else if least advert == 0 then (f, adverts.ZeroLifetime)
    else (reinstalled g (state_of f), adverts.New id)

abbrev pub by_match : Filter → Advert → Option ℕ → Filter × RaReply
by_match f advert None = seen_first f advert
by_match f advert (Some place) = seen_again f advert place

-- a frame that is read lets the expired records go before anything else, and one that is refused changes nothing
abbrev pub by_reading : Filter → List ℕ → Result Advert RaError → Filter × RaReply
by_reading f frame (Err refusal) = (f, adverts.Bad refusal)
by_reading f frame (Ok advert) =
    let left = standing f.clock f.held in
    by_match (record f { held = left }) advert (match_of frame left)

-- the filter after a frame was given to it to be learnt, and the reply. The record is seen at the clock's time
abbrev pub advertised : Filter → List ℕ → ℕ → Filter × RaReply
advertised f frame now = let g = moved f now in by_reading g frame (advert frame g.clock)

-- ---- a frame

-- the answer to a frame: the number of the install that stands, its age, and what the policy says
pub record Answered : Type 0 where
  pub number : ℕ
  pub age : ℕ
  pub fate : Fate

-- the age is 0 where the install is later
abbrev pub answer_of : Installed → List ℕ → ℕ → Answered
answer_of install frame now =
    let age = now - install.at in
    record { number = install.number; age = age; fate = policy install.basis age frame }
