-- Each install of a replay has a basis whose numbers lie in their ranges, and has room, so that there is a program for it.
-- A state whose base doesn't fit is refused, and the records that are chosen fit beside it; records are read of frames.
use Rattle.std.proofs.Common.{◌≡◌, ℕ, ◌+◌, ◌<◌, ◌≤◌, ◌^◌, ◌==◌, nat_lt, Bool, true, false, cond, List, [], take, drop, suc, fold, All, Option, Some, None, Result, Ok, Err, refl, sym, subst, ◌∙◌, arith}
use Rattle.std.specs.Prelude.{IfSome, IfOk, is_some, slice_index, remove, ⊤}
use Rattle.std.proofs.lemmas.Bool.{ltb-false}
use Rattle.std.proofs.lemmas.List.{length-set}
use Rattle.std.proofs.lemmas.List.Elements.{All-nil, All-cons, All-append, All-filter, All-map, All-push, All-replicate, All-set, All-take, All-drop, All-weaker}
use Rattle.apf_generate.specs.Sizes.{need_of}
use Rattle.policy_state.specs.Effects.{after, is_same, in_slot, with_slot}
use Rattle.policy_state.specs.Ranges.{IsKeepalive}
use Rattle.apf_generate.specs.Ranges.{IsConfig, IsState, IsRecord, IsChosen, IsBasis, IsUpdate, IsScript}
use Rattle.apf_coding.specs.Words.{AreBytes}
use Rattle.policy_state.specs.States.{start}
use Rattle.policy_state.specs.declared.basis.Script.{Script}
use Rattle.policy_state.specs.declared.basis.UpdateReply.TheVariants as updates
use Rattle.policy_state.specs.declared.config.Config.{Config}
use Rattle.policy_state.specs.declared.state.Address.{Address}
use Rattle.policy_state.specs.declared.state.FilterState.{FilterState}
use Rattle.policy_state.specs.declared.state.Keepalive.{Keepalive}
use Rattle.policy_state.specs.declared.update.StateError.{StateError}
use Rattle.policy_state.specs.declared.update.StateError.TheVariants.{Prefix, SlotRange, SlotInUse, SlotEmpty}
use Rattle.policy_state.specs.declared.update.Update.{Update}
use Rattle.policy_state.specs.declared.update.Update.TheVariants.{Multicast, Doze, KeepaliveAdd, KeepaliveRemove}
use Rattle.policy_state.specs.declared.update.Update.TheVariants as changes
use Rattle.ra_records.specs.Advert.{Advert, advert, least, lifetimes_in, seen_at}
use Rattle.ra_records.specs.declared.replies.Held.{Held}
use Rattle.ra_records.specs.declared.replies.RaReply.TheVariants as adverts
use Rattle.ra_records.specs.declared.span.RaError.{RaError}
use Rattle.ra_records.specs.declared.span.Span.{Span}
use Rattle.ra_records.proofs.Least.{least_bound}
use Rattle.size_fit.specs.Sizes.{base, limit_of}
use Rattle.filter_core.specs.Installs.{Installed, chosen_at, install_of, kept, end_of}
use Rattle.filter_core.specs.Records.{is_standing, standing, match_of, ids_of, to_front, with_last, is_full}
use Rattle.filter_core.specs.Replay.{Arrival, after_arrival, installs_of, begun, course, replay}
use Rattle.filter_core.specs.Steps.{Filter, config_of, state_of, moved, reinstalled, by_state, updated, is_ending, by_match, by_reading, advertised}
use Rattle.filter_core.proofs.Fitting.{weights_chosen, longest_fits}
use Rattle.filter_core.proofs.Growing.{Stays, AfterUpdate, AfterAdvert, AreKept, Grows, each_told, grows_grows, arrivals_left, arrivals_grown, ended_grows}

-- ---- the state

start_sound : IsState start
start_sound = record { address = tt; slots = refl; keepalives = All-replicate (λ (slot : Option Keepalive). IfSome slot IsKeepalive) 8 None tt }

slot_sound : (state : FilterState) (slot : ℕ) (sent : Option Keepalive) → IsState state → IfSome sent IsKeepalive → IsState (with_slot state slot sent)
slot_sound state slot sent h k = record {
  address = h.address;
  slots = length-set state.keepalives slot sent ∙ h.slots;
  keepalives = All-set (λ (slot : Option Keepalive). IfSome slot IsKeepalive) state.keepalives slot sent k h.keepalives;
}

address_sound : (t : Bool) (state : FilterState) (address : Address) → nat_lt 32 address.prefix ≡ t → IsState state → address.ip < 2 ^ 32
    → IfOk (cond t (Err (Prefix address.prefix)) (Ok (record state { address = Some address }))) IsState
address_sound true state address e h lt = tt
address_sound false state address e h lt = record { address = record { ip = lt; prefix = ltb-false 32 address.prefix e }; slots = h.slots; keepalives = h.keepalives }

add_sound : (far full : Bool) (new : FilterState) (slot : ℕ) → IsState new → IfOk (cond far (Err (SlotRange slot)) (cond full (Err (SlotInUse slot)) (Ok new))) IsState
add_sound true full new slot h = tt
add_sound false true new slot h = tt
add_sound false false new slot h = h

remove_sound : (far full : Bool) (new : FilterState) (slot : ℕ) → IsState new → IfOk (cond far (Err (SlotRange slot)) (cond full (Ok new) (Err (SlotEmpty slot)))) IsState
remove_sound true full new slot h = tt
remove_sound false true new slot h = h
remove_sound false false new slot h = tt

after_sound : (state : FilterState) (u : Update) → IsState state → IsUpdate u → IfOk (after state u) IsState
after_sound state (Multicast on) h k = record { address = h.address; slots = h.slots; keepalives = h.keepalives }
after_sound state (Doze on) h k = record { address = h.address; slots = h.slots; keepalives = h.keepalives }
after_sound state (changes.Address None) h k = record { address = tt; slots = h.slots; keepalives = h.keepalives }
after_sound state (changes.Address (Some address)) h k = address_sound (nat_lt 32 address.prefix) state address refl h k
after_sound state (KeepaliveAdd slot sent) h k = add_sound (nat_lt 7 slot) (is_some (in_slot state slot)) _ slot (slot_sound state slot (Some sent) h k)
after_sound state (KeepaliveRemove slot) h k = remove_sound (nat_lt 7 slot) (is_some (in_slot state slot)) _ slot (slot_sound state slot None h tt)

-- ---- records

abbrev IsSoundHeld : Held → Type 0
IsSoundHeld held = IsRecord held.advert

seen_sound : (frame : List ℕ) (now : ℕ) (r : Result (List Span) RaError) → AreBytes frame → lifetimes_in frame ≡ r → IfOk (seen_at frame now r) IsRecord
seen_sound frame now (Ok lifetimes) h e = record { bytes = h; read = e }
seen_sound frame now (Err refusal) h e = tt

advert_sound : (frame : List ℕ) (now : ℕ) → AreBytes frame → IfOk (advert frame now) IsRecord
unfolding advert
advert_sound frame now h = seen_sound frame now (lifetimes_in frame) h refl

chosen_sound : (now : ℕ) (held : Held) → IsSoundHeld held → IsChosen (chosen_at now held)
chosen_sound now held h = record { advert = h; hold = omega (arith, least_bound held.advert.bytes held.advert.lifetimes) }

-- ---- installs

install_sound : (number now : ℕ) (config : Config) (state : FilterState) (records : List Held) → IsConfig config → IsState state → All IsSoundHeld records
    → IsBasis (install_of number now config state records).basis
unfolding install_of
install_sound number now config state records c s h =
    let n = kept config state records in
    record {
      config = c;
      state = s;
      chosen = All-map IsChosen (chosen_at now) (take n records) (All-weaker IsSoundHeld (λ (held : Held). IsChosen (chosen_at now held)) (chosen_sound now) (take n records) (All-take IsSoundHeld n records h));
    }

abbrev pub HasSoundBasis : Installed → Type 0
HasSoundBasis i = IsBasis i.basis

abbrev pub HasRoom : Installed → Type 0
HasRoom i = need_of i.basis ≤ limit_of i.basis.config

install_room : (number now : ℕ) (config : Config) (state : FilterState) (records : List Held) → base config state ≤ limit_of config → HasRoom (install_of number now config state records)
unfolding install_of
install_room number now config state records le =
    let n = kept config state records in
    let fits = (longest_fits (base config state) (limit_of config) records n le refl).fits in
    subst (λ (w : ℕ). base config state + w ≤ limit_of config) (sym (weights_chosen now (take n records))) fits

-- ---- filters

-- configuration, state and records
pub record IsSound (f : Filter) : Type 0 where
  pub config : IsConfig (config_of f)
  pub state : IsState (state_of f)
  pub held : All IsSoundHeld f.held

-- the base of the state that stands fits
abbrev pub IsFitting : Filter → Type 0
IsFitting f = base (config_of f) (state_of f) ≤ limit_of (config_of f)

moved_sound : (f : Filter) (now : ℕ) → IsSound f → IsSound (moved f now)
moved_sound f now h = record { config = h.config; state = h.state; held = h.held }

with_held_sound : (f : Filter) (held : List Held) (added : ℕ) → IsSound f → All IsSoundHeld held → IsSound (record f { held = held; added = added })
with_held_sound f held added h k = record { config = h.config; state = h.state; held = k }

standing_sound : (now : ℕ) (held : List Held) → All IsSoundHeld held → All IsSoundHeld (standing now held)
standing_sound now held h = All-filter (is_standing now) IsSoundHeld held h

reinstalled_sound : (f : Filter) (state : FilterState) → IsSound f → IsState state → Stays HasSoundBasis IsSound true (reinstalled f state)
unfolding install_of
reinstalled_sound f state h s =
    let left = standing_sound f.clock f.held h.held in
    (record { config = h.config; state = s; held = left }, install_sound (f.install.number + 1) f.clock (config_of f) state (standing f.clock f.held) h.config s left)

-- an install that has room has a base that fits
pub room_fits : (f : Filter) → HasRoom f.install → IsFitting f
room_fits f room = omega (arith, room)

reinstalled_room : (f : Filter) (state : FilterState) → base (config_of f) state ≤ limit_of (config_of f) → Stays HasRoom IsFitting true (reinstalled f state)
reinstalled_room f state le =
    let room = install_room (f.install.number + 1) f.clock (config_of f) state (standing f.clock f.held) le in
    (room_fits (reinstalled f state) room, room)

-- ---- updates

state_sound : (t : Bool) (f : Filter) (state : FilterState) (need limit : ℕ) → IsSound f → IsState state
    → AfterUpdate HasSoundBasis IsSound (cond t (f, updates.NotInstalled need limit) (reinstalled f state, updates.Installed))
state_sound true f state need limit h s = h
state_sound false f state need limit h s = reinstalled_sound f state h s

effect_sound : (f : Filter) (same : Bool) (r : Result FilterState StateError) → IsSound f → IfOk r IsState → AfterUpdate HasSoundBasis IsSound (by_state f same r)
effect_sound f same (Err refusal) h s = h
effect_sound f true (Ok state) h s = h
effect_sound f false (Ok state) h s = let need = base (config_of f) state in let limit = limit_of (config_of f) in state_sound (nat_lt limit need) f state need limit h s

updated_sound : (f : Filter) (u : Update) (now : ℕ) → IsSound f → IsUpdate u → AfterUpdate HasSoundBasis IsSound (updated f u now)
updated_sound f u now h k = effect_sound (moved f now) (is_same f.install.basis.state u) (after f.install.basis.state u) (moved_sound f now h) (after_sound f.install.basis.state u h.state k)

state_room : (t : Bool) (f : Filter) (state : FilterState) (need limit : ℕ) → IsFitting f → (t ≡ false → base (config_of f) state ≤ limit_of (config_of f))
    → AfterUpdate HasRoom IsFitting (cond t (f, updates.NotInstalled need limit) (reinstalled f state, updates.Installed))
state_room true f state need limit h le = h
state_room false f state need limit h le = reinstalled_room f state (le refl)

effect_room : (f : Filter) (same : Bool) (r : Result FilterState StateError) → IsFitting f → AfterUpdate HasRoom IsFitting (by_state f same r)
effect_room f same (Err refusal) h = h
effect_room f true (Ok state) h = h
effect_room f false (Ok state) h =
    let need = base (config_of f) state in
    let limit = limit_of (config_of f) in
    state_room (nat_lt limit need) f state need limit h (ltb-false limit need)

updated_room : (f : Filter) (u : Update) (now : ℕ) → IsFitting f → AfterUpdate HasRoom IsFitting (updated f u now)
updated_room f u now h = effect_room (moved f now) (is_same f.install.basis.state u) (after f.install.basis.state u) h

-- ---- advertisements

again_sound : (t : Bool) (g : Filter) (id : ℕ) → IsSound g
    → AfterAdvert HasSoundBasis IsSound (cond t (reinstalled g (state_of g), adverts.Refreshed id) (g, adverts.Match id))
again_sound true g id h = reinstalled_sound g (state_of g) h h.state
again_sound false g id h = h

first_sound : (full none : Bool) (f g : Filter) (id : ℕ) → IsSound f → IsSound g
    → AfterAdvert HasSoundBasis IsSound (cond full (f, adverts.Full) (cond none (f, adverts.ZeroLifetime) (reinstalled g (state_of g), adverts.New id)))
first_sound true none f g id h k = h
first_sound false true f g id h k = h
first_sound false false f g id h k = reinstalled_sound g (state_of g) k k.state

front_sound : (place : ℕ) (seen : Advert) (held : List Held) → All IsSoundHeld held → IsRecord seen → All IsSoundHeld (to_front place seen held)
front_sound place seen held h s =
    All-cons IsSoundHeld (record { id = slice_index (ids_of held) place; advert = seen }) (remove held place) s
    (All-append IsSoundHeld (take place held) (drop (suc place) held) (All-take IsSoundHeld place held h) (All-drop IsSoundHeld (suc place) held h))

match_sound : (f : Filter) (seen : Advert) (place : Option ℕ) → IsSound f → IsRecord seen → AfterAdvert HasSoundBasis IsSound (by_match f seen place)
match_sound f seen None h s =
    let one : Held = record { id = f.added + 1; advert = seen } in
    let g : Filter = record f { held = with_last f.held one; added = f.added + 1 } in
    first_sound (is_full f.held) (least seen == 0) f g (f.added + 1) h (with_held_sound f (with_last f.held one) (f.added + 1) h (All-push IsSoundHeld f.held one h.held s))
match_sound f seen (Some place) h s =
    let held : List Held = to_front place seen f.held in
    let g : Filter = record f { held = held } in
    again_sound (is_ending f.clock (end_of f.install)) g (slice_index (ids_of f.held) place) (with_held_sound f held f.added h (front_sound place seen f.held h.held s))

reading_sound : (f : Filter) (frame : List ℕ) (r : Result Advert RaError) → IsSound f → IfOk r IsRecord → AfterAdvert HasSoundBasis IsSound (by_reading f frame r)
reading_sound f frame (Err refusal) h s = h
reading_sound f frame (Ok seen) h s =
    let left = standing f.clock f.held in
    match_sound (record f { held = left }) seen (match_of frame left) (with_held_sound f left f.added h (standing_sound f.clock f.held h.held)) s

advertised_sound : (f : Filter) (frame : List ℕ) (now : ℕ) → IsSound f → AreBytes frame → AfterAdvert HasSoundBasis IsSound (advertised f frame now)
advertised_sound f frame now h bytes = let g = moved f now in reading_sound g frame (advert frame g.clock) (moved_sound f now h) (advert_sound frame g.clock bytes)

again_room : (t : Bool) (g : Filter) (id : ℕ) → IsFitting g
    → AfterAdvert HasRoom IsFitting (cond t (reinstalled g (state_of g), adverts.Refreshed id) (g, adverts.Match id))
again_room true g id h = reinstalled_room g (state_of g) h
again_room false g id h = h

first_room : (full none : Bool) (f g : Filter) (id : ℕ) → IsFitting f → IsFitting g
    → AfterAdvert HasRoom IsFitting (cond full (f, adverts.Full) (cond none (f, adverts.ZeroLifetime) (reinstalled g (state_of g), adverts.New id)))
first_room true none f g id h k = h
first_room false true f g id h k = h
first_room false false f g id h k = reinstalled_room g (state_of g) k

match_room : (f : Filter) (seen : Advert) (place : Option ℕ) → IsFitting f → AfterAdvert HasRoom IsFitting (by_match f seen place)
match_room f seen None h =
    let g : Filter = record f { held = with_last f.held (record { id = f.added + 1; advert = seen }); added = f.added + 1 } in
    first_room (is_full f.held) (least seen == 0) f g (f.added + 1) h h
match_room f seen (Some place) h =
    let g : Filter = record f { held = to_front place seen f.held } in
    again_room (is_ending f.clock (end_of f.install)) g (slice_index (ids_of f.held) place) h

reading_room : (f : Filter) (frame : List ℕ) (r : Result Advert RaError) → IsFitting f → AfterAdvert HasRoom IsFitting (by_reading f frame r)
reading_room f frame (Err refusal) h = h
reading_room f frame (Ok seen) h = let left = standing f.clock f.held in match_room (record f { held = left }) seen (match_of frame left) h

advertised_room : (f : Filter) (frame : List ℕ) (now : ℕ) → IsFitting f → AfterAdvert HasRoom IsFitting (advertised f frame now)
advertised_room f frame now h = let g = moved f now in reading_room g frame (advert frame g.clock) h

-- ---- both

pub sound_kept : AreKept HasSoundBasis IsSound IsUpdate AreBytes
sound_kept = record { time = moved_sound; update = updated_sound; advert = advertised_sound }

-- room asks nothing of updates and frames
pub room_kept : AreKept HasRoom IsFitting (λ u. ⊤) (λ frame. ⊤)
room_kept = record { time = λ f now h. h; update = λ f u now h k. updated_room f u now h; advert = λ f frame now h k. advertised_room f frame now h }

-- ---- replays

pub begun_sound : (script : Script) → IsScript script → IsSound (begun script).filter
unfolding install_of
begun_sound script h = record { config = h.config; state = start_sound; held = All-nil IsSoundHeld }

pub begun_fits : (script : Script) → base script.config start ≤ limit_of script.config → IsFitting (begun script).filter
begun_fits script le = room_fits (begun script).filter (install_room 0 script.start script.config start [] le)

whole_grows : (P : Installed → Type 0) (Q : Filter → Type 0) (U : Update → Type 0) (F : List ℕ → Type 0) → AreKept P Q U F
    → (script : Script) (arrivals : List Arrival) → Q (begun script).filter → All (λ event. U event.update) script.events → All (λ arrival. F arrival.frame) arrivals
    → Grows P (begun script).told (replay script arrivals)
unfolding course
whole_grows P Q U F k script arrivals h us frames =
    let c = begun script in
    let d = fold after_arrival c arrivals in
    let here = arrivals_grown P Q U F k c arrivals h us frames in
    grows_grows P c.told d.told (replay script arrivals) here.told (ended_grows P Q U F k d here.filter (arrivals_left P Q U F k c arrivals us))

pub bases_sound : (script : Script) (arrivals : List Arrival) → IsScript script → All (λ arrival. AreBytes arrival.frame) arrivals → All HasSoundBasis (installs_of (replay script arrivals))
bases_sound script arrivals h frames =
    let told = (begun script).told in
    each_told HasSoundBasis told (replay script arrivals)
    (whole_grows HasSoundBasis IsSound IsUpdate AreBytes sound_kept script arrivals (begun_sound script h) h.events frames)
    (All-cons HasSoundBasis _ [] (install_sound 0 script.start script.config start [] h.config start_sound (All-nil IsSoundHeld)) (All-nil HasSoundBasis))

pub bases_room : (script : Script) (arrivals : List Arrival) → base script.config start ≤ limit_of script.config → All HasRoom (installs_of (replay script arrivals))
bases_room script arrivals le =
    let told = (begun script).told in
    each_told HasRoom told (replay script arrivals)
    (whole_grows HasRoom IsFitting (λ u. ⊤) (λ frame. ⊤) room_kept script arrivals (begun_fits script le) (λ k d lt. tt) (λ k d lt. tt))
    (All-cons HasRoom _ [] (install_room 0 script.start script.config start [] le) (All-nil HasRoom))
