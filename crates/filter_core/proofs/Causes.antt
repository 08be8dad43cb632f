-- When replies to updates and to advertisements come.
use Rattle.std.proofs.Common.{◌≡◌, ◌≢◌, ◌↔◌, ℕ, ◌<◌, ◌+◌, ◌==◌, nat_lt, max, Bool, true, false, cond, List, Option, Some, None, slice_index, length, Result, Ok, Err, refl, sym, ap, ◌∙◌, arith, lt-ltb, ltb-true}
use Rattle.std.proofs.lemmas.Grind.{common_steps}
use Rattle.policy_state.specs.declared.basis.UpdateReply.{UpdateReply}
use Rattle.policy_state.specs.declared.basis.UpdateReply.TheVariants as updates
use Rattle.policy_state.specs.declared.state.FilterState.{FilterState}
use Rattle.policy_state.specs.declared.update.Changed.TheVariants.{No}
use Rattle.policy_state.specs.declared.update.StateError.{StateError}
use Rattle.policy_state.specs.declared.update.Update.{Update}
use Rattle.policy_state.specs.declared.update.Update.TheVariants.{Multicast, Doze, KeepaliveAdd, KeepaliveRemove}
use Rattle.policy_state.specs.declared.update.Update.TheVariants as changes
use Rattle.policy_state.specs.Effects.{after, is_same, answer_to, apply_answer}
use Rattle.ra_records.specs.Advert.{Advert, advert, least}
use Rattle.ra_records.specs.declared.replies.RaReply.{RaReply}
use Rattle.ra_records.specs.declared.replies.RaReply.TheVariants as adverts
use Rattle.ra_records.specs.declared.span.RaError.{RaError}
use Rattle.filter_core.specs.Installs.{end_of}
use Rattle.filter_core.specs.Records.{standing, match_of, ids_of, to_front, with_last, is_full}
use Rattle.filter_core.specs.Steps.{Filter, moved, by_state, with_state, updated, config_of, state_of, reinstalled, is_ending, by_match, by_reading, advertised}
use Rattle.size_fit.specs.Sizes.{base, limit_of}

-- an update changes nothing exactly where the state stays equal
no_is_same : (s : FilterState) (u : Update) → length s.keepalives ≡ 8 → (answer_to s u ≡ Ok No) ↔ (after s u ≡ Ok s)
no_is_same s (Multicast on) eight = grind (arith, common_steps)
no_is_same s (Doze on) eight = grind (arith, common_steps)
no_is_same s (changes.Address to) eight = grind (arith, common_steps)
no_is_same s (KeepaliveAdd slot sent) eight = grind (arith, common_steps)
no_is_same s (KeepaliveRemove slot) eight = grind (arith, common_steps)

-- ---- the replies of another state, by the test whether its base is above the limit

abbrev Reply : Bool → ℕ → ℕ → UpdateReply
Reply true need limit = updates.NotInstalled need limit
Reply false need limit = updates.Installed

reply_of : (t : Bool) (f g : Filter) (need limit : ℕ) → (cond {A = Filter × UpdateReply} t (f, updates.NotInstalled need limit) (g, updates.Installed)).1 ≡ Reply t need limit
reply_of true f g need limit = refl
reply_of false f g need limit = refl

not_same : (t : Bool) (need limit : ℕ) → Reply t need limit ≢ updates.Same
not_same true need limit e = absurd cc
not_same false need limit e = absurd cc

not_refused : (t : Bool) (need limit : ℕ) (refusal : StateError) → Reply t need limit ≢ updates.Refused refusal
not_refused true need limit refusal e = absurd cc
not_refused false need limit refusal e = absurd cc

other_reply : (f : Filter) (state : FilterState) → (with_state f state).1 ≡ Reply (nat_lt (limit_of (config_of f)) (base (config_of f) state)) (base (config_of f) state) (limit_of (config_of f))
other_reply f state = reply_of (nat_lt (limit_of (config_of f)) (base (config_of f) state)) f (reinstalled f state) (base (config_of f) state) (limit_of (config_of f))

-- ---- by what the update does

same_reply : (f : Filter) (same : Bool) (r : Result FilterState StateError) → ((by_state f same r).1 ≡ updates.Same) ↔ (apply_answer same r ≡ Ok No)
same_reply f same (Err refusal) = (λ e. absurd cc, λ e. absurd cc)
same_reply f true (Ok state) = (λ e. refl, λ e. refl)
same_reply f false (Ok state) = (λ e. absurd (not_same _ _ _ (sym (other_reply f state) ∙ e)), λ e. absurd cc)

refused_reply : (f : Filter) (same : Bool) (r : Result FilterState StateError) (refusal : StateError) → ((by_state f same r).1 ≡ updates.Refused refusal) ↔ (r ≡ Err refusal)
refused_reply f same (Err other) refusal = (λ e. cc, λ e. cc)
refused_reply f true (Ok state) refusal = (λ e. absurd cc, λ e. absurd cc)
refused_reply f false (Ok state) refusal = (λ e. absurd (not_refused _ _ _ _ (sym (other_reply f state) ∙ e)), λ e. absurd cc)

pub same_exactly : (f : Filter) (u : Update) (now : ℕ) → length (state_of f).keepalives ≡ 8 → ((updated f u now).1 ≡ updates.Same) ↔ (after (state_of f) u ≡ Ok (state_of f))
same_exactly f u now eight =
    let reply = same_reply (moved f now) (is_same (state_of f) u) (after (state_of f) u) in
    let no = no_is_same (state_of f) u eight in
    (λ e. no.0 (reply.0 e), λ e. reply.1 (no.1 e))

pub refused_exactly : (f : Filter) (u : Update) (now : ℕ) (refusal : StateError) → ((updated f u now).1 ≡ updates.Refused refusal) ↔ (after (state_of f) u ≡ Err refusal)
refused_exactly f u now refusal = refused_reply (moved f now) (is_same (state_of f) u) (after (state_of f) u) refusal

-- the reply to a new state
new_state : (f : Filter) (same : Bool) (r : Result FilterState StateError) (state : FilterState) → r ≡ Ok state → (apply_answer same r ≡ Ok No → ⊥) →
    (by_state f same r).1 ≡ (with_state f state).1
new_state f same (Err refusal) state e ne = absurd cc
new_state f true (Ok other) state e ne = absurd (ne refl)
new_state f false (Ok other) state e ne = let same : other ≡ state = cc in ap (λ (s : FilterState). (with_state f s).1) same

not_above : (t : Bool) (need limit : ℕ) → nat_lt limit need ≡ t → (Reply t need limit ≡ updates.NotInstalled need limit) ↔ (limit < need)
not_above true need limit e = (λ _. ltb-true limit need e, λ _. refl)
not_above false need limit e = (λ h. absurd cc, λ lt. let above = lt-ltb limit need lt in absurd cc)

pub not_installed_exactly : (f : Filter) (u : Update) (now : ℕ) (state : FilterState) → length (state_of f).keepalives ≡ 8 → after (state_of f) u ≡ Ok state → state ≢ state_of f →
    ((updated f u now).1 ≡ updates.NotInstalled (base (config_of f) state) (limit_of (config_of f))) ↔ (limit_of (config_of f) < base (config_of f) state)
not_installed_exactly f u now state eight e ne =
    let no = no_is_same (state_of f) u eight in
    let other : (updated f u now).1 ≡ (with_state (moved f now) state).1 = new_state (moved f now) (is_same (state_of f) u) (after (state_of f) u) state e (λ n. ne (let s = no.0 n in cc)) in
    let reply = other ∙ other_reply (moved f now) state in
    let above = not_above (nat_lt (limit_of (config_of f)) (base (config_of f) state)) (base (config_of f) state) (limit_of (config_of f)) refl in
    (λ h. above.0 (sym reply ∙ h), λ lt. reply ∙ above.1 lt)

-- ---- advertisements

again_not_bad : (t : Bool) (f g : Filter) (id : ℕ) (refusal : RaError) → (cond {A = Filter × RaReply} t (f, adverts.Refreshed id) (g, adverts.Match id)).1 ≢ adverts.Bad refusal
again_not_bad true f g id refusal e = absurd cc
again_not_bad false f g id refusal e = absurd cc

first_not_bad : (full none : Bool) (f g : Filter) (id : ℕ) (refusal : RaError) →
    (cond {A = Filter × RaReply} full (f, adverts.Full) (cond none (f, adverts.ZeroLifetime) (g, adverts.New id))).1 ≢ adverts.Bad refusal
first_not_bad true none f g id refusal e = absurd cc
first_not_bad false true f g id refusal e = absurd cc
first_not_bad false false f g id refusal e = absurd cc

read_not_bad : (f : Filter) (seen : Advert) (place : Option ℕ) (refusal : RaError) → (by_match f seen place).1 ≢ adverts.Bad refusal
read_not_bad f seen None refusal =
    let g : Filter = record f { held = with_last f.held (record { id = f.added + 1; advert = seen }); added = f.added + 1 } in
    first_not_bad (is_full f.held) (least seen == 0) f (reinstalled g (state_of f)) (f.added + 1) refusal
read_not_bad f seen (Some place) refusal =
    let g : Filter = record f { held = to_front place seen f.held } in
    again_not_bad (is_ending f.clock (end_of f.install)) (reinstalled g (state_of f)) g (slice_index (ids_of f.held) place) refusal

bad_reply : (f : Filter) (frame : List ℕ) (r : Result Advert RaError) (refusal : RaError) → ((by_reading f frame r).1 ≡ adverts.Bad refusal) ↔ (r ≡ Err refusal)
bad_reply f frame (Err other) refusal = (λ e. cc, λ e. cc)
bad_reply f frame (Ok seen) refusal =
    let left = standing f.clock f.held in
    (λ e. absurd (read_not_bad (record f { held = left }) seen (match_of frame left) refusal e), λ e. absurd cc)

pub bad_exactly : (f : Filter) (frame : List ℕ) (now : ℕ) (refusal : RaError) → ((advertised f frame now).1 ≡ adverts.Bad refusal) ↔ (advert frame (max f.clock now) ≡ Err refusal)
bad_exactly f frame now refusal = bad_reply (moved f now) frame (advert frame (max f.clock now)) refusal
