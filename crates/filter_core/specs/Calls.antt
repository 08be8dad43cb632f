-- What the calls of a core do.
use Rattle.std.specs.Prelude.{◌≡◌, ◌+◌, Bool, true, false}
use Rattle.policy_state.specs.declared.basis.UpdateReply.{UpdateReply}
use Rattle.policy_state.specs.declared.basis.UpdateReply.TheVariants as updates
use Rattle.ra_records.specs.declared.replies.RaReply.{RaReply}
use Rattle.ra_records.specs.declared.replies.RaReply.TheVariants as adverts
use Rattle.filter_core.specs.declared.install.Install.{Install}
use Rattle.filter_core.specs.Standing.{Standing, filter_of}
use Rattle.filter_core.specs.Steps.{Filter}

-- replies that come with a new install
abbrev pub update_installs : UpdateReply → Bool
update_installs updates.Installed = true
update_installs updates.Same = false
update_installs (updates.Refused refusal) = false
update_installs (updates.NotInstalled need limit) = false

abbrev pub advert_installs : RaReply → Bool
advert_installs (adverts.Match id) = false
advert_installs (adverts.Refreshed id) = true
advert_installs (adverts.New id) = true
advert_installs adverts.Full = false
advert_installs adverts.ZeroLifetime = false
advert_installs (adverts.Bad refusal) = false

-- a new install raises the number by one; without one the install stays, with its code
abbrev pub Renews : Bool → Install → Install → Type 0
Renews true old new = new.number ≡ old.number + 1
Renews false old new = new ≡ old

-- A core goes on as a step says, with the step's reply, and its counters stay.
pub record Goes {R : Type 0} (installs : R → Bool) (old : Standing) (step : Filter × R) (answer : R) (new : Standing) : Type 0 where
  pub reply : answer ≡ step.1
  pub filter : filter_of new ≡ step.0
  pub install : Renews (installs answer) old.install new.install
  pub memory : new.memory ≡ old.memory
