-- The steps of a replay, each on its own: what is learnt from a frame, and what is told of it.
use Rattle.std.specs.Prelude.{◌≡◌, ℕ, ◌+◌, max, Bool, true, false, List, [], ◌∷◌, ◌++◌, Option, Some, None}
use Rattle.ra_records.specs.declared.replies.RaReply.{RaReply}
use Rattle.filter_core.specs.Calls.{Goes, Renews, advert_installs}
use Rattle.filter_core.specs.Coded.{plain, IsAnswer}
use Rattle.filter_core.specs.Replay.{Course, Entry, answer, learnt_entries, after_due, after_arrival}
use Rattle.filter_core.specs.Standing.{Standing, filter_of}
use Rattle.filter_core.specs.Steps.{Filter, advertised, answer_of}
use Rattle.filter_core.specs.declared.taking.Taken.{Taken}

-- What was learnt from a frame: nothing where it isn't learnt from, and else what an advertisement does.
abbrev pub Learns : Bool → List ℕ → ℕ → Standing → Option RaReply → Standing → Type 0
Learns false frame now old None new = new ≡ old
Learns true frame now old (Some reply) new = Goes advert_installs old (advertised (filter_of old) frame now) reply new
Learns false frame now old (Some reply) new = ⊥
Learns true frame now old None new = ⊥

-- whether there is a new install with what was learnt
abbrev pub installs_learnt : Option RaReply → Bool
installs_learnt None = false
installs_learnt (Some reply) = advert_installs reply

-- the entries of what was learnt from frame k
abbrev pub entries_learnt : ℕ → Filter → Option RaReply → List Entry
entries_learnt k f None = []
entries_learnt k f (Some reply) = learnt_entries k (f, reply)

-- What is told of a frame: the answer of the install that stands once the events that are due were taken, and what was
-- learnt.
pub record TellsFrame (c : Course) (second : ℕ) (frame : List ℕ) (old new : Standing) (t : Taken) : Type 0 where
  -- the core as the events that are due leave it
  pub caught : Standing
  pub due : filter_of caught ≡ (after_due second c c.events).filter
  -- its install is the old one, with its code, where the events made none
  pub stays : caught.install.number ≡ old.install.number → caught.install ≡ old.install
  -- and it stays, with its code, where none was learnt
  pub renews : Renews (installs_learnt t.reply) caught.install new.install
  pub answered : IsAnswer caught.install frame (max caught.clock second) old.memory t.answer new.memory
  pub told : (after_arrival c (record { second = second; frame = frame })).told
      ≡ (after_due second c c.events).told
      ++ answer (c.frames + 1) (answer_of (plain caught.install) frame (max caught.clock second))
      ∷ entries_learnt (c.frames + 1) (filter_of new) t.reply
