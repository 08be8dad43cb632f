-- Records that are taken one after another, each with its lines.
use Rattle.std.proofs.Common.{◌≡◌, ℕ, List, [], ◌∷◌, ◌++◌, length, take, drop, Bool, true, false, Option, None, Some, Result, Ok, Err, refl, ap, sym, subst, append_assoc, append-nil, take_at, drop_at}
use Rattle.std.specs.List.{concat}
use Rattle.std.specs.Io.KnownBytes.{IsAtEnd}
use Rattle.std.proofs.KnownBytes.{Appends-nil}
use Rattle.apf_base.specs.Causes.{Rose}
use Rattle.apf_base.specs.Streams.{AppendsPart, AppendsAll}
use Rattle.pcap_files.specs.Stream.{TakesBytes}
use Rattle.pcap_files.specs.declared.fault.PcapError.{PcapError}
use Rattle.command_plan.specs.declared.fault.Input.{Input}
use Rattle.command_plan.specs.declared.fault.Refusal.TheVariants.{BadCapture}
use Rattle.command_plan.specs.declared.fault.Fault.{Fault}
use Rattle.command_plan.specs.declared.fault.Fault.TheVariants.{Refused, OutOfMemory, Read, Write}
use Rattle.command_plan.specs.Amounts.{whole_record}
use Rattle.command_plan.specs.Plan.{Plan, TakeNext, Say, ◌>>=◌, takes, says, unless, IsQuiet, MayFetch, ReadsWhole}
use Rattle.command_plan.specs.Weaving.{Share, weaves, weaves_all, ending_amount, refusal_by}
use Rattle.command_plan.specs.Follows.{Stage, Later, Idle, Follows}
use Rattle.command_plan.specs.Follows as f
use Rattle.command_plan.proofs.Following.{done, lacks, refused, then_on}
use Rattle.command_plan.proofs.Saying.{part_of_more}
use Rattle.command_plan.proofs.Stages.{later_refl}

module _ {A : Type 0} (input : Input) (next : List (List ℕ) → Plan A) where
  -- some records, and then others
  pub weaves-append : (xs ys : List Share) (lines : List (List ℕ)) → weaves input (xs ++ ys) lines >>= next ≡ weaves input xs lines >>= λ rest. weaves input ys rest >>= next
  unfolding weaves ◌>>=◌
  weaves-append [] ys lines = refl
  weaves-append (x ∷ xs) ys lines = ap (λ (p : Plan A). TakeNext input (whole_record x.size) (Say (take x.count lines) p)) (weaves-append xs ys (drop x.count lines))

-- Of these records each was taken, and its lines were written, which are all of these.
pub record WovenSo (input : Input) (shares : List Share) (done : List (List ℕ)) (a c : Stage) : Type 0 where
  pub at : (later : List (List ℕ)) → Follows (weaves input shares (done ++ later)) a c (Ok later)

pub woven_none : (input : Input) (a : Stage) → WovenSo input [] [] a a
unfolding weaves
woven_none input a = record { at = λ later. done later a (Ok later) refl }

module _ (input : Input) where
  -- a record was taken, and its lines were written
  woven_one : (share : Share) (these later : List (List ℕ)) (c d e : Stage) → Idle c d → TakesBytes share.size c.shelf.left d.shelf.left → Later d e → e.shelf.left ≡ d.shelf.left
      → AppendsAll d.out.held e.out.held these → length these ≡ share.count → Follows (weaves input (share ∷ []) (these ++ later)) c e (Ok later)
  unfolding weaves ◌>>=◌ Follows
  woven_one share these later c d e idle taken after left all count =
      let now : take share.count (these ++ later) ≡ these = take_at these later share.count count in
      let rest : drop share.count (these ++ later) ≡ later = drop_at these later share.count count in
      f.Takes.taken d idle taken
      (f.Says.said e after left (subst (λ (l : List (List ℕ)). AppendsAll d.out.held e.out.held l) (sym now) all) (done (drop share.count (these ++ later)) e (Ok later) (ap (λ (l : List (List ℕ)). Ok l) (sym rest))))

  weaves_more : (xs ys : List Share) (lines : List (List ℕ)) → weaves input (xs ++ ys) lines ≡ weaves input xs lines >>= weaves input ys
  unfolding weaves ◌>>=◌
  weaves_more [] ys lines = refl
  weaves_more (x ∷ xs) ys lines = ap (λ (p : Plan (List (List ℕ))). TakeNext input (whole_record x.size) (Say (take x.count lines) p)) (weaves_more xs ys (drop x.count lines))

  pub woven_more : (xs : List Share) (done these : List (List ℕ)) (size : ℕ) (a c d e : Stage) → WovenSo input xs done a c → Idle c d → TakesBytes size c.shelf.left d.shelf.left
      → Later d e → e.shelf.left ≡ d.shelf.left → AppendsAll d.out.held e.out.held these
      → WovenSo input (xs ++ record { size = size; count = length these } ∷ []) (done ++ these) a e
  woven_more xs done these size a c d e so idle taken after left all =
      let share : Share = record { size = size; count = length these } in
      record {
        at = λ later.
            let one = woven_one share these later c d e idle taken after left all refl in
            let both = then_on (weaves input xs (done ++ (these ++ later))) (weaves input (share ∷ [])) (these ++ later) a c e (Ok later) (so.at (these ++ later)) one in
            let at_lines = subst (λ (p : Plan (List (List ℕ))). Follows p a e (Ok later)) (sym (weaves_more xs (share ∷ []) (done ++ (these ++ later)))) both in
            subst (λ (l : List (List ℕ)). Follows (weaves input (xs ++ share ∷ []) l) a e (Ok later)) (sym (append_assoc done these later)) at_lines;
      }

-- the read of the next record failed, or of the end
pub weaves_unread : (input : Input) (end : Option PcapError) (ys : List Share) (later : List (List ℕ)) (c b : Stage) (r : Result (Unit {0}) Fault) → r ≡ Err (Read input)
    → Idle c b → Rose c.shelf.faults b.shelf.faults → Follows (weaves_all input end ys later) c b r
unfolding weaves ◌>>=◌ Follows
weaves_unread input end [] later c b r is idle rose = f.Takes.unread (record { is = is; idle = idle }) rose
weaves_unread input end (y ∷ ys) later c b r is idle rose = f.Takes.unread (record { is = is; idle = idle }) rose

module _ (input : Input) (end : Option PcapError) (xs : List Share) (done : List (List ℕ)) (a c : Stage) (so : WovenSo input xs done a c) where
  -- the call went on from there
  woven_on : (ys : List Share) (later : List (List ℕ)) (b : Stage) (r : Result (Unit {0}) Fault) → Follows (weaves_all input end ys later) c b r
      → Follows (weaves_all input end (xs ++ ys) (done ++ later)) a b r
  woven_on ys later b r more =
      let next : List (List ℕ) → Plan (Unit {0}) = λ last. takes input (ending_amount end) >>= λ _. says last >>= λ _. unless (refusal_by end) in
      subst (λ (p : Plan (Unit {0})). Follows p a b r) (sym (weaves-append input next xs ys (done ++ later)))
      (then_on (weaves input xs (done ++ later)) (λ rest. weaves input ys rest >>= next) later a c b r (so.at later) more)

  -- the read of the next record failed, or of the end
  pub woven_unread : (ys : List Share) (later : List (List ℕ)) (b : Stage) (r : Result (Unit {0}) Fault) → r ≡ Err (Read input) → Idle c b → Rose c.shelf.faults b.shelf.faults
      → Follows (weaves_all input end (xs ++ ys) (done ++ later)) a b r
  woven_unread ys later b r is idle rose = woven_on ys later b r (weaves_unread input end ys later c b r is idle rose)

  -- there was no memory to go on
  pub woven_lacks : (ys : List Share) (later : List (List ℕ)) (b : Stage) (r : Result (Unit {0}) Fault) → r ≡ Err OutOfMemory → Idle c b
      → Follows (weaves_all input end (xs ++ ys) (done ++ later)) a b r
  woven_lacks ys later b r is idle = woven_on ys later b r (lacks (weaves_all input end ys later) c b r is idle)

  module _ (share : Share) (ys : List Share) (some others later : List (List ℕ)) (d b : Stage) (r : Result (Unit {0}) Fault) where
    taken_lines : share.count ≡ length (some ++ others) → take share.count ((some ++ others) ++ later) ≡ some ++ others
    taken_lines count = take_at (some ++ others) later share.count (sym count)

    short : r ≡ Err OutOfMemory → Idle c d → TakesBytes share.size c.shelf.left d.shelf.left → Later d b → AppendsAll d.out.held b.out.held some → share.count ≡ length (some ++ others)
        → Follows (weaves_all input end (share ∷ ys) ((some ++ others) ++ later)) c b r
    unfolding weaves ◌>>=◌ Follows
    short is idle taken after all count = f.Takes.taken d idle taken (f.Says.no_memory is after (some, others, taken_lines count, all))

    -- a record was taken, and there was no memory for all its lines
    pub woven_short : r ≡ Err OutOfMemory → Idle c d → TakesBytes share.size c.shelf.left d.shelf.left → Later d b → AppendsAll d.out.held b.out.held some
        → share.count ≡ length (some ++ others) → Follows (weaves_all input end (xs ++ share ∷ ys) (done ++ ((some ++ others) ++ later))) a b r
    woven_short is idle taken after all count = woven_on (share ∷ ys) ((some ++ others) ++ later) b r (short is idle taken after all count)

    unsaid : r ≡ Err Write → Idle c d → TakesBytes share.size c.shelf.left d.shelf.left → Later d b → b.shelf.left ≡ d.shelf.left → Rose d.out.faults b.out.faults
        → AppendsPart d.out.held b.out.held (concat some) → share.count ≡ length (some ++ others)
        → Follows (weaves_all input end (share ∷ ys) ((some ++ others) ++ later)) c b r
    unfolding weaves ◌>>=◌ Follows
    unsaid is idle taken after left rose part count =
        let all = part_of_more d.out.held b.out.held some others part in
        f.Takes.taken d idle taken
        (f.Says.unwritten is after left rose (subst (λ (l : List (List ℕ)). AppendsPart d.out.held b.out.held (concat l)) (sym (taken_lines count)) all))

    -- a record was taken, and a write of its lines failed
    pub woven_unsaid : r ≡ Err Write → Idle c d → TakesBytes share.size c.shelf.left d.shelf.left → Later d b → b.shelf.left ≡ d.shelf.left → Rose d.out.faults b.out.faults
        → AppendsPart d.out.held b.out.held (concat some) → share.count ≡ length (some ++ others)
        → Follows (weaves_all input end (xs ++ share ∷ ys) (done ++ ((some ++ others) ++ later))) a b r
    woven_unsaid is idle taken after left rose part count =
        woven_on (share ∷ ys) ((some ++ others) ++ later) b r (unsaid is idle taken after left rose part count)

module _ (input : Input) (xs : List Share) (done : List (List ℕ)) (a c : Stage) (so : WovenSo input xs done a c) where
  ending : Option PcapError → List (List ℕ) → Plan (Unit {0})
  ending end last = takes input (ending_amount end) >>= λ _. says last >>= λ _. unless (refusal_by end)

  refused_there : (fault : PcapError) (b : Stage) (r : Result (Unit {0}) Fault) → r ≡ Err (Refused (BadCapture fault)) → Idle c b → Follows (ending (Some fault) []) c b r
  unfolding ◌>>=◌ Follows ending
  refused_there fault b r is idle = f.Takes.taken b idle tt (f.Says.said b (later_refl b) refl (Appends-nil b.out.held) (refused (BadCapture fault) b r is))

  -- behind the last whole record the capture is refused
  pub woven_refused : (fault : PcapError) (b : Stage) (r : Result (Unit {0}) Fault) → r ≡ Err (Refused (BadCapture fault)) → Idle c b
      → Follows (weaves_all input (Some fault) xs done) a b r
  unfolding ending
  woven_refused fault b r is idle =
      let at : Follows (weaves input xs done) a c (Ok []) = subst (λ (l : List (List ℕ)). Follows (weaves input xs l) a c (Ok [])) (append-nil done) (so.at []) in
      then_on (weaves input xs done) (ending (Some fault)) [] a c b r at (refused_there fault b r is idle)

  whole_there : (last : List (List ℕ)) (d b : Stage) (r : Result (Unit {0}) Fault) → Idle c d → IsAtEnd d.shelf.left → Follows (says last) d b r → Follows (ending None last) c b r
  unfolding ◌>>=◌ Follows ending
  whole_there last d b r idle at_end more = f.Takes.taken d idle at_end more

  -- behind the last record no byte is left, and the last lines were written
  pub woven_whole : (last : List (List ℕ)) (d b : Stage) (r : Result (Unit {0}) Fault) → Idle c d → IsAtEnd d.shelf.left → Follows (says last) d b r
      → Follows (weaves_all input None xs (done ++ last)) a b r
  unfolding ending
  woven_whole last d b r idle at_end more = then_on (weaves input xs (done ++ last)) (ending None) last a c b r (so.at last) (whole_there last d b r idle at_end more)

-- ---- what is read off it

-- behind lines it refuses nothing but the capture
pub woven_quiet : (input : Input) (said : Bool) (end : Option PcapError) (shares : List Share) (lines : List (List ℕ)) → IsQuiet true said (weaves_all input end shares lines)
unfolding IsQuiet ◌>>=◌ weaves
woven_quiet input said None [] lines = (refl, tt)
woven_quiet input said (Some fault) [] lines = (refl, tt)
woven_quiet input said end (share ∷ shares) lines = (refl, woven_quiet input true end shares (drop share.count lines))

-- it comes to its answer at the end of the capture alone
pub woven_reads : (input : Input) (whole : Bool) (end : Option PcapError) (shares : List Share) (lines : List (List ℕ)) → ReadsWhole whole (weaves_all input end shares lines)
unfolding ReadsWhole ◌>>=◌ weaves
woven_reads input whole None [] lines = refl
woven_reads input whole (Some fault) [] lines = tt
woven_reads input whole end (share ∷ shares) lines = woven_reads input false end shares (drop share.count lines)

-- it opens no file
pub woven_fetches : (may : List ℕ → Type 0) (input : Input) (end : Option PcapError) (shares : List Share) (lines : List (List ℕ)) → MayFetch may (weaves_all input end shares lines)
unfolding MayFetch ◌>>=◌ weaves
woven_fetches may input None [] lines = tt
woven_fetches may input (Some fault) [] lines = tt
woven_fetches may input end (share ∷ shares) lines = woven_fetches may input end shares (drop share.count lines)
