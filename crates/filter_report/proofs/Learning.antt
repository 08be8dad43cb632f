-- Frames, and what is learnt of them.
use Rattle.std.proofs.Common.{◌≡◌, ℕ, zero, suc, ◌+◌, ◌-◌, ◌*◌, max, Bool, true, false, cond, List, [], ◌∷◌, ◌++◌, length, drop, Option, None, Some, Result, Ok, Err, refl, sym, ap, subst, ◌∙◌, arith, append_assoc}
use Rattle.std.specs.Prelude.{◌≢◌, ◌==◌, ◌&&◌, nat_lt, slice_index}
use Rattle.std.proofs.lemmas.List.{append-nil}
use Rattle.std.proofs.lemmas.List.Sums.{sum_by-append}
use Rattle.apf_coding.specs.Run.{run}
use Rattle.policy_state.specs.Whole.{verdict_of}
use Rattle.policy_state.specs.declared.basis.Answer.{Answer}
use Rattle.ra_records.proofs.Refusing.{refusals}
use Rattle.ra_records.specs.Advert.{Advert, advert, candidate, least, lifetimes_in, router, seen_at}
use Rattle.ra_records.specs.Options.{lifetimes_of, size_of, option_refusal, with_lifetimes, unless_refused, options_from}
use Rattle.ra_records.specs.declared.replies.RaReply.{RaReply}
use Rattle.ra_records.specs.declared.replies.RaReply.TheVariants as adverts
use Rattle.ra_records.specs.declared.span.RaError.{RaError}
use Rattle.ra_records.specs.declared.span.RaError.TheVariants.{NotRa, Short, TooLong, CutOption, ZeroOption, ShortOption, OutOfMemory}
use Rattle.ra_records.specs.declared.span.Span.{Span}
use Rattle.filter_core.specs.Calls.{Renews, advert_installs}
use Rattle.filter_core.specs.Coded.{plain, IsAnswer}
use Rattle.filter_core.specs.Installs.{end_of}
use Rattle.filter_core.specs.Records.{standing, match_of, is_full, with_last, to_front, ids_of}
use Rattle.filter_core.specs.Replay.{Arrival, Course, Entry, install, learnt, answer, tells, learnt_entries, after_learning, after_frame, is_learnt, answers_of, passed, passes}
use Rattle.filter_core.specs.Standing.{Standing, filter_of}
use Rattle.filter_core.specs.Steps.{Filter, Answered, moved, state_of, reinstalled, is_ending, by_match, by_reading, advertised, answer_of}
use Rattle.filter_core.specs.Taking.{Learns}
use Rattle.filter_core.specs.declared.install.Install.{Install}
use Rattle.script_text.specs.Report.{gen_line, frame_line, ra_line}
use Rattle.filter_report.proofs.Telling.{told_plain, told_install, told_answer, answer_is, answers-append, with_answer}
use Rattle.filter_report.specs.Along.{Along}
use Rattle.filter_report.specs.Text.{with_one, lines_learnt}

-- ---- a candidate is never refused as no advertisement

of_an_option : (a b c d : Bool) (at : ℕ) → cond a (Some (CutOption at)) (cond b (Some (ZeroOption at)) (cond c (Some (CutOption at)) (cond d (Some (ShortOption at)) None))) ≢ Some NotRa
of_an_option true b c d at h = absurd cc
of_an_option false true c d at h = absurd cc
of_an_option false false true d at h = absurd cc
of_an_option false false false true at h = absurd cc
of_an_option false false false false at h = absurd cc

behind_one : (o : Option RaError) (front : List Span) (read : Result (List Span) RaError) → o ≢ Some NotRa → read ≢ Err NotRa → unless_refused o (with_lifetimes front read) ≢ Err NotRa
behind_one (Some e) front read h k is = h (let x : e ≡ NotRa = cc in ap (λ (e : RaError). Some e) x)
behind_one None front (Ok found) h k is = absurd cc
behind_one None front (Err e) h k is = k (let x : e ≡ NotRa = cc in ap (λ (e : RaError). Err e) x)

of_options : (skip at : ℕ) (bytes : List ℕ) → options_from skip at bytes ≢ Err NotRa
of_options skip at [] h = absurd cc
of_options (suc skip) at (byte ∷ bytes) h = of_options skip (at + 1) bytes h
of_options zero at (byte ∷ bytes) h =
    behind_one (option_refusal at (byte ∷ bytes)) (lifetimes_of byte at) (options_from (8 * slice_index bytes 0 - 1) (at + 1) bytes)
    (of_an_option (nat_lt (length (byte ∷ bytes)) 2) (slice_index (byte ∷ bytes) 1 == 0) (nat_lt (length (byte ∷ bytes)) (size_of (byte ∷ bytes))) ((slice_index (byte ∷ bytes) 0 == 3) && nat_lt (size_of (byte ∷ bytes)) 16) at)
    (of_options (8 * slice_index bytes 0 - 1) (at + 1) bytes) h

of_lengths : (a b c : Bool) (read : Result (List Span) RaError) → a ≡ true → read ≢ Err NotRa → cond a (cond b (Err Short) (cond c (Err TooLong) (with_lifetimes (router ∷ []) read))) (Err NotRa) ≢ Err NotRa
of_lengths false b c read is k h = absurd cc
of_lengths true true c read is k h = absurd cc
of_lengths true false true read is k h = absurd cc
of_lengths true false false read is k h = behind_one None (router ∷ []) read (λ e. absurd cc) k h

of_a_record : (frame : List ℕ) (now : ℕ) (read : Result (List Span) RaError) → read ≢ Err NotRa → seen_at frame now read ≢ Err NotRa
of_a_record frame now (Ok found) k h = absurd cc
of_a_record frame now (Err e) k h = k (let x : e ≡ NotRa = cc in ap (λ (e : RaError). Err e) x)

candidates : (frame : List ℕ) (now : ℕ) → candidate frame ≡ true → advert frame now ≢ Err NotRa
unfolding advert
candidates frame now is =
    of_a_record frame now (lifetimes_in frame)
    (of_lengths (candidate frame) (nat_lt (length frame) 70) (nat_lt 1514 (length frame)) (options_from 0 70 (drop 70 frame)) is (of_options 0 70 (drop 70 frame)))

again_bad : (t : Bool) (g h : Filter) (id : ℕ) (e : RaError) → (cond {A = Filter × RaReply} t (h, adverts.Refreshed id) (g, adverts.Match id)).1 ≢ adverts.Bad e
again_bad true g h id e is = absurd cc
again_bad false g h id e is = absurd cc

first_bad : (full none : Bool) (f g : Filter) (id : ℕ) (e : RaError) → (cond {A = Filter × RaReply} full (f, adverts.Full) (cond none (f, adverts.ZeroLifetime) (g, adverts.New id))).1 ≢ adverts.Bad e
first_bad true none f g id e is = absurd cc
first_bad false true f g id e is = absurd cc
first_bad false false f g id e is = absurd cc

match_bad : (f : Filter) (seen : Advert) (place : Option ℕ) (e : RaError) → (by_match f seen place).1 ≢ adverts.Bad e
match_bad f seen None e =
    let g = record f { held = with_last f.held (record { id = f.added + 1; advert = seen }); added = f.added + 1 } in
    first_bad (is_full f.held) (least seen == 0) f (reinstalled g (state_of f)) (f.added + 1) e
match_bad f seen (Some place) e =
    let g = record f { held = to_front place seen f.held } in
    again_bad (is_ending f.clock (end_of f.install)) g (reinstalled g (state_of f)) (slice_index (ids_of f.held) place) e

reading_bad : (f : Filter) (frame : List ℕ) (r : Result Advert RaError) (e : RaError) → (by_reading f frame r).1 ≡ adverts.Bad e → r ≡ Err e
reading_bad f frame (Err refusal) e is = let x : refusal ≡ e = cc in ap (λ (e : RaError). Err e) x
reading_bad f frame (Ok seen) e is =
    let left = standing f.clock f.held in
    absurd (match_bad (record f { held = left }) seen (match_of frame left) e is)

-- the reply's refusal is that of the reading
reply_bad : (f : Filter) (frame : List ℕ) (now : ℕ) (e : RaError) (r : RaReply) → r ≡ (advertised f frame now).1 → r ≡ adverts.Bad e → advert frame (moved f now).clock ≡ Err e
reply_bad f frame now e r replied is = let g = moved f now in reading_bad g frame (advert frame g.clock) e (sym replied ∙ is)

reply_is_advertisement : (f : Filter) (frame : List ℕ) (now : ℕ) (r : RaReply) → candidate frame ≡ true → r ≡ (advertised f frame now).1 → r ≢ adverts.Bad NotRa
reply_is_advertisement f frame now r is replied bad = candidates frame (moved f now).clock is (reply_bad f frame now NotRa r replied bad)

reply_has_memory : (f : Filter) (frame : List ℕ) (now : ℕ) (r : RaReply) → r ≡ (advertised f frame now).1 → r ≢ adverts.Bad OutOfMemory
reply_has_memory f frame now r replied bad = refusals frame (moved f now).clock (reply_bad f frame now OutOfMemory r replied bad)

-- ---- learning

-- what isn't refused so was learnt from
both : (a b : Bool) → (a && b) ≡ true → b ≡ true
both true b e = e
both false b e = absurd cc

module _ (frame : List ℕ) (now : ℕ) (old new : Standing) where
  if_candidate : (t : Bool) (reply : Option RaReply) (e : RaError) → (t ≡ true → (r : RaReply) → r ≡ (advertised (filter_of old) frame now).1 → r ≢ adverts.Bad e) →
      Learns t frame now old reply new → reply ≢ Some (adverts.Bad e)
  if_candidate false None e other h is = absurd cc
  if_candidate true (Some r) e other h is = other refl r h.reply (let x : r ≡ adverts.Bad e = cc in x)
  if_candidate false (Some r) e other h is = absurd h
  if_candidate true None e other h is = absurd h

  pub learnt_is_advertisement : (passed : Bool) (reply : Option RaReply) → Learns (passed && candidate frame) frame now old reply new → reply ≢ Some (adverts.Bad NotRa)
  learnt_is_advertisement passed reply h =
      if_candidate (passed && candidate frame) reply NotRa (λ is r replied. reply_is_advertisement (filter_of old) frame now r (both passed (candidate frame) is) replied) h

  pub learnt_has_memory : (passed : Bool) (reply : Option RaReply) → Learns (passed && candidate frame) frame now old reply new → reply ≢ Some (adverts.Bad OutOfMemory)
  learnt_has_memory passed reply h =
      if_candidate (passed && candidate frame) reply OutOfMemory (λ is r replied. reply_has_memory (filter_of old) frame now r replied) h

-- the reply's line, and that of a new install
abbrev reply_lines : Bool → ℕ → RaReply → Install → List (List ℕ)
reply_lines t k r i = ra_line k r ∷ cond t (gen_line i.number i.at i.left i.code ∷ []) []

learning_step : (t : Bool) (c : Course) (core new : Standing) (frames lines : List (List ℕ)) (f : Filter) (k : ℕ) (r : RaReply) →
    Along c core frames lines → filter_of new ≡ f → new.memory ≡ core.memory → Renews t core.install new.install →
    Along (tells c f (cond t (learnt k r ∷ install f.install ∷ []) (learnt k r ∷ []))) new frames (lines ++ reply_lines t k r new.install)
learning_step false c core new frames lines f k r a is kept same =
    told_plain c core new frames lines f (learnt k r) (ra_line k r) a is same kept refl refl (λ programs steps. refl)
learning_step true c core new frames lines f k r a is kept next =
    let ra = learnt k r ∷ [] in
    let line = ra_line k r ∷ [] in
    let gen = gen_line new.install.number new.install.at new.install.left new.install.code ∷ [] in
    let one : Along (tells c c.filter ra) core frames (lines ++ line) = told_plain c core core frames lines c.filter (learnt k r) (ra_line k r) a a.at refl refl refl refl (λ programs steps. refl) in
    let both : Along (tells (tells c c.filter ra) f (install f.install ∷ [])) new frames ((lines ++ line) ++ gen) = told_install (tells c c.filter ra) core new frames (lines ++ line) f one is next kept in
    subst (λ (t : List Entry). Along (record c { filter = f; told = t }) new frames (lines ++ (line ++ gen))) (append_assoc c.told ra (install f.install ∷ []))
    (subst (λ (l : List (List ℕ)). Along (record c { filter = f; told = (c.told ++ ra) ++ install f.install ∷ [] }) new frames l) (append_assoc lines line gen) both)

told_learning : (c : Course) (core new : Standing) (frames lines : List (List ℕ)) (second : ℕ) (frame : List ℕ) (r : RaReply) →
    Along c core frames lines → r ≡ (advertised (filter_of core) frame second).1 → filter_of new ≡ (advertised (filter_of core) frame second).0 →
    Renews (advert_installs r) core.install new.install → new.memory ≡ core.memory →
    Along (after_learning c (record { second = second; frame = frame })) new frames (lines ++ reply_lines (advert_installs r) c.frames r new.install)
told_learning c core new frames lines second frame r a replied is renews kept =
    let after = advertised (filter_of core) frame second in
    let all = lines ++ reply_lines (advert_installs r) c.frames r new.install in
    subst (λ (f : Filter). let after = advertised f frame second in Along (tells c after.0 (learnt_entries c.frames after)) new frames all) a.at
    (subst (λ (q : RaReply). Along (tells c after.0 (learnt_entries c.frames (after.0, q))) new frames all) replied
    (learning_step (advert_installs r) c core new frames lines after.0 c.frames r a is kept renews))

-- ---- frames

-- the answer to a frame
abbrev answer_at : Course → ℕ → List ℕ → Answered
answer_at c second frame = let f = moved c.filter second in answer_of f.install frame f.clock

-- the course with the answer to a frame
abbrev pub answered : Course → ℕ → List ℕ → Course
answered c second frame = with_answer c (moved c.filter second) (answer_at c second frame)

-- ---- how many frames passed

passed_one : (t : Bool) (n : ℕ) → n + (0 + cond t 1 0) ≡ with_one t n
passed_one true n = omega arith
passed_one false n = omega arith

passed-more : (answers : List Answered) (x : Answered) → passed (answers ++ x ∷ []) ≡ with_one (passes (verdict_of x.fate)) (passed answers)
passed-more answers x =
    sum_by-append (λ (y : Answered). cond (passes (verdict_of y.fate)) 1 0) answers (x ∷ []) ∙ passed_one (passes (verdict_of x.fate)) (passed answers)

-- a learnt frame is told without an answer
learnt_answers : (t : Bool) (told : List Entry) (f : Filter) (k : ℕ) (r : RaReply) → answers_of (told ++ cond t (learnt k r ∷ install f.install ∷ []) (learnt k r ∷ [])) ≡ answers_of told
learnt_answers true told f k r = answers-append told (learnt k r ∷ install f.install ∷ []) ∙ append-nil (answers_of told)
learnt_answers false told f k r = answers-append told (learnt k r ∷ []) ∙ append-nil (answers_of told)

passed_frame : (c : Course) (arrival : Arrival) → passed (answers_of (after_frame c arrival).told) ≡ with_one (passes (verdict_of (answer_at c arrival.second arrival.frame).fate)) (passed (answers_of c.told))
passed_frame c arrival =
    ap passed (by_test (is_learnt x arrival.frame) (after_learning d arrival) d (learnt_answers (advert_installs after.1) d.told after.0 d.frames after.1) refl ∙ answers-append c.told (answer (c.frames + 1) x ∷ []))
    ∙ passed-more (answers_of c.told) x
  where
    x : Answered
    x = answer_at c arrival.second arrival.frame

    d : Course
    d = answered c arrival.second arrival.frame

    after : Filter × RaReply
    after = advertised d.filter arrival.frame arrival.second

    by_test : (t : Bool) (e g : Course) → answers_of e.told ≡ answers_of d.told → answers_of g.told ≡ answers_of d.told → answers_of (cond t e g).told ≡ answers_of d.told
    by_test true e g h k = h
    by_test false e g h k = k

module _ (c : Course) (core mid : Standing) (frames lines : List (List ℕ)) (second : ℕ) (frame : List ℕ) (result : Answer) (a : Along c core frames lines)
    (is : IsAnswer core.install frame (max core.clock second) core.memory result mid.memory) (clock : mid.clock ≡ max core.clock second) (same : mid.install ≡ core.install)
    (held : mid.held ≡ core.held) (added : mid.added ≡ core.added) where
  abbrev own : Answered
  own = answer_of (plain core.install) frame (max core.clock second)

  at_own : answer_at c second frame ≡ own
  at_own = ap (λ (f : Filter). answer_of f.install frame (max f.clock second)) (sym a.at)

  moves : filter_of mid ≡ moved c.filter second
  moves = rw (same, held, added, clock) (ap (λ (f : Filter). moved f second) a.at)

  told_frame : Along (answered c second frame) mid (frames ++ frame ∷ []) (lines ++ frame_line (c.frames + 1) None result ∷ [])
  told_frame =
      subst (λ (x : Answered). Along (with_answer c (moved c.filter second) x) mid (frames ++ frame ∷ []) (lines ++ frame_line (c.frames + 1) None result ∷ [])) (sym at_own)
      (told_answer c core mid frames lines (moved c.filter second) frame own result a moves same refl
      (answer_is result own (run core.install.code core.memory frame own.age).outcome.steps is.number is.age is.decided is.counter is.steps) is.raised)

  -- whether it is learnt from
  learns : (t : Bool) → (passes result.verdict && candidate frame) ≡ t → is_learnt (answer_at c second frame) frame ≡ t
  learns t e = ap (λ (x : Answered). is_learnt x frame) at_own ∙ ap (λ v. passes v && candidate frame) (sym is.decided) ∙ e

  -- the frame's lines, by whether it is learnt from
  pub frame_along : (t : Bool) (reply : Option RaReply) (new : Standing) (more : List (List ℕ)) → (passes result.verdict && candidate frame) ≡ t → Learns t frame second mid reply new
      → more ≡ frame_line (c.frames + 1) None result ∷ lines_learnt (c.frames + 1) reply new.install
      → Along (after_frame c (record { second = second; frame = frame })) new (frames ++ frame ∷ []) (lines ++ more)
  frame_along false None new more e same shown =
      let d = answered c second frame in
      let arrival : Arrival = record { second = second; frame = frame } in
      subst (λ (t : Bool). Along (cond t (after_learning d arrival) d) new (frames ++ frame ∷ []) (lines ++ more)) (sym (learns false e))
      (subst (λ (l : List (List ℕ)). Along d new (frames ++ frame ∷ []) (lines ++ l)) (sym shown)
      (subst (λ (s : Standing). Along d s (frames ++ frame ∷ []) (lines ++ frame_line (c.frames + 1) None result ∷ [])) (sym same) told_frame))
  frame_along true (Some r) new more e goes shown =
      let d = answered c second frame in
      let arrival : Arrival = record { second = second; frame = frame } in
      let line = frame_line (c.frames + 1) None result ∷ [] in
      subst (λ (t : Bool). Along (cond t (after_learning d arrival) d) new (frames ++ frame ∷ []) (lines ++ more)) (sym (learns true e))
      (subst (λ (l : List (List ℕ)). Along (after_learning d arrival) new (frames ++ frame ∷ []) l)
      (append_assoc lines line (lines_learnt (c.frames + 1) (Some r) new.install) ∙ ap (λ (l : List (List ℕ)). lines ++ l) (sym shown))
      (told_learning d mid new (frames ++ frame ∷ []) (lines ++ line) second frame r told_frame goes.reply goes.filter goes.install goes.memory))
  frame_along false (Some r) new more e none shown = absurd none
  frame_along true None new more e none shown = absurd none

  -- how many frames passed
  pub frame_passed : passed (answers_of (after_frame c (record { second = second; frame = frame })).told) ≡ with_one (passes result.verdict) (passed (answers_of c.told))
  frame_passed =
      passed_frame c (record { second = second; frame = frame }) ∙ ap (λ (x : Answered). with_one (passes (verdict_of x.fate)) (passed (answers_of c.told))) at_own
      ∙ ap (λ v. with_one (passes v) (passed (answers_of c.told))) (sym is.decided)
