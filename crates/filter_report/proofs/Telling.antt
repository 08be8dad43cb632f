-- One more entry, and its line, keep what holds between the lines.
use Rattle.std.proofs.Common.{◌≡◌, ℕ, suc, ◌+◌, ◌-◌, List, [], ◌∷◌, ◌++◌, length, length-append, get_or, None, refl, sym, ap, subst, ◌∙◌, arith}
use Rattle.std.proofs.lemmas.List.{append_assoc, append-nil, get_or_append_left, map-append}
use Rattle.std.proofs.Math.Seq.{get_or-append_seam}
use Rattle.apf_coding.specs.Run.{run}
use Rattle.apf_generate.specs.Means.{memory_after}
use Rattle.data_counters.specs.declared.counter.Counter.{Counter}
use Rattle.policy_state.specs.Whole.{verdict_of, counter_of_fate}
use Rattle.policy_state.specs.declared.basis.Answer.{Answer}
use Rattle.filter_core.proofs.Answering.{meaning}
use Rattle.filter_core.proofs.Counting.{memory_of-more}
use Rattle.filter_core.proofs.Growing.{installs-append}
use Rattle.filter_core.specs.Coded.{plain}
use Rattle.filter_core.specs.Installs.{Installed}
use Rattle.filter_core.specs.Standing.{Standing, filter_of}
use Rattle.filter_core.specs.Steps.{Filter, Answered}
use Rattle.filter_core.specs.Tally.{memory_of, raised_by, raises}
use Rattle.filter_core.specs.Replay.{Course, Entry, install, reply, answer, learnt, counted, total, tells, answers_of, installs_of}
use Rattle.script_text.specs.Report.{gen_line, frame_line}
use Rattle.filter_report.specs.Text.{with_steps, entry_line, entry_lines}
use Rattle.filter_report.specs.Report.{Fits, AllFit, steps_from}
use Rattle.filter_report.specs.Along.{Along}

-- ---- lists of entries

pub lines-append : (programs : List (List ℕ)) (steps : List ℕ) (es fs : List Entry) → entry_lines programs steps (es ++ fs) ≡ entry_lines programs steps es ++ entry_lines programs steps fs
unfolding entry_lines
lines-append programs steps es fs = map-append (entry_line programs steps) es fs

pub lines-one : (programs : List (List ℕ)) (steps : List ℕ) (es : List Entry) (e : Entry) → entry_lines programs steps (es ++ e ∷ []) ≡ entry_lines programs steps es ++ entry_line programs steps e ∷ []
unfolding entry_lines
lines-one programs steps es e = map-append (entry_line programs steps) es (e ∷ [])

pub answers-append : (es fs : List Entry) → answers_of (es ++ fs) ≡ answers_of es ++ answers_of fs
answers-append [] fs = refl
answers-append (install i ∷ es) fs = answers-append es fs
answers-append (reply r at ∷ es) fs = answers-append es fs
answers-append (answer k a ∷ es) fs = ap (λ (xs : List Answered). a ∷ xs) (answers-append es fs)
answers-append (learnt k r ∷ es) fs = answers-append es fs
answers-append (counted c n ∷ es) fs = answers-append es fs
answers-append (total a b d ∷ es) fs = answers-append es fs

-- ---- codes and steps

pub AllFit-append : (programs : List (List ℕ)) (is : List Installed) (codes : List (List ℕ)) (js : List Installed) → AllFit programs is → AllFit codes js → AllFit (programs ++ codes) (is ++ js)
AllFit-append [] [] codes js all more = more
AllFit-append [] (i ∷ is) codes js all more = absurd all
AllFit-append (p ∷ programs) [] codes js all more = absurd all
AllFit-append (p ∷ programs) (i ∷ is) codes js all more = (all.0, AllFit-append programs is codes js all.1 more)

pub length-AllFit : (programs : List (List ℕ)) (is : List Installed) → AllFit programs is → length is ≡ length programs
length-AllFit [] [] all = refl
length-AllFit [] (i ∷ is) all = absurd all
length-AllFit (p ∷ programs) [] all = absurd all
length-AllFit (p ∷ programs) (i ∷ is) all = ap (λ n. suc n) (length-AllFit programs is all.1)

pub steps-append : (programs : List (List ℕ)) (raised : List Counter) (answers later : List Answered) (frames more : List (List ℕ)) → length frames ≡ length answers
    → steps_from programs raised (answers ++ later) (frames ++ more) ≡ steps_from programs raised answers frames ++ steps_from programs (raised ++ raised_by answers) later more
steps-append programs raised [] later [] more same = ap (λ (r : List Counter). steps_from programs r later more) (sym (append-nil raised))
steps-append programs raised [] later (f ∷ frames) more same = absurd (grind (arith, same))
steps-append programs raised (y ∷ answers) later [] more same = absurd (grind (arith, same))
steps-append programs raised (y ∷ answers) later (f ∷ frames) more same =
    let s = (run (get_or programs y.number []) (memory_of raised) f y.age).outcome.steps in
    let rest = steps-append programs (raised ++ raises y.fate) answers later frames more (omega (arith, same)) in
    ap (λ (xs : List ℕ). s ∷ xs) rest
    ∙ ap (λ (r : List Counter). s ∷ (steps_from programs (raised ++ raises y.fate) answers frames ++ steps_from programs r later more)) (append_assoc raised (raises y.fate) (raised_by answers))

pub length-steps : (programs : List (List ℕ)) (raised : List Counter) (answers : List Answered) (frames : List (List ℕ)) → length frames ≡ length answers
    → length (steps_from programs raised answers frames) ≡ length answers
length-steps programs raised [] [] same = refl
length-steps programs raised [] (f ∷ frames) same = absurd (grind (arith, same))
length-steps programs raised (y ∷ answers) [] same = absurd (grind (arith, same))
length-steps programs raised (y ∷ answers) (f ∷ frames) same = ap (λ n. suc n) (length-steps programs (raised ++ raises y.fate) answers frames (omega (arith, same)))

-- ---- one more entry

-- an entry whose line shows neither a code nor steps
pub told_plain : (c : Course) (core new : Standing) (frames lines : List (List ℕ)) (f : Filter) (e : Entry) (line : List ℕ) →
    Along c core frames lines → filter_of new ≡ f → new.install ≡ core.install → new.memory ≡ core.memory →
    answers_of (e ∷ []) ≡ [] → installs_of (e ∷ []) ≡ [] → ((programs : List (List ℕ)) (steps : List ℕ) → entry_line programs steps e ≡ line) →
    Along (tells c f (e ∷ [])) new frames (lines ++ line ∷ [])
told_plain c core new frames lines f e line a is same kept no_answer no_install shows =
    let answers : answers_of (c.told ++ e ∷ []) ≡ answers_of c.told = answers-append c.told (e ∷ []) ∙ ap (λ (xs : List Answered). answers_of c.told ++ xs) no_answer ∙ append-nil (answers_of c.told) in
    let installs : installs_of (c.told ++ e ∷ []) ≡ installs_of c.told = installs-append c.told (e ∷ []) ∙ ap (λ (xs : List Installed). installs_of c.told ++ xs) no_install ∙ append-nil (installs_of c.told) in
    record {
      programs = a.programs;
      fit = rw installs a.fit;
      stands = rw same a.stands;
      count = rw same a.count;
      at = is;
      memory = kept ∙ a.memory ∙ ap (λ (xs : List Answered). memory_of (raised_by xs)) (sym answers);
      answered = a.answered ∙ ap (λ (xs : List Answered). length xs) (sym answers);
      taken = a.taken;
      telling = λ more later.
          let programs = a.programs ++ more in
          let steps = steps_from programs [] (answers_of c.told) frames ++ later in
          rw answers (
          ap (λ (w : List (List ℕ)). w ++ line ∷ []) (a.telling more later)
          ∙ ap (λ (l : List ℕ). entry_lines programs steps c.told ++ l ∷ []) (sym (shows programs steps))
          ∙ sym (lines-one programs steps c.told e));
    }

-- an install
pub told_install : (c : Course) (core new : Standing) (frames lines : List (List ℕ)) (f : Filter) →
    Along c core frames lines → filter_of new ≡ f → new.install.number ≡ core.install.number + 1 → new.memory ≡ core.memory →
    Along (tells c f (install f.install ∷ [])) new frames (lines ++ gen_line new.install.number new.install.at new.install.left new.install.code ∷ [])
told_install c core new frames lines f a is next kept =
    let code = new.install.code in
    let e = install (plain new.install) in
    let line : List ℕ → List ℕ = λ (p : List ℕ). gen_line new.install.number new.install.at new.install.left p in
    let answers : answers_of (c.told ++ e ∷ []) ≡ answers_of c.told = answers-append c.told (e ∷ []) ∙ append-nil (answers_of c.told) in
    let installs : installs_of (c.told ++ e ∷ []) ≡ installs_of c.told ++ plain new.install ∷ [] = installs-append c.told (e ∷ []) in
    let place : new.install.number ≡ length a.programs = next ∙ sym a.count in
    let fits : Fits code (plain new.install) = record { means = meaning new.install; size = new.install.short; room = new.install.fits; bytes = new.install.bytes } in
    subst (λ (g : Filter). Along (tells c g (install g.install ∷ [])) new frames (lines ++ line code ∷ [])) is (record {
      programs = a.programs ++ code ∷ [];
      fit = rw installs (AllFit-append a.programs (installs_of c.told) (code ∷ []) (plain new.install ∷ []) a.fit (fits, tt));
      stands = rw place (get_or-append_seam a.programs code [] []);
      count = grind (arith, length-append, place);
      at = refl;
      memory = kept ∙ a.memory ∙ ap (λ (xs : List Answered). memory_of (raised_by xs)) (sym answers);
      answered = a.answered ∙ ap (λ (xs : List Answered). length xs) (sym answers);
      taken = a.taken;
      telling = λ more later.
          let programs = a.programs ++ code ∷ more in
          let steps = steps_from programs [] (answers_of c.told) frames ++ later in
          rw (answers, append_assoc a.programs (code ∷ []) more) (
          ap (λ (w : List (List ℕ)). w ++ line code ∷ []) (a.telling (code ∷ more) later)
          ∙ ap (λ (p : List ℕ). entry_lines programs steps c.told ++ line p ∷ [])
          (sym (ap (λ (n : ℕ). get_or programs n []) place ∙ get_or-append_seam a.programs code more []))
          ∙ sym (lines-one programs steps c.told e));
    })

-- an answer is its parts
pub answer_is : (r : Answer) (x : Answered) (s : ℕ) → r.number ≡ x.number → r.age ≡ x.age → r.verdict ≡ verdict_of x.fate → r.counter ≡ counter_of_fate x.fate → r.steps ≡ s → r ≡ with_steps x s
answer_is r x s number age verdict counter steps = rw (sym number, sym age, sym verdict, sym counter, sym steps) refl

-- the course with one more frame, which has this answer
abbrev pub with_answer : Course → Filter → Answered → Course
with_answer c f x = record (tells c f (answer (c.frames + 1) x ∷ [])) { frames = c.frames + 1 }

-- an answer, whose steps are those of the code that stands, over the counters
pub told_answer : (c : Course) (core new : Standing) (frames lines : List (List ℕ)) (f : Filter) (frame : List ℕ) (x : Answered) (result : Answer) →
    Along c core frames lines → filter_of new ≡ f → new.install ≡ core.install → x.number ≡ core.install.number →
    result ≡ with_steps x (run core.install.code core.memory frame x.age).outcome.steps → new.memory ≡ memory_after x.fate core.memory →
    Along (with_answer c f x) new (frames ++ frame ∷ []) (lines ++ frame_line (c.frames + 1) None result ∷ [])
told_answer c core new frames lines f frame x result a is same number steps kept =
    let e = answer (c.frames + 1) x in
    let before = answers_of c.told in
    let answers : answers_of (c.told ++ e ∷ []) ≡ before ++ x ∷ [] = answers-append c.told (e ∷ []) in
    let installs : installs_of (c.told ++ e ∷ []) ≡ installs_of c.told = installs-append c.told (e ∷ []) ∙ append-nil (installs_of c.told) in
    record {
      programs = a.programs;
      fit = rw installs a.fit;
      stands = rw same a.stands;
      count = rw same a.count;
      at = is;
      memory = kept ∙ ap (λ (m : List ℕ). memory_after x.fate m) a.memory ∙ sym (memory_of-more before x) ∙ ap (λ (xs : List Answered). memory_of (raised_by xs)) (sym answers);
      answered = rw answers (length-append frames (frame ∷ []) ∙ ap (λ n. n + 1) a.answered ∙ sym (length-append before (x ∷ [])));
      taken = ap (λ n. n + 1) a.taken ∙ sym (length-append frames (frame ∷ []));
      telling = λ more later.
          let programs = a.programs ++ more in
          let so_far = steps_from programs [] before frames in
          let s = (run (get_or programs x.number []) (memory_of (raised_by before)) frame x.age).outcome.steps in
          let code : get_or programs x.number [] ≡ core.install.code =
          ap (λ (n : ℕ). get_or programs n []) number ∙ get_or_append_left a.programs more [] core.install.number (omega (arith, a.count)) ∙ a.stands in
          let own : s ≡ (run core.install.code core.memory frame x.age).outcome.steps =
          ap (λ (p : List ℕ). (run p (memory_of (raised_by before)) frame x.age).outcome.steps) code
          ∙ ap (λ (m : List ℕ). (run core.install.code m frame x.age).outcome.steps) (sym a.memory) in
          let place : (c.frames + 1) - 1 ≡ length so_far = omega (arith, a.taken, a.answered, length-steps programs [] before frames a.answered) in
          let shown : get_or (so_far ++ s ∷ later) ((c.frames + 1) - 1) 0 ≡ s = ap (λ (n : ℕ). get_or (so_far ++ s ∷ later) n 0) place ∙ get_or-append_seam so_far s later 0 in
          rw (answers, steps-append programs [] before (x ∷ []) frames (frame ∷ []) a.answered, append_assoc so_far (s ∷ []) later) (
          ap (λ (w : List (List ℕ)). w ++ frame_line (c.frames + 1) None result ∷ []) (a.telling more (s ∷ later))
          ∙ ap (λ (r : Answer). entry_lines programs (so_far ++ s ∷ later) c.told ++ frame_line (c.frames + 1) None r ∷ []) (steps ∙ ap (λ (n : ℕ). with_steps x n) (sym (shown ∙ own)))
          ∙ sym (lines-one programs (so_far ++ s ∷ later) c.told e));
    }
