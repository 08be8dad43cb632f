-- How what calls add goes together.
use Rattle.std.proofs.Common.{◌≡◌, ℕ, List, [], ◌∷◌, ◌++◌, Option, None, Some, Result, Ok, Err, OnOk, OnErr, IfErr, refl, sym, ap, subst, ◌∙◌, append_assoc, append-nil, ◌+◌, ◌<◌, ◌≤◌, length, length-append, take, drop, get_or, take-append-drop, arith}
use Rattle.std.specs.Prelude.{◌≢◌}
use Rattle.std.specs.List.{concat}
use Rattle.std.specs.Io.KnownBytes.{Appends, Keeps}
use Rattle.std.proofs.KnownBytes.{Appends-trans, Appends-nil}
use Rattle.std.proofs.lemmas.Grind.{take_at_read}
use Rattle.std.proofs.lemmas.List.{take_all}
use Rattle.std.proofs.lemmas.List.Folds.{concat-append}
use Rattle.apf_base.specs.Streams.{AppendsAll, AppendsPart}
use Rattle.filter_report.specs.declared.fault.ReportFault.{ReportFault}
use Rattle.filter_report.specs.declared.fault.ReportFault.TheVariants.{TooLarge, OutOfMemory, Write}
use Rattle.filter_report.specs.Lines.{Adds, BreaksOff}

-- ---- lines behind lines

kept_none : (a b : Option (List ℕ)) → Keeps a b → Appends a b []
kept_none None b k = tt
kept_none (Some x) None k = absurd k
kept_none (Some x) (Some y) k = k ∙ sym (append-nil x)

pub all_and_all : (a b c : Option (List ℕ)) (xs ys : List (List ℕ)) → AppendsAll a b xs → AppendsAll b c ys → AppendsAll a c (xs ++ ys)
all_and_all a b c xs ys before now = subst (λ (bs : List ℕ). Appends a c bs) (sym (concat-append xs ys)) (Appends-trans a b c (concat xs) (concat ys) before now)

pub part_of_more : (a b : Option (List ℕ)) (xs ys : List ℕ) → AppendsPart a b xs → AppendsPart a b (xs ++ ys)
part_of_more a b xs ys now = (
  now.0,
  now.1 ++ ys,
  ap (λ (l : List ℕ). l ++ ys) now.2 ∙ append_assoc now.0 now.1 ys,
  omega (arith, now.3, length-append now.1 ys),
  now.4,
)

pub bytes_and_part : (a b c : Option (List ℕ)) (xs ys : List ℕ) → Appends a b xs → AppendsPart b c ys → AppendsPart a c (xs ++ ys)
bytes_and_part a b c xs ys before now =
    (xs ++ now.0, now.1, ap (λ (l : List ℕ). xs ++ l) now.2 ∙ sym (append_assoc xs now.0 now.1), now.3, Appends-trans a b c xs now.0 before now.4)

pub all_and_part : (a b c : Option (List ℕ)) (xs ys : List (List ℕ)) → AppendsAll a b xs → AppendsPart b c (concat ys) → AppendsPart a c (concat (xs ++ ys))
all_and_part a b c xs ys before now = subst (λ (bs : List ℕ). AppendsPart a c bs) (sym (concat-append xs ys)) (bytes_and_part a b c (concat xs) (concat ys) before now)

-- ---- calls behind calls

module _ (Before Between After : List (List ℕ) → Type 0) (a b c : Option (List ℕ)) where
  pub adds_adds : Adds Before Between a b → Adds Between After b c → Adds Before After a c
  adds_adds first then = λ lines before.
      let x = first lines before in
      let y = then (lines ++ x.0) x.2 in
      (x.0 ++ y.0, all_and_all a b c x.0 y.0 x.1 y.1, subst After (append_assoc lines x.0 y.0) y.2)

  pub adds_breaks : (fault : ReportFault) → Adds Before Between a b → BreaksOff fault Between After b c → BreaksOff fault Before After a c
  adds_breaks (TooLarge need limit) first then = tt
  adds_breaks OutOfMemory first then = adds_adds first then
  adds_breaks Write first then = λ lines before.
      let x = first lines before in
      let y = then (lines ++ x.0) x.2 in
      (x.0 ++ y.0, all_and_part a b c x.0 y.0 x.1 y.1, subst After (append_assoc lines x.0 y.0) y.2)

module _ (Before After Later : List (List ℕ) → Type 0) (a b : Option (List ℕ)) where
  -- what holds of the lines gives more, by what held of the first of them
  pub adds_later : ((start lines : List (List ℕ)) → Before start → After lines → Later lines) → Adds Before After a b → Adds Before Later a b
  adds_later later all = λ lines before. let x = all lines before in (x.0, x.1, later lines (lines ++ x.0) before x.2)

  pub breaks_later : (fault : ReportFault) → ((start lines : List (List ℕ)) → Before start → After lines → Later lines) → BreaksOff fault Before After a b → BreaksOff fault Before Later a b
  breaks_later (TooLarge need limit) later all = tt
  breaks_later OutOfMemory later all = adds_later later all
  breaks_later Write later all = λ lines before. let x = all lines before in (x.0, x.1, later lines (lines ++ x.0) before x.2)

module _ (Before After : List (List ℕ) → Type 0) (a : Option (List ℕ)) where
  -- nothing was added
  pub adds_none : ((lines : List (List ℕ)) → Before lines → After lines) → Adds Before After a a
  adds_none same = λ lines before. ([], Appends-nil a, subst After (sym (append-nil lines)) (same lines before))

  pub breaks_none : (fault : ReportFault) → fault ≡ OutOfMemory → ((lines : List (List ℕ)) → Before lines → After lines) → BreaksOff fault Before After a a
  breaks_none fault is same = subst (λ (f : ReportFault). BreaksOff f Before After a a) (sym is) (adds_none same)

module _ (Before After : List (List ℕ) → Type 0) (a b : Option (List ℕ)) where
  -- these lines were written
  pub adds_these : (more : List (List ℕ)) (result : Result (Unit {0}) ReportFault) → ((lines : List (List ℕ)) → Before lines → After (lines ++ more))
      → OnOk result (AppendsAll a b more) → OnOk result (Adds Before After a b)
  adds_these more (Ok x) tells done = λ lines before. (more, done, tells lines before)
  adds_these more (Err e) tells done = tt

  -- or the first part of their text
  pub breaks_these : (more : List (List ℕ)) (result : Result (Unit {0}) ReportFault) → ((lines : List (List ℕ)) → Before lines → After (lines ++ more))
      → OnErr result (result ≡ Err Write) → OnErr result (AppendsPart a b (concat more)) → IfErr result (λ fault. BreaksOff fault Before After a b)
  breaks_these more (Ok x) tells is front = tt
  breaks_these more (Err (TooLarge need limit)) tells is front = tt
  breaks_these more (Err OutOfMemory) tells is front = absurd cc
  breaks_these more (Err Write) tells is front = λ lines before. (more, front, tells lines before)

module _ (Before After : List (List ℕ) → Type 0) (a b : Option (List ℕ)) (more : List (List ℕ)) (tells : (lines : List (List ℕ)) → Before lines → After (lines ++ more)) where
  -- the same where which lines are written is known by what held
  pub adds_known : (result : Result (Unit {0}) ReportFault) → ((lines : List (List ℕ)) → Before lines → OnOk result (AppendsAll a b more)) → OnOk result (Adds Before After a b)
  adds_known (Ok x) done = λ lines before. (more, done lines before, tells lines before)
  adds_known (Err e) done = tt

  pub breaks_known : (result : Result (Unit {0}) ReportFault) → ((lines : List (List ℕ)) → Before lines → After lines) → OnErr result (result ≢ Err Write → Keeps a b)
      → ((lines : List (List ℕ)) → Before lines → result ≡ Err Write → AppendsPart a b (concat more)) → IfErr result (λ fault. BreaksOff fault Before After a b)
  breaks_known (Ok x) same quiet front = tt
  breaks_known (Err (TooLarge need limit)) same quiet front = tt
  breaks_known (Err OutOfMemory) same quiet front = λ lines before. ([], kept_none a b (quiet (λ is. absurd cc)), subst After (sym (append-nil lines)) (same lines before))
  breaks_known (Err Write) same quiet front = λ lines before. (more, front lines before refl, tells lines before)

-- ---- an error that is passed on

pub passed_on : (P : ReportFault → Type 0) (result : Result (Unit {0}) ReportFault) (passed fault : ReportFault) → result ≡ Err passed → passed ≡ fault → P fault → IfErr result P
passed_on P result passed fault e same holds = let all : result ≡ Err fault = e ∙ ap (λ (x : ReportFault). let r : Result (Unit {0}) ReportFault = Err x in r) same in subst (λ (r : Result (Unit {0}) ReportFault). IfErr r P) (sym all) holds

-- ---- lines of a list, one after another

module _ (list : List (List ℕ)) (i : ℕ) (d line : List ℕ) (a b c : Option (List ℕ)) where
  pub one_more_line : i < length list → line ≡ get_or list i d → AppendsAll a b (take i list) → Appends b c line → AppendsAll a c (take (i + 1) list)
  one_more_line below is before now =
      subst (λ (l : List (List ℕ)). AppendsAll a c l) (ap (λ (x : List ℕ). take i list ++ x ∷ []) is ∙ sym (take_at_read list i d below).1)
      (all_and_all a b c (take i list) (line ∷ []) before (subst (λ (bs : List ℕ). Appends b c bs) (sym (append-nil line)) now))

  pub line_fails : i < length list → line ≡ get_or list i d → AppendsAll a b (take i list) → AppendsPart b c line → AppendsPart a c (concat list)
  line_fails below is before now =
      let first = all_and_part a b c (take i list) (line ∷ []) before (subst (λ (bs : List ℕ). AppendsPart b c bs) (sym (append-nil line)) now) in
      let here : take i list ++ line ∷ [] ≡ take (i + 1) list = ap (λ (x : List ℕ). take i list ++ x ∷ []) is ∙ sym (take_at_read list i d below).1 in
      let whole : concat list ≡ concat (take i list ++ line ∷ []) ++ concat (drop (i + 1) list) =
      ap concat (sym (take-append-drop (i + 1) list)) ∙ concat-append (take (i + 1) list) (drop (i + 1) list) ∙ ap (λ (l : List (List ℕ)). concat l ++ concat (drop (i + 1) list)) (sym here) in
      subst (λ (bs : List ℕ). AppendsPart a c bs) (sym whole) (part_of_more a c (concat (take i list ++ line ∷ [])) (concat (drop (i + 1) list)) first)

pub all_lines : (list : List (List ℕ)) (i : ℕ) (a b : Option (List ℕ)) → length list ≤ i → AppendsAll a b (take i list) → AppendsAll a b list
all_lines list i a b past before = subst (λ (l : List (List ℕ)). AppendsAll a b l) (take_all i list past) before

-- ---- a last call, whose result is returned

module _ (Before Between After : List (List ℕ) → Type 0) (a b c : Option (List ℕ)) where
  pub ok_adds : (result : Result (Unit {0}) ReportFault) → Adds Before Between a b → OnOk result (Adds Between After b c) → OnOk result (Adds Before After a c)
  ok_adds (Ok x) first then = adds_adds Before Between After a b c first then
  ok_adds (Err e) first then = tt

  pub err_breaks : (result : Result (Unit {0}) ReportFault) → Adds Before Between a b → IfErr result (λ fault. BreaksOff fault Between After b c) → IfErr result (λ fault. BreaksOff fault Before After a c)
  err_breaks (Ok x) first then = tt
  err_breaks (Err e) first then = adds_breaks Before Between After a b c e first then

module _ (Before After Later : List (List ℕ) → Type 0) (a b : Option (List ℕ)) where
  pub ok_later : (result : Result (Unit {0}) ReportFault) → ((start lines : List (List ℕ)) → Before start → After lines → Later lines) → OnOk result (Adds Before After a b) → OnOk result (Adds Before Later a b)
  ok_later (Ok x) later all = adds_later Before After Later a b later all
  ok_later (Err e) later all = tt

  pub err_later : (result : Result (Unit {0}) ReportFault) → ((start lines : List (List ℕ)) → Before start → After lines → Later lines)
      → IfErr result (λ fault. BreaksOff fault Before After a b) → IfErr result (λ fault. BreaksOff fault Before Later a b)
  err_later (Ok x) later all = tt
  err_later (Err e) later all = breaks_later Before After Later a b e later all

module _ (Before Earlier After : List (List ℕ) → Type 0) (a b : Option (List ℕ)) (first : (lines : List (List ℕ)) → Before lines → Earlier lines) where
  pub adds_before : Adds Earlier After a b → Adds Before After a b
  adds_before all = λ lines before. all lines (first lines before)

  pub breaks_before : (fault : ReportFault) → BreaksOff fault Earlier After a b → BreaksOff fault Before After a b
  breaks_before (TooLarge need limit) all = tt
  breaks_before OutOfMemory all = adds_before all
  breaks_before Write all = λ lines before. all lines (first lines before)

  pub ok_before : (result : Result (Unit {0}) ReportFault) → OnOk result (Adds Earlier After a b) → OnOk result (Adds Before After a b)
  ok_before (Ok x) all = adds_before all
  ok_before (Err e) all = tt

  pub err_before : (result : Result (Unit {0}) ReportFault) → IfErr result (λ fault. BreaksOff fault Earlier After a b) → IfErr result (λ fault. BreaksOff fault Before After a b)
  err_before (Ok x) all = tt
  err_before (Err e) all = breaks_before e all
