-- How stages follow one another.
use Rattle.std.proofs.Common.{◌≡◌, ◌≤◌, ℕ, List, [], ◌++◌, Option, None, Some, IfSome, Result, Ok, Err, refl, ap, subst, ◌∙◌, arith}
use Rattle.std.specs.Io.KnownBytes.{Appends, Keeps}
use Rattle.std.proofs.KnownBytes.{Appends-kept, Appends-nil, Keeps-refl, Keeps-trans}
use Rattle.apf_base.specs.Causes.{Rose}
use Rattle.std.specs.List.{concat}
use Rattle.apf_base.specs.Streams.{AppendsFront, AppendsPart}
use Rattle.command_plan.specs.Lines.{AppendsFirst}
use Rattle.command_plan.specs.declared.fault.Fault.{Fault}
use Rattle.command_plan.specs.Follows.{Stage, Later, Idle, Rests, EndsHere}

pub later_refl : (a : Stage) → Later a a
later_refl a = record { files = refl; faults = omega arith; misses = omega arith; out_faults = omega arith; board = omega arith }

pub later_trans : (a b c : Stage) → Later a b → Later b c → Later a c
later_trans a b c p q = record { files = q.files ∙ p.files; faults = omega arith; misses = omega arith; out_faults = omega arith; board = omega arith }

pub idle_refl : (a : Stage) → Idle a a
idle_refl a = record { later = later_refl a; held = Keeps-refl a.out.held }

pub idle_trans : (a b c : Stage) → Idle a b → Idle b c → Idle a c
idle_trans a b c p q = record { later = later_trans a b c p.later q.later; held = Keeps-trans a.out.held b.out.held c.out.held p.held q.held }

pub rests_refl : (a : Stage) → Rests a a
rests_refl a = record { idle = idle_refl a; left = refl }

pub rests_trans : (a b c : Stage) → Rests a b → Rests b c → Rests a c
rests_trans a b c p q = record { idle = idle_trans a b c p.idle q.idle; left = q.left ∙ p.left }

-- a count that rose later has risen since
pub rose_before : (x y z : ℕ) → x ≤ y → Rose y z → Rose x z
rose_before x y z le rose = omega arith

pub rose_behind : (x y z : ℕ) → Rose x y → y ≤ z → Rose x z
rose_behind x y z rose le = omega arith

pub told_before : (a c : Stage) → Later a c → (path : List ℕ) (P : List ℕ → Type 0) → IfSome (c.shelf.file path) P → IfSome (a.shelf.file path) P
told_before a c later path P h = subst (λ (f : List ℕ → Option (List ℕ)). IfSome (f path) P) later.files h

pub Appends-before : (a b c : Option (List ℕ)) (bs : List ℕ) → Keeps a b → Appends b c bs → Appends a c bs
Appends-before None b c bs p q = tt
Appends-before (Some x) None c bs p q = absurd p
Appends-before (Some x) (Some y) None bs p q = absurd q
Appends-before (Some x) (Some y) (Some z) bs p q = q ∙ ap (λ l. l ++ bs) p

pub front_before : (a b c : Option (List ℕ)) (bs : List ℕ) → Keeps a b → AppendsFront b c bs → AppendsFront a c bs
front_before a b c bs p q = (q.0, q.1, q.2, Appends-before a b c q.0 p q.3)

pub part_before : (a b c : Option (List ℕ)) (bs : List ℕ) → Keeps a b → AppendsPart b c bs → AppendsPart a c bs
part_before a b c bs p q = (q.0, q.1, q.2, q.3, Appends-before a b c q.0 p q.4)

-- a part is a front
pub part_front : (a b : Option (List ℕ)) (bs : List ℕ) → AppendsPart a b bs → AppendsFront a b bs
part_front a b bs p = (p.0, p.1, p.2, p.4)

pub first_before : (a b c : Option (List ℕ)) (lines : List (List ℕ)) → Keeps a b → AppendsFirst b c lines → AppendsFirst a c lines
first_before a b c lines p q = (q.0, q.1, q.2, Appends-before a b c (concat q.0) p q.3)

-- nothing was written
pub keeps_nil : (old new : Option (List ℕ)) → Keeps old new → Appends old new []
keeps_nil old new h = Appends-kept old old new [] (Appends-nil old) h

pub none_first : (a b : Option (List ℕ)) (lines : List (List ℕ)) → Keeps a b → AppendsFirst a b lines
none_first a b lines k = ([], lines, refl, keeps_nil a b k)

module _ {A : Type 0} where
  pub ends_before : (end : Result A Fault) (a c b : Stage) (r : Result A Fault) → Idle a c → EndsHere end c b r → EndsHere end a b r
  ends_before end a c b r p h = record { is = h.is; idle = idle_trans a c b p h.idle }

  -- an answer is no fault
  pub no_fault : {X : Type 0} (end : Fault) (a b : Stage) (x : A) → EndsHere {A = A} (Err end) a b (Ok x) → X
  no_fault end a b x h = let e : ◌≡◌ {A = Result A Fault} (Ok x) (Err end) = h.is in absurd (cc)

module _ {A B : Type 0} where
  pub same_fault : (end fault : Fault) (r : Result B Fault) → r ≡ Err fault → ◌≡◌ {A = Result A Fault} (Err fault) (Err end) → r ≡ Err end
  same_fault end fault r is h = let e : fault ≡ end = cc in is ∙ ap (λ (f : Fault). Err f) e

  -- a fault that a step had, another step with another answer has too
  pub ends_as : (end fault : Fault) (a b : Stage) (r : Result B Fault) → r ≡ Err fault → EndsHere {A = A} (Err end) a b (Err fault) → EndsHere {A = B} (Err end) a b r
  ends_as end fault a b r is h = record { is = same_fault end fault r is h.is; idle = h.idle }
