-- How lines are written one after another.
use Rattle.std.proofs.Common.{◌≡◌, ◌<◌, ◌≤◌, ◌+◌, ℕ, List, [], ◌∷◌, ◌++◌, length, map, drop, get_or, Option, Result, Ok, Err, refl, sym, ap, subst, ◌∙◌, append_assoc, length-append, arith, add-one, drop-cons}
use Rattle.std.proofs.lemmas.List.{drop_all}
use Rattle.std.specs.List.{concat}
use Rattle.std.specs.Io.KnownBytes.{Appends, Keeps}
use Rattle.std.proofs.KnownBytes.{Appends-kept, Appends-nil, Appends-trans}
use Rattle.std.proofs.lemmas.List.Folds.{concat-append}
use Rattle.std.specs.Result.{IsErrAnd}
use Rattle.apf_base.specs.Streams.{AppendsFront, AppendsPart, AppendsAll}
use Rattle.command_plan.specs.declared.fault.Fault.{Fault}
use Rattle.command_plan.specs.declared.fault.Fault.TheVariants as faults
use Rattle.command_plan.specs.Lines.{AppendsFirst}
use Rattle.command_plan.specs.Plan.{says}
use Rattle.command_plan.specs.Follows.{Stage, Later, Follows, Sinking, Writes, stage}
use Rattle.command_plan.specs.Follows as f
use Rattle.command_plan.proofs.Following.{lacks_by}
use Rattle.command_plan.proofs.Stages.{later_refl, later_trans, rose_before, rests_refl}

-- ---- lines behind lines

pub all_and_all : (a b c : Option (List ℕ)) (xs ys : List (List ℕ)) → AppendsAll a b xs → AppendsAll b c ys → AppendsAll a c (xs ++ ys)
all_and_all a b c xs ys before now = subst (λ (bs : List ℕ). Appends a c bs) (sym (concat-append xs ys)) (Appends-trans a b c (concat xs) (concat ys) before now)

pub all_and_first : (a b c : Option (List ℕ)) (xs ys : List (List ℕ)) → AppendsAll a b xs → AppendsFirst b c ys → AppendsFirst a c (xs ++ ys)
all_and_first a b c xs ys before now = (xs ++ now.0, now.1, ap (λ l. xs ++ l) now.2 ∙ sym (append_assoc xs now.0 now.1), all_and_all a b c xs now.0 before now.3)

pub all_and_front : (a b c : Option (List ℕ)) (xs ys : List (List ℕ)) → AppendsAll a b xs → AppendsFront b c (concat ys) → AppendsFront a c (concat (xs ++ ys))
all_and_front a b c xs ys before now = (
  concat xs ++ now.0,
  now.1,
  concat-append xs ys ∙ ap (λ l. concat xs ++ l) now.2 ∙ sym (append_assoc (concat xs) now.0 now.1),
  Appends-trans a b c (concat xs) now.0 before now.3,
)

pub all_and_part : (a b c : Option (List ℕ)) (xs ys : List (List ℕ)) → AppendsAll a b xs → AppendsPart b c (concat ys) → AppendsPart a c (concat (xs ++ ys))
all_and_part a b c xs ys before now = (
  concat xs ++ now.0,
  now.1,
  concat-append xs ys ∙ ap (λ l. concat xs ++ l) now.2 ∙ sym (append_assoc (concat xs) now.0 now.1),
  now.3,
  Appends-trans a b c (concat xs) now.0 before now.4,
)

pub part_of_more : (a b : Option (List ℕ)) (xs ys : List (List ℕ)) → AppendsPart a b (concat xs) → AppendsPart a b (concat (xs ++ ys))
part_of_more a b xs ys now = (
  now.0,
  now.1 ++ concat ys,
  concat-append xs ys ∙ ap (λ l. l ++ concat ys) now.2 ∙ append_assoc now.0 now.1 (concat ys),
  omega (arith, length-append now.1 (concat ys), now.3),
  now.4,
)

pub first_of_more : (a b : Option (List ℕ)) (xs ys : List (List ℕ)) → AppendsFirst a b xs → AppendsFirst a b (xs ++ ys)
first_of_more a b xs ys now = (now.0, now.1 ++ ys, ap (λ l. l ++ ys) now.2 ∙ append_assoc now.0 now.1 ys, now.3)

-- ---- as plans

-- all of these lines were written
pub all_said : (lines : List (List ℕ)) (a b : Stage) → Later a b → b.shelf.left ≡ a.shelf.left → AppendsAll a.out.held b.out.held lines → Follows (says lines) a b (Ok tt)
unfolding Follows
all_said lines a b later left all = f.Says.said b later left all (f.Ends.ended refl (rests_refl b))

-- some lines were written, and then others
pub says_on : (xs ys : List (List ℕ)) (a c b : Stage) (r : Result (Unit {0}) Fault) → Follows (says xs) a c (Ok tt) → Follows (says ys) c b r → Follows (says (xs ++ ys)) a b r
unfolding Follows
says_on xs ys a c b r (f.Says.no_memory is later first) more = absurd (cc)
says_on xs ys a c b r (f.Says.unwritten is later left rose part) more = absurd (cc)
says_on xs ys a c b r (f.Says.said d later left all (f.Ends.no_memory h)) more = let e : ◌≡◌ {A = Result (Unit {0}) Fault} (Ok tt) (Err faults.OutOfMemory) = h.is in absurd (cc)
says_on xs ys a c b r (f.Says.said d later left all (f.Ends.ended is s)) more =
    let l : Later a c = later_trans a d c later s.idle.later in
    by_more r more l (s.left ∙ left) (kept a.out.held d.out.held c.out.held (concat xs) all s.idle.held)
  where
    kept : (x y z : Option (List ℕ)) (bs : List ℕ) → Appends x y bs → Keeps y z → Appends x z bs
    kept x y z bs p k = Appends-kept x y z bs p k

    by_more : (r : Result (Unit {0}) Fault) → Follows (says ys) c b r → Later a c → c.shelf.left ≡ a.shelf.left → AppendsAll a.out.held c.out.held xs → Follows (says (xs ++ ys)) a b r
    by_more r (f.Says.no_memory e m first) l same now = f.Says.no_memory e (later_trans a c b l m) (all_and_first a.out.held c.out.held b.out.held xs ys now first)
    by_more r (f.Says.unwritten e m left rose part) l same now =
        f.Says.unwritten e (later_trans a c b l m) (left ∙ same) (rose_before a.out.faults c.out.faults b.out.faults l.out_faults rose) (all_and_part a.out.held c.out.held b.out.held xs ys now part)
    by_more r (f.Says.said d m same' more' rest) l same now =
        f.Says.said d (later_trans a c d l m) (same' ∙ same) (all_and_all a.out.held c.out.held d.out.held xs ys now more') rest

-- some lines were not written, and so neither are others behind them
pub says_fail : (xs ys : List (List ℕ)) (a b : Stage) (r : Result (Unit {0}) Fault) (fault : Fault) → Follows (says xs) a b (Err fault) → r ≡ Err fault → Follows (says (xs ++ ys)) a b r
unfolding Follows
says_fail xs ys a b r fault (f.Says.no_memory is later first) e = f.Says.no_memory (e ∙ is) later (first_of_more a.out.held b.out.held xs ys first)
says_fail xs ys a b r fault (f.Says.unwritten is later left rose part) e = f.Says.unwritten (e ∙ is) later left rose (part_of_more a.out.held b.out.held xs ys part)
says_fail xs ys a b r fault (f.Says.said d later left all (f.Ends.no_memory h)) e =
    f.Says.no_memory (e ∙ h.is) (later_trans a d b later h.idle.later) (xs, ys, refl, Appends-kept a.out.held d.out.held b.out.held (concat xs) all h.idle.held)
says_fail xs ys a b r fault (f.Says.said d later left all (f.Ends.ended is s)) e = absurd (cc)

-- ---- as steps

module _ (a b : Sinking) where
  pub says_more : (xs ys : List (List ℕ)) (c : Sinking) (r : Result (Unit {0}) Fault) → Writes (says xs) a c (Ok tt) → Writes (says ys) c b r → Writes (says (xs ++ ys)) a b r
  says_more xs ys c r first more = record { at = λ shelf. says_on xs ys (stage shelf a) (stage shelf c) (stage shelf b) r (first.at shelf) (more.at shelf) }

  pub says_broken : (xs ys : List (List ℕ)) (r : Result (Unit {0}) Fault) (fault : Fault) → Writes (says xs) a b (Err fault) → r ≡ Err fault → Writes (says (xs ++ ys)) a b r
  says_broken xs ys r fault first is = record { at = λ shelf. says_fail xs ys (stage shelf a) (stage shelf b) r fault (first.at shelf) is }

pub says_lack : (lines : List (List ℕ)) (a : Sinking) (r : Result (Unit {0}) Fault) → IsErrAnd r (λ e. e ≡ faults.OutOfMemory) → Writes (says lines) a a r
says_lack lines a r is = record { at = λ shelf. lacks_by (says lines) (stage shelf a) r is }

pub says_none : (lines : List (List ℕ)) (a : Sinking) → lines ≡ [] → Writes (says lines) a a (Ok tt)
says_none lines a none = record {
  at = λ shelf.
      subst (λ (l : List (List ℕ)). Follows (says l) (stage shelf a) (stage shelf a) (Ok tt)) (sym none)
      (all_said [] (stage shelf a) (stage shelf a) (later_refl (stage shelf a)) refl (Appends-nil a.held));
}

-- ---- lines of a list, one for each item

module _ {P : Type 0} (f : P → List ℕ) (list : List P) (i : ℕ) (d : P) (line : List ℕ) (a b : Sinking) (r : Result (Unit {0}) Fault) where
  item_and_rest : i < length list → line ≡ f (get_or list i d) → line ∷ map f (drop (i + 1) list) ≡ map f (drop i list)
  item_and_rest below is =
      let split : drop i list ≡ get_or list i d ∷ drop (i + 1) list = rw (add-one, drop-cons list i d) refl in
      ap (λ x. x ∷ map f (drop (i + 1) list)) is ∙ sym (ap (map f) split)

  -- the line of an item was written, and then those behind it
  pub item_said : (c : Sinking) → i < length list → line ≡ f (get_or list i d) → Writes (says (line ∷ [])) a c (Ok tt) → Writes (says (map f (drop (i + 1) list))) c b r
      → Writes (says (map f (drop i list))) a b r
  item_said c below is first more =
      subst (λ (l : List (List ℕ)). Writes (says l) a b r) (item_and_rest below is) (says_more a b (line ∷ []) (map f (drop (i + 1) list)) c r first more)

  pub item_unsaid : (fault : Fault) → i < length list → line ≡ f (get_or list i d) → Writes (says (line ∷ [])) a b (Err fault) → r ≡ Err fault → Writes (says (map f (drop i list))) a b r
  item_unsaid fault below is first e =
      subst (λ (l : List (List ℕ)). Writes (says l) a b r) (item_and_rest below is) (says_broken a b (line ∷ []) (map f (drop (i + 1) list)) r fault first e)

pub no_items : {P : Type 0} (f : P → List ℕ) (list : List P) (i : ℕ) (a : Sinking) → length list ≤ i → Writes (says (map f (drop i list))) a a (Ok tt)
no_items f list i a past = says_none (map f (drop i list)) a (ap (map f) (drop_all i list past))
