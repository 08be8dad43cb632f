-- How a call is put together from its steps, as rules for `search`: a step that reads or writes alone serves beside every
-- board.
use Rattle.std.proofs.Common.{◌≡◌, ℕ, Bool, true, false, List, Option, None, Some, Result, Ok, Err, sym, subst}
use Rattle.command_plan.specs.declared.fault.Fault.{Fault}
use Rattle.command_plan.specs.declared.fault.Fault.TheVariants as faults
use Rattle.command_plan.specs.Meaning.{CommandMeaning, nothing, command, spelled, named_so, Does, MayFetchFor}
use Rattle.command_plan.specs.Plan.{Plan, says, MayFetch, ◌>>=◌}
use Rattle.command_plan.specs.Follows as f
use Rattle.command_plan.proofs.Beside.{reads_beside, writes_beside}
use Rattle.command_plan.proofs.Stages.{idle_refl, rests_refl}
use Rattle.command_plan.specs.Follows.{Stage, Shelving, Sinking, Follows, Reads, Writes, Thinks, stage, stage_beside}
use Rattle.command_plan.proofs.Following.{then_on, then_as, then_pick, picked, fails, lacks, lacks_by, err_is, done, refused}
use Rattle.command_plan.proofs.Fetching.{may_ask, behind_read, behind_write, behind_think}

module _ {A B : Type 0} where
  pub read_then : (p : Plan A) (next : A → Plan B) (x : A) (a c : Shelving) (out : Sinking) (board : ℕ) (b : Stage) (r : Result B Fault) → Reads p a c (Ok x)
      → Follows (next x) (stage_beside c out board) b r → Follows (p >>= next) (stage_beside a out board) b r
  read_then p next x a c out board b r first more =
      then_on p next x (stage_beside a out board) (stage_beside c out board) b r (reads_beside p a c out board (Ok x) first) more

  pub read_fails : (p : Plan A) (next : A → Plan B) (fault : Fault) (a b : Shelving) (out : Sinking) (board : ℕ) (r : Result B Fault) → Reads p a b (Err fault) → r ≡ Err fault
      → Follows (p >>= next) (stage_beside a out board) (stage_beside b out board) r
  read_fails p next fault a b out board r first is =
      fails p next fault (stage_beside a out board) (stage_beside b out board) r is (reads_beside p a b out board (Err fault) first)

  -- the answer is known to be this
  pub read_as : (p : Plan A) (next : A → Plan B) (o x : A) (a c : Shelving) (out : Sinking) (board : ℕ) (b : Stage) (r : Result B Fault) → Reads p a c (Ok o) → o ≡ x
      → Follows (next x) (stage_beside c out board) b r → Follows (p >>= next) (stage_beside a out board) b r
  read_as p next o x a c out board b r first is more =
      then_as p next o x (stage_beside a out board) (stage_beside c out board) b r is (reads_beside p a c out board (Ok o) first) more

  pub think_as : (p : Plan A) (next : A → Plan B) (o x : A) (a b : Stage) (r : Result B Fault) → Thinks p (Ok o) → o ≡ x → Follows (next x) a b r → Follows (p >>= next) a b r
  think_as p next o x a b r first is more = then_as p next o x a a b r is (first.at a) more

  pub write_then : (p : Plan A) (next : A → Plan B) (x : A) (a c : Sinking) (shelf : Shelving) (board : ℕ) (b : Stage) (r : Result B Fault) → Writes p a c (Ok x)
      → Follows (next x) (stage_beside shelf c board) b r → Follows (p >>= next) (stage_beside shelf a board) b r
  write_then p next x a c shelf board b r first more =
      then_on p next x (stage_beside shelf a board) (stage_beside shelf c board) b r (writes_beside p a c shelf board (Ok x) first) more

  pub write_fails : (p : Plan A) (next : A → Plan B) (fault : Fault) (a b : Sinking) (shelf : Shelving) (board : ℕ) (r : Result B Fault) → Writes p a b (Err fault) → r ≡ Err fault
      → Follows (p >>= next) (stage_beside shelf a board) (stage_beside shelf b board) r
  write_fails p next fault a b shelf board r first is =
      fails p next fault (stage_beside shelf a board) (stage_beside shelf b board) r is (writes_beside p a b shelf board (Err fault) first)

  pub think_then : (p : Plan A) (next : A → Plan B) (x : A) (a b : Stage) (r : Result B Fault) → Thinks p (Ok x) → Follows (next x) a b r → Follows (p >>= next) a b r
  think_then p next x a b r first more = then_on p next x a a b r (first.at a) more

  pub think_fails : (p : Plan A) (next : A → Plan B) (fault : Fault) (a : Stage) (r : Result B Fault) → Thinks p (Err fault) → r ≡ Err fault → Follows (p >>= next) a a r
  think_fails p next fault a r first is = fails p next fault a a r is (first.at a)

module _ {B : Type 0} where
  -- the lines that were written are the ones that were to be
  pub say_then : (lines due : List (List ℕ)) (next : Unit {0} → Plan B) (a c : Sinking) (shelf : Shelving) (board : ℕ) (b : Stage) (r : Result B Fault) → Writes (says lines) a c (Ok tt) → lines ≡ due
      → Follows (next tt) (stage_beside shelf c board) b r → Follows (says due >>= next) (stage_beside shelf a board) b r
  say_then lines due next a c shelf board b r first is more =
      write_then (says due) next tt a c shelf board b r (subst (λ (l : List (List ℕ)). Writes (says l) a c (Ok tt)) is first) more

  pub say_fails : (lines due : List (List ℕ)) (next : Unit {0} → Plan B) (fault : Fault) (a b : Sinking) (shelf : Shelving) (board : ℕ) (r : Result B Fault) → Writes (says lines) a b (Err fault)
      → lines ≡ due → r ≡ Err fault → Follows (says due >>= next) (stage_beside shelf a board) (stage_beside shelf b board) r
  say_fails lines due next fault a b shelf board r first is e =
      write_fails (says due) next fault a b shelf board r (subst (λ (l : List (List ℕ)). Writes (says l) a b (Err fault)) is first) e

module _ {A : Type 0} where
  pub reads_at : (p : Plan A) (a b : Shelving) (out : Sinking) (board : ℕ) (r : Result A Fault) → Reads p a b r → Follows p (stage_beside a out board) (stage_beside b out board) r
  reads_at p a b out board r h = reads_beside p a b out board r h

  pub writes_at : (p : Plan A) (a b : Sinking) (shelf : Shelving) (board : ℕ) (r : Result A Fault) → Writes p a b r → Follows p (stage_beside shelf a board) (stage_beside shelf b board) r
  writes_at p a b shelf board r h = writes_beside p a b shelf board r h

  pub reads_by : (p : Plan A) (a b : Shelving) (r : Result A Fault) → ((out : Sinking) → Follows p (stage a out) (stage b out) r) → Reads p a b r
  reads_by p a b r h = record { at = h }

  pub writes_by : (p : Plan A) (a b : Sinking) (r : Result A Fault) → ((shelf : Shelving) → Follows p (stage shelf a) (stage shelf b) r) → Writes p a b r
  writes_by p a b r h = record { at = h }

  pub thinks_by : (p : Plan A) (r : Result A Fault) → ((s : Stage) → Follows p s s r) → Thinks p r
  thinks_by p r h = record { at = h }

pub written : (lines due : List (List ℕ)) (a b : Sinking) (shelf : Shelving) (board : ℕ) (r : Result (Unit {0}) Fault) → Writes (says lines) a b r → lines ≡ due
    → Follows (says due) (stage_beside shelf a board) (stage_beside shelf b board) r
written lines due a b shelf board r first is =
    subst (λ (l : List (List ℕ)). Follows (says l) (stage_beside shelf a board) (stage_beside shelf b board) r) is (writes_beside (says lines) a b shelf board r first)

pub ruleset following = (read_then, read_as, read_fails, say_then, say_fails, think_as, write_then, write_fails, think_then, think_fails, reads_at, writes_at, written, lacks_by, err_is, then_pick, picked, refused, done, then_on, fails, reads_by, writes_by, thinks_by)

-- ---- words

module _ (a b : Stage) (r : Result (Unit {0}) Fault) where
  pub does_some : {X : Type 0} (o : Option X) (next : X → CommandMeaning) (x : X) → o ≡ Some x → Does (next x) a b r → Does (spelled o next) a b r
  does_some {X = X} o next x is h = subst (λ (p : Option X). Does (spelled p next) a b r) (sym is) h

  pub does_this : (t : Bool) (this other : CommandMeaning) → t ≡ true → Does this a b r → Does (named_so t this other) a b r
  does_this t this other is h = subst (λ (u : Bool). Does (named_so u this other) a b r) (sym is) h

  pub does_other : (t : Bool) (this other : CommandMeaning) → t ≡ false → Does other a b r → Does (named_so t this other) a b r
  does_other t this other is h = subst (λ (u : Bool). Does (named_so u this other) a b r) (sym is) h

  pub does_command : (plan : Plan (Unit {0})) → Follows plan a b r → Does (command plan) a b r
  does_command plan h = h

pub does_nothing : (a : Stage) (r : Result (Unit {0}) Fault) → r ≡ Err faults.Usage → Does nothing a a r
does_nothing a r is = f.Ends.ended is (rests_refl a)

pub does_none : {X : Type 0} (o : Option X) (next : X → CommandMeaning) (a : Stage) (r : Result (Unit {0}) Fault) → o ≡ None → r ≡ Err faults.Usage → Does (spelled o next) a a r
does_none {X = X} o next a r none is = subst (λ (p : Option X). Does (spelled p next) a a r) (sym none) (does_nothing a r is)

-- words for which there was no memory
pub does_lack : (m : CommandMeaning) (a : Stage) (r : Result (Unit {0}) Fault) → r ≡ Err faults.OutOfMemory → Does m a a r
does_lack nothing a r is = f.Ends.no_memory (record { is = is; idle = idle_refl a })
does_lack (command plan) a r is = lacks plan a a r is (idle_refl a)

module _ (may : List ℕ → Type 0) where
  pub may_some : {X : Type 0} (o : Option X) (next : X → CommandMeaning) (x : X) → o ≡ Some x → MayFetchFor may (spelled o next) → MayFetchFor may (next x)
  may_some {X = X} o next x is h = subst (λ (p : Option X). MayFetchFor may (spelled p next)) is h

  pub may_this : (t : Bool) (this other : CommandMeaning) → t ≡ true → MayFetchFor may (named_so t this other) → MayFetchFor may this
  may_this t this other is h = subst (λ (u : Bool). MayFetchFor may (named_so u this other)) is h

  pub may_other : (t : Bool) (this other : CommandMeaning) → t ≡ false → MayFetchFor may (named_so t this other) → MayFetchFor may other
  may_other t this other is h = subst (λ (u : Bool). MayFetchFor may (named_so u this other)) is h

  pub may_command : (plan : Plan (Unit {0})) → MayFetchFor may (command plan) → MayFetch may plan
  may_command plan h = h

pub ruleset meaning = (does_some, does_none, does_this, does_other, does_command, does_nothing, does_lack)

pub ruleset fetching = (may_ask, behind_read, behind_write, behind_think, may_this, may_other, may_some, may_command)
