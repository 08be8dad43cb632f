-- Each program has one answer.
use Rattle.std.proofs.Common.{◌≡◌, ℕ, zero, suc, ◌-◌, ◌<◌, ◌≤◌, List, [], ◌∷◌, length, Option, Some, None, refl, sym, ap, subst, ◌∙◌, arith, inl, inr}
use Rattle.std.specs.Prelude.{Result, Ok, Err}
use Rattle.std.proofs.lemmas.Bool.{cases_lt}
use Rattle.std.proofs.lemmas.Option.{some_pair_parts}
use Rattle.apf_coding.specs.Instruction.{Instruction}
use Rattle.apf_coding.specs.Spelling.{Begins}
use Rattle.apf_coding.specs.Reading.{instruction_at, cause_at}
use Rattle.apf_coding.specs.Words.{AreBytes}
use Rattle.apf_coding.proofs.Spelling.{instruction_at-begins, begins-instruction_at}
use Rattle.apf_check.specs.declared.flaw.Flaw.{Flaw}
use Rattle.apf_check.specs.Orderly.{Part, Stand, is_place, first_flaw, broken, IsOrderly, IsFirstFlaw, IsAnswer}

-- ---- one list of instructions

pub past_end : (program : List ℕ) (at : ℕ) (i : Instruction) (end : ℕ) → at ≡ length program → Begins program at i end → ⊥
past_end program at i end e b = let order = b.order in let within = b.within in omega arith

part : ℕ → Instruction → ℕ → Part
part at i end = record { place = at; instruction = i; end = end }

same_part : (p q : Part) → p.place ≡ q.place → p.instruction ≡ q.instruction → p.end ≡ q.end → p ≡ q
unfolding part
same_part p q e f g = ap (λ (k : ℕ). part k p.instruction p.end) e ∙ ap (λ (k : Instruction). part q.place k p.end) f ∙ ap (λ (k : ℕ). part q.place q.instruction k) g

pub same_first : (program : List ℕ) (at : ℕ) (p q : Part) → p.place ≡ at → q.place ≡ at → Begins program at p.instruction p.end → Begins program at q.instruction q.end → p ≡ q
same_first program at p q e f b d =
    let same = some_pair_parts p.instruction q.instruction p.end q.end (sym (begins-instruction_at program at p.instruction p.end b) ∙ begins-instruction_at program at q.instruction q.end d) in
    same_part p q (e ∙ sym f) same.0 same.1

pub none_begins : (program : List ℕ) (at : ℕ) → instruction_at program at ≡ None → (i : Instruction) (end : ℕ) → Begins program at i end → ⊥
none_begins program at e i end b = let begins = begins-instruction_at program at i end b in absurd cc

-- where nothing begins at either end, they are the same
same_parts : (program : List ℕ) (at : ℕ) (a b : List Part) (to end : ℕ) → ((i : Instruction) (e : ℕ) → Begins program to i e → ⊥) → ((i : Instruction) (e : ℕ) → Begins program end i e → ⊥)
    → Stand program at a to → Stand program at b end → (a ≡ b) × (to ≡ end)
same_parts program at [] [] to end x y s t = (refl, sym s ∙ t)
same_parts program at [] (q ∷ b) to end x y s t = absurd (x q.instruction q.end (subst (λ (k : ℕ). Begins program k q.instruction q.end) s t.1))
same_parts program at (p ∷ a) [] to end x y s t = absurd (y p.instruction p.end (subst (λ (k : ℕ). Begins program k p.instruction p.end) t s.1))
same_parts program at (p ∷ a) (q ∷ b) to end x y s t =
    let same : p ≡ q = same_first program at p q s.0 t.0 s.1 t.1 in
    let more = same_parts program q.end a b to end x y (subst (λ (k : Part). Stand program k.end a to) same s.2) t.2 in
    (both p q a b same more.0, more.1)
  where
    both : (p q : Part) (a b : List Part) → p ≡ q → a ≡ b → p ∷ a ≡ q ∷ b
    both p q a b e f = cc

at_end : (program : List ℕ) (i : Instruction) (end : ℕ) → Begins program (length program) i end → ⊥
at_end program i end b = past_end program (length program) i end refl b

same_fill : (program : List ℕ) (a b : List Part) → Stand program 0 a (length program) → Stand program 0 b (length program) → a ≡ b
same_fill program a b s t = (same_parts program 0 a b (length program) (length program) (at_end program) (at_end program) s t).0

no_fill : (program : List ℕ) (a b : List Part) (at : ℕ) → at < length program → ((i : Instruction) (end : ℕ) → Begins program at i end → ⊥) → Stand program 0 a (length program) → Stand program 0 b at → ⊥
no_fill program a b at inside nothing s t = let same = (same_parts program 0 a b (length program) at (at_end program) nothing s t).1 in omega arith

-- ---- one answer

one_count : (program : List ℕ) (first second : ℕ) → IsOrderly program first → IsOrderly program second → first ≡ second
one_count program first second o p = sym o.many ∙ ap length (same_fill program o.parts p.parts o.fill p.fill) ∙ p.many

some_flaw : (f g : Flaw) (x y : Option Flaw) → x ≡ y → x ≡ Some f → y ≡ Some g → f ≡ g
some_flaw f g x y e p q = cc

no_some : (f : Flaw) (x y : Option Flaw) → x ≡ y → x ≡ None → y ≡ Some f → ⊥
no_some f x y e p q = absurd cc

one_flaw : (program : List ℕ) (first second : Flaw) → IsFirstFlaw program first → IsFirstFlaw program second → first ≡ second
one_flaw program first second (inl a) (inl b) =
    let same = (same_parts program 0 a.parts b.parts a.at b.at a.nothing b.nothing a.stand b.stand).1 in
    a.says ∙ ap (λ (k : ℕ). broken (cause_at program k) k) same ∙ sym b.says
one_flaw program first second (inl a) (inr b) = absurd (no_fill program b.parts a.parts a.at a.inside a.nothing b.fill a.stand)
one_flaw program first second (inr a) (inl b) = absurd (no_fill program a.parts b.parts b.at b.inside b.nothing a.fill b.stand)
one_flaw program first second (inr a) (inr b) =
    some_flaw first second _ _ (ap (λ (l : List Part). first_flaw (length program) (is_place l) l) (same_fill program a.parts b.parts a.fill b.fill)) a.wrong b.wrong

no_both : (program : List ℕ) (count : ℕ) (flaw : Flaw) → IsOrderly program count → IsFirstFlaw program flaw → ⊥
no_both program count flaw o (inl b) = no_fill program o.parts b.parts b.at b.inside b.nothing o.fill b.stand
no_both program count flaw o (inr w) = no_some flaw _ _ (ap (λ (l : List Part). first_flaw (length program) (is_place l) l) (same_fill program o.parts w.parts o.fill w.fill)) o.right w.wrong

pub one_answer : (program : List ℕ) (first second : Result ℕ Flaw) → IsAnswer program first → IsAnswer program second → first ≡ second
one_answer program (Ok a) (Ok b) p q = ap (λ (n : ℕ). Ok n) (one_count program a b p q)
one_answer program (Ok a) (Err g) p q = absurd (no_both program a g p q)
one_answer program (Err f) (Ok b) p q = absurd (no_both program b f q p)
one_answer program (Err f) (Err g) p q = ap (λ (x : Flaw). Err x) (one_flaw program f g p q)

-- ---- some answer

-- they stand to the program's end, or to a place inside it at which nothing begins
record Stops (program : List ℕ) (at : ℕ) : Type 0 where
  pub parts : List Part
  pub to : ℕ
  pub stand : Stand program at parts to
  pub within : to ≤ length program
  pub nothing : (i : Instruction) (end : ℕ) → Begins program to i end → ⊥

more_stands : (program : List ℕ) (at : ℕ) (o : Option (Instruction × ℕ)) → AreBytes program → at ≤ length program → instruction_at program at ≡ o → ((next : ℕ) → at < next → next ≤ length program → Stops program next) → Stops program at
more_stands program at (Some x) fits within e more =
    let b = instruction_at-begins program at x fits e in
    let later = more x.1 b.order b.within in
    let p : Part = record { place = at; instruction = x.0; end = x.1 } in
    record { parts = p ∷ later.parts; to = later.to; stand = (refl, b, later.stand); within = later.within; nothing = later.nothing }
more_stands program at None fits within e more = record { parts = []; to = at; stand = refl; within = within; nothing = none_begins program at e }

stops_from : (fuel : ℕ) (program : List ℕ) (at : ℕ) → AreBytes program → at ≤ length program → length program - at ≤ fuel → Stops program at
stops_from zero program at fits within left = record { parts = []; to = at; stand = refl; within = within; nothing = λ i end b. past_end program at i end (omega arith) b }
stops_from (suc fuel) program at fits within left = more_stands program at (instruction_at program at) fits within refl (λ next later inside. stops_from fuel program next fits inside (omega arith))

judged : (program : List ℕ) (parts : List Part) (o : Option Flaw) → Stand program 0 parts (length program) → first_flaw (length program) (is_place parts) parts ≡ o → (answer : Result ℕ Flaw) × IsAnswer program answer
judged program parts None s e = (Ok (length parts), record { parts = parts; fill = s; many = refl; right = e })
judged program parts (Some flaw) s e = (Err flaw, inr (record { parts = parts; fill = s; wrong = e }))

pub some_answer : (program : List ℕ) → AreBytes program → (answer : Result ℕ Flaw) × IsAnswer program answer
some_answer program fits =
    let s = stops_from (length program) program 0 fits (omega arith) (omega arith) in
    let within = s.within in
    elim (cases_lt s.to (length program)) [
      | inl inside ↦ (Err (broken (cause_at program s.to) s.to), inl (record { at = s.to; parts = s.parts; stand = s.stand; inside = inside; nothing = s.nothing; says = refl }))
      | inr end ↦ judged program s.parts (first_flaw (length program) (is_place s.parts) s.parts) (subst (λ (k : ℕ). Stand program 0 s.parts k) (omega arith) s.stand) refl
    ]
