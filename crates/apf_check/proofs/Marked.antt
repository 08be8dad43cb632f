-- The marks of a program's instructions, one after another.
use Rattle.std.proofs.Common.{◌≡◌, ℕ, ◌+◌, ◌<◌, Bool, true, false, eqb, List, [], ◌∷◌, ◌++◌, length, get_or, set, replicate, None, refl, sym, ap, subst, ◌∙◌, arith, inl, inr}
use Rattle.std.specs.Prelude.{not, ◌||◌, ◌==◌, slice_index}
use Rattle.std.proofs.Math.Bool.{or-true, or-false, or_assoc}
use Rattle.std.proofs.lemmas.Bool.{eq-eqb, ne_eqb, cases_eq, cases_lt}
use Rattle.std.proofs.lemmas.List.{get_or-replicate, get_or-set_same, get_or-set_other, get_or_past, length-append, length-replicate}
use Rattle.apf_coding.specs.Instruction.{Instruction}
use Rattle.apf_coding.specs.Spelling.{Begins}
use Rattle.apf_coding.specs.Reading.{instruction_at, cause_at}
use Rattle.apf_check.specs.declared.flaw.Flaw.{Flaw}
use Rattle.apf_check.specs.Orderly.{Part, Stand, is_place, broken, IsBroken}
use Rattle.apf_check.specs.Marks.{is_marked, AreMarked}
use Rattle.apf_check.proofs.Answering.{none_begins}

-- instructions stand up to a place, there are so many, and their places are marked
pub record MarkedTo (program : List ℕ) (count at : ℕ) (marks : List ℕ) : Type 0 where
  pub parts : List Part
  pub stand : Stand program 0 parts at
  pub many : length parts ≡ count
  pub marked : (k : ℕ) → is_marked marks k ≡ is_place parts k

-- ---- no instruction yet

zeros : (n k : ℕ) → ◌≡◌ {A = ℕ} (get_or (replicate n 0) k 0) 0
zeros n k = elim (cases_lt k n) [
  | inl lt ↦ get_or-replicate n k 0 0 lt
  | inr ge ↦ get_or_past (replicate n 0) k 0 (let same : length (replicate {A = ℕ} n 0) ≡ n = length-replicate n 0 in omega arith)
]

pub none_marked : (program marks : List ℕ) (n : ℕ) → marks ≡ replicate n 0 → MarkedTo program 0 0 marks
none_marked program marks n e = record {
  parts = [];
  stand = refl;
  many = refl;
  marked = λ k. let zero : slice_index marks k ≡ 0 = ap (λ (l : List ℕ). get_or l k 0) e ∙ zeros n k in rw zero refl;
}

-- ---- one more

stand_one_more : (program : List ℕ) (parts : List Part) (at to : ℕ) (p : Part) → Stand program at parts p.place → Begins program p.place p.instruction p.end → to ≡ p.end → Stand program at (parts ++ p ∷ []) to
stand_one_more program [] at to p s b e = (sym s, subst (λ (k : ℕ). Begins program k p.instruction p.end) (sym s) b, sym e)
stand_one_more program (q ∷ parts) at to p s b e = (s.0, s.1, stand_one_more program parts q.end to p s.2 b e)

is_place-append : (parts more : List Part) (k : ℕ) → is_place (parts ++ more) k ≡ (is_place parts k || is_place more k)
is_place-append [] more k = refl
is_place-append (p ∷ parts) more k = rw (is_place-append parts more k) (sym (or_assoc (eqb p.place k) (is_place parts k) (is_place more k)))

marked_one_more : (marks : List ℕ) (parts : List Part) (p : Part) (k : ℕ) → p.place < length marks → ((j : ℕ) → is_marked marks j ≡ is_place parts j) → is_marked (set marks p.place 1) k ≡ is_place (parts ++ p ∷ []) k
marked_one_more marks parts p k inside so_far = elim (cases_eq k p.place) [
  | inl e ↦
      let here : eqb p.place k ≡ true = eq-eqb _ _ (sym e) in
      let told : get_or (set marks p.place 1) k 0 ≡ 1 = ap (λ (j : ℕ). get_or (set marks p.place 1) j 0) e ∙ get_or-set_same marks p.place 1 0 inside in
      ap (λ (x : ℕ). not (x == 0)) told ∙ sym (is_place-append parts (p ∷ []) k ∙ ap (λ (b : Bool). is_place parts k || (b || false)) here ∙ or-true (is_place parts k))
  | inr ne ↦
      let here : eqb p.place k ≡ false = ne_eqb _ _ (λ e. ne (sym e)) in
      let told : get_or (set marks p.place 1) k 0 ≡ get_or marks k 0 = get_or-set_other marks p.place k 1 0 ne in
      ap (λ (x : ℕ). not (x == 0)) told ∙ so_far k ∙ sym (is_place-append parts (p ∷ []) k ∙ ap (λ (b : Bool). is_place parts k || (b || false)) here ∙ or-false (is_place parts k))
]

pub one_more : (program marks : List ℕ) (count at end : ℕ) (i : Instruction) → at < length marks → Begins program at i end → MarkedTo program count at marks → MarkedTo program (count + 1) end (set marks at 1)
one_more program marks count at end i inside b m =
    let p : Part = record { place = at; instruction = i; end = end } in
    let many = m.many in
    record {
      parts = m.parts ++ p ∷ [];
      stand = stand_one_more program m.parts 0 end p m.stand b refl;
      many = length-append m.parts (p ∷ []) ∙ ap (λ (n : ℕ). n + 1) many;
      marked = λ k. marked_one_more marks m.parts p k inside m.marked;
    }

-- ---- no more

pub stopped_short : (program marks : List ℕ) (count at : ℕ) (flaw : Flaw) → MarkedTo program count at marks → at < length program → instruction_at program at ≡ None → flaw ≡ broken (cause_at program at) at → IsBroken program flaw
stopped_short program marks count at flaw m inside nothing says = record { at = at; parts = m.parts; stand = m.stand; inside = inside; nothing = none_begins program at nothing; says = says }

pub all_marked : (program marks : List ℕ) (count at : ℕ) → MarkedTo program count at marks → at ≡ length program → AreMarked program count marks
all_marked program marks count at m e = record { parts = m.parts; fill = subst (Stand program 0 m.parts) e m.stand; many = m.many; marked = m.marked }
