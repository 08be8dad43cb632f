-- The search for the first flaw, which goes along the program.
use Rattle.std.proofs.Common.{◌≡◌, ℕ, Bool, List, [], ◌∷◌, length, Option, Some, None, refl, sym, ap, subst, ◌∙◌}
use Rattle.apf_coding.specs.Instruction.{Instruction}
use Rattle.apf_coding.specs.Spelling.{Begins}
use Rattle.apf_coding.specs.Reading.{instruction_at}
use Rattle.apf_check.specs.declared.flaw.Flaw.{Flaw}
use Rattle.apf_check.specs.Orderly.{Part, Stand, flaw_of, first_flaw, or_else}
use Rattle.apf_check.proofs.Answering.{past_end, same_first, none_begins}

module _ (program : List ℕ) (begins : ℕ → Bool) where
  -- instructions stand from a place to the end, and the first flaw of them is that of all
  pub record Left (parts : List Part) (at : ℕ) : Type 0 where
    pub rest : List Part
    pub stand : Stand program at rest (length program)
    pub same : first_flaw (length program) begins rest ≡ first_flaw (length program) begins parts

  pub all_left : (parts : List Part) → Stand program 0 parts (length program) → Left parts 0
  all_left parts s = record { rest = parts; stand = s; same = refl }

  -- the first of them is the instruction there
  record Opened (parts : List Part) (p : Part) : Type 0 where
    pub rest : List Part
    pub stand : Stand program p.end rest (length program)
    pub same : or_else (flaw_of (length program) begins p) (first_flaw (length program) begins rest) ≡ first_flaw (length program) begins parts

  opened_by : (parts : List Part) (p : Part) (rest : List Part) → Begins program p.place p.instruction p.end → Stand program p.place rest (length program) → first_flaw (length program) begins rest ≡ first_flaw (length program) begins parts → Opened parts p
  unfolding first_flaw
  opened_by parts p [] b s e = absurd (past_end program p.place p.instruction p.end s b)
  opened_by parts p (q ∷ rest) b s e =
      let same : q ≡ p = same_first program p.place q p s.0 refl s.1 b in
      record {
        rest = rest;
        stand = subst (λ (k : Part). Stand program k.end rest (length program)) same s.2;
        same = ap (λ (k : Part). or_else (flaw_of (length program) begins k) (first_flaw (length program) begins rest)) (sym same) ∙ e;
      }

  opened : (parts : List Part) (p : Part) → Begins program p.place p.instruction p.end → Left parts p.place → Opened parts p
  opened parts p b l = opened_by parts p l.rest b l.stand l.same

  pub found_flaw : (parts : List Part) (n at end : ℕ) (i : Instruction) (flaw : Flaw) → n ≡ length program → Begins program at i end → Some flaw ≡ flaw_of n begins (record { place = at; instruction = i; end = end }) → Left parts at → Some flaw ≡ first_flaw (length program) begins parts
  found_flaw parts n at end i flaw size b told l =
      let p : Part = record { place = at; instruction = i; end = end } in
      let o = opened parts p b l in
      ap (λ (x : Option Flaw). or_else x (first_flaw (length program) begins o.rest)) (told ∙ ap (λ (k : ℕ). flaw_of k begins p) size) ∙ o.same

  pub found_none : (parts : List Part) (n at end : ℕ) (i : Instruction) → n ≡ length program → Begins program at i end → None ≡ flaw_of n begins (record { place = at; instruction = i; end = end }) → Left parts at → Left parts end
  found_none parts n at end i size b told l =
      let p : Part = record { place = at; instruction = i; end = end } in
      let o = opened parts p b l in
      record { rest = o.rest; stand = o.stand; same = ap (λ (x : Option Flaw). or_else x (first_flaw (length program) begins o.rest)) (told ∙ ap (λ (k : ℕ). flaw_of k begins p) size) ∙ o.same }

  ended_by : (parts : List Part) (at : ℕ) (rest : List Part) → instruction_at program at ≡ None → Stand program at rest (length program) → first_flaw (length program) begins rest ≡ first_flaw (length program) begins parts → None ≡ first_flaw (length program) begins parts
  unfolding first_flaw
  ended_by parts at [] nothing s e = e
  ended_by parts at (q ∷ rest) nothing s e = absurd (none_begins program at nothing q.instruction q.end s.1)

  pub found_end : (parts : List Part) (at : ℕ) → instruction_at program at ≡ None → Left parts at → None ≡ first_flaw (length program) begins parts
  found_end parts at nothing l = ended_by parts at l.rest nothing l.stand l.same
