-- What items say, put together item by item: each rule takes the proof for the items behind.
use Rattle.std.proofs.Common.{◌≡◌, ℕ, ◌+◌, ◌-◌, ◌*◌, ◌/◌, ◌<◌, ◌≤◌, ◌^◌, Bool, true, false, cond, not, eqb, ltb, List, [], ◌∷◌, ◌++◌, length, take, drop, get_or, Option, Some, None, refl, sym, ap, subst, ◌∙◌, append_assoc, arith}
use Rattle.std.specs.Prelude.{◌||◌, ◌==◌, nat_lt, bit_and, bytes_eq, slice_range}
use Rattle.std.proofs.lemmas.Bool.Decides.{nat_tests}
use Rattle.std.proofs.lemmas.Slice.Eq.{bytes_eq-Decides}
use Rattle.apf_coding.specs.declared.instruction.Op.{Op}
use Rattle.apf_coding.specs.declared.instruction.Op.TheVariants.{Ldb, Ldh, Ldw, Ldbx, Ldhx, Ldwx, Add, Div, And, Li, Jeq, Jne, Jgt, Jlt, Jset, Jnebs, Ext}
use Rattle.apf_coding.specs.declared.machine.FaultKind.TheVariants.{Division, Frame}
use Rattle.apf_coding.specs.declared.machine.Verdict.{Verdict}
use Rattle.apf_coding.specs.declared.machine.Verdict.TheVariants.{Pass, Drop}
use Rattle.apf_coding.specs.Words.{word}
use Rattle.apf_coding.specs.Instruction.{is_conditional}
use Rattle.apf_coding.specs.Meaning.{State, Meaning, Next, Jump, Fault, meaning, loaded, extended, frame_number, load as load_number, compare_bytes}
use Rattle.apf_asm.specs.declared.item.Fixed.{Fixed}
use Rattle.apf_asm.specs.declared.item.Jump.{Jump as JumpItem}
use Rattle.apf_asm.specs.declared.item.Item.{Item}
use Rattle.apf_asm.specs.declared.item.Item.TheVariants as items
use Rattle.apf_asm.specs.declared.item.Target.{Target}
use Rattle.apf_asm.specs.declared.item.Target.TheVariants as targets
use Rattle.apf_asm.specs.Items.{fixed_instruction, jump_instruction}
use Rattle.apf_asm.specs.Refusals.{stands}
use Rattle.apf_asm.proofs.LabelPlaces.{stands-append}
use Rattle.apf_asm.specs.Building.{label_of, to_end, fixed, count, jump_if, jump_if_r1, jump, jump_unless}
use Rattle.apf_coding.specs.Said.{Said, Missing, Says, Silent}
use Rattle.apf_asm.specs.Saying.{End, with_registers, counted, FollowsSaid, IsReady, TellsSaid}
use Rattle.apf_coding.proofs.Language.{Language, said_first, reading}
use Rattle.apf_asm.proofs.Steps.{on, at, onto, on-label, on-next, on-fault, on-jump_fault, on-taken, on-not_taken, at-away, at-here}

-- ---- numbers as immediates

-- minus four times a counter's number, in one byte
signed-count : (b : Bool) (k : ℕ) → ltb (2 * (256 - 4 * k)) 256 ≡ b → 0 < k → k ≤ 32 → cond b (256 - 4 * k) (256 - 4 * k + (2 ^ 32 - 256)) ≡ 2 ^ 32 - 4 * k
signed-count true k e low high = grind (arith, nat_tests)
signed-count false k e low high = omega arith

-- a number whose top bit is no sign
signed-place : (b : Bool) (k end : ℕ) → ltb (2 * k) end ≡ b → 2 * k < end → cond b k (k + (2 ^ 32 - end)) ≡ k
signed-place true k end e low = refl
signed-place false k end e low = absurd (grind (arith, nat_tests))

-- ---- labels

pub label_of-below : (verdict : Verdict) → label_of verdict < 2
label_of-below Pass = omega arith
label_of-below Drop = omega arith

pub above_two : (l k : ℕ) (b : Bool) → l < 2 → 2 ≤ k → b ≡ false → (eqb k l) || b ≡ false
above_two l k b lt le e = go (eqb k l) refl
  where
    go : (t : Bool) → eqb k l ≡ t → t || b ≡ false
    go true h = absurd (grind (arith, nat_tests))
    go false h = e

pub stands-both : (l : ℕ) (xs ys : List Item) → stands l xs ≡ false → stands l ys ≡ false → stands l (xs ++ ys) ≡ false
stands-both l xs ys e f = stands-append l xs ys ∙ ap (λ (b : Bool). b || stands l ys) e ∙ f

-- ---- what jumps ask

-- whether a conditional jump is taken
abbrev pub test_of : Op → ℕ → ℕ → Bool
test_of Jeq a b = a == b
test_of Jne a b = not (a == b)
test_of Jgt a b = nat_lt b a
test_of Jlt a b = nat_lt a b
test_of Jset a b = not (bit_and a b == 0)
test_of _ a b = false

-- the bytes of the frame from a place on, where they are all inside
abbrev pub frame_bytes : List ℕ → ℕ → ℕ → Option (List ℕ)
frame_bytes frame at len = cond (nat_lt (length frame) (at + len)) None (Some (slice_range frame at (at + len)))

-- what a comparison with bytes means, by the bytes that are there
abbrev compared : List ℕ → Option (List ℕ) → State → Meaning
compared bytes None m = Fault Frame
compared bytes (Some there) m = cond (not (bytes_eq there bytes)) (Jump 0) (Next m)

same_bool : (a b : Bool) → (a ≡ true → b ≡ true) → (b ≡ true → a ≡ true) → a ≡ b
same_bool true b f g = sym (f refl)
same_bool false true f g = g refl
same_bool false false f g = refl

bytes_eq-sym : (xs ys : List ℕ) → bytes_eq xs ys ≡ bytes_eq ys xs
bytes_eq-sym xs ys =
    let p = bytes_eq-Decides xs ys in
    let q = bytes_eq-Decides ys xs in
    same_bool _ _ (λ h. q.1 (sym (p.0 h))) (λ h. p.1 (sym (q.0 h)))

unless_cases : (b : Bool) (frame bytes : List ℕ) (r0 : ℕ) (m : State)
    → cond b (Fault Frame) (cond (not (bytes_eq bytes (take (length bytes) (drop r0 frame)))) (Jump 0) (Next m)) ≡ compared bytes (cond b None (Some (slice_range frame r0 (r0 + length bytes)))) m
unless_cases true frame bytes r0 m = refl
unless_cases false frame bytes r0 m =
    let size : r0 + length bytes - r0 ≡ length bytes = omega arith in
    rw size (ap (λ (t : Bool). cond (not t) (Jump 0) (Next m)) (bytes_eq-sym bytes (take (length bytes) (drop r0 frame))))

not_empty : (len : ℕ) (b : Bool) (x y : Meaning) → eqb len 0 ≡ b → 0 < len → cond b x y ≡ y
not_empty len true x y e lt = absurd (grind (arith, nat_tests))
not_empty len false x y e lt = refl

unless_means : (n : ℕ) (frame bytes : List ℕ) (to : Target) (m : State) → 0 < length bytes
    → meaning (jump_instruction (record { op = Jnebs; reg = 0; second = 0; bytes = bytes; to = to }) 0 0) n frame m ≡ compared bytes (frame_bytes frame m.r0 (length bytes)) m
unfolding meaning compare_bytes
unless_means n frame bytes to m some =
    not_empty (length bytes) (eqb (length bytes) 0) _ _ refl some
    ∙ unless_cases (ltb (length frame) (m.r0 + length bytes)) frame bytes m.r0 m

pub chosen : (b : Bool) (x y : Meaning) → b ≡ true → cond b x y ≡ x
chosen true x y e = refl
chosen false x y e = absurd cc

passed_by : (b : Bool) (x y : Meaning) → b ≡ false → cond b x y ≡ y
passed_by true x y e = absurd cc
passed_by false x y e = refl

-- ---- the rules

module _ (n : ℕ) (frame : List ℕ) (m : State) where
  -- what items say, and what they say that stand behind them
  pub joined_said : (a b : Said) (zs rest : List Item) (end : End) → ((l : ℕ) → l < 2 → stands l zs ≡ false) → ((r0 r1 : ℕ) → FollowsSaid b rest n frame m (on n frame (zs ++ rest) (with_registers r0 r1 m)))
      → FollowsSaid a (zs ++ rest) n frame m end → FollowsSaid (said_first a b) rest n frame m end
  joined_said Silent b zs rest end away more h = subst (λ (e : End). FollowsSaid b rest n frame m e) (sym h.1.1) (more h.0 h.1.0)
  joined_said Missing b zs rest end away more h = h
  joined_said (Says verdict number) b zs rest end away more h =
      (h.0, h.1 ∙ at-away n frame (label_of verdict) zs rest (with_registers h.0 (counted number) m) (away (label_of verdict) (label_of-below verdict)))

module _ {R C : Type 0} (L : Language R C) (n : ℕ) (frame : List ℕ) (m : State) where
  abbrev s : ℕ → ℕ → State
  s r0 r1 = with_registers r0 r1 m

  -- from these registers on, and whatever follows, the items come to the ruling
  pub record Yields (r0 r1 : ℕ) (ruling : R) (xs : List Item) : Type 0 where
    pub flows : (rest : List Item) → FollowsSaid (L.said ruling) rest n frame m (on n frame (xs ++ rest) (s r0 r1))
    pub away : (l : ℕ) → l < 2 → stands l xs ≡ false

  from_end : (said : Said) (rest : List Item) (a b : End) → a ≡ b → FollowsSaid said rest n frame m b → FollowsSaid said rest n frame m a
  from_end said rest a b e h = subst (λ (end : End). FollowsSaid said rest n frame m end) (sym e) h

  from_said : (a b : Said) (rest : List Item) (end : End) → a ≡ b → FollowsSaid b rest n frame m end → FollowsSaid a rest n frame m end
  from_said a b rest end e h = subst (λ (said : Said). FollowsSaid said rest n frame m end) (sym e) h

  -- ---- the end, and another form of the ruling

  pub done : (r0 r1 : ℕ) → Yields r0 r1 L.silent []
  unfolding stands
  done r0 r1 = record { flows = λ rest. from_said _ Silent rest _ L.said-silent (r0, (r1, refl)); away = λ l lt. refl }

  pub restated : (r0 r1 : ℕ) (a b : R) (xs : List Item) → a ≡ b → Yields r0 r1 a xs → Yields r0 r1 b xs
  restated r0 r1 a b xs e y = subst (λ (ruling : R). Yields r0 r1 ruling xs) e y

  -- ---- registers

  -- an instruction that changes registers alone
  pub does : (f : Fixed) (r0 r1 q0 q1 : ℕ) (a : R) (xs : List Item) → meaning (fixed_instruction f) n frame (s r0 r1) ≡ Next (s q0 q1) → Yields q0 q1 a xs → Yields r0 r1 a (items.Fixed f ∷ xs)
  unfolding stands
  does f r0 r1 q0 q1 a xs e y = record {
    flows = λ rest. from_end (L.said a) rest _ _ (on-next n frame f (xs ++ rest) (s r0 r1) (s q0 q1) e) (y.flows rest);
    away = y.away;
  }

  pub counts : (r0 r1 : ℕ) (c : C) (a : R) (xs : List Item) → Yields r0 (counted (L.number c)) a xs → Yields r0 r1 a (count (L.number c) ∷ xs)
  unfolding meaning
  counts r0 r1 c a xs y =
      let word = L.has_word c in
      let k : ℕ = L.number c in
      does _ r0 r1 r0 (counted k) a xs (ap (λ (v : ℕ). Next (s r0 v)) (signed-count (ltb (2 * (256 - 4 * k)) 256) k refl word.least word.most)) y

  -- a place that the width holds with its sign
  pub places : (r0 r1 width k : ℕ) (a : R) (xs : List Item) → 2 * k < 256 ^ width → Yields k r1 a xs → Yields r0 r1 a (fixed Li 0 width k ∷ xs)
  unfolding meaning
  places r0 r1 width k a xs lt y =
      does _ r0 r1 k r1 a xs (ap (λ (v : ℕ). Next (s v r1)) (signed-place (ltb (2 * k) (256 ^ width)) k (256 ^ width) refl lt)) y

  pub adds : (width k r0 r1 : ℕ) (a : R) (xs : List Item) → Yields (word (r0 + k)) r1 a xs → Yields r0 r1 a (fixed Add 0 width k ∷ xs)
  unfolding meaning
  adds width k r0 r1 a xs y = does _ r0 r1 (word (r0 + k)) r1 a xs refl y

  pub adds_r1 : (r0 r1 : ℕ) (a : R) (xs : List Item) → Yields (word (r0 + r1)) r1 a xs → Yields r0 r1 a (fixed Add 1 0 0 ∷ xs)
  unfolding meaning
  adds_r1 r0 r1 a xs y = does _ r0 r1 (word (r0 + r1)) r1 a xs refl y

  pub masks : (width k r0 r1 : ℕ) (a : R) (xs : List Item) → Yields (bit_and r0 k) r1 a xs → Yields r0 r1 a (fixed And 0 width k ∷ xs)
  unfolding meaning
  masks width k r0 r1 a xs y = does _ r0 r1 (bit_and r0 k) r1 a xs refl y

  -- the quotient by a number that isn't 0
  pub divides : (width k r0 r1 : ℕ) (a : R) (xs : List Item) → eqb k 0 ≡ false → Yields (r0 / k) r1 a xs → Yields r0 r1 a (fixed Div 0 width k ∷ xs)
  unfolding meaning
  divides width k r0 r1 a xs some y = does _ r0 r1 (r0 / k) r1 a xs (passed_by (eqb k 0) (Fault Division) _ some) y

  -- a slot's value
  pub recalls_0 : (width slot v r0 r1 : ℕ) (a : R) (xs : List Item) → ltb slot 16 ≡ true → get_or m.slots slot 0 ≡ v → Yields v r1 a xs → Yields r0 r1 a (fixed Ext 0 width slot ∷ xs)
  unfolding meaning extended
  recalls_0 width slot v r0 r1 a xs low e y =
      does _ r0 r1 v r1 a xs (chosen (ltb slot 16) _ _ low ∙ ap (λ (x : ℕ). Next (s x r1)) e) y

  pub recalls_1 : (width slot v r0 r1 : ℕ) (a : R) (xs : List Item) → ltb slot 16 ≡ true → get_or m.slots slot 0 ≡ v → Yields r0 v a xs → Yields r0 r1 a (fixed Ext 1 width slot ∷ xs)
  unfolding meaning extended
  recalls_1 width slot v r0 r1 a xs low e y =
      does _ r0 r1 r0 v a xs (chosen (ltb slot 16) _ _ low ∙ ap (λ (x : ℕ). Next (s r0 x)) e) y

  -- ---- fields

  load_flows : (f : Fixed) (r0 r1 : ℕ) (k : ℕ → R) (xs rest : List Item) (o : Option ℕ) → meaning (fixed_instruction f) n frame (s r0 r1) ≡ loaded 0 o (s r0 r1) → ((v : ℕ) → o ≡ Some v → Yields v r1 (k v) xs)
      → FollowsSaid (L.said (reading L o k)) rest n frame m (on n frame (items.Fixed f ∷ (xs ++ rest)) (s r0 r1))
  load_flows f r0 r1 k xs rest None e more = from_said _ Missing rest _ L.said-missing (on-fault n frame f (xs ++ rest) (s r0 r1) Frame e)
  load_flows f r0 r1 k xs rest (Some v) e more = from_end (L.said (k v)) rest _ _ (on-next n frame f (xs ++ rest) (s r0 r1) (s v r1) e) ((more v refl).flows rest)

  -- an instruction that loads a field into R0
  pub reads : (f : Fixed) (r0 r1 : ℕ) (k : ℕ → R) (xs : List Item) (o : Option ℕ) → meaning (fixed_instruction f) n frame (s r0 r1) ≡ loaded 0 o (s r0 r1) → ((v : ℕ) → Yields v r1 (k v) xs) → Yields r0 r1 (reading L o k) (items.Fixed f ∷ xs)
  unfolding stands
  reads f r0 r1 k xs o e more = record { flows = λ rest. load_flows f r0 r1 k xs rest o e (λ v known. more v); away = (more 0).away }

  -- the same, with what is known of the field
  pub reads_known : (f : Fixed) (r0 r1 : ℕ) (k : ℕ → R) (xs : List Item) (o : Option ℕ) → meaning (fixed_instruction f) n frame (s r0 r1) ≡ loaded 0 o (s r0 r1) → ((l : ℕ) → l < 2 → stands l xs ≡ false) → ((v : ℕ) → o ≡ Some v → Yields v r1 (k v) xs)
      → Yields r0 r1 (reading L o k) (items.Fixed f ∷ xs)
  unfolding stands
  reads_known f r0 r1 k xs o e away more = record { flows = λ rest. load_flows f r0 r1 k xs rest o e more; away = away }

  load_1_flows : (f : Fixed) (r0 r1 : ℕ) (k : ℕ → R) (xs rest : List Item) (o : Option ℕ) → meaning (fixed_instruction f) n frame (s r0 r1) ≡ loaded 1 o (s r0 r1) → ((v : ℕ) → Yields r0 v (k v) xs)
      → FollowsSaid (L.said (reading L o k)) rest n frame m (on n frame (items.Fixed f ∷ (xs ++ rest)) (s r0 r1))
  load_1_flows f r0 r1 k xs rest None e more = from_said _ Missing rest _ L.said-missing (on-fault n frame f (xs ++ rest) (s r0 r1) Frame e)
  load_1_flows f r0 r1 k xs rest (Some v) e more = from_end (L.said (k v)) rest _ _ (on-next n frame f (xs ++ rest) (s r0 r1) (s r0 v) e) ((more v).flows rest)

  -- an instruction that loads a field into R1
  pub reads_1 : (f : Fixed) (r0 r1 : ℕ) (k : ℕ → R) (xs : List Item) (o : Option ℕ) → meaning (fixed_instruction f) n frame (s r0 r1) ≡ loaded 1 o (s r0 r1) → ((v : ℕ) → Yields r0 v (k v) xs) → Yields r0 r1 (reading L o k) (items.Fixed f ∷ xs)
  unfolding stands
  reads_1 f r0 r1 k xs o e more = record { flows = λ rest. load_1_flows f r0 r1 k xs rest o e more; away = (more 0).away }

  -- the number is seen as o, in whatever words
  module _ (r0 r1 width at : ℕ) (k : ℕ → R) (xs : List Item) (o : Option ℕ) where
    pub reads_byte : frame_number frame at 1 ≡ o → ((v : ℕ) → Yields v r1 (k v) xs) → Yields r0 r1 (reading L o k) (fixed Ldb 0 width at ∷ xs)
    unfolding meaning load_number
    reads_byte e more = reads _ r0 r1 k xs o (ap (λ (there : Option ℕ). loaded 0 there (s r0 r1)) e) more

    pub reads_half : frame_number frame at 2 ≡ o → ((v : ℕ) → Yields v r1 (k v) xs) → Yields r0 r1 (reading L o k) (fixed Ldh 0 width at ∷ xs)
    unfolding meaning load_number
    reads_half e more = reads _ r0 r1 k xs o (ap (λ (there : Option ℕ). loaded 0 there (s r0 r1)) e) more

    pub reads_word : frame_number frame at 4 ≡ o → ((v : ℕ) → Yields v r1 (k v) xs) → Yields r0 r1 (reading L o k) (fixed Ldw 0 width at ∷ xs)
    unfolding meaning load_number
    reads_word e more = reads _ r0 r1 k xs o (ap (λ (there : Option ℕ). loaded 0 there (s r0 r1)) e) more

    pub reads_half_1 : frame_number frame at 2 ≡ o → ((v : ℕ) → Yields r0 v (k v) xs) → Yields r0 r1 (reading L o k) (fixed Ldh 1 width at ∷ xs)
    unfolding meaning load_number
    reads_half_1 e more = reads_1 _ r0 r1 k xs o (ap (λ (there : Option ℕ). loaded 1 there (s r0 r1)) e) more

    -- at a distance from R1
    pub reads_byte_known_at : frame_number frame (word (at + r1)) 1 ≡ o → ((l : ℕ) → l < 2 → stands l xs ≡ false) → ((v : ℕ) → o ≡ Some v → Yields v r1 (k v) xs) → Yields r0 r1 (reading L o k) (fixed Ldbx 0 width at ∷ xs)
    unfolding meaning load_number
    reads_byte_known_at e away more = reads_known _ r0 r1 k xs o (ap (λ (there : Option ℕ). loaded 0 there (s r0 r1)) e) away more

    pub reads_byte_at : frame_number frame (word (at + r1)) 1 ≡ o → ((v : ℕ) → Yields v r1 (k v) xs) → Yields r0 r1 (reading L o k) (fixed Ldbx 0 width at ∷ xs)
    unfolding meaning load_number
    reads_byte_at e more = reads _ r0 r1 k xs o (ap (λ (there : Option ℕ). loaded 0 there (s r0 r1)) e) more

    pub reads_half_at : frame_number frame (word (at + r1)) 2 ≡ o → ((v : ℕ) → Yields v r1 (k v) xs) → Yields r0 r1 (reading L o k) (fixed Ldhx 0 width at ∷ xs)
    unfolding meaning load_number
    reads_half_at e more = reads _ r0 r1 k xs o (ap (λ (there : Option ℕ). loaded 0 there (s r0 r1)) e) more

    pub reads_word_at : frame_number frame (word (at + r1)) 4 ≡ o → ((v : ℕ) → Yields v r1 (k v) xs) → Yields r0 r1 (reading L o k) (fixed Ldwx 0 width at ∷ xs)
    unfolding meaning load_number
    reads_word_at e more = reads _ r0 r1 k xs o (ap (λ (there : Option ℕ). loaded 0 there (s r0 r1)) e) more

  -- ---- what jumps mean

  pub if_means : (op : Op) (number r0 r1 : ℕ) (to : Target) → is_conditional op ≡ true
      → meaning (jump_instruction (record { op = op; reg = 0; second = number; bytes = []; to = to }) 0 0) n frame (s r0 r1) ≡ cond (test_of op r0 number) (Jump 0) (Next (s r0 r1))
  unfolding meaning
  if_means Jeq number r0 r1 to e = refl
  if_means Jne number r0 r1 to e = refl
  if_means Jgt number r0 r1 to e = refl
  if_means Jlt number r0 r1 to e = refl
  if_means Jset number r0 r1 to e = refl
  if_means _ number r0 r1 to e = absurd cc

  pub if_r1_means : (op : Op) (r0 r1 : ℕ) (to : Target) → is_conditional op ≡ true
      → meaning (jump_instruction (record { op = op; reg = 1; second = 0; bytes = []; to = to }) 0 0) n frame (s r0 r1) ≡ cond (test_of op r0 r1) (Jump 0) (Next (s r0 r1))
  unfolding meaning
  if_r1_means Jeq r0 r1 to e = refl
  if_r1_means Jne r0 r1 to e = refl
  if_r1_means Jgt r0 r1 to e = refl
  if_r1_means Jlt r0 r1 to e = refl
  if_r1_means Jset r0 r1 to e = refl
  if_r1_means _ r0 r1 to e = absurd cc

  -- ---- jumps to an end

  answer_flows : (j : JumpItem) (r0 : ℕ) (verdict : Verdict) (c : C) (a : R) (xs rest : List Item) (b : Bool) → j.to ≡ to_end verdict
      → meaning (jump_instruction j 0 0) n frame (s r0 (counted (L.number c))) ≡ cond b (Jump 0) (Next (s r0 (counted (L.number c)))) → Yields r0 (counted (L.number c)) a xs
      → FollowsSaid (L.said (cond b (L.says verdict c) a)) rest n frame m (on n frame (items.Jump j ∷ (xs ++ rest)) (s r0 (counted (L.number c))))
  answer_flows j r0 verdict c a xs rest true to e y =
      from_said _ (Says verdict (L.number c)) rest _ (L.said-says verdict c) (
        r0,
        on-taken n frame j (xs ++ rest) (s r0 (counted (L.number c))) e
            ∙ ap (λ (t : Target). onto n frame t (xs ++ rest) (s r0 (counted (L.number c)))) to
            ∙ at-away n frame (label_of verdict) xs rest (s r0 (counted (L.number c))) (y.away (label_of verdict) (label_of-below verdict)),
      )
  answer_flows j r0 verdict c a xs rest false to e y =
      from_end (L.said a) rest _ _ (on-not_taken n frame j (xs ++ rest) (s r0 (counted (L.number c))) e) (y.flows rest)

  -- a jump to an end, with the counter in R1, which is taken where something is so
  pub answers_where : (j : JumpItem) (r0 : ℕ) (verdict : Verdict) (c : C) (a : R) (xs : List Item) (b : Bool) → j.to ≡ to_end verdict
      → meaning (jump_instruction j 0 0) n frame (s r0 (counted (L.number c))) ≡ cond b (Jump 0) (Next (s r0 (counted (L.number c)))) → Yields r0 (counted (L.number c)) a xs
      → Yields r0 (counted (L.number c)) (cond b (L.says verdict c) a) (items.Jump j ∷ xs)
  unfolding stands
  answers_where j r0 verdict c a xs b to e y = record { flows = λ rest. answer_flows j r0 verdict c a xs rest b to e y; away = y.away }

  -- where R0 compares so with a number, that is the ruling
  pub answers_if : (op : Op) (number r0 : ℕ) (verdict : Verdict) (c : C) (a : R) (xs : List Item) → is_conditional op ≡ true → Yields r0 (counted (L.number c)) a xs
      → Yields r0 (counted (L.number c)) (cond (test_of op r0 number) (L.says verdict c) a) (jump_if op number (to_end verdict) ∷ xs)
  answers_if op number r0 verdict c a xs e y = answers_where _ r0 verdict c a xs (test_of op r0 number) refl (if_means op number r0 (counted (L.number c)) (to_end verdict) e) y

  -- items that only a label leads to may stand behind
  pub answers : (r0 : ℕ) (verdict : Verdict) (c : C) (a : R) (xs : List Item) → Yields r0 (counted (L.number c)) a xs → Yields r0 (counted (L.number c)) (L.says verdict c) (jump (to_end verdict) ∷ xs)
  unfolding meaning
  answers r0 verdict c a xs y = answers_where _ r0 verdict c a xs true refl refl y

  -- ---- comparing bytes

  compare_flows : (j : JumpItem) (r0 : ℕ) (bytes : List ℕ) (verdict : Verdict) (c : C) (a : R) (xs rest : List Item) (o : Option (List ℕ)) → j.to ≡ to_end verdict
      → meaning (jump_instruction j 0 0) n frame (s r0 (counted (L.number c))) ≡ compared bytes o (s r0 (counted (L.number c))) → Yields r0 (counted (L.number c)) a xs
      → FollowsSaid (L.said (reading L o (λ there. cond (not (bytes_eq there bytes)) (L.says verdict c) a))) rest n frame m (on n frame (items.Jump j ∷ (xs ++ rest)) (s r0 (counted (L.number c))))
  compare_flows j r0 bytes verdict c a xs rest None to e y = from_said _ Missing rest _ L.said-missing (on-jump_fault n frame j (xs ++ rest) (s r0 (counted (L.number c))) Frame e)
  compare_flows j r0 bytes verdict c a xs rest (Some there) to e y = answer_flows j r0 verdict c a xs rest (not (bytes_eq there bytes)) to e y

  -- where the frame's bytes from R0 on are others, that is the ruling
  pub answers_unless : (r0 : ℕ) (bytes : List ℕ) (verdict : Verdict) (c : C) (a : R) (xs : List Item) (o : Option (List ℕ)) → frame_bytes frame r0 (length bytes) ≡ o → 0 < length bytes → Yields r0 (counted (L.number c)) a xs
      → Yields r0 (counted (L.number c)) (reading L o (λ there. cond (not (bytes_eq there bytes)) (L.says verdict c) a)) (jump_unless bytes (to_end verdict) ∷ xs)
  unfolding stands
  answers_unless r0 bytes verdict c a xs o e some y = record {
    flows = λ rest. compare_flows _ r0 bytes verdict c a xs rest o refl
        (unless_means n frame bytes (to_end verdict) (s r0 (counted (L.number c))) some ∙ ap (λ (there : Option (List ℕ)). compared bytes there (s r0 (counted (L.number c)))) e) y;
    away = y.away;
  }

  -- ---- one behind the other

  pub then_on : (r0 r1 : ℕ) (a b : R) (xs ys : List Item) → Yields r0 r1 a xs → ((q0 q1 : ℕ) → Yields q0 q1 b ys) → Yields r0 r1 (L.otherwise a b) (xs ++ ys)
  then_on r0 r1 a b xs ys y z = record {
    flows = λ rest. from_said _ (said_first (L.said a) (L.said b)) rest _ (L.said-otherwise a b)
        (joined_said n frame m (L.said a) (L.said b) ys rest _ (z 0 0).away (λ q0 q1. (z q0 q1).flows rest)
        (subst (λ (items : List Item). FollowsSaid (L.said a) (ys ++ rest) n frame m (on n frame items (s r0 r1))) (sym (append_assoc xs ys rest)) (y.flows (ys ++ rest))));
    away = λ l lt. stands-both l xs ys (y.away l lt) ((z 0 0).away l lt);
  }

  pub labelled : (r0 r1 l : ℕ) (a : R) (xs : List Item) → 2 ≤ l → Yields r0 r1 a xs → Yields r0 r1 a (items.Label l ∷ xs)
  unfolding stands
  labelled r0 r1 l a xs le y = record {
    flows = λ rest. from_end (L.said a) rest _ _ (on-label n frame l (xs ++ rest) (s r0 r1)) (y.flows rest);
    away = λ k lt. above_two k l (stands k xs) lt le (y.away k lt);
  }

  -- ---- jumps to a label further on

  leave_flows : (j : JumpItem) (l r0 r1 : ℕ) (a b : R) (xs ys rest : List Item) (t : Bool) → j.to ≡ targets.Label l
      → meaning (jump_instruction j 0 0) n frame (s r0 r1) ≡ cond t (Jump 0) (Next (s r0 r1)) → stands l xs ≡ false
      → Yields r0 r1 a (xs ++ (items.Label l ∷ ys)) → ((q0 q1 : ℕ) → Yields q0 q1 b ys)
      → FollowsSaid (L.said (cond t b a)) rest n frame m (on n frame (items.Jump j ∷ ((xs ++ (items.Label l ∷ ys)) ++ rest)) (s r0 r1))
  leave_flows j l r0 r1 a b xs ys rest true to e apart y z =
      from_end (L.said b) rest _ _
      (on-taken n frame j ((xs ++ (items.Label l ∷ ys)) ++ rest) (s r0 r1) e
      ∙ ap (λ (t : Target). onto n frame t ((xs ++ (items.Label l ∷ ys)) ++ rest) (s r0 r1)) to
      ∙ ap (λ (items : List Item). at n frame l items (s r0 r1)) (append_assoc xs (items.Label l ∷ ys) rest)
      ∙ at-away n frame l xs (items.Label l ∷ (ys ++ rest)) (s r0 r1) apart
      ∙ at-here n frame l (ys ++ rest) (s r0 r1))
      ((z r0 r1).flows rest)
  leave_flows j l r0 r1 a b xs ys rest false to e apart y z =
      from_end (L.said a) rest _ _ (on-not_taken n frame j ((xs ++ (items.Label l ∷ ys)) ++ rest) (s r0 r1) e) (y.flows rest)

  -- a jump away, which is taken where something is so: then what stands behind the label is asked, and else what comes next
  pub leaves_where : (j : JumpItem) (l r0 r1 : ℕ) (a b : R) (xs ys : List Item) (t : Bool) → j.to ≡ targets.Label l
      → meaning (jump_instruction j 0 0) n frame (s r0 r1) ≡ cond t (Jump 0) (Next (s r0 r1)) → stands l xs ≡ false
      → Yields r0 r1 a (xs ++ (items.Label l ∷ ys)) → ((q0 q1 : ℕ) → Yields q0 q1 b ys)
      → Yields r0 r1 (cond t b a) (items.Jump j ∷ (xs ++ (items.Label l ∷ ys)))
  unfolding stands
  leaves_where j l r0 r1 a b xs ys t to e apart y z = record { flows = λ rest. leave_flows j l r0 r1 a b xs ys rest t to e apart y z; away = y.away }

  pub leaves_if : (op : Op) (number l r0 r1 : ℕ) (a b : R) (xs ys : List Item) → is_conditional op ≡ true → stands l xs ≡ false → Yields r0 r1 a (xs ++ (items.Label l ∷ ys)) → ((q0 q1 : ℕ) → Yields q0 q1 b ys)
      → Yields r0 r1 (cond (test_of op r0 number) b a) (jump_if op number (targets.Label l) ∷ (xs ++ (items.Label l ∷ ys)))
  leaves_if op number l r0 r1 a b xs ys e apart y z = leaves_where _ l r0 r1 a b xs ys (test_of op r0 number) refl (if_means op number r0 r1 (targets.Label l) e) apart y z

  pub leaves_if_r1 : (op : Op) (l r0 r1 : ℕ) (a b : R) (xs ys : List Item) → is_conditional op ≡ true → stands l xs ≡ false → Yields r0 r1 a (xs ++ (items.Label l ∷ ys)) → ((q0 q1 : ℕ) → Yields q0 q1 b ys)
      → Yields r0 r1 (cond (test_of op r0 r1) b a) (jump_if_r1 op (targets.Label l) ∷ (xs ++ (items.Label l ∷ ys)))
  leaves_if_r1 op l r0 r1 a b xs ys e apart y z = leaves_where _ l r0 r1 a b xs ys (test_of op r0 r1) refl (if_r1_means op r0 r1 (targets.Label l) e) apart y z

  -- a jump over items: what stands behind the label is asked in either case
  pub skips_if : (op : Op) (number l r0 r1 : ℕ) (a b : R) (xs ys : List Item) → is_conditional op ≡ true → 2 ≤ l → stands l xs ≡ false → Yields r0 r1 a xs → ((q0 q1 : ℕ) → Yields q0 q1 b ys)
      → Yields r0 r1 (cond (test_of op r0 number) b (L.otherwise a b)) (jump_if op number (targets.Label l) ∷ (xs ++ (items.Label l ∷ ys)))
  skips_if op number l r0 r1 a b xs ys e le apart y z =
      leaves_if op number l r0 r1 (L.otherwise a b) b xs ys e apart (then_on r0 r1 a b xs (items.Label l ∷ ys) y (λ q0 q1. labelled q0 q1 l b ys le (z q0 q1))) z

  leave_unless_flows : (j : JumpItem) (l r0 r1 : ℕ) (bytes : List ℕ) (a b : R) (xs ys rest : List Item) (o : Option (List ℕ)) → j.to ≡ targets.Label l
      → meaning (jump_instruction j 0 0) n frame (s r0 r1) ≡ compared bytes o (s r0 r1) → stands l xs ≡ false
      → Yields r0 r1 a (xs ++ (items.Label l ∷ ys)) → ((q0 q1 : ℕ) → Yields q0 q1 b ys)
      → FollowsSaid (L.said (reading L o (λ there. cond (not (bytes_eq there bytes)) b a))) rest n frame m (on n frame (items.Jump j ∷ ((xs ++ (items.Label l ∷ ys)) ++ rest)) (s r0 r1))
  leave_unless_flows j l r0 r1 bytes a b xs ys rest None to e apart y z = from_said _ Missing rest _ L.said-missing (on-jump_fault n frame j ((xs ++ (items.Label l ∷ ys)) ++ rest) (s r0 r1) Frame e)
  leave_unless_flows j l r0 r1 bytes a b xs ys rest (Some there) to e apart y z = leave_flows j l r0 r1 a b xs ys rest (not (bytes_eq there bytes)) to e apart y z

  -- where the frame's bytes from R0 on are others, what stands behind the label is asked
  pub leaves_unless : (r0 r1 l : ℕ) (bytes : List ℕ) (a b : R) (xs ys : List Item) (o : Option (List ℕ)) → frame_bytes frame r0 (length bytes) ≡ o → 0 < length bytes → stands l xs ≡ false → Yields r0 r1 a (xs ++ (items.Label l ∷ ys)) → ((q0 q1 : ℕ) → Yields q0 q1 b ys)
      → Yields r0 r1 (reading L o (λ there. cond (not (bytes_eq there bytes)) b a)) (jump_unless bytes (targets.Label l) ∷ (xs ++ (items.Label l ∷ ys)))
  unfolding stands
  leaves_unless r0 r1 l bytes a b xs ys o e some apart y z = record {
    flows = λ rest. leave_unless_flows _ l r0 r1 bytes a b xs ys rest o refl
        (unless_means n frame bytes (targets.Label l) (s r0 r1) some ∙ ap (λ (there : Option (List ℕ)). compared bytes there (s r0 r1)) e) apart y z;
    away = y.away;
  }

-- ---- whole fragments

-- items that yield a ruling from every machine that stands before a rule tell what it says
pub told : {R C : Type 0} (L : Language R C) (question : ℕ → List ℕ → R) (xs : List Item) → ((n : ℕ) (frame : List ℕ) (age : ℕ) (m : State) → IsReady n frame age m → Yields L n frame m m.r0 m.r1 (question age frame) xs) → TellsSaid (λ age frame. L.said (question age frame)) xs
told L question xs h = record { tells = λ n frame age m rest ready. (h n frame age m ready).flows rest }
