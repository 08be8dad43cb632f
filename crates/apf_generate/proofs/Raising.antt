-- Raising a counter in the memory.
use Rattle.std.proofs.Common.{◌≡◌, ℕ, ◌+◌, ◌-◌, ◌*◌, ◌%◌, ◌≤◌, ◌^◌, Bool, true, false, cond, ltb, leb, List, [], ◌∷◌, ◌++◌, length, take, drop, refl, ap, ◌∙◌, arith}
use Rattle.std.specs.Prelude.{◌&&◌, slice_range}
use Rattle.std.proofs.lemmas.Bool.Decides.{nat_tests}
use Rattle.apf_coding.specs.declared.instruction.Op.TheVariants.{Lddw, Stdw, Add}
use Rattle.apf_coding.specs.declared.machine.FaultKind.TheVariants.{Memory}
use Rattle.apf_coding.specs.Words.{number, big_endian, word}
use Rattle.apf_coding.specs.Meaning.{State, Next, Fault, meaning, load_data, store_data}
use Rattle.apf_asm.specs.declared.item.Item.{Item}
use Rattle.data_counters.specs.declared.counter.Counter.{Counter}
use Rattle.data_counters.specs.Counters.{number_of, counter_count}
use Rattle.data_counters.specs.Memory.{place_of, value_of, raised}
use Rattle.data_counters.proofs.Apart.{IsCounterNumber, number_of-range}
use Rattle.apf_asm.specs.Building.{fixed}
use Rattle.apf_asm.specs.Saying.{counted, with_registers}
use Rattle.apf_asm.proofs.Rules.{chosen}
use Rattle.apf_asm.proofs.Steps.{on, on-next}
use Rattle.apf_generate.specs.Listing.{raising_items}
use Rattle.apf_generate.proofs.WordsSeen.{word_seen, store_seen}
use Rattle.apf_base.specs.Limits.{memory_size, program_limit}

-- where a counter lies, from its distance to the end
high_case : (b : Bool) (a n len k : ℕ) → ltb a (2 ^ 31) ≡ b → a ≡ 2 ^ 32 - 4 * k → 1 ≤ k → k ≤ counter_count → n ≤ program_limit → len ≡ memory_size → cond b a ((a + (n + len)) % 2 ^ 32) ≡ n + (memory_size - 4 * k)
high_case true a n len k t e low high le p = absurd (grind (arith, nat_tests))
high_case false a n len k t e low high le p = omega arith

inside_case : (b c : Bool) (a n len k : ℕ) → leb n a ≡ b → leb (a + 4) (n + len) ≡ c → a ≡ n + (memory_size - 4 * k) → 1 ≤ k → k ≤ counter_count → len ≡ memory_size → (b && c) ≡ true
inside_case true true a n len k s t e low high p = refl
inside_case true false a n len k s t e low high p = absurd (grind (arith, nat_tests))
inside_case false c a n len k s t e low high p = absurd (grind (arith, nat_tests))

module _ (n : ℕ) (frame : List ℕ) (m : State) (c : Counter) where
  range : IsCounterNumber (number_of c)
  range = number_of-range c

  abbrev s : ℕ → ℕ → State
  s r0 r1 = with_registers r0 r1 m

  -- what the counter holds then
  abbrev one_more : ℕ
  one_more = word (value_of c m.memory + 1)

  -- the address of the counter
  abbrev spot : ℕ
  spot = n + (memory_size - 4 * number_of c)

  abbrev sum_of : ℕ → ℕ → ℕ
  sum_of distance r1 = word (r1 + cond (ltb (2 * distance) 256) distance (distance + (2 ^ 32 - 256)))

  address_is : (distance r1 : ℕ) → n ≤ program_limit → length m.memory ≡ memory_size → sum_of distance r1 ≡ counted (number_of c)
      → cond (ltb (sum_of distance r1) (2 ^ 31)) (sum_of distance r1) (word (sum_of distance r1 + (n + length m.memory))) ≡ spot
  address_is distance r1 le len e =
      high_case (ltb (sum_of distance r1) (2 ^ 31)) (sum_of distance r1) n (length m.memory) (number_of c) refl e range.least range.most le len

  is_inside : (a : ℕ) → a ≡ spot → length m.memory ≡ memory_size → (leb n a && leb (a + 4) (n + length m.memory)) ≡ true
  is_inside a e len = inside_case (leb n a) (leb (a + 4) (n + length m.memory)) a n (length m.memory) (number_of c) refl refl e range.least range.most len

  loaded_at : (a r1 : ℕ) → a ≡ spot → length m.memory ≡ memory_size
      → cond (leb n a && leb (a + 4) (n + length m.memory)) (Next (s (number (slice_range m.memory (a - n) (a - n + 4))) r1)) (Fault Memory) ≡ Next (s (value_of c m.memory) r1)
  loaded_at a r1 e len =
      let place : a - n ≡ place_of c = omega arith in
      let le : place_of c + 4 ≤ length m.memory = omega (arith, range.least, range.most) in
      chosen _ _ _ (is_inside a e len)
      ∙ ap (λ (p : ℕ). Next (s (number (slice_range m.memory p (p + 4))) r1)) place
      ∙ ap (λ (w : ℕ). Next (s w r1)) (word_seen (place_of c) m.memory le)

  load_means : (distance r0 r1 : ℕ) → n ≤ program_limit → length m.memory ≡ memory_size → sum_of distance r1 ≡ counted (number_of c)
      → meaning (record { op = Lddw; reg = 0; width = 1; imm = distance; second = 0; bytes = [] }) n frame (s r0 r1) ≡ Next (s (value_of c m.memory) r1)
  unfolding meaning load_data
  load_means distance r0 r1 le len e = loaded_at _ r1 (address_is distance r1 le len e) len

  add_means : (r0 r1 : ℕ) → meaning (record { op = Add; reg = 0; width = 1; imm = 1; second = 0; bytes = [] }) n frame (s r0 r1) ≡ Next (s (word (r0 + 1)) r1)
  unfolding meaning
  add_means r0 r1 = refl

  abbrev raised_state : ℕ → State
  raised_state r1 = record { r0 = one_more; r1 = r1; slots = m.slots; memory = raised c m.memory }

  stored_at : (a r1 : ℕ) → a ≡ spot → length m.memory ≡ memory_size
      → cond (leb n a && leb (a + 4) (n + length m.memory)) (Next (record { r0 = one_more; r1 = r1; slots = m.slots; memory = take (a - n) m.memory ++ big_endian 4 one_more ++ drop (a - n + 4) m.memory })) (Fault Memory) ≡ Next (raised_state r1)
  stored_at a r1 e len =
      let place : a - n ≡ place_of c = omega arith in
      chosen _ _ _ (is_inside a e len)
      ∙ ap (λ (p : ℕ). Next (record { r0 = one_more; r1 = r1; slots = m.slots; memory = take p m.memory ++ big_endian 4 one_more ++ drop (p + 4) m.memory })) place
      ∙ ap (λ (memory : List ℕ). Next (record { r0 = one_more; r1 = r1; slots = m.slots; memory = memory })) (store_seen (place_of c) one_more m.memory)

  store_means : (distance r1 : ℕ) → n ≤ program_limit → length m.memory ≡ memory_size → sum_of distance r1 ≡ counted (number_of c)
      → meaning (record { op = Stdw; reg = 0; width = 1; imm = distance; second = 0; bytes = [] }) n frame (s one_more r1) ≡ Next (raised_state r1)
  unfolding meaning store_data
  store_means distance r1 le len e = stored_at _ r1 (address_is distance r1 le len e) len

  -- the items raise the counter
  pub on-raising : (distance r0 r1 : ℕ) (xs : List Item) → n ≤ program_limit → length m.memory ≡ memory_size → sum_of distance r1 ≡ counted (number_of c)
      → on n frame (raising_items distance ++ xs) (s r0 r1) ≡ on n frame xs (raised_state r1)
  on-raising distance r0 r1 xs le len e =
      on-next n frame _ (fixed Add 0 1 1 ∷ fixed Stdw 0 1 distance ∷ xs) (s r0 r1) (s (value_of c m.memory) r1) (load_means distance r0 r1 le len e)
      ∙ on-next n frame _ (fixed Stdw 0 1 distance ∷ xs) (s (value_of c m.memory) r1) (s one_more r1) (add_means (value_of c m.memory) r1)
      ∙ on-next n frame _ xs (s one_more r1) (raised_state r1) (store_means distance r1 le len e)
