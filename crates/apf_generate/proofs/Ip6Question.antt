-- The test of the ethertype, the rules for IPv6 and what stands behind them answer the question on IPv6.
use Rattle.std.proofs.Common.{◌≡◌, ℕ, ◌+◌, ◌≤◌, cond, not, eqb, List, [], ◌∷◌, ◌++◌, length, Option, Some, None, refl, sym, ap, subst, ◌∙◌, append_assoc, arith, lit<, lit≤}
use Rattle.std.proofs.lemmas.List.{length-append}
use Rattle.std.proofs.lemmas.List.Sums.{sum_by-cons}
use Rattle.apf_coding.specs.declared.instruction.Op.TheVariants.{Ldh, Jne}
use Rattle.apf_coding.specs.declared.machine.Verdict.TheVariants.{Pass}
use Rattle.apf_asm.specs.declared.item.Item.{Item}
use Rattle.apf_asm.specs.declared.item.Item.TheVariants as items
use Rattle.apf_asm.specs.declared.item.Target.TheVariants as targets
use Rattle.apf_asm.specs.Layout.{wide_size}
use Rattle.data_counters.specs.declared.counter.Counter.TheVariants.{PassedIpv6Icmp}
use Rattle.data_counters.specs.Counters.{number_of}
use Rattle.policy_state.specs.declared.basis.Basis.{Basis}
use Rattle.policy_state.specs.declared.basis.Chosen.{Chosen}
use Rattle.policy_state.specs.declared.ruling.Ruling.{Ruling}
use Rattle.policy_state.specs.declared.ruling.Ruling.TheVariants.{Silent}
use Rattle.policy_state.specs.Asking.{reading, when, otherwise}
use Rattle.policy_state.specs.Ethernet.{ethertype}
use Rattle.policy_state.specs.Ip6.{ip6_header_lines, other_icmp6, ip6_lines}
use Rattle.policy_state.specs.Policy.{ip6}
use Rattle.policy_state.specs.Records.{repeated_advertisements}
use Rattle.policy_state.proofs.AskingLaws.{otherwise-silent, when-not}
use Rattle.policy_state.proofs.FieldsSeen.{number_seen}
use Rattle.apf_asm.specs.Building.{load, jump_if}
use Rattle.apf_asm.specs.Fragment.{AreFresh, IsFragment, IsPart, Emits, labels}
use Rattle.policy_state.specs.Rulings.{said_of}
use Rattle.apf_coding.specs.Said.{Said}
use Rattle.apf_asm.specs.Saying.{TellsSaid}
use Rattle.apf_coding.proofs.Language.{said_first}
use Rattle.apf_asm.proofs.Forms.{IsSound, stands-here, labels-append, sound-nil, sound-append, sound-byte, sound-if_label, sound-jump_end, sound-label, sound-count}
use Rattle.apf_asm.proofs.Parts.{fragment-of, sound-fragment, fresh-away, fresh-over, wide-append, part-same, part-then, part-yields}
use Rattle.apf_asm.proofs.Rules.{done, restated, counts, reads_half, answers, skips_if, told}
use Rattle.policy_state.proofs.Rulings.{rulings, said-otherwise, has_word}
use Rattle.apf_generate.specs.Listing.{ip6_test_items, ip6_last_items, ip6_items}
use Rattle.apf_generate.specs.Program.{AddsRecords, AddsIp6}
use Rattle.apf_generate.specs.Sizes.{weights}
use Rattle.policy_state.specs.Rooms.{ip6_header_room, ip6_room}

-- ---- the rules, and the packets that none of them answers

last_tell : TellsSaid (λ age frame. said_of other_icmp6) ip6_last_items
last_tell = told rulings (λ age frame. other_icmp6) _ (λ n frame age m ready.
    counts rulings n frame m m.r0 m.r1 PassedIpv6Icmp _ _
    (answers rulings n frame m m.r0 Pass PassedIpv6Icmp _ _ (done rulings n frame m m.r0 _)))

last_part : (next : ℕ) → IsPart (λ age frame. said_of other_icmp6) next next 7 ip6_last_items
unfolding labels
last_part next = record {
  form = fragment-of next next 7 ip6_last_items (sound-count (number_of PassedIpv6Icmp) _ (has_word PassedIpv6Icmp) (sound-jump_end Pass [] sound-nil)) (omega arith) tt (omega arith) (lit≤ tt);
  tells = last_tell;
}

three_said : (a b c : Ruling) → said_first (said_of a) (said_first (said_of b) (said_of c)) ≡ said_of (otherwise a (otherwise b (otherwise c Silent)))
three_said a b c =
    ap (λ (last : Ruling). said_first (said_of a) (said_first (said_of b) (said_of last))) (sym (otherwise-silent c))
    ∙ ap (said_first (said_of a)) (sym (said-otherwise b (otherwise c Silent)))
    ∙ sym (said-otherwise a (otherwise b (otherwise c Silent)))

abbrev repeated : Basis → ℕ → List ℕ → Said
repeated basis age frame = said_of (repeated_advertisements basis age frame)

lines_part : (basis : Basis) (from mid to most more : ℕ) (rules records : List Item) → 2 ≤ from → IsPart (λ age frame. said_of (ip6_header_lines basis frame)) from mid most rules → IsPart (repeated basis) mid to more records
    → IsPart (λ age frame. said_of (ip6_lines basis age frame)) from to (most + more + 7) (rules ++ (records ++ ip6_last_items))
lines_part basis from mid to most more rules records low headers seen =
    let up : from ≤ mid = headers.form.rises in
    part-same _ (λ age frame. said_of (ip6_lines basis age frame)) from to (most + (more + 7)) (most + more + 7) _
    (λ age frame. three_said (ip6_header_lines basis frame) (repeated_advertisements basis age frame) other_icmp6)
    (omega arith)
    (part-then (λ age frame. said_of (ip6_header_lines basis frame)) (λ age frame. said_first (repeated basis age frame) (said_of other_icmp6)) from mid to most (more + 7) rules (records ++ ip6_last_items) low headers
    (part-then (repeated basis) (λ age frame. said_of other_icmp6) mid to to more 7 records ip6_last_items (omega arith) seen (last_part to)))

-- ---- the test of the ethertype before them

question_same : (o : Option ℕ) (a : Ruling) → reading o (λ e. cond (not (eqb e 0x86dd)) Silent (otherwise a Silent)) ≡ reading o (λ e. when (eqb e 0x86dd) a)
question_same None a = refl
question_same (Some e) a = when-not (eqb e 0x86dd) (otherwise a Silent) ∙ ap (λ (r : Ruling). when (eqb e 0x86dd) r) (otherwise-silent a)

module _ (basis : Basis) (over to most : ℕ) (xs : List Item) (low : 2 ≤ over) (part : IsPart (λ age frame. said_of (ip6_lines basis age frame)) (over + 1) to most xs) where
  abbrev whole : List Item
  whole = ip6_test_items over ++ (xs ++ (items.Label over ∷ []))

  question_tells : TellsSaid (λ age frame. said_of (ip6 basis age frame)) whole
  question_tells = told rulings (λ age frame. ip6 basis age frame) _ (λ n frame age m ready.
      restated rulings n frame m m.r0 m.r1 _ _ _ (question_same (ethertype frame) (ip6_lines basis age frame))
      (reads_half rulings n frame m m.r0 m.r1 1 12 _ _ (ethertype frame) (number_seen frame 12 2) (λ e.
      skips_if rulings n frame m Jne 0x86dd over e m.r1 (ip6_lines basis age frame) Silent xs [] refl low (fresh-away (over + 1) to over xs part.form.fresh (omega arith))
      (part-yields rulings (λ age frame. ip6_lines basis age frame) (over + 1) to most xs (omega arith) part n frame age m ready e m.r1)
      (λ q0 q1. done rulings n frame m q0 q1))))

  question_sound : IsSound whole
  question_sound =
      sound-byte Ldh 0 12 _ refl (lit< tt) (lit< tt)
      (sound-if_label Jne 0x86dd over (xs ++ (items.Label over ∷ [])) refl (lit< tt) (stands-here over xs [])
      (sound-append xs (items.Label over ∷ []) (sound-fragment (over + 1) to most xs part.form) (sound-label over [] sound-nil)))

  labels_are : labels whole ≡ labels xs ++ (over ∷ [])
  unfolding labels
  labels_are = labels-append xs (items.Label over ∷ [])

  question_form : IsFragment over to (most + 11) whole
  question_form =
      let up : over + 1 ≤ to = part.form.rises in
      fragment-of over to (most + 11) whole question_sound
      (omega arith)
      (subst (λ (ls : List ℕ). AreFresh over to ls) (sym labels_are) (fresh-over over to (labels xs) (omega arith) part.form.fresh))
      (omega (arith, part.form.drawn, ap length labels_are, length-append (labels xs) (over ∷ [])))
      (omega (arith, part.form.short, wide-append xs (items.Label over ∷ []), sum_by-cons wide_size (load Ldh 12) (jump_if Jne 0x86dd (targets.Label over) ∷ (xs ++ (items.Label over ∷ []))), sum_by-cons wide_size (jump_if Jne 0x86dd (targets.Label over)) (xs ++ (items.Label over ∷ []))))

  question_part : IsPart (λ age frame. said_of (ip6 basis age frame)) over to (most + 11) whole
  question_part = record { form = question_form; tells = question_tells }

-- ---- what was added

regrouped : (f t g r u k : List Item) → ((((f ++ t) ++ g) ++ r) ++ u) ++ k ≡ f ++ (t ++ ((g ++ (r ++ u)) ++ k))
regrouped f t g r u k = simp append_assoc

chained : (f t g r u k x1 x2 x3 x4 x5 : List Item) → x1 ≡ f ++ t → x2 ≡ x1 ++ g → x3 ≡ x2 ++ r → x4 ≡ x3 ++ u → x5 ≡ x4 ++ k → x5 ≡ ((((f ++ t) ++ g) ++ r) ++ u) ++ k
chained f t g r u k x1 x2 x3 x4 x5 p q s a b = cc

pub ip6_added : (basis : Basis) (over mid to : ℕ) (chosen : List Chosen) (old x1 x2 x3 x4 new : List Item) → 2 ≤ over → x1 ≡ old ++ ip6_test_items over
    → Emits (λ age frame. said_of (ip6_header_lines basis frame)) ip6_header_room (over + 1) mid x1 x2
    → chosen ≡ basis.chosen → AddsRecords chosen mid to x2 x3
    → x4 ≡ x3 ++ ip6_last_items → new ≡ x4 ++ items.Label over ∷ []
    → AddsIp6 basis over to old new
ip6_added basis over mid to chosen old x1 x2 x3 x4 new low p rules is found r s =
    let records : AddsRecords basis.chosen mid to x2 x3 = subst (λ (cs : List Chosen). AddsRecords cs mid to x2 x3) is found in
    let lines = lines_part basis (over + 1) mid to ip6_header_room (weights basis.chosen) rules.fragment records.rules (omega arith) rules.part records.part in
    record {
      question = ip6_items over rules.fragment records.rules;
      appended = chained old (ip6_test_items over) rules.fragment records.rules ip6_last_items (items.Label over ∷ []) x1 x2 x3 x4 new p rules.appended records.appended r s
          ∙ regrouped old (ip6_test_items over) rules.fragment records.rules ip6_last_items (items.Label over ∷ []);
      part = part-same _ _ over to _ (ip6_room + weights basis.chosen) _ (λ age frame. refl) (omega arith) (question_part basis over to (ip6_header_room + weights basis.chosen + 7) (rules.fragment ++ (records.rules ++ ip6_last_items)) low lines);
      few = omega (arith, rules.few, records.few);
    }
