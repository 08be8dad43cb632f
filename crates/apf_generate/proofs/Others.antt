-- The items for all other frames say what their question answers.
use Rattle.std.proofs.Common.{◌≡◌, ℕ, cond, not, List, [], Option, Some, None, refl, arith, lit<, lit≤}
use Rattle.std.specs.Prelude.{bytes_eq}
use Rattle.apf_coding.specs.declared.instruction.Op.TheVariants.{Li}
use Rattle.apf_coding.specs.declared.machine.Verdict.TheVariants.{Pass, Drop}
use Rattle.data_counters.specs.declared.counter.Counter.TheVariants.{PassedNonIpUnicast, DroppedEthBroadcast}
use Rattle.data_counters.specs.Counters.{number_of}
use Rattle.policy_state.specs.declared.ruling.Ruling.{Ruling}
use Rattle.policy_state.specs.declared.ruling.Ruling.TheVariants.{Says}
use Rattle.policy_state.specs.Asking.{reading}
use Rattle.policy_state.specs.Ethernet.{destination, broadcast}
use Rattle.policy_state.specs.Policy.{others}
use Rattle.policy_state.proofs.FieldsSeen.{bytes_seen}
use Rattle.apf_asm.specs.Fragment.{IsPart, labels}
use Rattle.apf_asm.specs.Saying.{TellsSaid}
use Rattle.apf_asm.proofs.Forms.{IsSound, bytes_fit, sound-nil, sound-byte, sound-jump_end, sound-unless_end, sound-count}
use Rattle.apf_asm.proofs.Parts.{fragment-of}
use Rattle.apf_asm.proofs.Rules.{done, restated, counts, places, answers, answers_unless, told}
use Rattle.policy_state.specs.Rulings.{said_of}
use Rattle.policy_state.proofs.Rulings.{rulings}
use Rattle.policy_state.proofs.Rulings.{has_word}
use Rattle.apf_generate.specs.Listing.{last_items}
use Rattle.ip_rules.proofs.Ip4Ruling.{cond-not}

-- ---- the rulings as the items come to them are those of the table

abbrev last_of : Option (List ℕ) → Ruling
last_of mac = reading mac (λ there. cond (not (bytes_eq there broadcast)) (Says Pass PassedNonIpUnicast) (Says Drop DroppedEthBroadcast))

last_same : (mac : Option (List ℕ)) → last_of mac ≡ reading mac (λ there. cond (bytes_eq there broadcast) (Says Drop DroppedEthBroadcast) (Says Pass PassedNonIpUnicast))
last_same None = refl
last_same (Some there) = cond-not (bytes_eq there broadcast) _ _

-- ---- the items come to them

others_tell : TellsSaid (λ age frame. said_of (others frame)) last_items
others_tell = told rulings (λ age frame. others frame) _ (λ n frame age m ready.
    restated rulings n frame m m.r0 m.r1 _ _ _ (last_same (destination frame))
    (places rulings n frame m m.r0 m.r1 1 0 _ _ (lit< tt)
    (counts rulings n frame m 0 _ PassedNonIpUnicast _ _
    (answers_unless rulings n frame m 0 broadcast Pass PassedNonIpUnicast _ _ (destination frame) (bytes_seen frame 0 6) (lit< tt)
    (counts rulings n frame m 0 _ DroppedEthBroadcast _ _
    (answers rulings n frame m 0 Drop DroppedEthBroadcast _ _ (done rulings n frame m 0 _)))))))

-- ---- their form

sound-last : IsSound last_items
sound-last =
    sound-byte Li 0 0 _ refl (lit< tt) (lit< tt) (sound-count (number_of PassedNonIpUnicast) _ (has_word PassedNonIpUnicast) (sound-unless_end broadcast Pass _ (lit< tt) (lit≤ tt) (bytes_fit broadcast refl)
    (sound-count (number_of DroppedEthBroadcast) _ (has_word DroppedEthBroadcast) (sound-jump_end Drop [] sound-nil))))

pub others_part : (next : ℕ) → IsPart (λ age frame. said_of (others frame)) next next 26 last_items
unfolding labels
others_part next = record {
  form = fragment-of next next 26 last_items sound-last (omega arith) tt (omega arith) (lit≤ tt);
  tells = others_tell;
}
