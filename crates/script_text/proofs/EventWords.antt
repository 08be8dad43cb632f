-- Events are the texts of what they say.
use Rattle.std.proofs.Common.{◌≡◌, ℕ, ◌^◌, ◌<◌, ◌≤◌, Bool, true, false, cond, eqb, List, [], ◌∷◌, ◌++◌, Option, Some, None, refl, sym, ap, subst, ◌∙◌, append_assoc, arith, inl, inr}
use Rattle.std.specs.Prelude.{codes, ◌⊎◌}
use Rattle.std.specs.Str.{bytes_eq}
use Rattle.std.specs.Char.{is_ascii_digit}
use Rattle.std.specs.Fmt.{decimal}
use Rattle.std.specs.List.{join_with_byte, list_all}
use Rattle.std.proofs.lemmas.Bool.{and_from}
use Rattle.std.proofs.lemmas.Bool.Decides.{nat_tests}
use Rattle.std.proofs.lemmas.Fmt.{digits_decimal}
use Rattle.std.proofs.lemmas.List.Folds.{list_all-append}
use Rattle.apf_coding.specs.Reading.{◌>>=◌}
use Rattle.policy_state.specs.declared.state.Address.{Address}
use Rattle.policy_state.specs.declared.state.Keepalive.{Keepalive}
use Rattle.policy_state.specs.declared.update.Update.{Update}
use Rattle.policy_state.specs.declared.update.Update.TheVariants as updates
use Rattle.policy_state.specs.declared.basis.Timed.{Timed}
use Rattle.plain_text.proofs.Numerals.{own}
use Rattle.script_text.specs.declared.words.Endpoint.{Endpoint}
use Rattle.script_text.specs.Words.{ip_word, address_word, endpoint_word}
use Rattle.plain_text.specs.Numbers.{number_within}
use Rattle.script_text.specs.WordReading.{cut_of, address_of, endpoint_of}
use Rattle.policy_state.specs.Ranges.{IsKeepalive}
use Rattle.script_text.specs.ScriptLines.{switch_word, keepalive_words, update_text, event_line, local_end, remote_end, IsWordNumber, IsScriptUpdate, IsEvent}
use Rattle.script_text.specs.ScriptReading.{behind, switch_of, added_read, address_read, tried, update_of, event_of}
use Rattle.script_text.proofs.Exactness.{Exact, bind_some, some_inj}
use Rattle.script_text.proofs.AddressWords.{lacks, digits_lack, ip_word_passes, cut_found, cut_of-parts, address_exact, endpoint_exact}
use Rattle.plain_text.proofs.Words.{equal_words}
use Rattle.script_text.proofs.LineWords.{text_is_other, behind_found, behind-front, word_exact, switch_exact, switch_of-word}

-- ---- words without blanks

digit_no_blank : (b : ℕ) → is_ascii_digit b ≡ true → lacks 32 b ≡ true
digit_no_blank b e = grind (arith, nat_tests)

number_no_blank : (n : ℕ) → n < 2 ^ 64 → list_all (lacks 32) (decimal n) ≡ true
number_no_blank n small = digits_lack 32 (decimal n) digit_no_blank (digits_decimal own n small)

endpoint_no_blank : (e : Endpoint) → e.port < 2 ^ 16 → list_all (lacks 32) (endpoint_word e) ≡ true
endpoint_no_blank e port =
    let ip = ip_word_passes (lacks 32) (λ ds d. digits_lack 32 ds digit_no_blank d) refl e.ip in
    let front : list_all (lacks 32) (ip_word e.ip ++ codes ":") ≡ true = list_all-append (lacks 32) (ip_word e.ip) (codes ":") ∙ and_from _ _ ip refl in
    list_all-append (lacks 32) (ip_word e.ip ++ codes ":") (decimal e.port) ∙ and_from _ _ front (number_no_blank e.port (omega arith))

-- ---- a keepalive

-- the ends as they were read, which are those of the keepalive
abbrev sent_of : Endpoint → Endpoint → ℕ → ℕ → Keepalive
sent_of local remote sequence acknowledgement = record {
  local = local.ip;
  local_port = local.port;
  remote = remote.ip;
  remote_port = remote.port;
  sequence = sequence;
  acknowledgement = acknowledgement;
}

five_words : (text a b c d e u v w x y : List ℕ) (r s t : List ℕ) → text ≡ a ++ 32 ∷ r → r ≡ b ++ 32 ∷ s → s ≡ c ++ 32 ∷ t → t ≡ d ++ 32 ∷ e
    → a ≡ u → b ≡ v → c ≡ w → d ≡ x → e ≡ y → text ≡ join_with_byte 32 (u ∷ v ∷ w ∷ x ∷ y ∷ [])
five_words text a b c d e u v w x y r s t p q m n i j k l o = p ∙ rw (q, m, n, i, j, k, l, o) refl

added_found : (text : List ℕ) (update : Update) → added_read text ≡ Some update → IsScriptUpdate update × (codes "keepalive add " ++ text ≡ update_text update)
unfolding added_read
added_found text update h =
    let a = bind_some (cut_of 32 text) _ update h in
    let slot = bind_some (number_within 4294967295 a.0.0) _ update a.2 in
    let b = bind_some (cut_of 32 a.0.1) _ update slot.2 in
    let local = bind_some (endpoint_of b.0.0) _ update b.2 in
    let c = bind_some (cut_of 32 b.0.1) _ update local.2 in
    let remote = bind_some (endpoint_of c.0.0) _ update c.2 in
    let d = bind_some (cut_of 32 c.0.1) _ update remote.2 in
    let sequence = bind_some (number_within 4294967295 d.0.0) _ update d.2 in
    let acknowledgement = bind_some (number_within 4294967295 d.0.1) _ update sequence.2 in
    let s = (word_exact a.0.0).found slot.0 slot.1 in
    let l = (endpoint_exact b.0.0).found local.0 local.1 in
    let r = (endpoint_exact c.0.0).found remote.0 remote.1 in
    let q = (word_exact d.0.0).found sequence.0 sequence.1 in
    let k = (word_exact d.0.1).found acknowledgement.0 acknowledgement.1 in
    let same = some_inj (updates.KeepaliveAdd slot.0 (sent_of local.0 remote.0 sequence.0 acknowledgement.0)) update acknowledgement.2 in
    let spelled : text ≡ join_with_byte 32 (keepalive_words slot.0 (sent_of local.0 remote.0 sequence.0 acknowledgement.0)) =
    five_words text a.0.0 b.0.0 c.0.0 d.0.0 d.0.1 (decimal slot.0) (endpoint_word local.0) (endpoint_word remote.0) (decimal sequence.0) (decimal acknowledgement.0) a.0.1 b.0.1 c.0.1
    (cut_found 32 text a.0.0 a.0.1 a.1) (cut_found 32 a.0.1 b.0.0 b.0.1 b.1) (cut_found 32 b.0.1 c.0.0 c.0.1 c.1) (cut_found 32 c.0.1 d.0.0 d.0.1 d.1)
    s.1 l.spelled r.spelled q.1 k.1 in
    subst (λ (u : Update). IsScriptUpdate u × (codes "keepalive add " ++ text ≡ update_text u)) same (
      (s.0, record { local = l.ip; local_port = l.port; remote = r.ip; remote_port = r.port; sequence = q.0; acknowledgement = k.0 }),
      ap (λ (t : List ℕ). codes "keepalive add " ++ t) spelled,
    )

word_read : (n : ℕ) → IsWordNumber n → number_within 4294967295 (decimal n) ≡ Some n
word_read n small = (word_exact (decimal n)).only n (small, refl)

end_read : (e : Endpoint) → e.ip < 2 ^ 32 → e.port < 2 ^ 16 → endpoint_of (endpoint_word e) ≡ Some e
end_read e ip port = (endpoint_exact (endpoint_word e)).only e (record { ip = ip; port = port; spelled = refl })

added_again : (slot : ℕ) (sent : Keepalive) → IsWordNumber slot → IsKeepalive sent → added_read (join_with_byte 32 (keepalive_words slot sent)) ≡ Some (updates.KeepaliveAdd slot sent)
unfolding added_read
added_again slot sent small k =
    let local_port = k.local_port in
    let remote_port = k.remote_port in
    let sequence = k.sequence in
    rw (
      cut_of-parts 32 (decimal slot) _ (number_no_blank slot (omega arith)),
      word_read slot small,
      cut_of-parts 32 (endpoint_word (local_end sent)) _ (endpoint_no_blank (local_end sent) local_port),
      end_read (local_end sent) k.local local_port,
      cut_of-parts 32 (endpoint_word (remote_end sent)) _ (endpoint_no_blank (remote_end sent) remote_port),
      end_read (remote_end sent) k.remote remote_port,
      cut_of-parts 32 (decimal sent.sequence) _ (number_no_blank sent.sequence (omega arith)),
      word_read sent.sequence sequence,
      word_read sent.acknowledgement k.acknowledgement,
    )
    refl

-- ---- an address

address_cases : (word : List ℕ) (update : Update) (yes : Bool) → bytes_eq word (codes "none") ≡ yes
    → cond yes (Some (updates.Address None)) (address_of word >>= λ a. Some (updates.Address (Some a))) ≡ Some update → IsScriptUpdate update × (codes "address " ++ word ≡ update_text update)
address_cases word update true p e =
    subst (λ (u : Update). IsScriptUpdate u × (codes "address " ++ word ≡ update_text u)) (some_inj (updates.Address None) update e)
    (tt, ap (λ (t : List ℕ). codes "address " ++ t) (equal_words word (codes "none") p))
address_cases word update false p e =
    let a = bind_some (address_of word) _ update e in
    let s = (address_exact word).found a.0 a.1 in
    subst (λ (u : Update). IsScriptUpdate u × (codes "address " ++ word ≡ update_text u)) (some_inj (updates.Address (Some a.0)) update a.2)
    ((s.ip, s.prefix), ap (λ (t : List ℕ). codes "address " ++ t) s.spelled)

address_found : (word : List ℕ) (update : Update) → address_read word ≡ Some update → IsScriptUpdate update × (codes "address " ++ word ≡ update_text update)
unfolding address_read
address_found word update e = address_cases word update (bytes_eq word (codes "none")) refl e

none_is_no_address : address_of (codes "none") ≡ None
unfolding address_of cut_of
none_is_no_address = refl

address_again : (a : Address) → IsWordNumber a.ip → a.prefix ≤ 255 → address_read (address_word a) ≡ Some (updates.Address (Some a))
unfolding address_read
address_again a ip bits =
    let read = (address_exact (address_word a)).only a (record { ip = ip; prefix = bits; spelled = refl }) in
    let other : bytes_eq (address_word a) (codes "none") ≡ false = text_is_other (address_word a) (codes "none") (λ same. let none = ap address_of same ∙ none_is_no_address in absurd cc) in
    rw (other, read) refl

-- ---- an update

tried_some : (o : Option (List ℕ)) (read : List ℕ → Option Update) (other : Option Update) (update : Update) → tried o read other ≡ Some update
    → ((word : List ℕ) × (o ≡ Some word) × (read word ≡ Some update)) ⊎ (other ≡ Some update)
tried_some (Some word) read other update e = inl (word, refl, e)
tried_some None read other update e = inr e

abbrev Updates : List ℕ → Update → Type 0
Updates text update = IsScriptUpdate update × (text ≡ update_text update)

-- an update that is read behind a prefix
behind_updates : (front text word : List ℕ) (update : Update) → behind front text ≡ Some word → IsScriptUpdate update × (front ++ word ≡ update_text update) → Updates text update
behind_updates front text word update b s = (s.0, behind_found front text word b ∙ s.1)

multicast_found : (word : List ℕ) (update : Update) → (switch_of word >>= λ on. Some (updates.Multicast on)) ≡ Some update → IsScriptUpdate update × (codes "multicast " ++ word ≡ update_text update)
multicast_found word update e =
    let p = bind_some (switch_of word) _ update e in
    subst (λ (u : Update). IsScriptUpdate u × (codes "multicast " ++ word ≡ update_text u)) (some_inj (updates.Multicast p.0) update p.2)
    (tt, ap (λ (t : List ℕ). codes "multicast " ++ t) ((switch_exact word).found p.0 p.1))

doze_found : (word : List ℕ) (update : Update) → (switch_of word >>= λ on. Some (updates.Doze on)) ≡ Some update → IsScriptUpdate update × (codes "doze " ++ word ≡ update_text update)
doze_found word update e =
    let p = bind_some (switch_of word) _ update e in
    subst (λ (u : Update). IsScriptUpdate u × (codes "doze " ++ word ≡ update_text u)) (some_inj (updates.Doze p.0) update p.2)
    (tt, ap (λ (t : List ℕ). codes "doze " ++ t) ((switch_exact word).found p.0 p.1))

remove_found : (word : List ℕ) (update : Update) → (number_within 4294967295 word >>= λ slot. Some (updates.KeepaliveRemove slot)) ≡ Some update → IsScriptUpdate update × (codes "keepalive remove " ++ word ≡ update_text update)
remove_found word update e =
    let p = bind_some (number_within 4294967295 word) _ update e in
    let s = (word_exact word).found p.0 p.1 in
    subst (λ (u : Update). IsScriptUpdate u × (codes "keepalive remove " ++ word ≡ update_text u)) (some_inj (updates.KeepaliveRemove p.0) update p.2)
    (s.0, ap (λ (t : List ℕ). codes "keepalive remove " ++ t) s.1)

update_found : (text : List ℕ) (update : Update) → update_of text ≡ Some update → Updates text update
unfolding update_of
update_found text u e =
    elim (tried_some (behind (codes "multicast ") text) _ _ u e) [
      | inl h ↦ behind_updates (codes "multicast ") text h.0 u h.1 (multicast_found h.0 u h.2)
      | inr e1 ↦ elim (tried_some (behind (codes "doze ") text) _ _ u e1) [
        | inl h ↦ behind_updates (codes "doze ") text h.0 u h.1 (doze_found h.0 u h.2)
        | inr e2 ↦ elim (tried_some (behind (codes "address ") text) _ _ u e2) [
          | inl h ↦ behind_updates (codes "address ") text h.0 u h.1 (address_found h.0 u h.2)
          | inr e3 ↦ elim (tried_some (behind (codes "keepalive add ") text) _ _ u e3) [
            | inl h ↦ behind_updates (codes "keepalive add ") text h.0 u h.1 (added_found h.0 u h.2)
            | inr e4 ↦ elim (tried_some (behind (codes "keepalive remove ") text) _ _ u e4) [
              | inl h ↦ behind_updates (codes "keepalive remove ") text h.0 u h.1 (remove_found h.0 u h.2)
              | inr e5 ↦ absurd cc
            ]
          ]
        ]
      ]
    ]

address_none : address_read (codes "none") ≡ Some (updates.Address None)
unfolding address_read
address_none = refl

-- a text that begins otherwise
no_multicast : (b : ℕ) (rest : List ℕ) → eqb b 109 ≡ false → behind (codes "multicast ") (b ∷ rest) ≡ None
unfolding behind
no_multicast b rest e = rw e refl

no_doze : (b : ℕ) (rest : List ℕ) → eqb b 100 ≡ false → behind (codes "doze ") (b ∷ rest) ≡ None
unfolding behind
no_doze b rest e = rw e refl

no_address : (b : ℕ) (rest : List ℕ) → eqb b 97 ≡ false → behind (codes "address ") (b ∷ rest) ≡ None
unfolding behind
no_address b rest e = rw e refl

no_add : (rest : List ℕ) → behind (codes "keepalive add ") (codes "keepalive remove " ++ rest) ≡ None
unfolding behind
no_add rest = refl

update_again : (u : Update) → IsScriptUpdate u → update_of (update_text u) ≡ Some u
unfolding update_of
update_again (updates.Multicast on) s = rw (behind-front (codes "multicast ") (switch_word on), switch_of-word on) refl
update_again (updates.Doze on) s = rw (no_multicast 100 _ refl, behind-front (codes "doze ") (switch_word on), switch_of-word on) refl
update_again (updates.Address None) s = rw (no_multicast 97 _ refl, no_doze 97 _ refl, behind-front (codes "address ") (codes "none")) (address_none)
update_again (updates.Address (Some a)) s = rw (no_multicast 97 _ refl, no_doze 97 _ refl, behind-front (codes "address ") (address_word a)) (address_again a s.0 s.1)
update_again (updates.KeepaliveAdd slot sent) s = rw (no_multicast 107 _ refl, no_doze 107 _ refl, no_address 107 _ refl, behind-front (codes "keepalive add ") (join_with_byte 32 (keepalive_words slot sent))) (added_again slot sent s.0 s.1)
update_again (updates.KeepaliveRemove slot) s = rw (no_multicast 107 _ refl, no_doze 107 _ refl, no_address 107 _ refl, no_add (decimal slot), behind-front (codes "keepalive remove ") (decimal slot), word_read slot s) refl

pub update_exact : (text : List ℕ) → Exact (update_of text) (λ u. IsScriptUpdate u × (text ≡ update_text u))
update_exact text = record {
  found = λ u e. update_found text u e;
  only = λ u s. ap update_of s.1 ∙ update_again u s.0;
}

-- ---- an event

regroup : (a b c d : List ℕ) → ((a ++ b) ++ c) ++ d ≡ a ++ (b ++ (c ++ d))
regroup a b c d = simp append_assoc

event_words : (line text time update : List ℕ) (s t : List ℕ) → line ≡ codes "at " ++ text → text ≡ s ++ 32 ∷ t → s ≡ time → t ≡ update → line ≡ codes "at " ++ time ++ codes " " ++ update
event_words line text time update s t p q i j = p ∙ ap (λ (x : List ℕ). codes "at " ++ x) (q ∙ rw (i, j) refl) ∙ sym (regroup (codes "at ") time (codes " ") update)

event_found : (line : List ℕ) (e : Timed) → event_of line ≡ Some e → IsEvent e × (line ≡ event_line e)
unfolding event_of
event_found line e h =
    let text = bind_some (behind (codes "at ") line) _ e h in
    let parts = bind_some (cut_of 32 text.0) _ e text.2 in
    let time = bind_some (number_within 4294967295 parts.0.0) _ e parts.2 in
    let update = bind_some (update_of parts.0.1) _ e time.2 in
    let t = (word_exact parts.0.0).found time.0 time.1 in
    let u = (update_exact parts.0.1).found update.0 update.1 in
    let same = some_inj (record { time = time.0; update = update.0 }) e update.2 in
    subst (λ (x : Timed). IsEvent x × (line ≡ event_line x)) same (
      (t.0, u.0),
      event_words line text.0 (decimal time.0) (update_text update.0) parts.0.0 parts.0.1 (behind_found (codes "at ") line text.0 text.1) (cut_found 32 text.0 parts.0.0 parts.0.1 parts.1) t.1 u.1,
    )

event_again : (e : Timed) → IsEvent e → event_of (event_line e) ≡ Some e
unfolding event_of
event_again e s =
    let small = s.0 in
    rw (
      regroup (codes "at ") (decimal e.time) (codes " ") (update_text e.update),
      behind-front (codes "at ") (decimal e.time ++ (codes " " ++ update_text e.update)),
      cut_of-parts 32 (decimal e.time) (update_text e.update) (number_no_blank e.time (omega arith)),
      word_read e.time s.0,
      update_again e.update s.1,
    )
    refl

pub event_exact : (line : List ℕ) → Exact (event_of line) (λ e. IsEvent e × (line ≡ event_line e))
event_exact line = record {
  found = λ e h. event_found line e h;
  only = λ e s. ap event_of s.1 ∙ event_again e s.0;
}
