-- Words of addresses are their texts.
use Rattle.std.proofs.Common.{◌≡◌, ℕ, suc, ◌+◌, ◌-◌, ◌^◌, ◌<◌, ◌≤◌, Bool, true, false, cond, not, eqb, ltb, List, [], ◌∷◌, ◌++◌, length, get_or, take, drop, Option, Some, None, refl, sym, ap, subst, ◌∙◌, arith, lit≤}
use Rattle.std.specs.Int.{w32, to_be_bytes, from_be_bytes}
use Rattle.std.specs.Char.{is_ascii_digit}
use Rattle.std.specs.Fmt.{decimal}
use Rattle.std.specs.List.{list_all, position_or_len, before_first, after_first}
use Rattle.std.specs.Option.{option_map}
use Rattle.std.specs.Net.Text.{ipv4_text}
use Rattle.std.specs.Net.Grammar.{IsDotted, IsIpv4Text}
use Rattle.std.specs.Net.Addr.{ipv4_bits}
use Rattle.std.specs.declared.net.ipv4_addr.Ipv4Addr.{Ipv4Addr}
use Rattle.std.specs.Net.Reader.{read_ipv4, whole_value}
use Rattle.std.proofs.NetLemmas.Ipv4.{read_ipv4_sound, read_ipv4_complete}
use Rattle.std.proofs.lemmas.Bool.{and_parts, and_from, eqb-true, eq-eqb, ltb-true, lt-ltb, ne_eqb}
use Rattle.std.proofs.lemmas.Bool.Decides.{nat_tests}
use Rattle.std.proofs.lemmas.Fmt.{digits_decimal}
use Rattle.std.proofs.lemmas.List.{take_at, append-nil, append_assoc, length-append, length-drop, take_all}
use Rattle.std.proofs.lemmas.List.Sums.{split_at_first, passes_at_first}
use Rattle.std.proofs.lemmas.List.Folds.{list_all-append}
use Rattle.std.proofs.lemmas.Nat.{be_bytes_4, from_be_bytes-to_be_bytes_4}
use Rattle.policy_state.specs.declared.state.Address.{Address}
use Rattle.plain_text.proofs.Numerals.{own}
use Rattle.script_text.specs.declared.words.Endpoint.{Endpoint}
use Rattle.script_text.specs.Words.{ip_word, address_word, endpoint_word}
use Rattle.script_text.specs.Spelling.{SpellsIp, SpellsAddress, SpellsEndpoint}
use Rattle.plain_text.specs.Numbers.{number_within}
use Rattle.script_text.specs.WordReading.{cut_of, ip_of, address_of, endpoint_of}
use Rattle.script_text.proofs.Exactness.{Exact, bind_some, if_some, some_inj}
use Rattle.script_text.proofs.NumberWords.{number_exact}
use Rattle.script_text.proofs.DigitWords.{bytes-cons}

-- ---- cutting at a byte

pub cut_found : (byte : ℕ) (word x y : List ℕ) → cut_of byte word ≡ Some (x, y) → word ≡ x ++ byte ∷ y
unfolding cut_of
cut_found byte word x y e =
    let p = λ (b : ℕ). eqb b byte in
    let g = if_some (ltb (position_or_len p word) (length word)) (Some (before_first p word, after_first p word)) (x, y) e in
    let within = ltb-true (position_or_len p word) (length word) g.0 in
    let at = eqb-true (get_or word (position_or_len p word) 0) byte (passes_at_first p word 0 within) in
    let parts : (before_first p word, after_first p word) ≡ (x, y) = let some = g.1 in cc in
    split_at_first p word 0 within
    ∙ ap (λ (b : ℕ). before_first p word ++ (b ∷ after_first p word)) at
    ∙ ap (λ (t : List ℕ × List ℕ). t.0 ++ (byte ∷ t.1)) parts

-- none of the bytes is this one
abbrev pub lacks : ℕ → ℕ → Bool
lacks byte b = not (eqb b byte)

lacks_is : (byte b : ℕ) → lacks byte b ≡ true → eqb b byte ≡ false
lacks_is byte b e = grind (arith, nat_tests)

position_at : (byte : ℕ) (x y : List ℕ) → list_all (lacks byte) x ≡ true → position_or_len (λ b. eqb b byte) (x ++ byte ∷ y) ≡ length x
position_at byte [] y e = rw (eq-eqb byte byte refl) refl
position_at byte (b ∷ x) y e =
    let parts = and_parts (lacks byte b) (list_all (lacks byte) x) e in
    rw (lacks_is byte b parts.0, position_at byte x y parts.1) (omega arith)

pub cut_of-parts : (byte : ℕ) (x y : List ℕ) → list_all (lacks byte) x ≡ true → cut_of byte (x ++ byte ∷ y) ≡ Some (x, y)
unfolding cut_of
cut_of-parts byte x y e =
    let at = position_at byte x y e in
    let within : ltb (length x) (length (x ++ byte ∷ y)) ≡ true = lt-ltb _ _ (omega (arith, length-append {A = ℕ})) in
    rw (at, within, take_at x (byte ∷ y) (length x) refl) (ap (λ (t : List ℕ). Some (x, t)) (behind byte x y))
  where
    behind : (byte : ℕ) (x y : List ℕ) → drop (length x + 1) (x ++ byte ∷ y) ≡ y
    behind byte [] y = refl
    behind byte (b ∷ x) y = let next : suc (length x) + 1 ≡ suc (length x + 1) = omega arith in rw next (behind byte x y)

-- ---- an address

whole_is : (octets rest : List ℕ) (ip : ℕ) → option_map (from_be_bytes w32) (whole_value (Some (octets, rest))) ≡ Some ip → (rest ≡ []) × (from_be_bytes w32 octets ≡ ip)
whole_is octets [] ip e = (refl, cc)
whole_is octets (b ∷ rest) ip e =
    let some : eqb (length (b ∷ rest)) 0 ≡ false = ne_eqb _ _ (λ n. omega arith) in
    let none : None ≡ Some ip = rw some at e in
    absurd cc

four_bytes : (a b c d : ℕ) → (a < 256) × (b < 256) × (c < 256) × (d < 256) → (i : ℕ) → get_or (a ∷ b ∷ c ∷ d ∷ []) i 0 < 256
four_bytes a b c d fit = bytes-cons a (b ∷ c ∷ d ∷ []) fit.0 (bytes-cons b (c ∷ d ∷ []) fit.1 (bytes-cons c (d ∷ []) fit.2 (bytes-cons d [] fit.3 (λ k. omega arith))))

dotted_spells : (word octets : List ℕ) (ip : ℕ) → IsDotted word octets → from_be_bytes w32 octets ≡ ip → SpellsIp word ip
dotted_spells word octets ip d value =
    let e : from_be_bytes w32 (d.a ∷ d.b ∷ d.c ∷ d.d ∷ []) ≡ ip = ap (from_be_bytes w32) (sym d.value) ∙ value in
    let bytes : to_be_bytes w32 ip ≡ d.a ∷ d.b ∷ d.c ∷ d.d ∷ [] = be_bytes_4 (d.a ∷ d.b ∷ d.c ∷ d.d ∷ []) ip refl (four_bytes d.a d.b d.c d.d d.fit) (sym e) in
    record {
      fits = let fit = d.fit in omega (arith, e);
      spelled = d.spelled ∙ ap ipv4_text (sym bytes);
    }

ip_cases : (word : List ℕ) (ip : ℕ) (r : Option (List ℕ × List ℕ)) → read_ipv4 word ≡ r → option_map (from_be_bytes w32) (whole_value r) ≡ Some ip → SpellsIp word ip
ip_cases word ip None e h = absurd cc
ip_cases word ip (Some (octets, rest)) e h =
    let whole = whole_is octets rest ip h in
    let sound = read_ipv4_sound word octets [] (e ∙ ap (λ (t : List ℕ). Some (octets, t)) whole.0) in
    dotted_spells word octets ip (subst (λ (t : List ℕ). IsDotted t octets) (sym (sound.1 ∙ append-nil sound.0)) sound.2) whole.1

pub ip_word_dotted : (ip : ℕ) → IsDotted (ip_word ip) (to_be_bytes w32 ip)
ip_word_dotted ip = record {
  a = get_or (to_be_bytes w32 ip) 0 0;
  b = get_or (to_be_bytes w32 ip) 1 0;
  c = get_or (to_be_bytes w32 ip) 2 0;
  d = get_or (to_be_bytes w32 ip) 3 0;
  fit = (omega arith, omega arith, omega arith, omega arith);
  value = refl;
  spelled = refl;
}

ip_of-word : (ip : ℕ) → ip < 2 ^ 32 → ip_of (ip_word ip) ≡ Some ip
unfolding ip_of
ip_of-word ip fits =
    let read = rw append-nil at (read_ipv4_complete (ip_word ip) (to_be_bytes w32 ip) [] (ip_word_dotted ip) (lit≤ tt)) in
    ap (λ (r : Option (List ℕ × List ℕ)). option_map (from_be_bytes w32) (whole_value r)) read ∙ ap Some (from_be_bytes-to_be_bytes_4 ip fits)

pub ip_exact : (word : List ℕ) → Exact (ip_of word) (SpellsIp word)
unfolding ip_of
ip_exact word = record {
  found = λ ip e. ip_cases word ip (read_ipv4 word) refl e;
  only = λ ip s. ap ip_of s.spelled ∙ ip_of-word ip s.fits;
}

-- ---- an address with what stands behind it

pub digits_lack : (byte : ℕ) (ds : List ℕ) → ((b : ℕ) → is_ascii_digit b ≡ true → lacks byte b ≡ true) → list_all is_ascii_digit ds ≡ true → list_all (lacks byte) ds ≡ true
digits_lack byte [] one e = refl
digits_lack byte (d ∷ ds) one e =
    let parts = and_parts (is_ascii_digit d) (list_all is_ascii_digit ds) e in
    and_from _ _ (one d parts.0) (digits_lack byte ds one parts.1)

-- a word that was cut is the text of its parts
joined : (byte : ℕ) (word x y s t : List ℕ) → word ≡ x ++ byte ∷ y → x ≡ s → y ≡ t → word ≡ (s ++ byte ∷ []) ++ t
joined byte word x y s t e p q = e ∙ ap (λ (u : List ℕ). u ++ byte ∷ y) p ∙ ap (λ (u : List ℕ). s ++ byte ∷ u) q ∙ sym (append_assoc s (byte ∷ []) t)

octet : (n : ℕ) → n < 256 → list_all is_ascii_digit (decimal n) ≡ true
octet n lt = digits_decimal own n (omega arith)

-- all bytes of an address pass a test that digits and the dot pass
pub ip_word_passes : (q : ℕ → Bool) → ((ds : List ℕ) → list_all is_ascii_digit ds ≡ true → list_all q ds ≡ true) → q 46 ≡ true → (ip : ℕ) → list_all q (ip_word ip) ≡ true
ip_word_passes q digits dot ip =
    let a = get_or (to_be_bytes w32 ip) 0 0 in
    let b = get_or (to_be_bytes w32 ip) 1 0 in
    let c = get_or (to_be_bytes w32 ip) 2 0 in
    let d = get_or (to_be_bytes w32 ip) 3 0 in
    let point : list_all q (46 ∷ []) ≡ true = and_from _ _ dot refl in
    let part : (n : ℕ) → n < 256 → list_all q (decimal n) ≡ true = λ n lt. digits (decimal n) (octet n lt) in
    let join : (x y : List ℕ) → list_all q x ≡ true → list_all q y ≡ true → list_all q (x ++ y) ≡ true = λ x y p r. list_all-append q x y ∙ and_from _ _ p r in
    let one = join (decimal a) (46 ∷ []) (part a (omega arith)) point in
    let two = join _ (46 ∷ []) (join _ (decimal b) one (part b (omega arith))) point in
    let three = join _ (46 ∷ []) (join _ (decimal c) two (part c (omega arith))) point in
    join _ (decimal d) three (part d (omega arith))

ip_word_lacks_slash : (ip : ℕ) → list_all (lacks 47) (ip_word ip) ≡ true
ip_word_lacks_slash ip = ip_word_passes (lacks 47) (λ ds e. digits_lack 47 ds (λ b d. slash b d) e) refl ip
  where
    slash : (b : ℕ) → is_ascii_digit b ≡ true → lacks 47 b ≡ true
    slash b e = grind (arith, nat_tests)

ip_word_lacks_colon : (ip : ℕ) → list_all (lacks 58) (ip_word ip) ≡ true
ip_word_lacks_colon ip = ip_word_passes (lacks 58) (λ ds e. digits_lack 58 ds (λ b d. colon b d) e) refl ip
  where
    colon : (b : ℕ) → is_ascii_digit b ≡ true → lacks 58 b ≡ true
    colon b e = grind (arith, nat_tests)

address_found : (word : List ℕ) (a : Address) → address_of word ≡ Some a → SpellsAddress word a
unfolding address_of
address_found word a e =
    let p = bind_some (cut_of 47 word) _ a e in
    let q = bind_some (ip_of p.0.0) _ a p.2 in
    let n = bind_some (number_within 255 p.0.1) _ a q.2 in
    let ip = (ip_exact p.0.0).found q.0 q.1 in
    let bits = (number_exact 255 p.0.1 (omega arith)).found n.0 n.1 in
    let same = some_inj (record { ip = q.0; prefix = n.0 }) a n.2 in
    subst (SpellsAddress word) same (record {
      ip = ip.fits;
      prefix = bits.0;
      spelled = joined 47 word p.0.0 p.0.1 (ip_word q.0) (decimal n.0) (cut_found 47 word p.0.0 p.0.1 p.1) ip.spelled bits.1;
    })

address_of-word : (a : Address) → a.ip < 2 ^ 32 → a.prefix ≤ 255 → address_of (address_word a) ≡ Some a
unfolding address_of
address_of-word a ip bits =
    rw (append_assoc (ip_word a.ip) (47 ∷ []) (decimal a.prefix), cut_of-parts 47 (ip_word a.ip) (decimal a.prefix) (ip_word_lacks_slash a.ip), ip_of-word a.ip ip, (number_exact 255 (decimal a.prefix) (omega arith)).only a.prefix ((bits, refl))) refl

pub address_exact : (word : List ℕ) → Exact (address_of word) (SpellsAddress word)
address_exact word = record {
  found = λ a e. address_found word a e;
  only = λ a s. ap address_of s.spelled ∙ address_of-word a s.ip s.prefix;
}

endpoint_found : (word : List ℕ) (a : Endpoint) → endpoint_of word ≡ Some a → SpellsEndpoint word a
unfolding endpoint_of
endpoint_found word a e =
    let p = bind_some (cut_of 58 word) _ a e in
    let q = bind_some (ip_of p.0.0) _ a p.2 in
    let n = bind_some (number_within 65535 p.0.1) _ a q.2 in
    let ip = (ip_exact p.0.0).found q.0 q.1 in
    let port = (number_exact 65535 p.0.1 (omega arith)).found n.0 n.1 in
    let same = some_inj (record { ip = q.0; port = n.0 }) a n.2 in
    subst (SpellsEndpoint word) same (record {
      ip = ip.fits;
      port = let most = port.0 in omega arith;
      spelled = joined 58 word p.0.0 p.0.1 (ip_word q.0) (decimal n.0) (cut_found 58 word p.0.0 p.0.1 p.1) ip.spelled port.1;
    })

endpoint_of-word : (a : Endpoint) → a.ip < 2 ^ 32 → a.port < 2 ^ 16 → endpoint_of (endpoint_word a) ≡ Some a
unfolding endpoint_of
endpoint_of-word a ip port =
    rw (append_assoc (ip_word a.ip) (58 ∷ []) (decimal a.port), cut_of-parts 58 (ip_word a.ip) (decimal a.port) (ip_word_lacks_colon a.ip), ip_of-word a.ip ip, (number_exact 65535 (decimal a.port) (omega arith)).only a.port ((omega arith, refl))) refl

pub endpoint_exact : (word : List ℕ) → Exact (endpoint_of word) (SpellsEndpoint word)
endpoint_exact word = record {
  found = λ a e. endpoint_found word a e;
  only = λ a s. ap endpoint_of s.spelled ∙ endpoint_of-word a s.ip s.port;
}

-- ---- what the calls answer

pub cut_at : (byte at : ℕ) (word : List ℕ) → Some at ≡ cond (ltb (position_or_len (λ b. eqb b byte) word) (length word)) (Some (position_or_len (λ b. eqb b byte) word)) None
    → Some (take at word, take (length word - (at + 1)) (drop (at + 1) word)) ≡ cut_of byte word
unfolding cut_of
cut_at byte at word e =
    let n = position_or_len (λ b. eqb b byte) word in
    let g = if_some (ltb n (length word)) (Some n) at (sym e) in
    let same : n ≡ at = some_inj n at g.1 in
    rw (g.0, same, take_all (length word - (at + 1)) (drop (at + 1) word) (omega (arith, length-drop (at + 1) word))) refl

pub cut_none : (byte : ℕ) (word : List ℕ) (b : Bool) → ltb (position_or_len (λ b. eqb b byte) word) (length word) ≡ b → None ≡ cond b (Some (position_or_len (λ b. eqb b byte) word)) None → None ≡ cut_of byte word
unfolding cut_of
cut_none byte word true e h = absurd cc
cut_none byte word false e h = rw e refl

pub ip_read : (word : List ℕ) (a : Ipv4Addr) → IsIpv4Text word a → Some (ipv4_bits a) ≡ ip_of word
unfolding ip_of ipv4_bits
ip_read word a d =
    let read = rw append-nil at (read_ipv4_complete word a.octets [] d (lit≤ tt)) in
    sym (ap (λ (r : Option (List ℕ × List ℕ)). option_map (from_be_bytes w32) (whole_value r)) read)

ip_refused_cases : (word : List ℕ) → ((a : Ipv4Addr) → IsIpv4Text word a → ⊥) → (o : Option ℕ) → ip_of word ≡ o → None ≡ o
ip_refused_cases word none None e = refl
ip_refused_cases word none (Some ip) e =
    let s = (ip_exact word).found ip e in
    let d = subst (λ (t : List ℕ). IsDotted t (to_be_bytes w32 ip)) (sym s.spelled) (ip_word_dotted ip) in
    absurd (none (record { octets = to_be_bytes w32 ip }) d)

pub ip_refused : (word : List ℕ) → ((a : Ipv4Addr) → IsIpv4Text word a → ⊥) → None ≡ ip_of word
ip_refused word none = ip_refused_cases word none (ip_of word) refl
