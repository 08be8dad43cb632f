-- The machine reads the first immediate of a signed number as that number.
use Rattle.std.proofs.Common.{◌≡◌, ℕ, suc, ◌+◌, ◌-◌, ◌*◌, ◌^◌, ◌<◌, ◌≤◌, Bool, true, false, cond, eqb, ltb, refl, ap, ◌∙◌, arith}
use Rattle.std.specs.Prelude.{ℤ, pos, negsuc, FitsSigned}
use Rattle.std.specs.Int.{w32, cast_unsigned}
use Rattle.std.proofs.lemmas.Bool.{eqb-true, ltb-true, lt-ltb, le-ltb}
use Rattle.apf_coding.specs.Widths.{least_signed}
use Rattle.apf_coding.specs.Instruction.{Instruction}
use Rattle.apf_coding.specs.Meaning.{signed}
use Rattle.apf_asm.specs.TextForms.{immediate}

-- a number of so many bytes, read as a signed one
abbrev read_signed : ℕ → ℕ → ℕ
read_signed imm width = cond (ltb (2 * imm) (256 ^ width)) imm (imm + (2 ^ 32 - 256 ^ width))

low : (imm width : ℕ) → 2 * imm < 256 ^ width → read_signed imm width ≡ imm
low imm width lt = rw (lt-ltb (2 * imm) (256 ^ width) lt) refl

positive_value : (n : ℕ) (a b c : Bool) → eqb n 0 ≡ a → ltb n 128 ≡ b → ltb n 32768 ≡ c → n < 2 ^ 31 → read_signed n (cond a 0 (cond b 1 (cond c 2 4))) ≡ n
positive_value n true b c p q r small = low n 0 (let e = eqb-true n 0 p in omega arith)
positive_value n false true c p q r small = low n 1 (let lt = ltb-true n 128 q in omega arith)
positive_value n false false true p q r small = low n 2 (let lt = ltb-true n 32768 r in omega arith)
positive_value n false false false p q r small = low n 4 (omega arith)

-- the bits of -(n + 1) in a width that holds it
high : (n most : ℕ) → 2 * (n + 1) ≤ most → most ≤ 2 ^ 32 → cond (ltb (2 * (most - (n + 1))) most) (most - (n + 1)) (most - (n + 1) + (2 ^ 32 - most)) ≡ 2 ^ 32 - suc n
high n most half fits = rw (le-ltb (2 * (most - (n + 1))) most (omega arith)) (omega arith)

negative_value : (n : ℕ) (b c : Bool) → ltb n 128 ≡ b → ltb n 32768 ≡ c → n < 2 ^ 31 → read_signed (256 ^ cond b 1 (cond c 2 4) - (n + 1)) (cond b 1 (cond c 2 4)) ≡ 2 ^ 32 - suc n
negative_value n true c q r small = high n 256 (let lt = ltb-true n 128 q in omega arith) (omega arith)
negative_value n false true q r small = high n 65536 (let lt = ltb-true n 32768 r in omega arith) (omega arith)
negative_value n false false q r small = high n (2 ^ 32) (omega arith) (omega arith)

value_of : (z : ℤ) → FitsSigned w32 z → read_signed (immediate z) (least_signed z) ≡ cast_unsigned w32 z
value_of (pos n) fits = positive_value n (eqb n 0) (ltb n 128) (ltb n 32768) refl refl refl fits.sfits
value_of (negsuc n) fits = negative_value n (ltb n 128) (ltb n 32768) refl refl fits.sfits

pub value_kept : (z : ℤ) (i : Instruction) → FitsSigned w32 z → i.width ≡ least_signed z → i.imm ≡ immediate z → signed i ≡ cast_unsigned w32 z
value_kept z i fits width imm = ap (read_signed i.imm) width ∙ ap (λ (n : ℕ). read_signed n (least_signed z)) imm ∙ value_of z fits
