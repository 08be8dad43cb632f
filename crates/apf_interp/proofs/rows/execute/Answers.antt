-- Each row is the turn of its opcode.
use Rattle.std.proofs.Common.{refl, arith}
use Rattle.apf_coding.specs.declared.instruction.Op.TheVariants.{Ldb, Ldh, Ldw, Ldbx, Ldhx, Ldwx, Add, Mul, And, Or, Sh, Li, Jmp, Jeq, Jne, Jgt, Jlt, Jset, Ext, Lddw, Stdw}
use Rattle.apf_coding.specs.Meaning.{load, extended, load_data, store_data}
use Rattle.apf_coding.specs.Run.{machine_state}
use Rattle.apf_interp.specs.Effect.{loads, stores}
use Rattle.apf_interp.proofs.Acts.{by_plain, by_compare, by_bytes, by_division, turn-none}
use Rattle.apf_interp.proofs.rows.execute.Goals as goal

pub returns-in-1 : goal.returns-in-1
unfolding load
returns-in-1 c = by_plain c.args.c.now c.args.frame.now Ldb _ _ _ c.in-1.is refl refl (c.load.ensures c.args.memory.now)

pub returns-in-2 : goal.returns-in-2
unfolding load
returns-in-2 c = by_plain c.args.c.now c.args.frame.now Ldh _ _ _ c.in-2.is refl refl (c.load-in-2.ensures c.args.memory.now)

pub returns-in-3 : goal.returns-in-3
unfolding load
returns-in-3 c = by_plain c.args.c.now c.args.frame.now Ldw _ _ _ c.in-3.is refl refl (c.load-in-3.ensures c.args.memory.now)

pub returns-in-4 : goal.returns-in-4
unfolding load
returns-in-4 c = by_plain c.args.c.now c.args.frame.now Ldbx _ _ _ c.in-4.is refl refl (c.load_indexed.ensures c.args.memory.now)

pub returns-in-5 : goal.returns-in-5
unfolding load
returns-in-5 c = by_plain c.args.c.now c.args.frame.now Ldhx _ _ _ c.in-5.is refl refl (c.load_indexed-in-5.ensures c.args.memory.now)

pub returns-in-6 : goal.returns-in-6
unfolding load
returns-in-6 c = by_plain c.args.c.now c.args.frame.now Ldwx _ _ _ c.in-6.is refl refl (c.load_indexed-in-6.ensures c.args.memory.now)

pub returns-in-7 : goal.returns-in-7
returns-in-7 c = by_plain c.args.c.now c.args.frame.now Add _ _ _ c.in-7.is refl refl (c.join.ensures c.args.memory.now)

pub returns-in-8 : goal.returns-in-8
returns-in-8 c = by_plain c.args.c.now c.args.frame.now Mul _ _ _ c.in-8.is refl refl (c.join-in-8.ensures c.args.memory.now)

pub returns-in-9 : goal.returns-in-9
returns-in-9 c = by_division c.args.c.now c.args.frame.now _ _ _ c.in-9.is (c.join-in-9.ensures c.args.memory.now)

pub returns-in-10 : goal.returns-in-10
returns-in-10 c = by_plain c.args.c.now c.args.frame.now And _ _ _ c.in-10.is refl refl (c.join-in-10.ensures c.args.memory.now)

pub returns-in-11 : goal.returns-in-11
returns-in-11 c = by_plain c.args.c.now c.args.frame.now Or _ _ _ c.in-11.is refl refl (c.join-in-11.ensures c.args.memory.now)

pub returns-in-12 : goal.returns-in-12
returns-in-12 c = by_plain c.args.c.now c.args.frame.now Sh _ _ _ c.in-12.is refl refl (c.shift.ensures c.args.memory.now)

pub returns-in-13 : goal.returns-in-13
returns-in-13 c = by_plain c.args.c.now c.args.frame.now Li _ _ _ c.in-13.is refl refl (c.set.ensures c.args.memory.now)

pub returns-in-14 : goal.returns-in-14
returns-in-14 c = by_plain c.args.c.now c.args.frame.now Jmp _ _ _ c.in-14.is refl refl (c.jump.ensures (machine_state c.args.m.now c.args.memory.now))

pub returns-in-15 : goal.returns-in-15
returns-in-15 c = by_compare c.args.c.now c.args.frame.now Jeq _ _ _ c.in-15.is refl refl (λ i. refl) (c.compare.ensures c.args.memory.now)

pub returns-in-16 : goal.returns-in-16
returns-in-16 c = by_compare c.args.c.now c.args.frame.now Jne _ _ _ c.in-16.is refl refl (λ i. refl) (c.compare-in-16.ensures c.args.memory.now)

pub returns-in-17 : goal.returns-in-17
returns-in-17 c = by_compare c.args.c.now c.args.frame.now Jgt _ _ _ c.in-17.is refl refl (λ i. refl) (c.compare-in-17.ensures c.args.memory.now)

pub returns-in-18 : goal.returns-in-18
returns-in-18 c = by_compare c.args.c.now c.args.frame.now Jlt _ _ _ c.in-18.is refl refl (λ i. refl) (c.compare-in-18.ensures c.args.memory.now)

pub returns-in-19 : goal.returns-in-19
returns-in-19 c = by_compare c.args.c.now c.args.frame.now Jset _ _ _ c.in-19.is refl refl (λ i. refl) (c.compare-in-19.ensures c.args.memory.now)

pub returns-in-20 : goal.returns-in-20
returns-in-20 c = by_bytes c.args.c.now c.args.frame.now _ _ _ c.in-20.is (c.compare_bytes.ensures c.args.memory.now)

pub returns-in-21 : goal.returns-in-21
unfolding extended
returns-in-21 c = by_plain c.args.c.now c.args.frame.now Ext _ _ _ c.in-21.is refl refl (c.extended.ensures c.args.memory.now)

pub returns-in-22 : goal.returns-in-22
unfolding load_data loads
returns-in-22 c = by_plain c.args.c.now c.args.frame.now Lddw _ _ _ c.in-22.is refl refl c.load_data.ensures

pub returns-in-23 : goal.returns-in-23
unfolding store_data stores
returns-in-23 c = by_plain c.args.c.now c.args.frame.now Stdw _ _ _ c.in-23.is refl refl c.store_data.ensures

pub returns-in_default : goal.returns-in_default
returns-in_default c = (turn-none c.args.c.now c.args.frame.now _ (λ range. omega (arith, range.0, range.1)), refl)
