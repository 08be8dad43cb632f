-- The names of the opcodes.
use Rattle.std.specs.Prelude.{ℕ, List, codes}
use Rattle.apf_coding.specs.declared.instruction.Op.{Op}
use Rattle.apf_coding.specs.declared.instruction.Op.TheVariants.{Ldb, Ldh, Ldw, Ldbx, Ldhx, Ldwx, Add, Mul, Div, And, Or, Sh, Li, Jmp, Jeq, Jne, Jgt, Jlt, Jset, Jnebs, Ext, Lddw, Stdw}

-- the name of an opcode, in lower case
abbrev pub op_name : Op → List ℕ
op_name Ldb = codes "ldb"
op_name Ldh = codes "ldh"
op_name Ldw = codes "ldw"
op_name Ldbx = codes "ldbx"
op_name Ldhx = codes "ldhx"
op_name Ldwx = codes "ldwx"
op_name Add = codes "add"
op_name Mul = codes "mul"
op_name Div = codes "div"
op_name And = codes "and"
op_name Or = codes "or"
op_name Sh = codes "sh"
op_name Li = codes "li"
op_name Jmp = codes "jmp"
op_name Jeq = codes "jeq"
op_name Jne = codes "jne"
op_name Jgt = codes "jgt"
op_name Jlt = codes "jlt"
op_name Jset = codes "jset"
op_name Jnebs = codes "jnebs"
op_name Ext = codes "ext"
op_name Lddw = codes "lddw"
op_name Stdw = codes "stdw"
