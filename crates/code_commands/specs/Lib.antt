pub mod Asm
pub mod Disasm
pub mod Exec
pub mod ExecText
