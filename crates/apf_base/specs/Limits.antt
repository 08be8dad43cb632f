-- How many bytes the things that the suite works on have at most, and how many a filter's memory has.
use Rattle.std.specs.Prelude.{ℕ}

-- a program
abbrev pub program_limit : ℕ
program_limit = 65535

-- the memory of the machine
abbrev pub memory_limit : ℕ
memory_limit = 65535

-- a frame
abbrev pub frame_limit : ℕ
frame_limit = 262144

-- an assembler text
abbrev pub text_limit : ℕ
text_limit = 1048576

-- a script
abbrev pub script_limit : ℕ
script_limit = 1048576

-- a capture that is held whole
abbrev pub capture_limit : ℕ
capture_limit = 67108864

-- the memory that a generated program runs over, which holds the counters
abbrev pub memory_size : ℕ
memory_size = 128
