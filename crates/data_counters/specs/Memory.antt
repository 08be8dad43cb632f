-- The memory that holds the counters: 128 bytes, of which each four are a big-endian word. This project's own layout,
-- after version 4 of the Android Packet Filter.
use Rattle.std.specs.Prelude.{◌≡◌, ℕ, ◌+◌, ◌-◌, ◌*◌, ◌/◌, ◌%◌, ◌^◌, ◌<◌, List, ◌++◌, take, drop, slice_range}
use Rattle.std.specs.Int.{w32, from_be_bytes, to_be_bytes}
use Rattle.apf_base.specs.Limits.{memory_size}
use Rattle.data_counters.specs.declared.counter.Counter.{Counter}
use Rattle.data_counters.specs.Counters.{number_of}

-- the word at a place
unfoldable pub word_at : ℕ → List ℕ → ℕ
word_at at memory = from_be_bytes w32 (slice_range memory at (at + 4))

-- the memory with another word at a place, and all else as it was
unfoldable pub with_word : ℕ → ℕ → List ℕ → List ℕ
with_word at word memory = take at memory ++ to_be_bytes w32 word ++ drop (at + 4) memory

-- counter k is the word at -4k from the memory's end
abbrev pub place_of : Counter → ℕ
place_of c = memory_size - 4 * number_of c

-- what a counter holds
abbrev pub value_of : Counter → List ℕ → ℕ
value_of c memory = word_at (place_of c) memory

-- one more in a counter's word, modulo 2 ^ 32
abbrev pub raised : Counter → List ℕ → List ℕ
raised c memory = with_word (place_of c) ((value_of c memory + 1) % 2 ^ 32) memory

-- each word of a sum is the sum of the words, modulo 2 ^ 32
abbrev pub AddsWords : List ℕ → List ℕ → List ℕ → Type 0
AddsWords old from new = (k : ℕ) → k < memory_size / 4 → word_at (4 * k) new ≡ (word_at (4 * k) old + word_at (4 * k) from) % 2 ^ 32
