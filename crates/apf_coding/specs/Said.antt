-- What a program, or items that are put into one, say of a frame.
use Rattle.std.specs.Prelude.{ℕ}
use Rattle.apf_coding.specs.declared.machine.Verdict.{Verdict}

-- a field that they read isn't in the frame; or a verdict, with the number of the counter that says why; or nothing
pub data Said : Type 0 where
  Missing : Said
  Says : Verdict → ℕ → Said
  Silent : Said
