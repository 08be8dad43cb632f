-- A text that gives a code back.
use Rattle.std.specs.Prelude.{◌≡◌, ℕ, ◌≤◌, List, length, All, None}
use Rattle.apf_asm.specs.declared.item.Item.{Item}
use Rattle.apf_asm.specs.Items.{IsItemForm}
use Rattle.apf_asm.specs.Layout.{layout}
use Rattle.apf_asm.specs.Refusals.{answer}
use Rattle.apf_asm.specs.TextLines.{TextReads}
use Rattle.apf_base.specs.Limits.{program_limit}

-- the text is read as items that are refused for no cause, and whose bytes are the code
pub record ReadsBack (text code : List ℕ) : Type 0 where
  pub items : List Item
  pub read : TextReads text items
  pub forms : All IsItemForm items
  pub few : length items ≤ program_limit
  pub accepted : answer items ≡ None
  pub bytes : (layout items).bytes ≡ code
