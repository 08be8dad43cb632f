-- Fragments: items that are put one behind another into a program.
use Rattle.std.specs.Prelude.{◌≡◌, ℕ, ◌+◌, ◌<◌, ◌≤◌, ◌⊎◌, true, List, [], ◌∷◌, ◌++◌, length, All}
use Rattle.apf_coding.specs.Said.{Said}
use Rattle.apf_asm.specs.declared.item.Item.{Item}
use Rattle.apf_asm.specs.declared.item.Item.TheVariants as items
use Rattle.apf_asm.specs.declared.item.Target.{Target}
use Rattle.apf_asm.specs.declared.item.Target.TheVariants as targets
use Rattle.apf_asm.specs.Items.{IsItemForm, IsLabelForm}
use Rattle.apf_asm.specs.Layout.{wide_length}
use Rattle.apf_asm.specs.Refusals.{stands}
use Rattle.apf_asm.specs.Saying.{TellsSaid}

-- ---- labels

-- the labels that stand in items, in order
unfoldable pub labels : List Item → List ℕ
labels [] = []
labels (items.Label l ∷ rest) = l ∷ labels rest
labels (item ∷ rest) = labels rest

-- a jump goes to one of the labels 0 and 1, or to one that stands in the items behind it
abbrev pub Lands : List Item → Target → Type 0
Lands rest (targets.Label l) = (l < 2) ⊎ (stands l rest ≡ true)
Lands rest targets.Pass = ⊥
Lands rest targets.Drop = ⊥

abbrev pub LandsOf : List Item → Item → Type 0
LandsOf rest (items.Jump j) = Lands rest j.to
LandsOf rest (items.Fixed f) = Unit {0}
LandsOf rest (items.Label l) = Unit {0}
LandsOf rest (items.Byte b) = Unit {0}

-- each jump does
abbrev pub AllLand : List Item → Type 0
AllLand [] = Unit {0}
AllLand (item ∷ rest) = LandsOf rest item × AllLand rest

-- a number is none of these
abbrev pub IsApart : ℕ → List ℕ → Type 0
IsApart l [] = Unit {0}
IsApart l (k ∷ ks) = (k ≡ l → ⊥) × IsApart l ks

-- each of these numbers lies from one below another, and stands once
abbrev pub AreFresh : ℕ → ℕ → List ℕ → Type 0
AreFresh from to [] = Unit {0}
AreFresh from to (l ∷ ls) = (from ≤ l) × (l < to) × IsApart l ls × AreFresh from to ls

-- ---- fragments

-- Items in label form, whose labels lie from one number below another, with no more than some bytes where jumps are wide.
pub record IsFragment (from to most : ℕ) (xs : List Item) : Type 0 where
  pub forms : All IsItemForm xs
  pub label_form : IsLabelForm xs
  pub land : AllLand xs
  pub rises : from ≤ to
  pub fresh : AreFresh from to (labels xs)
  pub drawn : from + length (labels xs) ≤ to
  pub short : wide_length xs ≤ most

-- a fragment that says this, or several one behind the other
pub record IsPart (said : ℕ → List ℕ → Said) (from to most : ℕ) (xs : List Item) : Type 0 where
  pub form : IsFragment from to most xs
  pub tells : TellsSaid said xs

-- A call that raises the next label from one number to another adds a fragment that says this to a list.
pub record Emits (said : ℕ → List ℕ → Said) (most from to : ℕ) (old new : List Item) : Type 0 where
  pub fragment : List Item
  pub appended : new ≡ old ++ fragment
  pub part : IsPart said from to most fragment
  pub few : to ≤ from + 64
