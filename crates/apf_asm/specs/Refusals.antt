-- Which items are refused, and for what.
use Rattle.std.specs.Prelude.{◌≡◌, ℕ, ◌+◌, ◌<◌, ◌⊎◌, ◌||◌, nat_lt, Bool, false, if◌then◌else◌, List, [], ◌∷◌, ◌++◌, length, take, drop, slice_get, Option, Some, None, Result, Err, IsErrAnd}
use Rattle.apf_asm.specs.declared.item.Item.{Item}
use Rattle.apf_asm.specs.declared.item.Item.TheVariants as items
use Rattle.apf_asm.specs.declared.item.Target.{Target}
use Rattle.apf_asm.specs.declared.item.Target.TheVariants as targets
use Rattle.apf_asm.specs.declared.item.AsmError.{AsmError}
use Rattle.apf_asm.specs.declared.item.AsmError.TheVariants.{Twice, Unknown, Backward, TooLong, OutOfMemory}
use Rattle.apf_asm.specs.Items.{marks}
use Rattle.apf_asm.specs.Layout.{layout}
use Rattle.apf_base.specs.Limits.{program_limit}

-- ---- labels

-- the label stands in these items
unfoldable pub stands : ℕ → List Item → Bool
stands l [] = false
stands l (item ∷ rest) = marks l item || stands l rest

-- what is wrong with a jump's target, by the jump's number, the items before it and those after it
abbrev pub target_refused : ℕ → List Item → List Item → Target → Option AsmError
target_refused number before after (targets.Label l) =
    if stands l before then Some (Backward number l)
    else if stands l after then None
    else Some (Unknown number l)
target_refused number before after targets.Pass = None
target_refused number before after targets.Drop = None

-- what is wrong with an item
abbrev pub refused : ℕ → List Item → List Item → Item → Option AsmError
refused number before after (items.Label l) = if stands l before then Some (Twice number l) else None
refused number before after (items.Jump j) = target_refused number before after j.to
refused number before after (items.Fixed f) = None
refused number before after (items.Byte b) = None

abbrev pub first : Option AsmError → Option AsmError → Option AsmError
first (Some e) later = Some e
first None later = later

unfoldable pub refused_from : ℕ → List Item → List Item → Option AsmError
refused_from number before [] = None
refused_from number before (item ∷ rest) = first (refused number before rest item) (refused_from (number + 1) (before ++ item ∷ []) rest)

-- what is wrong with the first item that is refused
abbrev pub refusal : List Item → Option AsmError
refusal items = refused_from 0 [] items

-- ---- the first refusal in words

-- what is wrong with the item that stands at a number
abbrev pub refused_at : List Item → ℕ → Item → Option AsmError
refused_at items number item = refused number (take number items) (drop (number + 1) items) item

-- the error is that of an item before which none is refused
pub record IsFirstRefusal (items : List Item) (error : AsmError) : Type 0 where
  pub number : ℕ
  pub item : Item
  pub here : slice_get items number ≡ Some item
  pub wrong : refused_at items number item ≡ Some error
  pub before : (k : ℕ) (earlier : Item) → k < number → slice_get items k ≡ Some earlier → refused_at items k earlier ≡ None

-- ---- all that is refused

abbrev pub too_long : ℕ → Option AsmError
too_long bytes = if nat_lt program_limit bytes then Some (TooLong bytes) else None

-- the first item that is refused, or else code of more than 65,535 bytes
abbrev pub answer : List Item → Option AsmError
answer items = first (refusal items) (too_long (length (layout items).bytes))

-- ---- when an error is answered

-- only where the fact holds, and there always, but for want of memory
pub record ExactlyWhere {T : Type 0} (fact : Type 0) (result : Result T AsmError) (error : AsmError) : Type 0 where
  pub only : result ≡ Err error → fact
  pub always : fact → IsErrAnd result (λ e. (e ≡ error) ⊎ (e ≡ OutOfMemory))

-- none of the items is refused, and their code has this many bytes, which are too many
pub record IsOverlong (items : List Item) (bytes : ℕ) : Type 0 where
  pub labels : refusal items ≡ None
  pub length_is : bytes ≡ length (layout items).bytes
  pub long : program_limit < bytes
