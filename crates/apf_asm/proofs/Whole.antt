-- A list that is refused for no cause runs as it flows.
use Rattle.std.proofs.Common.{◌≡◌, ℕ, ◌+◌, ◌<◌, ◌≤◌, ◌^◌, Bool, true, false, cond, ltb, List, [], ◌∷◌, ◌++◌, length, Option, Some, None, refl, sym, ap, ◌∙◌, arith}
use Rattle.std.specs.Prelude.{All}
use Rattle.std.proofs.lemmas.Bool.{lt-ltb}
use Rattle.std.proofs.lemmas.List.Elements.{All-head, All-tail}
use Rattle.std.proofs.lemmas.Bool.{false≢true}
use Rattle.apf_coding.specs.declared.instruction.Op.{Op}
use Rattle.apf_coding.specs.declared.instruction.Op.TheVariants.{Jnebs}
use Rattle.apf_coding.specs.Widths.{least_unsigned}
use Rattle.apf_coding.proofs.Widths.{wider, least-width, max-width}
use Rattle.apf_coding.specs.Instruction.{is_counted, has_second}
use Rattle.apf_coding.specs.Spelling.{IsWellFormed, IsWidth}
use Rattle.apf_coding.specs.Run.{run, run_from, ended, first_state}
use Rattle.apf_coding.specs.declared.machine.Verdict.TheVariants.{Pass}
use Rattle.apf_coding.specs.declared.machine.Why.TheVariants as whys
use Rattle.apf_asm.specs.declared.item.Item.{Item}
use Rattle.apf_asm.specs.declared.item.Item.TheVariants as items
use Rattle.apf_asm.specs.declared.item.Jump.{Jump}
use Rattle.apf_asm.specs.declared.item.AsmError.{AsmError}
use Rattle.apf_asm.specs.declared.item.Target.{Target}
use Rattle.apf_asm.specs.declared.item.Target.TheVariants as targets
use Rattle.apf_asm.specs.Items.{jump_instruction, IsJumpForm, IsItemForm, IsLabelled, IsLabelForm}
use Rattle.apf_asm.specs.Layout.{total, offset, item_offset, code, beside, width_for, item_width, item_widths, layout}
use Rattle.apf_asm.specs.Refusals.{stands, target_refused, refused, first, refused_from, refusal}
use Rattle.apf_asm.specs.Correct.{RunsAs}
use Rattle.apf_asm.proofs.Lengths.{length-code, before-le}
use Rattle.apf_asm.proofs.Law.{Leads, IsGood, AllGood, all_run}
use Rattle.apf_base.specs.Limits.{program_limit}

-- ---- labels

pub first_none : (a b : Option AsmError) → first a b ≡ None → (a ≡ None) × (b ≡ None)
first_none None b e = (refl, e)
first_none (Some x) b e = absurd cc

label_leads : (before after : Bool) (x y : AsmError) → cond before (Some x) (cond after None (Some y)) ≡ None → after ≡ true
label_leads true after x y e = absurd cc
label_leads false true x y e = refl
label_leads false false x y e = absurd cc

pub target_leads : (k : ℕ) (before after : List Item) (to : Target) → target_refused k before after to ≡ None → Leads after to
target_leads k before after (targets.Label l) e = label_leads (stands l before) (stands l after) _ _ e
target_leads k before after targets.Pass e = tt
target_leads k before after targets.Drop e = tt

-- ---- widths

pub offset-le : (rest : List Item) (ws : List ℕ) (to : Target) → offset rest ws to ≤ total rest ws + 1
offset-le rest ws (targets.Label l) = omega (arith, before-le l rest ws)
offset-le rest ws targets.Pass = omega arith
offset-le rest ws targets.Drop = omega arith

beside_cases : (counted has : Bool) (n m w : ℕ) → (has ≡ false → m ≡ 0) → (counted ≡ false → n ≡ 0) → IsWidth w → n < 2 ^ 32 → m < 2 ^ 32 → least_unsigned (cond counted n m) ≤ w → (has ≡ true → counted ≡ false) → (n < 256 ^ w) × (m < 256 ^ w)
beside_cases true true n m w no_m no_n width a b le apart = absurd (false≢true (sym (apart refl)))
beside_cases true false n m w no_m no_n width a b le apart = (wider n w width a le, rw (no_m refl) (wider 0 w width (omega arith) (omega arith)))
beside_cases false has n m w no_m no_n width a b le apart = (rw (no_n refl) (wider 0 w width (omega arith) (omega arith)), wider m w width b le)

pub not_both : (op : Op) (reg : ℕ) → has_second op reg ≡ true → is_counted op ≡ false
not_both Jnebs reg e = absurd cc
not_both _ reg e = refl

nothing_long : (bytes : List ℕ) → bytes ≡ [] → length bytes ≡ 0
nothing_long bytes e = ap length e

pub jump_fits : (j : Jump) (o : ℕ) → IsJumpForm j → o < 2 ^ 32 → IsWellFormed (jump_instruction j (width_for j o) o)
jump_fits j o form lt =
    let width : IsWidth (width_for j o) = max-width _ _ (least-width o) (least-width (beside j)) in
    let both = beside_cases (is_counted j.op) (has_second j.op j.reg) (length j.bytes) j.second (width_for j o) form.no_second (λ e. nothing_long j.bytes (form.no_bytes e)) width (omega (arith, form.short)) form.second (omega arith) (not_both j.op j.reg) in
    record {
      reg = form.reg;
      width = width;
      imm = wider o (width_for j o) width lt (omega arith);
      second = both.1;
      no_second = form.no_second;
      bytes = both.0;
      no_bytes = form.no_bytes;
    }

-- ---- the items

one_good : (item : Item) (k : ℕ) (before rest : List Item) (ws : List ℕ) → IsItemForm item → IsLabelled item → refused k before rest item ≡ None → total rest ws + 1 < 2 ^ 32 → IsGood item (item_width item (item_offset item rest ws)) rest ws
one_good (items.Fixed f) k before rest ws form labelled ok small = (form.well_formed, labelled)
one_good (items.Jump j) k before rest ws form labelled ok small = (jump_fits j _ form (omega (arith, offset-le rest ws j.to)), form.op, target_leads k before rest j.to ok)
one_good (items.Label l) k before rest ws form labelled ok small = tt
one_good (items.Byte b) k before rest ws form labelled ok small = labelled

all_good : (rest : List Item) (k : ℕ) (before : List Item) → All IsItemForm rest → All IsLabelled rest → refused_from k before rest ≡ None → total rest (item_widths rest) + 1 < 2 ^ 32 → AllGood rest (item_widths rest)
unfolding refused_from item_widths total
all_good [] k before forms labelled ok small = tt
all_good (item ∷ rest) k before forms labelled ok small =
    let split = first_none (refused k before rest item) (refused_from (k + 1) (before ++ item ∷ []) rest) ok in
    let short : total rest (item_widths rest) + 1 < 2 ^ 32 = omega arith in (
      one_good item k before rest (item_widths rest) (All-head IsItemForm item rest forms) (All-head IsLabelled item rest labelled) split.0 short,
      all_good rest (k + 1) (before ++ item ∷ []) (All-tail IsItemForm item rest forms) (All-tail IsLabelled item rest labelled) split.1 short,
    )

pub runs_as : (items : List Item) → All IsItemForm items → IsLabelForm items → refusal items ≡ None → length (layout items).bytes ≤ program_limit → RunsAs items (layout items).bytes (layout items).places
unfolding run
runs_as items forms labelled ok short memory frame age long =
    let ws = item_widths items in
    let bytes : List ℕ = code items ws in
    let small : total items ws + 1 < 2 ^ 32 = omega (arith, length-code items ws) in
    let good = all_good items 0 [] forms labelled ok small in
    let fits : length bytes + 1 < 2 ^ 32 = omega arith in
    let test : ltb 14 (length frame) ≡ true = lt-ltb _ _ long in
    let m = first_state bytes memory frame age in
    ap (λ (b : Bool). cond b (run_from (length bytes) bytes frame 0 0 m) (ended Pass 0 whys.Short m)) test
    ∙ (all_run bytes frame items ws fits good).0 (length bytes) 0 0 m [] refl refl (omega arith)
