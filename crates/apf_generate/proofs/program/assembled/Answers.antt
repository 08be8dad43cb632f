-- What was assembled are the items of the whole program, and no other refusal than want of memory comes.
use Rattle.std.proofs.Common.{Err, ap, ◌∙◌}
use Rattle.apf_generate.proofs.Generated.{items_formed, items_few, code_bytes, code_means, code_short, none_refused, not_overlong}
use Rattle.apf_generate.proofs.program.assembled.Goals as goal

pub assemble_bytes-requires-clause-forms : goal.assemble_bytes-requires-clause-forms
assemble_bytes-requires-clause-forms c = items_formed c.args.basis.now c.args.items.now c.args.basis.now.config.few c.args.basis.now.config.most c.requires.program c.requires.fits

pub assemble_bytes-requires-clause-few : goal.assemble_bytes-requires-clause-few
assemble_bytes-requires-clause-few c = items_few c.args.basis.now c.args.items.now c.args.basis.now.config.few c.args.basis.now.config.most c.requires.program c.requires.fits

pub returns-in-Ok-clause-means : goal.returns-in-Ok-clause-means
returns-in-Ok-clause-means c = code_means c.args.basis.now c.args.items.now c.args.basis.now.config.few c.args.basis.now.config.most c.requires.program c.requires.fits _ c.in-Ok.ensures.bytes

pub returns-in-Ok-clause-short : goal.returns-in-Ok-clause-short
returns-in-Ok-clause-short c = code_short c.args.basis.now c.args.items.now c.args.basis.now.config.few c.args.basis.now.config.most c.requires.program c.requires.fits _ c.in-Ok.ensures.bytes

pub returns-in-Ok-clause-bytes : goal.returns-in-Ok-clause-bytes
returns-in-Ok-clause-bytes c = code_bytes c.args.basis.now c.args.items.now c.args.basis.now.config.few c.args.basis.now.config.most c.requires.program c.requires.fits _ c.in-Ok.ensures.bytes

pub unreachable-requires : goal.unreachable-requires
unreachable-requires c =
    none_refused c.args.basis.now c.args.items.now c.args.basis.now.config.few c.args.basis.now.config.most c.requires.program c.requires.fits _
    ((c.assemble_bytes.ensures.twice c.in-Err-Twice.field-0-0 c.in-Err-Twice.field-0-1).only (c.in-Err-Twice.is ∙ ap Err c.in-Err-Twice.field-0-is))

pub unreachable-requires-in-Err-Unknown : goal.unreachable-requires-in-Err-Unknown
unreachable-requires-in-Err-Unknown c =
    none_refused c.args.basis.now c.args.items.now c.args.basis.now.config.few c.args.basis.now.config.most c.requires.program c.requires.fits _
    ((c.assemble_bytes.ensures.unknown c.in-Err-Unknown.field-0-0 c.in-Err-Unknown.field-0-1).only (c.in-Err-Unknown.is ∙ ap Err c.in-Err-Unknown.field-0-is))

pub unreachable-requires-in-Err-Backward : goal.unreachable-requires-in-Err-Backward
unreachable-requires-in-Err-Backward c =
    none_refused c.args.basis.now c.args.items.now c.args.basis.now.config.few c.args.basis.now.config.most c.requires.program c.requires.fits _
    ((c.assemble_bytes.ensures.backward c.in-Err-Backward.field-0-0 c.in-Err-Backward.field-0-1).only (c.in-Err-Backward.is ∙ ap Err c.in-Err-Backward.field-0-is))

pub unreachable-requires-in-Err-TooLong : goal.unreachable-requires-in-Err-TooLong
unreachable-requires-in-Err-TooLong c =
    not_overlong c.args.basis.now c.args.items.now c.args.basis.now.config.few c.args.basis.now.config.most c.requires.program c.requires.fits _
    ((c.assemble_bytes.ensures.too_long c.in-Err-TooLong.field-0-0).only (c.in-Err-TooLong.is ∙ ap Err c.in-Err-TooLong.field-0-is))
