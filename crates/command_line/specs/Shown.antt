-- What was split, as the definitions see it.
use Rattle.command_line.specs.Lines as lines
use Rattle.command_line.specs.declared.values.Further.{Further}
use Rattle.command_line.specs.declared.values.Further.TheVariants.{One, Two, Three, Four}
use Rattle.command_line.specs.declared.values.Split.{Split}

-- the bytes of the words
abbrev pub further_shown : Further → lines.Further
further_shown (One a) = lines.one a.now
further_shown (Two a b) = lines.two a.now b.now
further_shown (Three a b c) = lines.three a.now b.now c.now
further_shown (Four a b c d) = lines.four a.now b.now c.now d.now

-- the bytes of the command's name and of the words that follow it
abbrev pub shown : Split → lines.Line
shown split = lines.named split.name.now (further_shown split.further)
