use Rattle.std.proofs.Common.{◌≡◌, ◌∙◌, rules, ap, sym, subst, true, true≢false, refl, [], ⊎_elim}
use Rattle.std.specs.List.{list_all}
use Rattle.clap.specs.Simple.{App, app_of, is_simple, subcommand_of, subcommand_rows_of}
use Rattle.clap.specs.Faults.{fault_of, is_simple_and_free}
use Rattle.clap.specs.Kinds.{IsAmong}
use Rattle.clap.specs.Values.{kind_of}
use Rattle.clap.specs.declared.error.kind.ErrorKind.TheVariants.{OutOfMemory}
use Rattle.command_line.specs.Lines.{is_plain, texts}
use Rattle.command_line.specs.Parses.{commands}
use Rattle.command_line.proofs.Agreement.{refused, taken}
use Rattle.command_line.proofs.splitting.split.Goals as goal

pub returns-in-Ok : goal.returns-in-Ok
returns-in-Ok c =
    let words = texts c.args.words.now in
    let plain : list_all is_plain words ≡ true = search rules in
    let is : app_of c.in_ok-command.command ≡ commands = c.in_ok-command.ensures in
    let none : fault_of commands words ≡ [] = subst (λ (a : App). fault_of a words ≡ []) is (c.in-Ok.ensures.kinds (ap is_simple_and_free is)) in
    let found : subcommand_rows_of c.in-Ok.matches ≡ subcommand_of commands words = (c.in-Ok.ensures.matches (ap is_simple is)).1 ∙ ap (λ (a : App). subcommand_of a words) is in
    c.line_in.ensures ∙ taken words (subcommand_rows_of c.in-Ok.matches) plain none found

pub returns-else-eq : goal.returns-else-eq
returns-else-eq c =
    let words = texts c.args.words.now in
    let plain : list_all is_plain words ≡ true = search rules in
    let is : app_of c.in_ok-command.command ≡ commands = c.in_ok-command.ensures in
    let not_memory : (kind_of c.in-Err.error ≡ OutOfMemory → ⊥) = λ memory.
    let same : c.kind.result ≡ OutOfMemory = c.kind.ensures ∙ memory in
    let yes : c.eq.result ≡ true = rw (c.eq.ensures, same) refl in
    true≢false (sym yes ∙ c.if-eq.false) in
    let among : IsAmong (kind_of c.in-Err.error) (fault_of commands words) = ⊎_elim (λ memory. absurd (not_memory memory)) (λ is_one. subst (λ (a : App). IsAmong (kind_of c.in-Err.error) (fault_of a words)) is is_one)
    (c.in-Err.ensures.kinds (ap is_simple_and_free is)) in
    sym (refused words (kind_of c.in-Err.error) plain among)
