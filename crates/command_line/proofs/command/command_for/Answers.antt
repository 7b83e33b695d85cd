use Rattle.std.proofs.Common.{◌≡◌, ◌∙◌, map, sym, true, false}
use Rattle.std.specs.Prelude.{string_bytes}
use Rattle.clap.specs.Words.{app_of}
use Rattle.clap.specs.declared.error.kind.ErrorKind.TheVariants.{OutOfMemory}
use Rattle.command_line.specs.Words.{plain_word}
use Rattle.command_line.proofs.Taking.{refused, taken}
use Rattle.command_line.proofs.command.command_for.Goals as goal

pub returns-in-Ok-clause-value : goal.returns-in-Ok-clause-value
returns-in-Ok-clause-value c =
    taken (plain_word c.args.word) (map string_bytes c.args.words.now) (app_of c.in_ok-app.app) c.in-Ok.matches c.command_with.result c.in_ok-app.ensures c.command_with.ensures.value c.in-Ok.ensures.kinds c.in-Ok.ensures.matches

pub returns-clause-value : goal.returns-clause-value
returns-clause-value c =
    refused (plain_word c.args.word) (map string_bytes c.args.words.now) (app_of c.in_ok-app.app) c.in-Err.error.kind c.in_ok-app.ensures
    (λ e.
    let kind : c.kind.result ≡ OutOfMemory = c.kind.ensures ∙ e in
    let same = rw kind at c.eq.ensures in
    let bad : true ≡ false = sym same ∙ c.if-eq.false in
    cc)
    c.in-Err.ensures.kinds
