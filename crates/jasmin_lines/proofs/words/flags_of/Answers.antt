use Rattle.std.proofs.Common.{sym, ◌∙◌, ap, Ok}
use Rattle.std.specs.List.{list_any}
use Rattle.jasmin_lines.specs.Words.{is_word}
use Rattle.jasmin_lines.proofs.Flags.{no-flags, all-flags, none-left}
use Rattle.jasmin_lines.proofs.words.flags_of.Goals as goal

pub returns-then-not-are_flags : goal.returns-then-not-are_flags
returns-then-not-are_flags c = no-flags c.args.known.now c.args.words.now (sym c.are_flags.ensures ∙ c.if-not-are_flags.true)

pub returns : goal.returns
returns c =
    all-flags c.args.known.now c.args.words.now (sym c.are_flags.ensures ∙ c.if-not-are_flags.false)
    ∙ ap Ok (sym c.loop-rest.invariant ∙ none-left c.loop-rest.flags.items (λ flag. list_any (is_word flag) c.args.words.now) c.loop-rest.rest.now c.in_default.len_below)
