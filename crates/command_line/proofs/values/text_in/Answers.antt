use Rattle.std.proofs.Common.{◌≡◌, ℕ, List, [], Option, Some, None, sym, ap, ◌∙◌}
use Rattle.std.specs.Prelude.{unwrap_or, option_map}
use Rattle.clap.specs.Words.{first_of, found_of, rows_of}
use Rattle.clap.proofs.WalkLemmas.{first_value-rows}
use Rattle.command_line.proofs.values.text_in.Goals as goal

pub returns-in-Some : goal.returns-in-Some
returns-in-Some c =
    let found : first_of c.args.id.now (rows_of (found_of c.args.matches.now)) ≡ Some c.in-Some.text.now = sym (first_value-rows (found_of c.args.matches.now) c.args.id.now) ∙ sym c.in-Some.ensures in
    sym (ap (λ (o : Option (List ℕ)). unwrap_or o []) found)

pub returns-in-None : goal.returns-in-None
returns-in-None c =
    let found : first_of c.args.id.now (rows_of (found_of c.args.matches.now)) ≡ None = sym (first_value-rows (found_of c.args.matches.now) c.args.id.now) ∙ sym c.in-None.ensures in
    sym (ap (λ (o : Option (List ℕ)). unwrap_or o []) found)
