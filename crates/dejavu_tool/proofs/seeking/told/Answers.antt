use Rattle.std.proofs.Common.{◌≤◌, ℕ, List, length, ap, sym, subst, arith}
use Rattle.std.specs.Prelude.{All}
use Rattle.switch_schedule.proofs.Tries.{try_few, try_small}
use Rattle.dejavu_tool.proofs.seeking.told.Goals as goal

pub write_schedule-requires-clause-few : goal.write_schedule-requires-clause-few
write_schedule-requires-clause-few c =
    omega (arith, ap length c.requires.first.drawn, try_few c.args.plain.now c.args.seed c.args.events c.args.at)

pub write_schedule-requires-clause-small : goal.write_schedule-requires-clause-small
write_schedule-requires-clause-small c =
    subst (λ (times : List ℕ). All (λ (t : ℕ). t ≤ 1048576) times) (sym c.requires.first.drawn) (try_small c.args.plain.now c.args.seed c.args.events c.args.at 1048576 c.requires.limit)

pub returns : goal.returns
returns c = record {
  at = c.args.at;
  times = c.args.schedule.now;
  ran = c.args.ran.now;
  first = c.requires.first;
  spelled = c.in_ok-bytes.ensures.spells;
  prints = c.in_ok-text.ensures;
}
