use Rattle.std.proofs.Common.{rules, ◌≡◌, ◌<◌, ◌+◌, ◌-◌, ℕ, List, [], ◌∷◌, Some, Contains, sym, subst, arith}
use Rattle.machine_model.specs.Shared.{start}
use Rattle.atomic_table.specs.Table.{opening}
use Rattle.replay_gate.specs.declared.view.Terms.{Terms}
use Rattle.replay_gate.specs.Rule.{Replays, Slot, first_view, world_of}
use Rattle.schedule_log.specs.Intervals.{numbers}
use Rattle.replay_gate.proofs.Splitting.{opens}
use Rattle.replay_gate.proofs.Telling.{numbers_so}
use Rattle.replay_gate.proofs.gate.ReplayGate.new.Goals as goal

pub new-requires-2 : goal.new-requires-2
new-requires-2 c =
    let terms : Terms = record { start = c.args.start; log = c.args.log; lanes = c.args.lanes } in
    let items : c.push_reserved.new.self.items ≡ Some (world_of terms (start c.args.start) []) ∷ [] = search rules in
    subst (λ (xs : List Slot). Replays terms (opening (0 ∷ []) xs (first_view terms))) (sym items) (opens terms)

pub returns-in-Ok-clause-gives : goal.returns-in-Ok-clause-gives
returns-in-Ok-clause-gives c = λ lane low high.
    let spare : numbers 1 (c.args.lanes - 1) ≡ c.in-Ok.place.me.0.spare = search rules in
    let few : lane < 1 + (c.args.lanes - 1) = omega arith in
    subst (λ (xs : List ℕ). Contains xs lane) spare (numbers_so 1 (c.args.lanes - 1) lane low few)
