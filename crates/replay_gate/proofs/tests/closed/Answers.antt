use Rattle.std.proofs.Common.{rules, ◌≡◌, ◌<◌, ℕ, List, [], ◌∷◌, Contains, sym, subst, arith}
use Rattle.replay_gate.proofs.Telling.{numbers_so}
use Rattle.replay_gate.proofs.tests.closed.Goals as goal

pub close-requires-clause-all : goal.close-requires-clause-all
close-requires-clause-all g c = λ lane low.
    let all : (g.G.Gate.told c.join.new.into).lanes ≡ 0 ∷ 1 ∷ [] = search rules in
    let two : lane < 2 = subst (λ (n : ℕ). lane < n) c.requires.two low in
    subst (λ (ls : List ℕ). Contains ls lane) (sym all) (numbers_so 0 2 lane (omega arith) two)
