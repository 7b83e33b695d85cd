use Rattle.std.proofs.Common.{ap, ◌∙◌}
use Rattle.rayon.proofs.ToStd.{slice-AllZip}
use Rattle.schedule_model.specs.Outcomes.{outcome_of}
use Rattle.outcome_test.specs.Rounds.{Shows}
use Rattle.outcome_test.proofs.side.outcomes.Goals as goal

pub returns : goal.returns
returns g c =
    let h = c.in_ok-collect.ensures in
    let chain = rw (c.map.ensures.base, c.map.ensures.f) at h.1 in
    let slice = ap (λ it. it.slice.now) c.with_min_len.ensures.base ∙ c.par_iter.ensures in
    rw h.2 (slice-AllZip chain.0 c.args.tests.now (chain.1 ∙ slice) (Shows (outcome_of c.args.plain.now c.args.events c.args.fault.now)) h.0 chain.2)
