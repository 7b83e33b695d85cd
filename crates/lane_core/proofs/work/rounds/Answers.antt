use Rattle.std.proofs.Common.{ℕ, List, inl, inr, refl, sym, ◌∙◌, subst, arith}
use Rattle.std.specs.Prelude.{Contains, Err}
use Rattle.lane_core.specs.Lanes.{Follows}
use Rattle.lane_core.specs.Parts.{WithMemory}
use Rattle.lane_core.specs.declared.pace.Pace.{Pace}
use Rattle.lane_core.specs.declared.pace.LaneEnd.{LaneEnd}
use Rattle.lane_core.proofs.Laning.{follows_seen}
use Rattle.lane_core.proofs.Working.{idle_most, idle_tries}
use Rattle.lane_core.proofs.work.rounds.Goals as goal

pub loop-init : goal.loop-init
loop-init g c =
    let old = g.G.Gate.told c.args.seat.now in
    let new = g.G.Gate.told c.clock-known.new.seat in
    let looked = c.clock-known.ensures in (
      tt,
      tt,
      record {
        seat = looked.seat;
        lane = subst (λ (ls : List ℕ). Contains ls c.args.lane.now.number) (sym looked.lanes) c.requires.lane;
        lanes = c.requires.lanes;
        number = refl;
        same_lanes = looked.lanes;
        sees = looked.sees;
        others = λ other apart. looked.entries other;
        follows = follows_seen c.args.plain.now old new c.args.lane.now looked.sees looked.entries c.requires.follows;
        tries = omega (arith, looked.tries);
        few = omega arith;
      },
    )

pub returns-in-Err-clause-follows : goal.returns-in-Err-clause-follows
returns-in-Err-clause-follows g c = λ e. subst (λ (end : LaneEnd). WithMemory {A = Pace} (Err end) (Follows c.args.plain.now (g.G.Gate.told c.round.new.seat) c.round.new.self)) e c.in-Err.ensures.follows

pub returns-then-idle-eq-MOST_IDLE : goal.returns-then-idle-eq-MOST_IDLE
returns-then-idle-eq-MOST_IDLE g c =
    let start = g.G.Gate.told c.args.seat.now in
    let old = g.G.Gate.told c.loop.seat in
    let mid = g.G.Gate.told c.round.new.seat in
    let new = g.G.Gate.told c.clock-clock.new.seat in
    let kept = c.loop.invariant.2 in
    let went = c.in-Ok.ensures in
    let looked = c.clock-clock.ensures in
    let tries = idle_tries c.in-Ok.pace c.loop.idle c.idle_after-idle.result start old mid new c.idle_after-idle.ensures went.paced kept.tries went.round.tries looked.tries in
    record {
      seat = looked.seat;
      lanes = looked.lanes ∙ went.round.lanes ∙ kept.same_lanes;
      number = went.number ∙ kept.number;
      of = kept.lanes ∙ sym went.lanes;
      sees = λ t target e. looked.sees t target (went.round.sees t target (kept.sees t target e));
      others = λ other apart. looked.entries other ∙ went.round.other_lanes other (λ e. apart (e ∙ kept.number)) ∙ kept.others other apart;
      follows = λ e. follows_seen c.args.plain.now mid new c.round.new.self looked.sees looked.entries went.follows;
      left = inr (inl (omega (arith, tries, c.if-idle-eq-MOST_IDLE.true)));
    }

pub loop-preserved : goal.loop-preserved
loop-preserved g c =
    let start = g.G.Gate.told c.args.seat.now in
    let old = g.G.Gate.told c.loop.seat in
    let mid = g.G.Gate.told c.round.new.seat in
    let new = g.G.Gate.told c.clock-clock.new.seat in
    let kept = c.loop.invariant.2 in
    let went = c.in-Ok.ensures in
    let looked = c.clock-clock.ensures in
    let most = idle_most c.in-Ok.pace c.loop.idle c.idle_after-idle.result c.idle_after-idle.ensures kept.few in (
      tt,
      tt,
      record {
        seat = looked.seat;
        lane = subst (λ (n : ℕ). Contains new.lanes n) (sym went.number) (subst (λ (ls : List ℕ). Contains ls c.loop.lane.number) (sym (looked.lanes ∙ went.round.lanes)) kept.lane);
        lanes = kept.lanes ∙ sym went.lanes;
        number = went.number ∙ kept.number;
        same_lanes = looked.lanes ∙ went.round.lanes ∙ kept.same_lanes;
        sees = λ t target e. looked.sees t target (went.round.sees t target (kept.sees t target e));
        others = λ other apart. looked.entries other ∙ went.round.other_lanes other (λ e. apart (e ∙ kept.number)) ∙ kept.others other apart;
        follows = follows_seen c.args.plain.now mid new c.round.new.self looked.sees looked.entries went.follows;
        tries = idle_tries c.in-Ok.pace c.loop.idle c.idle_after-idle.result start old mid new c.idle_after-idle.ensures went.paced kept.tries went.round.tries looked.tries;
        few = omega (arith, most, c.if-idle-eq-MOST_IDLE.false);
      },
    )
