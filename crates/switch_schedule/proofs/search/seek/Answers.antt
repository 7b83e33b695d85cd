use Rattle.std.proofs.Common.{◌≡◌, ◌+◌, ℕ, List, [], length, arith, ap, sym, ◌∙◌}
use Rattle.machine_model.specs.Ring.{schedule_threads}
use Rattle.switch_schedule.specs.Searches.{modulus_of, seeded, try_times}
use Rattle.switch_schedule.proofs.Drawing.{no_tries}
use Rattle.switch_schedule.proofs.Searched.{no_try_yet, none_more, run_tells, this_try, words_after}
use Rattle.switch_schedule.proofs.search.seek.Goals as goal

pub loop-before-init : goal.loop-before-init
loop-before-init c =
    record {
      words_so_far = c.new-words.ensures ∙ no_tries (modulus_of c.args.plain.now c.args.events) (seeded c.args.seed);
      none_yet = no_try_yet c.args.plain.now c.args.seed c.args.events 1 (omega arith);
    }

pub loop-before-preserved : goal.loop-before-preserved
loop-before-preserved c =
    let p = c.args.plain.now in
    let before = c.loop-before.before in
    let events = c.args.events in
    let seed = c.args.seed in
    let kept = c.loop-before.invariant in
    let ran = c.in_ok-ran.ran in
    let clock : c.in_ok-still.still.clock ≡ length (schedule_threads p [] events) = c.in_ok-still.ensures.clock ∙ ap (λ (ts : List ℕ). length (schedule_threads p ts events)) c.new.ensures.items in
    let modulus : c.in_ok-still.still.clock + 1 ≡ modulus_of p events = omega (arith, clock) in
    let times : c.in_ok-schedule.schedule ≡ try_times p seed events (before + 1) = this_try p seed events before (c.in_ok-still.still.clock + 1) c.loop-before.words c.in_ok-schedule.schedule modulus kept.words_so_far c.in_ok-schedule.ensures.times in
    let tells = run_tells p c.in_ok-schedule.schedule events ran.intervals.items ran.clock ran.output.items ran.end c.in_ok-ran.ensures.run in
    record {
      words_so_far = words_after p seed events before (c.in_ok-still.still.clock + 1) c.loop-before.words c.next_try.new.words modulus kept.words_so_far c.in_ok-schedule.ensures.words;
      none_yet = none_more p seed events before c.in_ok-schedule.schedule times (tells ∙ sym c.is_fault.ensures ∙ c.if-is_fault.false) kept.none_yet;
    }
