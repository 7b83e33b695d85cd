use Rattle.std.proofs.Common.{◌≤◌, ◌<◌, ◌+◌, ℕ, length, arith, ap, subst, sym, ◌∙◌}
use Rattle.std.specs.Prelude.{slice_index}
use Rattle.shared_world.specs.Worlds.{WorldState}
use Rattle.event_machine.specs.MachineView.{machine_of}
use Rattle.switch_schedule.specs.Derivations.{IsLeastPlaces, thread_before}
use Rattle.switch_schedule.proofs.Deriving.{kept-more, none_passed, passed-first, passed-stays}
use Rattle.switch_schedule.proofs.derive.derive_event.Goals as goal

pub returns-then-is_some : goal.returns-then-is_some
returns-then-is_some c =
    let m = machine_of c.args.machine.now in
    let few : length m.world.rows ≤ 64 = omega (arith, c.rows-few.ensures.few, c.rows-few.ensures.value, ap (λ (w : WorldState). length w.shared.rows) c.world.ensures) in
    record { so_far = passed-stays c.args.plain.now c.args.threads.now c.args.clock c.args.times.now.items c.args.passed m (sym c.is_some.ensures ∙ c.if-is_some.true) c.requires.runs few c.requires.enabled c.requires.so_far }

pub returns-then-len-places-gt-MOST_SWITCHES : goal.returns-then-len-places-gt-MOST_SWITCHES
returns-then-len-places-gt-MOST_SWITCHES c =
    let p = c.args.plain.now in
    let threads = c.args.threads.now in
    let kept = c.args.times.now.items in
    let m = machine_of c.args.machine.now in
    let least : IsLeastPlaces p m (thread_before threads c.args.clock) (slice_index threads c.args.clock) c.places_to-places.result = subst (λ (b : ℕ). IsLeastPlaces p m b (slice_index threads c.args.clock) c.places_to-places.result) c.before_event.ensures c.places_to-places.ensures.least in
    let none = none_passed p threads c.args.clock kept c.args.passed (sym c.is_some.ensures ∙ c.if-is_some.false) c.requires.so_far in
    let high : 16384 < length kept + c.places_to-places.result = omega (arith, c.if-len-places-gt-MOST_SWITCHES.true, c.len.ensures, c.args.times.now.ok.0) in
    record { so_far = passed-first p threads c.args.clock c.places_to-places.result kept m c.requires.runs least high none }

pub returns : goal.returns
returns c =
    let p = c.args.plain.now in
    let threads = c.args.threads.now in
    let kept = c.args.times.now.items in
    let m = machine_of c.args.machine.now in
    let least : IsLeastPlaces p m (thread_before threads c.args.clock) (slice_index threads c.args.clock) c.places_to-places.result = subst (λ (b : ℕ). IsLeastPlaces p m b (slice_index threads c.args.clock) c.places_to-places.result) c.before_event.ensures c.places_to-places.ensures.least in
    let none = none_passed p threads c.args.clock kept c.args.passed (sym c.is_some.ensures ∙ c.if-is_some.false) c.requires.so_far in
    let low : length kept + c.places_to-places.result ≤ 16384 = omega (arith, c.if-len-places-gt-MOST_SWITCHES.false, c.len.ensures, c.args.times.now.ok.0) in
    record { so_far = kept-more p threads c.args.clock c.places_to-places.result kept c.put_places.new.times.items m c.requires.runs least low c.in_ok-put_places.ensures none }
