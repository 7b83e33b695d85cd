use Rattle.std.proofs.Common.{◌≡◌, ◌<◌, ◌++◌, ◌∷◌, [], ℕ, List, length, set, subst, ap, sym, ◌∙◌, arith}
use Rattle.std.specs.Prelude.{All}
use Rattle.schedule_log.specs.Intervals.{clocks}
use Rattle.schedule_log.specs.Parts.{AreParts}
use Rattle.schedule_log.proofs.Recording.{note_rising, parts_note}
use Rattle.machine_model.specs.Machine.{threads_of}
use Rattle.shared_world.specs.Worlds.{WorldState}
use Rattle.event_machine.specs.MachineView.{machine_of}
use Rattle.thread_driver.proofs.Recorded.{column-more, enabled-started, length-threads_of}
use Rattle.thread_driver.proofs.record.record_event.Goals as goal

pub note-requires-clause-rising : goal.note-requires-clause-rising
note-requires-clause-rising c =
    let history = c.args.machine.now.world.history in
    let part = c.index_mut-part.result.now in
    let low : c.args.thread < length c.args.parts.now.items = omega arith in
    let size : length (threads_of history) ≡ c.clock-clock.result = length-threads_of history ∙ sym (c.clock-clock.ensures.value ∙ ap (λ (w : WorldState). length w.history) c.world.ensures) in
    let below = note_rising (threads_of history) c.args.parts.now.items c.args.thread part c.requires.parts low c.index_mut-part.ensures.value in
    rw c.in_ok-reserve.ensures.intervals (subst (λ (n : ℕ). All (λ noted. noted < n) (clocks part.intervals)) size below)

pub returns-clause-parts : goal.returns-clause-parts
returns-clause-parts c =
    let history = c.args.machine.now.world.history in
    let parts = c.args.parts.now.items in
    let part = c.index_mut-part.result.now in
    let low : c.args.thread < length parts = omega arith in
    let size : length (threads_of history) ≡ c.clock-clock.result = length-threads_of history ∙ sym (c.clock-clock.ensures.value ∙ ap (λ (w : WorldState). length w.history) c.world.ensures) in
    let column = column-more c.args.plain.now (machine_of c.args.machine.now) (machine_of c.make.new.self) c.args.thread c.in_ok-make.ensures.ok.1.turned in
    let noted = c.note.ensures.clocks ∙ ap (λ is. clocks is ++ c.clock-clock.result ∷ []) c.in_ok-reserve.ensures.intervals ∙ ap (λ (n : ℕ). clocks part.intervals ++ n ∷ []) (sym size) in
    let more = parts_note (threads_of history) parts c.args.thread part c.note.new.self c.requires.parts low c.index_mut-part.ensures.value (c.note.ensures.thread ∙ c.in_ok-reserve.ensures.thread) c.note.ensures.maximal noted in
    subst (λ (ts : List ℕ). AreParts ts (set parts c.args.thread c.note.new.self)) (sym column) more

pub unreachable-requires : goal.unreachable-requires
unreachable-requires c =
    let started = enabled-started c.args.plain.now (machine_of c.args.machine.now) c.args.thread c.requires.enabled in
    let rows : c.rows.result ≡ length c.args.machine.now.world.shared.rows = c.rows.ensures.value ∙ ap (λ (w : WorldState). length w.shared.rows) c.world-2.ensures in
    absurd (omega (arith, started, rows, c.if-thread-rows.true))
