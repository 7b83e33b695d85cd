use Rattle.std.proofs.Common.{◌≡◌, ℕ, zero, suc, ◌<◌, ◌≤◌, ltb, true, List, [], ◌∷◌, ◌++◌, Result, Ok, Err, length, take, set, get_or, sym, ap, subst, ◌∙◌, arith}
use Rattle.std.specs.Prelude.{All, IfOk}
use Rattle.std.specs.List.{list_all, AllByRecursion}
use Rattle.std.proofs.lemmas.Bool.{ltb-true}
use Rattle.std.proofs.lemmas.List.{length-set, take_more, take_all, length-take-le}
use Rattle.std.proofs.lemmas.List.Elements.{All-from_recursion}
use Rattle.schedule_log.specs.Intervals.{clocks}
use Rattle.schedule_log.specs.Foldings.{PlainFolding}
use Rattle.schedule_log.specs.Logs.{PlainLog, expansion}
use Rattle.schedule_log.specs.Parts.{AreParts}
use Rattle.schedule_log.proofs.Placed.{and_true}
use Rattle.schedule_log.proofs.Folded.{folded_run}
use Rattle.schedule_log.proofs.Recording.{note_rising, parts_note}
use Rattle.log_tests.proofs.logs.recorded.Goals as goal

few : (threads : List ℕ) → list_all (λ t. ltb t 3) threads ≡ true → AllByRecursion (λ t. t < 64) threads
few [] e = tt
few (t ∷ threads) e =
    let both = and_true (ltb t 3) (list_all (λ u. ltb u 3) threads) e in
    (omega (arith, ltb-true t 3 both.0), few threads both.1)

few_at : (threads : List ℕ) (k : ℕ) → list_all (λ t. ltb t 3) threads ≡ true → k < length threads → get_or threads k 0 < 3
few_at [] k e lt = absurd (omega arith)
few_at (t ∷ threads) zero e lt = ltb-true t 3 (and_true (ltb t 3) (list_all (λ u. ltb u 3) threads) e).0
few_at (t ∷ threads) (suc k) e lt = few_at threads k (and_true (ltb t 3) (list_all (λ u. ltb u 3) threads) e).1 (omega arith)

pub note-requires-clause-rising : goal.note-requires-clause-rising
note-requires-clause-rising c =
    let k = c.loop-clock.clock in
    let front : List ℕ = take k c.args.threads.now in
    let size : length front ≡ k = length-take-le k c.args.threads.now (omega arith) in
    let low : get_or c.args.threads.now k 0 < length c.loop-clock.parts.items = omega (arith, few_at c.args.threads.now k c.requires.few c.loop-clock-test.true, c.loop-clock.invariant.many) in
    let below = note_rising front c.loop-clock.parts.items (get_or c.args.threads.now k 0) c.index_mut-part.result.now c.loop-clock.invariant.are low c.index_mut-part.ensures.value in
    rw c.in_ok-reserve.ensures.intervals (subst (λ (n : ℕ). All (λ noted. noted < n) (clocks c.index_mut-part.result.now.intervals)) size below)

pub loop-clock-preserved : goal.loop-clock-preserved
loop-clock-preserved c =
    let k = c.loop-clock.clock in
    let threads = c.args.threads.now in
    let front : List ℕ = take k threads in
    let t : ℕ = get_or threads k 0 in
    let size : length front ≡ k = length-take-le k threads (omega arith) in
    let low : t < length c.loop-clock.parts.items = omega (arith, few_at threads k c.requires.few c.loop-clock-test.true, c.loop-clock.invariant.many) in
    let noted = c.note.ensures.clocks ∙ ap (λ is. clocks is ++ k ∷ []) c.in_ok-reserve.ensures.intervals ∙ ap (λ (n : ℕ). clocks c.index_mut-part.result.now.intervals ++ n ∷ []) (sym size) in
    let more = parts_note front c.loop-clock.parts.items t c.index_mut-part.result.now c.note.new.self c.loop-clock.invariant.are low c.index_mut-part.ensures.value (c.note.ensures.thread ∙ c.in_ok-reserve.ensures.thread) c.note.ensures.maximal noted in
    record {
      many = length-set c.loop-clock.parts.items t c.note.new.self ∙ c.loop-clock.invariant.many;
      are = subst (λ (ts : List ℕ). AreParts ts (set c.loop-clock.parts.items t c.note.new.self)) (sym (take_more threads k 0 c.loop-clock-test.true)) more;
    }

whole : (k : ℕ) (threads : List ℕ) (parts : List PlainFolding) → length threads ≤ k → AreParts (take k threads) parts → AreParts threads parts
whole k threads parts le are = subst (λ (ts : List ℕ). AreParts ts parts) (take_all k threads le) are

expands : {E : Type 0} (r : Result PlainLog E) (log : PlainLog) (threads : List ℕ) → IfOk r (λ l. l ≡ log) → expansion log ≡ threads → IfOk r (λ l. expansion l ≡ threads)
expands (Ok l) log threads is e = ap expansion is ∙ e
expands (Err d) log threads is e = tt

pub of-requires : goal.of-requires
of-requires c =
    (folded_run c.args.budget c.args.threads.now c.loop-clock.parts.items c.args.end
    (record { budget_high = c.requires.high; threads_low = All-from_recursion (λ t. t < 64) c.args.threads.now (few c.args.threads.now c.requires.few); some_event = c.requires.low; within_budget = c.requires.within; spent = c.requires.spent })
    (whole c.loop-clock.clock c.args.threads.now c.loop-clock.parts.items c.loop-clock-test.false c.loop-clock.invariant.are)).0

pub returns : goal.returns
returns c =
    let run = folded_run c.args.budget c.args.threads.now c.loop-clock.parts.items c.args.end
    (record { budget_high = c.requires.high; threads_low = All-from_recursion (λ t. t < 64) c.args.threads.now (few c.args.threads.now c.requires.few); some_event = c.requires.low; within_budget = c.requires.within; spent = c.requires.spent })
    (whole c.loop-clock.clock c.args.threads.now c.loop-clock.parts.items c.loop-clock-test.false c.loop-clock.invariant.are) in
    expands c.of.result _ c.args.threads.now c.of.ensures run.1
