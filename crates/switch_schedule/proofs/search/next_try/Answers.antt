use Rattle.std.proofs.Common.{◌≡◌, ℕ, ◌∷◌, [], ◌+◌, ◌-◌, ◌%◌, List, length, arith, ap, sym, ◌∙◌}
use Rattle.std.proofs.lemmas.List.{length-append}
use Rattle.rand_pcg.specs.Lcg.{Lcg}
use Rattle.switch_schedule.proofs.Drawing.{draws_more, none_left, try_whole, words_left, words_more}
use Rattle.switch_schedule.proofs.search.next_try.Goals as goal

pub loop-preserved : goal.loop-preserved
loop-preserved c =
    let count = 1 + c.next_word.result % 4 in
    record {
      times_so_far = draws_more c.args.modulus count c.loop.counter c.next_word-in-loop.result c.next_word.new.self c.loop.words c.next_word-in-loop.new.self c.loop.times.items c.push.new.self.items c.loop-test.true c.next_word-in-loop.ensures c.in_ok-push.ensures.items c.loop.invariant.times_so_far;
      words_so_far = words_more c.args.modulus count c.loop.counter c.next_word-in-loop.result c.next_word.new.self c.loop.words c.next_word-in-loop.new.self c.loop-test.true c.next_word-in-loop.ensures c.loop.invariant.words_so_far;
      size = ap length c.in_ok-push.ensures.items ∙ length-append c.loop.times.items ((c.next_word-in-loop.result % c.args.modulus) ∷ []) ∙ ap (λ (n : ℕ). n + 1) c.loop.invariant.size;
    }

pub returns-clause-times : goal.returns-clause-times
returns-clause-times c =
    let count = 1 + c.next_word.result % 4 in
    let none : count - c.loop.counter ≡ 0 = omega (arith, c.loop-test.false) in
    sym (none_left c.args.modulus (count - c.loop.counter) c.loop.words c.loop.times.items none) ∙ sym c.loop.invariant.times_so_far ∙ ap (λ (d : List ℕ × Lcg). d.0) (sym (try_whole c.args.modulus c.next_word.result c.args.words.now c.next_word.new.self c.next_word.ensures))

pub returns-clause-words : goal.returns-clause-words
returns-clause-words c =
    let count = 1 + c.next_word.result % 4 in
    let none : count - c.loop.counter ≡ 0 = omega (arith, c.loop-test.false) in
    sym (words_left c.args.modulus (count - c.loop.counter) c.loop.words none) ∙ sym c.loop.invariant.words_so_far ∙ ap (λ (d : List ℕ × Lcg). d.1) (sym (try_whole c.args.modulus c.next_word.result c.args.words.now c.next_word.new.self c.next_word.ensures))
