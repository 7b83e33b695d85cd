use Rattle.std.proofs.Common.{◌≡◌, ◌++◌, ◌∷◌, [], ap, sym, ◌∙◌, map, length, inr, arith}
use Rattle.std.proofs.lemmas.List.{length-map}
use Rattle.outcome_test.specs.Memos.{Rows}
use Rattle.outcome_test.proofs.Rows.{row, add-new, room_kept}
use Rattle.outcome_test.proofs.memo.Memo.remember.Goals as goal

pub invariant_of-self-then-size-self : goal.invariant_of-self-then-size-self
invariant_of-self-then-size-self c =
    let new = add-new c.args.sorted c.args.shown c.self.inside.outcomes.entries c.insert.new.self.entries c.args.self.now c.self.view_is c.in_ok-insert.ensures.entries c.requires in
    let long : length (map row c.self.inside.outcomes.entries) ≡ c.len.result = length-map c.self.inside.outcomes.entries row ∙ sym c.len.ensures.len in
    let room = room_kept (map row c.self.inside.outcomes.entries) (map row c.insert.new.self.entries) c.args.sorted.items c.args.shown c.self.inside.times c.len-size.result c.len.result
    (new ∙ ap (λ (x : Rows). x ++ (c.args.sorted.items, c.args.shown) ∷ []) (sym c.self.view_is)) long c.if-len-lt-MOST_KEPT_TESTS.true c.self.invariant.counted (omega (arith, c.len-size.ensures, c.args.sorted.ok.0)) c.if-size-self.true c.self.invariant.small in
    record { few = room.few; counted = room.counted; small = room.small }

pub returns-in_ok-insert-clause-adds : goal.returns-in_ok-insert-clause-adds
returns-in_ok-insert-clause-adds c = inr (add-new c.args.sorted c.args.shown c.self.inside.outcomes.entries c.insert.new.self.entries c.args.self.now c.self.view_is c.in_ok-insert.ensures.entries c.requires)

pub returns-in_ok-insert-clause-small : goal.returns-in_ok-insert-clause-small
returns-in_ok-insert-clause-small c =
    let new = add-new c.args.sorted c.args.shown c.self.inside.outcomes.entries c.insert.new.self.entries c.args.self.now c.self.view_is c.in_ok-insert.ensures.entries c.requires in
    let long : length (map row c.self.inside.outcomes.entries) ≡ c.len.result = length-map c.self.inside.outcomes.entries row ∙ sym c.len.ensures.len in
    let room = room_kept (map row c.self.inside.outcomes.entries) (map row c.insert.new.self.entries) c.args.sorted.items c.args.shown c.self.inside.times c.len-size.result c.len.result
    (new ∙ ap (λ (x : Rows). x ++ (c.args.sorted.items, c.args.shown) ∷ []) (sym c.self.view_is)) long c.if-len-lt-MOST_KEPT_TESTS.true c.self.invariant.counted (omega (arith, c.len-size.ensures, c.args.sorted.ok.0)) c.if-size-self.true c.self.invariant.small in
    omega (arith, room.counted, room.small)
