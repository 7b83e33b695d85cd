use Rattle.std.proofs.Common.{Ok, refl, sym, ◌∙◌, ap, arith, nat_eq, true, subst}
use Rattle.jasmin_text.specs.Places.{first_place}
use Rattle.jasmin_text.specs.Texts.{tokens_of, tokens_after, left_of_line, Refuses}
use Rattle.std.proofs.lemmas.List.{take_rest}
use Rattle.std.proofs.lemmas.Result.{err_from_is_err_and}
use Rattle.jasmin_text.proofs.Quoted.{behind}
use Rattle.jasmin_text.proofs.Skipping.{left-le}
use Rattle.jasmin_text.proofs.Within.{piece-length, piece-positive}
use Rattle.jasmin_text.proofs.Turns.{line-ended, refused, blank-passed, comment-passed, piece-cut, ended, broken-off, front-none}
use Rattle.jasmin_text.proofs.text.cut.Goals as goal

pub loop-rest-init : goal.loop-rest-init
unfolding tokens_of
loop-rest-init c = record { so_far = rw (c.new-found.ensures.items, c.first-place.ensures) (front-none (tokens_after 0 true first_place c.args.text.now)); offset = rw c.first-place.ensures (omega arith); line = rw c.first-place.ensures (omega arith); column = rw c.first-place.ensures (omega arith) }

pub loop-rest-preserved-then-b-eq10 : goal.loop-rest-preserved-then-b-eq10
loop-rest-preserved-then-b-eq10 c = record { so_far = rw (c.in_ok-push.ensures.items, c.line_end.ensures, c.next_line-place.ensures) (line-ended c.loop-rest.found.items c.loop-rest.is_open c.loop-rest.place c.loop-rest.rest.now c.in-len1-up.len_at_least c.if-b-eq10.true) ∙ c.loop-rest.invariant.so_far; offset = rw c.next_line-place.ensures (omega (arith, c.in-len1-up.len_at_least, c.loop-rest.invariant.offset)); line = rw c.next_line-place.ensures (omega (arith, c.loop-rest.invariant.line)); column = rw c.next_line-place.ensures (omega (arith, c.loop-rest.invariant.column)) }

pub loop-rest-preserved-then-is_white : goal.loop-rest-preserved-then-is_white
loop-rest-preserved-then-is_white c = record { so_far = rw c.along-place.ensures (blank-passed c.loop-rest.found.items c.loop-rest.is_open c.loop-rest.place c.loop-rest.rest.now c.in-len1-up.len_at_least c.if-b-eq10.false (sym c.is_white.ensures ∙ c.if-is_white.true)) ∙ c.loop-rest.invariant.so_far; offset = rw c.along-place.ensures (omega (arith, c.in-len1-up.len_at_least, c.loop-rest.invariant.offset)); line = rw c.along-place.ensures (omega (arith, c.loop-rest.invariant.line)); column = rw c.along-place.ensures (omega (arith, c.loop-rest.invariant.column)) }

pub overflow_cast-left : goal.overflow_cast-left
overflow_cast-left c = rw c.left_of_line-left.ensures (omega (arith, left-le (λ b. nat_eq b 10) (behind c.loop-rest.rest.now), c.requires, c.loop-rest.invariant.offset))

pub overflow_add-left : goal.overflow_add-left
overflow_add-left c = rw c.left_of_line-left.ensures (omega (arith, left-le (λ b. nat_eq b 10) (behind c.loop-rest.rest.now), c.requires, c.loop-rest.invariant.offset))

pub along-place-requires-then-begins_comment-clause-offset : goal.along-place-requires-then-begins_comment-clause-offset
along-place-requires-then-begins_comment-clause-offset c = rw c.left_of_line-left.ensures (omega (arith, left-le (λ b. nat_eq b 10) (behind c.loop-rest.rest.now), c.requires, c.loop-rest.invariant.offset))

pub along-place-requires-then-begins_comment-clause-column : goal.along-place-requires-then-begins_comment-clause-column
along-place-requires-then-begins_comment-clause-column c = rw c.left_of_line-left.ensures (omega (arith, left-le (λ b. nat_eq b 10) (behind c.loop-rest.rest.now), c.requires, c.loop-rest.invariant.offset, c.loop-rest.invariant.column))

pub slice_bounds-rest-count : goal.slice_bounds-rest-count
slice_bounds-rest-count c = rw c.left_of_line-left.ensures (left-le (λ b. nat_eq b 10) (behind c.loop-rest.rest.now))

pub slice_bounds-rest-start : goal.slice_bounds-rest-start
slice_bounds-rest-start c = rw c.left_of_line-left.ensures (left-le (λ b. nat_eq b 10) (behind c.loop-rest.rest.now))

pub loop-rest-preserved-then-begins_comment : goal.loop-rest-preserved-then-begins_comment
loop-rest-preserved-then-begins_comment c = record { so_far = rw (c.along-place-then-begins_comment.ensures, c.left_of_line-left.ensures, take_rest (behind c.loop-rest.rest.now) (left_of_line (behind c.loop-rest.rest.now))) (comment-passed c.loop-rest.found.items c.loop-rest.is_open c.loop-rest.place c.loop-rest.rest.now c.in-len1-up.len_at_least c.if-b-eq10.false (sym c.is_white.ensures ∙ c.if-is_white.false) (sym c.begins_comment.ensures ∙ c.if-begins_comment.true) (left-le (λ b. nat_eq b 10) (behind c.loop-rest.rest.now))) ∙ c.loop-rest.invariant.so_far; offset = rw c.along-place-then-begins_comment.ensures (omega (arith, left-le (λ b. nat_eq b 10) (behind c.loop-rest.rest.now), c.left_of_line-left.ensures, c.in-len1-up.len_at_least, c.loop-rest.invariant.offset)); line = rw c.along-place-then-begins_comment.ensures (omega (arith, c.loop-rest.invariant.line)); column = rw c.along-place-then-begins_comment.ensures (omega (arith, c.loop-rest.invariant.column)) }

pub token_at-requires : goal.token_at-requires
token_at-requires c = omega (arith, piece-length c.loop-rest.rest.now c.in_ok-piece.piece c.in_ok-piece.ensures, c.requires, c.loop-rest.invariant.offset)

pub along-place-requires-else-begins_comment-clause-column : goal.along-place-requires-else-begins_comment-clause-column
along-place-requires-else-begins_comment-clause-column c = omega (arith, piece-length c.loop-rest.rest.now c.in_ok-piece.piece c.in_ok-piece.ensures, c.requires, c.loop-rest.invariant.offset, c.loop-rest.invariant.column)

pub slice_bounds-rest-count-else-begins_comment : goal.slice_bounds-rest-count-else-begins_comment
slice_bounds-rest-count-else-begins_comment c = piece-length c.loop-rest.rest.now c.in_ok-piece.piece c.in_ok-piece.ensures

pub slice_bounds-rest-start-else-begins_comment : goal.slice_bounds-rest-start-else-begins_comment
slice_bounds-rest-start-else-begins_comment c = piece-length c.loop-rest.rest.now c.in_ok-piece.piece c.in_ok-piece.ensures

pub loop-rest-smaller : goal.loop-rest-smaller
loop-rest-smaller c = omega (arith, piece-length c.loop-rest.rest.now c.in_ok-piece.piece c.in_ok-piece.ensures, piece-positive c.loop-rest.rest.now c.in_ok-piece.piece c.in-len1-up.len_at_least (sym c.is_white.ensures ∙ c.if-is_white.false) c.in_ok-piece.ensures, c.in-len1-up.len_at_least)

pub loop-rest-preserved : goal.loop-rest-preserved
loop-rest-preserved c = record { so_far = rw (c.in_ok-push-2.ensures.items, c.token_at.ensures, c.along-place-else-begins_comment.ensures, take_rest c.loop-rest.rest.now c.in_ok-piece.piece.length) (piece-cut c.loop-rest.found.items c.loop-rest.is_open c.loop-rest.place c.loop-rest.rest.now c.in_ok-piece.piece c.in-len1-up.len_at_least c.if-b-eq10.false (sym c.is_white.ensures ∙ c.if-is_white.false) (sym c.begins_comment.ensures ∙ c.if-begins_comment.false) c.in_ok-piece.ensures (piece-positive c.loop-rest.rest.now c.in_ok-piece.piece c.in-len1-up.len_at_least (sym c.is_white.ensures ∙ c.if-is_white.false) c.in_ok-piece.ensures) (piece-length c.loop-rest.rest.now c.in_ok-piece.piece c.in_ok-piece.ensures)) ∙ c.loop-rest.invariant.so_far; offset = rw c.along-place-else-begins_comment.ensures (omega (arith, piece-length c.loop-rest.rest.now c.in_ok-piece.piece c.in_ok-piece.ensures, c.loop-rest.invariant.offset)); line = rw c.along-place-else-begins_comment.ensures (omega (arith, c.loop-rest.invariant.line)); column = rw c.along-place-else-begins_comment.ensures (omega (arith, c.loop-rest.invariant.column)) }

pub returns-in_err-piece : goal.returns-in_err-piece
returns-in_err-piece c =
    let p = err_from_is_err_and c.from_residual-in_err-piece.result c.from_residual-in_err-piece.ensures.1 in
    rw (p.1, p.2) (subst (λ read. Refuses read c.in_err-piece.field-0.0) c.loop-rest.invariant.so_far (refused c.loop-rest.found.items c.loop-rest.is_open c.loop-rest.place c.loop-rest.rest.now c.in_err-piece.field-0.0 c.in-len1-up.len_at_least c.if-b-eq10.false (sym c.is_white.ensures ∙ c.if-is_white.false) (sym c.begins_comment.ensures ∙ c.if-begins_comment.false) c.in_err-piece.ensures))

pub returns-then-place-eq1 : goal.returns-then-place-eq1
returns-then-place-eq1 c = sym c.loop-rest.invariant.so_far ∙ ended c.loop-rest.found.items c.loop-rest.is_open c.loop-rest.place c.loop-rest.rest.now c.in_default.len_below c.if-place-eq1.true

pub returns : goal.returns
returns c = sym c.loop-rest.invariant.so_far ∙ broken-off c.loop-rest.found.items c.loop-rest.is_open c.loop-rest.place c.loop-rest.rest.now c.in_default.len_below c.if-place-eq1.false ∙ ap Ok (sym (rw (c.in_ok-push-3.ensures.items, c.line_end-2.ensures) refl))
