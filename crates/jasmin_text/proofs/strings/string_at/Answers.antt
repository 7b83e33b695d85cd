use Rattle.std.proofs.Common.{sym, ◌∙◌, ap, false, arith, Ok}
use Rattle.jasmin_text.specs.Pieces.{string_after}
use Rattle.jasmin_text.proofs.Quoted.{closed, opened, extended, spoilt, left_open, from_none}
use Rattle.jasmin_text.proofs.strings.string_at.Goals as goal

pub loop-rest-init : goal.loop-rest-init
loop-rest-init c = record { so_far = rw c.new-text.ensures.items (from_none (string_after false 1 c.args.bytes.now)); place = omega arith; positive = omega arith }

pub returns-in-Ok-End : goal.returns-in-Ok-End
returns-in-Ok-End c = sym c.loop-rest.invariant.so_far ∙ closed c.loop-rest.text.items c.loop-rest.is_escape c.loop-rest.passed c.loop-rest.rest.now c.in-len1-up.len_at_least (sym c.turn_of.ensures ∙ c.in-Ok-End.is ∙ ap Ok c.in-Ok-End.field-0-is)

pub loop-rest-preserved-in-Ok-Backslash : goal.loop-rest-preserved-in-Ok-Backslash
loop-rest-preserved-in-Ok-Backslash c = record { so_far = opened c.loop-rest.text.items c.loop-rest.is_escape c.loop-rest.passed c.loop-rest.rest.now c.in-len1-up.len_at_least (sym c.turn_of.ensures ∙ c.in-Ok-Backslash.is ∙ ap Ok c.in-Ok-Backslash.field-0-is) ∙ c.loop-rest.invariant.so_far; place = omega (arith, c.in-len1-up.len_at_least, c.loop-rest.invariant.place); positive = omega arith }

pub loop-rest-preserved : goal.loop-rest-preserved
loop-rest-preserved c = record { so_far = rw c.in_ok-push-in-Ok-Byte.ensures.items (extended c.loop-rest.text.items c.loop-rest.is_escape c.loop-rest.passed c.in-Ok-Byte.byte c.loop-rest.rest.now c.in-len1-up.len_at_least (sym c.turn_of.ensures ∙ c.in-Ok-Byte.is ∙ ap Ok c.in-Ok-Byte.field-0-is)) ∙ c.loop-rest.invariant.so_far; place = omega (arith, c.in-len1-up.len_at_least, c.loop-rest.invariant.place); positive = omega arith }

pub returns-in-Err : goal.returns-in-Err
returns-in-Err c = sym c.loop-rest.invariant.so_far ∙ spoilt c.loop-rest.text.items c.loop-rest.is_escape c.loop-rest.passed c.loop-rest.rest.now c.in-Err.broken c.in-len1-up.len_at_least (sym c.turn_of.ensures ∙ c.in-Err.is)

pub returns : goal.returns
returns c = sym c.loop-rest.invariant.so_far ∙ left_open c.loop-rest.text.items c.loop-rest.is_escape c.loop-rest.passed c.loop-rest.rest.now c.in_default.len_below
