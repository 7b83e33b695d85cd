use Rattle.std.proofs.Common.{List, [], ◌∷◌, ◌++◌, Option, ap, sym, ◌∙◌}
use Rattle.lane_core.specs.Lanes.{LanePart, part_before, parts_of}
use Rattle.lane_core.specs.declared.part.Part.{Part}
use Rattle.lane_core.proofs.Laning.{parts_push}
use Rattle.std.proofs.lemmas.List.{append-nil}
use Rattle.lane_core.proofs.lane.Lane.into_parts.Goals as goal

pub loop-slot-preserved-in-Continue-1 : goal.loop-slot-preserved-in-Continue-1
loop-slot-preserved-in-Continue-1 c =
    let done = c.loop-slot.yielded in
    let s = c.in-Some.slot in
    c.in_ok-push-in-Some-part.ensures.items ∙ ap (λ (ps : List LanePart). ps ++ (s.thread, c.in-Some-part.part.local, c.in-Some-part.part.folding) ∷ []) c.loop-slot.invariant
    ∙ sym (parts_push done s ∙ ap (λ (q : Option Part). parts_of done ++ part_before s.thread q []) c.in-Some-part.is)

pub loop-slot-preserved : goal.loop-slot-preserved
loop-slot-preserved c =
    let done = c.loop-slot.yielded in
    let s = c.in-Some.slot in
    c.loop-slot.invariant ∙ sym (append-nil (parts_of done)) ∙ sym (parts_push done s ∙ ap (λ (q : Option Part). parts_of done ++ part_before s.thread q []) c.in-None-part.is)
