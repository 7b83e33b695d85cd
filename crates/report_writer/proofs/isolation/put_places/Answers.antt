use Rattle.std.proofs.Common.{◌≡◌, ℕ, ◌+◌, List, [], ◌∷◌, ◌++◌, ap, sym, ◌∙◌, arith}
use Rattle.std.specs.List.{flat_map, range_with_len}
use Rattle.std.proofs.lemmas.List.{flat_map_more}
use Rattle.machine_model.proofs.Rings.{range-split}
use Rattle.report_writer.specs.Texts.{place_line}
use Rattle.report_writer.proofs.isolation.put_places.Goals as goal

next_line : (f : ℕ → List ℕ) (before now after : List ℕ) (n : ℕ) → now ≡ before ++ flat_map f (range_with_len 0 n) → after ≡ now ++ f n → after ≡ before ++ flat_map f (range_with_len 0 (n + 1))
next_line f before now after n so_far next =
    let split : range_with_len 0 n ++ n ∷ [] ≡ range_with_len 0 (n + 1) = let same : 0 + n ≡ n = omega arith in ap (λ (k : ℕ). range_with_len 0 n ++ k ∷ []) (sym same) ∙ sym (range-split 0 n 1) in
    next ∙ ap (λ (l : List ℕ). l ++ f n) so_far ∙ flat_map_more f before (range_with_len 0 n) n ∙ ap (λ (l : List ℕ). before ++ flat_map f l) split

pub loop-place-preserved : goal.loop-place-preserved
loop-place-preserved c = next_line (place_line c.args.passing.now c.args.failing.now) c.args.out.now.items c.loop-place.out.items c.put_place.new.out.items c.loop-place.place c.loop-place.invariant c.in_ok-put_place.ensures
