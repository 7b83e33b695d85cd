-- The thread of the last event.
use Rattle.std.proofs.Common.{◌≡◌, ℕ, suc, ◌-◌, ◌≤◌, List, [], ◌∷◌, length, get_or, refl, ap, ◌∙◌, arith}
use Rattle.vm_model.specs.declared.op.Entry.{Entry}
use Rattle.lane_driver.specs.Finishing.{last_thread}

pub last_at : (h : List Entry) (d : Entry) → 1 ≤ length h → (get_or h (length h - 1) d).thread ≡ last_thread h
last_at [] d le = absurd (omega (arith, le))
last_at (e ∷ []) d le = refl
last_at (e ∷ f ∷ es) d le =
    let long : length (e ∷ f ∷ es) - 1 ≡ suc (length es) = omega arith in
    let short : length es ≡ length (f ∷ es) - 1 = omega arith in
    ap (λ (n : ℕ). (get_or (e ∷ f ∷ es) n d).thread) long ∙ ap (λ (n : ℕ). (get_or (f ∷ es) n d).thread) short ∙ last_at (f ∷ es) d (omega arith)
