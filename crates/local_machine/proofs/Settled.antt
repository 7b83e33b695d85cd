-- The settled state, step by step.
use Rattle.std.proofs.Common.{◌≡◌, ◌≢◌, ℕ, zero, suc, ◌+◌, ◌-◌, ◌<◌, ◌≤◌, Bool, true, false, List, ◌∷◌, Some, None, refl, sym, ◌∙◌, ap, subst, arith, inl, inr, ◌⊎◌}
use Rattle.vm_model.specs.Program.{PlainProgram}
use Rattle.machine_model.specs.Frames.{Frame, LocalState, Running, Plain}
use Rattle.machine_model.specs.Effect.{action}
use Rattle.machine_model.specs.LocalStep.{local_step, go_on, settled_within}
use Rattle.frame_actions.specs.declared.acted.Acted.{Acted}
use Rattle.frame_actions.specs.declared.acted.Acted.TheVariants as acted
use Rattle.frame_actions.specs.Acts.{acted_of, after}
use Rattle.local_machine.specs.Further.{after_steps, one_step_more}
use Rattle.local_machine.specs.LocalView.{one_more, steps_within}
use Rattle.local_machine.specs.Steps.{IsFollowed, IsOnTheWay, IsSettled, IsTried, IsWalked, LeadsOn, followed}
use Rattle.local_machine.proofs.Moved.{frame-stays, no_goes, step_is}

pub settled-zero : (p : PlainProgram) (n : ℕ) (l : LocalState) → n ≡ 0 → settled_within p n l ≡ l
unfolding settled_within
settled-zero p n l e = rw e refl

pub settled-step : (p : PlainProgram) (s : ℕ) (l m : LocalState) → s < 4096 → local_step p l ≡ Some m → settled_within p (4096 - s) l ≡ settled_within p (4096 - (s + 1)) m
unfolding settled_within
settled-step p s l m h e =
    let n : 4096 - s ≡ suc (4096 - (s + 1)) = omega arith in
    ap (λ k. settled_within p k l) n ∙ ap (λ o. go_on o l (settled_within p (4096 - (s + 1)))) e

pub settled-stop : (p : PlainProgram) (n : ℕ) (l : LocalState) → local_step p l ≡ None → settled_within p n l ≡ l
unfolding settled_within
settled-stop p zero l e = refl
settled-stop p (suc n) l e = ap (λ o. go_on o l (settled_within p n)) e

pub count-zero : (p : PlainProgram) (n : ℕ) (l : LocalState) → n ≡ 0 → steps_within p n l ≡ 0
unfolding steps_within
count-zero p n l e = rw e refl

pub count-step : (p : PlainProgram) (s : ℕ) (l m : LocalState) → s < 4096 → local_step p l ≡ Some m → steps_within p (4096 - s) l ≡ suc (steps_within p (4096 - (s + 1)) m)
unfolding steps_within
count-step p s l m h e =
    let n : 4096 - s ≡ suc (4096 - (s + 1)) = omega arith in
    ap (λ k. steps_within p k l) n ∙ ap (λ o. one_more o (steps_within p (4096 - (s + 1)))) e

pub count-stop : (p : PlainProgram) (n : ℕ) (l : LocalState) → local_step p l ≡ None → steps_within p n l ≡ 0
unfolding steps_within
count-stop p zero l e = refl
count-stop p (suc n) l e = ap (λ o. one_more o (steps_within p n)) e

after-none : (p : PlainProgram) (s : ℕ) (l : LocalState) → after_steps p (s - s) l ≡ Some l
unfolding after_steps
after-none p s l =
    let none : s - s ≡ 0 = omega arith in
    ap (λ k. after_steps p k l) none

after-step : (p : PlainProgram) (n k : ℕ) (l m m' : LocalState) → k ≡ suc n → after_steps p n l ≡ Some m → local_step p m ≡ Some m' → after_steps p k l ≡ Some m'
unfolding after_steps
after-step p n k l m m' long e step = ap (λ i. after_steps p i l) long ∙ ap (one_step_more p) e ∙ step

-- no step was made yet
pub on_the_way_here : (p : PlainProgram) (l : LocalState) (s : ℕ) → IsOnTheWay p l s l s
on_the_way_here p l s = record { state = refl; count = refl; more = omega arith; after = after-none p s l }

-- one more local step
pub on_the_way-step : (p : PlainProgram) (old now new : LocalState) (steps s : ℕ) → IsOnTheWay p old steps now s → s < 4096 → local_step p now ≡ Some new → IsOnTheWay p old steps new (s + 1)
on_the_way-step p old now new steps s w h e =
    let counted = count-step p s now new h e in
    record {
      state = sym (settled-step p s now new h e) ∙ w.state;
      count = omega (arith, counted, w.count);
      more = omega (arith, w.more);
      after = after-step p (s - steps) (s + 1 - steps) old now new (omega (arith, w.more)) w.after e;
    }

-- there is no further step
pub settled-stopped : (p : PlainProgram) (old : LocalState) (f : Frame) (below : List Frame) (steps s : ℕ) (a : Acted) → IsOnTheWay p old steps (Running (f ∷ below) Plain) s → local_step p (Running (f ∷ below) Plain) ≡ None → a ≡ acted_of (action p f) → IsSettled p old steps f below s a
settled-stopped p old f below steps s a w e q =
    let counted = count-stop p (4096 - s) (Running (f ∷ below) Plain) e in
    record {
      state = sym (settled-stop p (4096 - s) (Running (f ∷ below) Plain) e) ∙ w.state;
      count = omega (arith, counted, w.count);
      acted = q;
      way = w;
    }

-- 4,096 steps were made
pub settled-ticked : (p : PlainProgram) (old : LocalState) (f : Frame) (below : List Frame) (steps s : ℕ) (a : Acted) → IsOnTheWay p old steps (Running (f ∷ below) Plain) s → 4096 ≤ s → a ≡ acted_of (action p f) → IsSettled p old steps f below s a
settled-ticked p old f below steps s a w h q =
    let none : 4096 - s ≡ 0 = omega arith in
    let counted = count-zero p (4096 - s) (Running (f ∷ below) Plain) none in
    record {
      state = sym (settled-zero p (4096 - s) (Running (f ∷ below) Plain) none) ∙ w.state;
      count = omega (arith, counted, w.count);
      acted = q;
      way = w;
    }

-- a step that isn't there leaves the frames
pub settled-stays : (p : PlainProgram) (old : LocalState) (f g : Frame) (below below' : List Frame) (steps s : ℕ) (a : Acted) → IsOnTheWay p old steps (Running (f ∷ below) Plain) s → local_step p (Running (f ∷ below) Plain) ≡ None → g ∷ below' ≡ f ∷ below → a ≡ acted_of (action p f) → IsSettled p old steps g below' s a
settled-stays p old f g below below' steps s a w none same q =
    let there = settled-stopped p old f below steps s a w none q in
    let head : f ≡ g = cc in
    record {
      state = ap (λ (fs : List Frame). Running fs Plain) same ∙ there.state;
      count = there.count;
      acted = q ∙ ap (λ (h : Frame). acted_of (action p h)) head;
      way = subst (λ (fs : List Frame). IsOnTheWay p old steps (Running fs Plain) s) (sym same) w;
    }

-- the frame is as it was, and 4,096 steps were made
pub settled-looked : (p : PlainProgram) (old : LocalState) (f g : Frame) (below : List Frame) (steps s : ℕ) (a : Acted) → IsOnTheWay p old steps (Running (f ∷ below) Plain) s → 4096 ≤ s → g ≡ f → a ≡ acted_of (action p f) → IsSettled p old steps g below s a
settled-looked p old f g below steps s a w h e q =
    let there = settled-ticked p old f below steps s a w h q in
    record {
      state = ap (λ (x : Frame). Running (x ∷ below) Plain) e ∙ there.state;
      count = there.count;
      acted = q ∙ ap (λ (x : Frame). acted_of (action p x)) (sym e);
      way = subst (λ (x : Frame). IsOnTheWay p old steps (Running (x ∷ below) Plain) s) (sym e) w;
    }

-- ---- the instruction of the frame f did x, and left the frame g

local_step-is : (p : PlainProgram) (h f g : Frame) (below : List Frame) (x : Acted) → f ≡ h → x ≡ acted_of (action p f) → g ≡ after (action p f) f → local_step p (Running (h ∷ below) Plain) ≡ followed p x g below
local_step-is p h f g below x e q t = ap (λ (i : Frame). local_step p (Running (i ∷ below) Plain)) (sym e) ∙ step_is p (action p f) f g below x q t

-- a step was made
pub on_the_way-made : (p : PlainProgram) (old : LocalState) (h f g : Frame) (below frames : List Frame) (steps s : ℕ) (x : Acted) (made : Bool) → IsOnTheWay p old steps (Running (h ∷ below) Plain) s → s < 4096 → f ≡ h → x ≡ acted_of (action p f) → g ≡ after (action p f) f → made ≡ true → IsFollowed (followed p x g below) (g ∷ below) made frames → IsOnTheWay p old steps (Running frames Plain) (s + 1)
on_the_way-made p old h f g below frames steps s x true w few e q t m step = on_the_way-step p old (Running (h ∷ below) Plain) (Running frames Plain) steps s w few (local_step-is p h f g below x e q t ∙ step)
on_the_way-made p old h f g below frames steps s x false w few e q t m step = cc

-- memory was missing for a call or a return
pub on_the_way-stays : (p : PlainProgram) (old : LocalState) (h f g : Frame) (below frames : List Frame) (steps s : ℕ) (x : Acted) → IsOnTheWay p old steps (Running (h ∷ below) Plain) s → f ≡ h → x ≡ acted_of (action p f) → g ≡ after (action p f) f → x ≢ acted.Goes → frames ≡ g ∷ below → IsOnTheWay p old steps (Running frames Plain) s
on_the_way-stays p old h f g below frames steps s x w e q t n same =
    let kept : frames ≡ h ∷ below = same ∙ ap (λ (i : Frame). i ∷ below) (frame-stays (action p f) f g x q t n ∙ e) in
    subst (λ (fs : List Frame). IsOnTheWay p old steps (Running fs Plain) s) (sym kept) w

-- there is no step
pub settled-unmade : (p : PlainProgram) (old : LocalState) (h f g k : Frame) (below below' : List Frame) (steps s : ℕ) (x : Acted) (made : Bool) → IsOnTheWay p old steps (Running (h ∷ below) Plain) s → f ≡ h → x ≡ acted_of (action p f) → g ≡ after (action p f) f → made ≡ false → IsFollowed (followed p x g below) (g ∷ below) made (k ∷ below') → IsSettled p old steps k below' s x
settled-unmade p old h f g k below below' steps s x true w e q t m step = cc
settled-unmade p old h f g k below below' steps s x false w e q t m step =
    let kept = frame-stays (action p f) f g x q t (no_goes p g below x step.0) ∙ e in
    settled-stays p old h k below below' steps s x w (local_step-is p h f g below x e q t ∙ step.0) (step.1 ∙ ap (λ (i : Frame). i ∷ below) kept) (q ∙ ap (λ (i : Frame). acted_of (action p i)) e)

-- ---- within one frame

-- one step more of the frame alone
pub leads-made : (p : PlainProgram) (f h g i : Frame) (now s : ℕ) (x : Acted) → LeadsOn p f now h s → s < 4096 → g ≡ h → x ≡ acted_of (action p g) → i ≡ after (action p g) g → x ≡ acted.Goes → LeadsOn p f now i (s + 1)
leads-made p f h g i now s x w few e q t goes = λ old steps below on.
    on_the_way-made p old h g i below (i ∷ below) steps s x true (w old steps below on) few e q t refl (ap (λ (y : Acted). followed p y i below) goes)

pub leads-stays : (p : PlainProgram) (f h g : Frame) (now s : ℕ) → LeadsOn p f now h s → g ≡ h → LeadsOn p f now g s
leads-stays p f h g now s w e = subst (λ (i : Frame). LeadsOn p f now i s) (sym e) w

-- Where one step was left, none was made yet, or the instruction of the frame f made it.
abbrev pub IsTrying : PlainProgram → Frame → ℕ → Frame → ℕ → Type 0
IsTrying p f now h s = now + 1 ≡ 4096 → ((s ≡ now) × (h ≡ f)) ⊎ ((s ≡ 4096) × (acted.Goes ≡ acted_of (action p f)) × (h ≡ after (action p f) f))

pub trying-made : (p : PlainProgram) (f h g i : Frame) (now s : ℕ) (x : Acted) → IsTrying p f now h s → s < 4096 → g ≡ h → x ≡ acted_of (action p g) → i ≡ after (action p g) g → x ≡ acted.Goes → IsTrying p f now i (s + 1)
trying-made p f h g i now s x w few e q t goes = λ one.
    elim (w one) [
      | inl none ↦ inr (
        omega (arith, one, none.0),
        sym goes ∙ q ∙ ap (λ (k : Frame). acted_of (action p k)) (e ∙ none.1),
        t ∙ ap (λ (k : Frame). after (action p k) k) (e ∙ none.1),
      )
      | inr made ↦ absurd (omega (arith, made.0))
    ]

pub tried-stopped : (p : PlainProgram) (f h g i : Frame) (now s : ℕ) (x : Acted) → IsTrying p f now h s → s < 4096 → g ≡ h → x ≡ acted_of (action p g) → i ≡ after (action p g) g → IsTried p f now i x
tried-stopped p f h g i now s x w few e q t = λ one.
    elim (w one) [
      | inl none ↦ (
        q ∙ ap (λ (k : Frame). acted_of (action p k)) (e ∙ none.1),
        t ∙ ap (λ (k : Frame). after (action p k) k) (e ∙ none.1),
      )
      | inr made ↦ absurd (omega (arith, made.0))
    ]

pub tried-ended : (p : PlainProgram) (f h : Frame) (now s : ℕ) → IsTrying p f now h s → 4096 ≤ s → IsTried p f now h acted.Goes
tried-ended p f h now s w many = λ one.
    elim (w one) [
      | inl none ↦ absurd (omega (arith, one, none.0))
      | inr made ↦ (made.1, made.2)
    ]

-- the instruction makes no step of the frame alone
pub walked-stopped : (p : PlainProgram) (g i : Frame) (s : ℕ) (x : Acted) → s < 4096 → x ≢ acted.Goes → x ≡ acted_of (action p g) → i ≡ g → IsWalked p i s x
walked-stopped p g i s x few n q e = inr (few, n, q ∙ ap (λ (k : Frame). acted_of (action p k)) (sym e))

-- The frame's own steps were walked, and some are left: its instruction makes none, so it stays.
pub walked-waits : (p : PlainProgram) (g : Frame) (s : ℕ) (a : Acted) → IsWalked p g s a → s ≢ 4096 → (s < 4096) × (a ≡ acted_of (action p g)) × (g ≡ after (action p g) g)
walked-waits p g s a w left =
    elim w [
      | inl all ↦ absurd (left all.0)
      | inr rest ↦ (rest.0, rest.2, sym (frame-stays (action p g) g (after (action p g) g) a rest.2 refl rest.1))
    ]
