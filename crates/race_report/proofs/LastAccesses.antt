-- The last accesses of a place, one entry further.
use Rattle.std.proofs.Common.{◌≡◌, ℕ, ◌+◌, ◌<◌, Bool, true, false, List, Some, refl, sym, ◌∙◌, ap, arith, inl, inr, subst, not}
use Rattle.std.specs.Prelude.{slice_get, if◌then◌else◌}
use Rattle.std.proofs.lemmas.Bool.{cases_eq}
use Rattle.vm_model.specs.declared.op.Entry.{Entry}
use Rattle.race_report.specs.declared.place.Place.{Place}
use Rattle.race_report.specs.Clocks.{Times, time, nothing}
use Rattle.race_report.specs.Accesses.{Counts, IsAccess, AreLast, IsMarked}
use Rattle.race_report.proofs.Clocking.{one_entry}
use Rattle.race_report.proofs.Times.{zeros}

pub apart_true : false ≡ true → ⊥
apart_true e = cc

-- the last accesses after one more entry, which counts or doesn't
pub last_more : (history : List Entry) (k : ℕ) (at : Place) (writes_only : Bool) (f : Entry) (counts : Bool) (old new : Times) → slice_get history k ≡ Some f
    → (counts ≡ true → Counts at writes_only f) → (counts ≡ false → Counts at writes_only f → ⊥)
    → IsMarked old f.thread k counts new → AreLast history k at writes_only old → AreLast history (k + 1) at writes_only new
last_more history k at writes_only f counts old new at_f does doesnt mark last = record { known = known; real = real }
  where
    known : (i : ℕ) (e : Entry) → i < k + 1 → slice_get history i ≡ Some e → Counts at writes_only e → i < time new e.thread
    known i e below at_e counted = elim (cases_eq i k) [ inl same ↦ itself counts refl same | inr apart ↦ earlier apart ]
      where
        itself : (b : Bool) → counts ≡ b → i ≡ k → i < time new e.thread
        itself true yes_it same =
            let it : e ≡ f = one_entry history k e f (subst (λ j. slice_get history j ≡ Some e) same at_e) at_f in
            let size : time new e.thread ≡ k + 1 = ap (λ x. time new x.thread) it ∙ mark.at yes_it in
            omega (arith, size, same)
        itself false not_it same =
            let it : e ≡ f = one_entry history k e f (subst (λ j. slice_get history j ≡ Some e) same at_e) at_f in
            absurd (doesnt not_it (subst (λ x. Counts at writes_only x) it counted))

        earlier : (i ≡ k → ⊥) → i < time new e.thread
        earlier apart =
            let was : i < time old e.thread = last.known i e (omega (arith, below, apart)) at_e counted in
            elim (cases_eq e.thread f.thread) [ inr other ↦ subst (λ n. i < n) (sym (mark.others e.thread other)) was | inl same ↦ of_thread counts refl same was ]
          where
            of_thread : (b : Bool) → counts ≡ b → e.thread ≡ f.thread → i < time old e.thread → i < time new e.thread
            of_thread true yes_it same was =
                let size : time new e.thread ≡ k + 1 = ap (time new) same ∙ mark.at yes_it in
                omega (arith, size, below)
            of_thread false not_it same was = subst (λ n. i < n) (ap (time old) same ∙ sym (mark.kept not_it) ∙ ap (time new) (sym same)) was

    later : (t n : ℕ) → time old t ≡ n + 1 → IsAccess history (k + 1) at writes_only t n
    later t n size =
        let r : IsAccess history k at writes_only t n = last.real t n size in
        let less : n < k = r.within in
        record { entry = r.entry; at_position = r.at_position; counts = r.counts; by = r.by; within = omega (arith, less) }

    real : (t n : ℕ) → time new t ≡ n + 1 → IsAccess history (k + 1) at writes_only t n
    real t n size = elim (cases_eq t f.thread) [ inr other ↦ later t n (sym (mark.others t other) ∙ size) | inl same ↦ of_thread counts refl same ]
      where
        of_thread : (b : Bool) → counts ≡ b → t ≡ f.thread → IsAccess history (k + 1) at writes_only t n
        of_thread true yes_it same =
            let full : time new t ≡ k + 1 = ap (time new) same ∙ mark.at yes_it in
            let here : n ≡ k = omega (arith, full, size) in
            record { entry = f; at_position = subst (λ j. slice_get history j ≡ Some f) (sym here) at_f; counts = does yes_it; by = sym same; within = omega (arith, here) }
        of_thread false not_it same = later t n (ap (time old) same ∙ sym (mark.kept not_it) ∙ ap (time new) (sym same) ∙ size)

pub last_other : (history : List Entry) (k : ℕ) (at : Place) (writes_only : Bool) (f : Entry) (old : Times) → slice_get history k ≡ Some f
    → (Counts at writes_only f → ⊥) → AreLast history k at writes_only old → AreLast history (k + 1) at writes_only old
last_other history k at writes_only f old at_f doesnt last = last_more history k at writes_only f false old old at_f (λ bad. absurd (apart_true bad)) (λ _. doesnt) (record { at = λ bad. absurd (apart_true bad); others = λ t apart. refl; kept = λ same. refl }) last

-- of which accesses the last ones are looked at
pub counting_is : (history : List Entry) (k : ℕ) (at : Place) (write : Bool) (accesses writes : Times) → AreLast history k at false accesses → AreLast history k at true writes
    → AreLast history k at (not write) (if write then accesses else writes)
counting_is history k at true accesses writes all only = all
counting_is history k at false accesses writes all only = only

pub none_last : (history : List Entry) (at : Place) (w : Bool) → AreLast history 0 at w nothing
none_last history at w = record {
  known = λ i e below at_e counts. absurd (omega (arith, below));
  real = λ t n size. absurd (let none : time nothing t ≡ 0 = zeros 64 t in omega (arith, none, size));
}
