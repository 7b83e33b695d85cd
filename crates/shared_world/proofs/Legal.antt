-- A legal history goes on by one event.
use Rattle.std.proofs.Common.{◌≡◌, ℕ, true, List, [], ◌∷◌, ◌++◌, None, refl, sym, subst, ap, ◌∙◌, ◌+◌, length, length-append}
use Rattle.vm_model.specs.declared.op.Op.{Op}
use Rattle.vm_model.specs.declared.op.Entry.{Entry}
use Rattle.vm_model.specs.declared.op.Reply.{Reply}
use Rattle.machine_model.specs.Declarations.{Declarations}
use Rattle.machine_model.specs.Shared.{SharedState, start}
use Rattle.machine_model.specs.Operations.{Applied, IsLegalHistory, LeadsTo, answers, apply, entry, fits_reply, is_enabled}
use Rattle.shared_world.specs.Fitting.{ValuesFit}
use Rattle.shared_world.proofs.Fits.{ValuesFit-after, fits_reply-after}
use Rattle.shared_world.specs.Kept.{IsKept}
use Rattle.shared_world.proofs.Keeping.{IsKept-after}

pub LeadsTo-more : (d : Declarations) (s : SharedState) (h : List Entry) (m : SharedState) (t : ℕ) (o : Op) → LeadsTo d s h m → m.fault ≡ None → is_enabled d m t o ≡ true → LeadsTo d s (h ++ entry t o (apply d m t o).reply ∷ []) (apply d m t o).world
LeadsTo-more d s [] m t o leads running enabled =
    subst (λ (x : SharedState). LeadsTo d x (entry t o (apply d m t o).reply ∷ []) (apply d m t o).world) (sym leads) (running, enabled, refl, refl)
LeadsTo-more d s (e ∷ es) m t o leads running enabled = (leads.0, leads.1, leads.2, LeadsTo-more d (apply d s e.thread e.op).world es m t o leads.3 running enabled)

pub IsLegalHistory-more : (d : Declarations) (h : List Entry) (s : SharedState) (t : ℕ) (o : Op) (r : Reply) (new : SharedState) (items : List Entry) → IsLegalHistory d h s → s.fault ≡ None → is_enabled d s t o ≡ true → apply d s t o ≡ answers new r → items ≡ h ++ entry t o r ∷ [] → IsLegalHistory d items new
IsLegalHistory-more d h s t o r new items legal running enabled applied more =
    subst (λ (is : List Entry). IsLegalHistory d is new) (sym more)
    (subst (λ (a : Applied). IsLegalHistory d (h ++ entry t o a.reply ∷ []) a.world) applied (LeadsTo-more d (start d) h s t o legal running enabled))

pub IsKept-more_history : (d : Declarations) (h : List Entry) (s : SharedState) (t : ℕ) (o : Op) (r : Reply) (new : SharedState) (items : List Entry) → IsKept d (length h) s → is_enabled d s t o ≡ true → apply d s t o ≡ answers new r → items ≡ h ++ entry t o r ∷ [] → IsKept d (length items) new
IsKept-more_history d h s t o r new items kept enabled applied more =
    subst (λ (n : ℕ). IsKept d n new) (sym (ap length more ∙ length-append h (entry t o r ∷ [])))
    (subst (λ (a : Applied). IsKept d (length h + 1) a.world) applied (IsKept-after d (length h) s t o kept enabled))

pub ValuesFit-more : (d : Declarations) (s : SharedState) (t : ℕ) (o : Op) (r : Reply) (new : SharedState) → ValuesFit d s → is_enabled d s t o ≡ true → apply d s t o ≡ answers new r → ValuesFit d new
ValuesFit-more d s t o r new fit enabled applied = subst (λ (a : Applied). ValuesFit d a.world) applied (ValuesFit-after d s t o fit enabled)

pub fits_reply-more : (d : Declarations) (s : SharedState) (t : ℕ) (o : Op) (r : Reply) (new : SharedState) → ValuesFit d s → is_enabled d s t o ≡ true → apply d s t o ≡ answers new r → fits_reply d o r ≡ true
fits_reply-more d s t o r new fit enabled applied = subst (λ (a : Applied). fits_reply d o a.reply ≡ true) applied (fits_reply-after d s t o fit enabled)
