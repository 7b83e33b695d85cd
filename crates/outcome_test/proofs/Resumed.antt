-- Paused runs that are kept.
use Rattle.std.proofs.Common.{◌≡◌, ℕ, ◌<◌, List, ◌∙◌, Option, Some, None, length, get_or, drop, sym, subst, inl, inr}
use Rattle.std.specs.Prelude.{IfSome}
use Rattle.std.specs.List.{HoldsAt}
use Rattle.std.proofs.lemmas.List.{get_or_default}
use Rattle.std.proofs.lemmas.List.Elements.{All-drop, All-push}
use Rattle.vm_model.specs.Program.{PlainProgram}
use Rattle.paused_run.specs.Pauses.{PausedRun}
use Rattle.outcome_test.specs.Resumed.{AreUnder, IsUnder, MayKeep}

pub kept_under : (p : PlainProgram) (events : ℕ) (run : PausedRun) (before after : List PausedRun) → MayKeep run before after → IsUnder p events run → AreUnder p events before → AreUnder p events after
kept_under p events run before after (n, inl same) own all = subst (AreUnder p events) (sym same) (All-drop (IsUnder p events) n before all)
kept_under p events run before after (n, inr more) own all = subst (AreUnder p events) (sym more) (All-push (IsUnder p events) (drop n before) run (All-drop (IsUnder p events) n before all) own)

pub holds_of : (P : PausedRun → Type 0) (found : Option ℕ) (runs : List PausedRun) (i : ℕ) → found ≡ Some i → IfSome found (HoldsAt P runs) → HoldsAt P runs i
holds_of P None runs i e h = absurd (cc)
holds_of P (Some j) runs i e h = let same : j ≡ i = cc in subst (HoldsAt P runs) same h

pub some_of : (P : ℕ → Type 0) (found : Option ℕ) (i : ℕ) → found ≡ Some i → P i → IfSome found P
some_of P found i e h = subst (λ (o : Option ℕ). IfSome o P) (sym e) h

pub found_at : (P : PausedRun → Type 0) (runs : List PausedRun) (i : ℕ) (r : PausedRun) → i < length runs → r ≡ get_or runs i r → P r → HoldsAt P runs i
found_at P runs i r lt is h d = subst P (is ∙ get_or_default runs i r d lt) h
