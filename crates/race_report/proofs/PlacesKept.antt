-- What is kept of each place, one entry further.
use Rattle.std.proofs.Common.{◌≡◌, ◌≢◌, ℕ, ◌+◌, ◌<◌, ◌↔◌, Bool, true, false, List, [], Option, Some, None, refl, sym, ◌∙◌, ap, arith, subst, cond, eqb, ◌&&◌}
use Rattle.std.specs.Prelude.{slice_get}
use Rattle.std.proofs.lemmas.Bool.{eq-eqb, eqb-true}
use Rattle.vm_model.specs.declared.op.Entry.{Entry}
use Rattle.race_report.specs.declared.place.Place.{Place}
use Rattle.race_report.specs.declared.place.Place.TheVariants as place
use Rattle.race_report.specs.declared.accesses.Accesses.{Accesses}
use Rattle.race_report.specs.declared.race.Race.{Race}
use Rattle.race_report.specs.Races.{place_of, is_write}
use Rattle.race_report.specs.Accesses.{Counts, HasRace, IsMarked, IsPlaceKept, is_place, accesses_or_none}
use Rattle.race_report.proofs.LastAccesses.{apart_true, last_more, last_other, none_last}

pub some_place : (a b : Place) → ◌≡◌ {A = Option Place} (Some a) (Some b) → a ≡ b
some_place a b e = cc

pub no_place : (at : Place) → ◌≡◌ {A = Option Place} (Some at) None → ⊥
no_place at e = cc

two : {b d : Bool} → b ≡ true → d ≡ true → (b && d) ≡ true
two {b} {d} e f = rw (e, f) refl

both : (b d : Bool) → (b && d) ≡ true → (b ≡ true) × (d ≡ true)
both true d e = (refl, e)
both false d e = absurd (apart_true e)

-- a place that an entry doesn't access
pub other_place : (history : List Entry) (k : ℕ) (f : Entry) (at q : Place) (found grown : List Race) (a : Accesses) → slice_get history k ≡ Some f → place_of f.op ≡ Some at → q ≢ at
    → HasRace grown q ↔ HasRace found q → IsPlaceKept history k found q a → IsPlaceKept history (k + 1) grown q a
other_place history k f at q found grown a at_f place apart alike kept = record {
  accesses = last_other history k q false f a.accesses at_f (doesnt false) kept.accesses;
  writes = last_other history k q true f a.writes at_f (doesnt true) kept.writes;
  reported = (λ is. alike.1 (kept.reported.0 is), λ h. kept.reported.1 (alike.0 h));
}
  where
    doesnt : (w : Bool) → Counts q w f → ⊥
    doesnt w counts = apart (some_place q at (sym counts.0 ∙ place))

pub untouched_place : (history : List Entry) (k : ℕ) (f : Entry) (q : Place) (found : List Race) (a : Accesses) → slice_get history k ≡ Some f → place_of f.op ≡ None
    → IsPlaceKept history k found q a → IsPlaceKept history (k + 1) found q a
untouched_place history k f q found a at_f none kept = record {
  accesses = last_other history k q false f a.accesses at_f (λ counts. no_place q (sym counts.0 ∙ none)) kept.accesses;
  writes = last_other history k q true f a.writes at_f (λ counts. no_place q (sym counts.0 ∙ none)) kept.writes;
  reported = kept.reported;
}

is_place_same : (a : Place) → is_place a a ≡ true
is_place_same (place.Static a) = eq-eqb a a refl
is_place_same (place.Field a b) = two (eq-eqb a a refl) (eq-eqb b b refl)
is_place_same (place.Item a b) = two (eq-eqb a a refl) (eq-eqb b b refl)

one_place : (a b : Place) → is_place a b ≡ true → b ≡ a
one_place (place.Static a) (place.Static b) e = ap place.Static (sym (eqb-true a b e))
one_place (place.Field a b) (place.Field d g) e = let h : (eqb a d ≡ true) × (eqb b g ≡ true) = both (eqb a d) (eqb b g) e in rw (eqb-true a d h.0, eqb-true b g h.1) refl
one_place (place.Item a b) (place.Item d g) e = let h : (eqb a d ≡ true) × (eqb b g ≡ true) = both (eqb a d) (eqb b g) e in rw (eqb-true a d h.0, eqb-true b g h.1) refl
one_place a b e = cc

-- the places after an entry that accesses one
pub places_more : (history : List Entry) (k : ℕ) (f : Entry) (at : Place) (found grown : List Race) (old new : Place → Option Accesses) (last now : Accesses) (reported : Bool)
    → slice_get history k ≡ Some f → place_of f.op ≡ Some at
    → ((q : Place) → IsPlaceKept history k found q (accesses_or_none (old q))) → last ≡ accesses_or_none (old at)
    → (reported ≡ true) ↔ HasRace grown at → ((q : Place) → q ≢ at → HasRace grown q ↔ HasRace found q)
    → IsMarked last.accesses f.thread k true now.accesses → IsMarked last.writes f.thread k (is_write f.op) now.writes → now.reported ≡ reported
    → ((q : Place) → new q ≡ cond (is_place at q) (Some now) (old q))
    → (q : Place) → IsPlaceKept history (k + 1) grown q (accesses_or_none (new q))
places_more history k f at found grown old new last now reported at_f place kept last_is has others marked_all marked_writes now_reported updates q = by (is_place at q) refl
  where
    here : IsPlaceKept history k found at last
    here = subst (IsPlaceKept history k found at) (sym last_is) (kept at)

    renewed : IsPlaceKept history (k + 1) grown at now
    renewed = record {
      accesses = last_more history k at false f true last.accesses now.accesses at_f (λ _. (place, λ bad. absurd (apart_true bad))) (λ bad _. absurd (apart_true (sym bad))) marked_all here.accesses;
      writes = last_more history k at true f (is_write f.op) last.writes now.writes at_f (λ is. (place, λ _. is)) (λ isnt counts. absurd (apart_true (sym isnt ∙ counts.1 refl))) marked_writes here.writes;
      reported = (λ is. has.0 (sym now_reported ∙ is), λ h. now_reported ∙ has.1 h);
    }

    is_now : (b : Bool) → is_place at q ≡ b → accesses_or_none (new q) ≡ accesses_or_none (cond b (Some now) (old q))
    is_now b e = ap accesses_or_none (updates q ∙ ap (λ x. cond x (Some now) (old q)) e)

    by : (b : Bool) → is_place at q ≡ b → IsPlaceKept history (k + 1) grown q (accesses_or_none (new q))
    by true same =
        let it : q ≡ at = one_place at q same in
        subst (λ p. IsPlaceKept history (k + 1) grown p (accesses_or_none (new q))) (sym it) (subst (IsPlaceKept history (k + 1) grown at) (sym (is_now true same)) renewed)
    by false other =
        let apart : q ≢ at = λ it. apart_true (sym other ∙ ap (is_place at) it ∙ is_place_same at) in
        subst (IsPlaceKept history (k + 1) grown q) (sym (is_now false other)) (other_place history k f at q found grown (accesses_or_none (old q)) at_f place apart (others q apart) (kept q))

pub at_first : (history : List Entry) (at : Place) → IsPlaceKept history 0 [] at (accesses_or_none None)
at_first history at = record {
  accesses = none_last history at false;
  writes = none_last history at true;
  reported = (λ bad. absurd (apart_true bad), λ h. absurd (let bad : h.1.0 < 0 = h.1.1 in omega (arith, bad)));
}

pub first_places : (history : List Entry) (found : List Race) (a : Accesses) → found ≡ [] → a ≡ accesses_or_none None → (at : Place) → IsPlaceKept history 0 found at a
first_places history found a empty none at = subst (λ x. IsPlaceKept history 0 found at x) (sym none) (subst (λ xs. IsPlaceKept history 0 xs at (accesses_or_none None)) (sym empty) (at_first history at))
