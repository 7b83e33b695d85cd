-- From last accesses and clocks to races and their report.
use Rattle.std.proofs.Common.{◌≡◌, ◌≢◌, ℕ, ◌+◌, ◌-◌, ◌<◌, ◌≤◌, Bool, true, false, List, [], ◌∷◌, ◌++◌, length, get_or, Some, None, refl, sym, ◌∙◌, ap, arith, inl, inr, subst, not}
use Rattle.std.specs.Prelude.{slice_get, All, IsTrue, ◌||◌, if◌then◌else◌}
use Rattle.std.proofs.lemmas.Bool.{cases_eq, cases_lt}
use Rattle.std.proofs.lemmas.List.Elements.{All-push, Contains-push, Contains-append_left}
use Rattle.std.proofs.lemmas.List.Quantifiers.{all_pairs_push}
use Rattle.vm_model.specs.declared.op.Entry.{Entry}
use Rattle.race_report.specs.declared.place.Place.{Place}
use Rattle.race_report.specs.declared.race.Race.{Race}
use Rattle.race_report.specs.Clocks.{Times, time}
use Rattle.race_report.specs.HappensBefore.{HappensBefore}
use Rattle.race_report.specs.Knowledge.{IsClockOf}
use Rattle.race_report.specs.Races.{place_of, is_write, IsRace, IsReported, IsReportBelow, IsReport}
use Rattle.race_report.specs.Accesses.{Counts, IsAccess, AreLast, HasRace, IsLatestUnknown}
use Rattle.race_report.proofs.Clocking.{one_entry}
use Rattle.race_report.proofs.Giving.{held_at}
use Rattle.race_report.proofs.LastAccesses.{apart_true, counting_is}
use Rattle.race_report.proofs.PlacesKept.{no_place, some_place}

either : (b d : Bool) → (not d ≡ true → b ≡ true) → IsTrue (b || d)
either true d h = refl
either false true h = refl
either false false h = absurd (apart_true (h refl))

neither : (b d : Bool) → IsTrue (b || d) → not d ≡ true → b ≡ true
neither true d h e = refl
neither false true h e = absurd (apart_true e)
neither false false h e = absurd (apart_true h)

-- what is known of an entry at a position, and of the last accesses of its place
pub record Meets (history : List Entry) (k : ℕ) (at : Place) (f : Entry) (last clock : Times) (latest : ℕ) : Type 0 where
  pub at_f : slice_get history k ≡ Some f
  pub place : place_of f.op ≡ Some at
  pub last_are : AreLast history k at (not (is_write f.op)) last
  pub clock_is : IsClockOf history k clock
  pub unknown : IsLatestUnknown last clock f.thread latest
  pub threads : (i : ℕ) (e : Entry) → slice_get history i ≡ Some e → e.thread < 64

-- an entry, at a position, races with the one at a lower position
pub record RacesWith (history : List Entry) (at : Place) (i k : ℕ) (f : Entry) : Type 0 where
  pub race : IsRace history at i k
  pub with_it : race.second ≡ f

module _ (history : List Entry) (k : ℕ) (at : Place) (f : Entry) (last clock : Times) (latest : ℕ) (m : Meets history k at f last clock latest) where
  -- each entry that races with this one is below the latest
  pub races_below : (i : ℕ) → IsRace history at i k → i < latest
  races_below i race =
      let second : race.second ≡ f = one_entry history k race.second f race.at_second m.at_f in
      let counted : Counts at (not (is_write f.op)) race.first = (race.conflicts.first, neither (is_write race.first.op) (is_write f.op) (subst (λ x. IsTrue (is_write race.first.op || is_write x.op)) second race.conflicts.writes)) in
      let known : i < time last race.first.thread = m.last_are.known i race.first race.earlier race.at_first counted in
      let apart : race.first.thread ≢ f.thread = subst (λ x. race.first.thread ≢ x.thread) second race.conflicts.threads in
      elim (cases_lt i (time clock race.first.thread)) [
        | inl seen ↦ elim ((m.clock_is.tells i race.first race.at_first).0 seen) [
          | inl same ↦ (let less : i < k = race.earlier in omega (arith, less, same))
          | inr before ↦ absurd (race.unordered before)
        ]
        | inr unseen ↦
            let most : time last race.first.thread ≤ latest = m.unknown.greatest race.first.thread (m.threads i race.first race.at_first) apart (omega (arith, known, unseen)) in
            omega (arith, known, most)
      ]

  -- where there is a latest, the entry there races with this one
  pub latest_races : (latest ≡ 0 → ⊥) → RacesWith history at (latest - 1) k f
  latest_races some = elim m.unknown.found [ inl none ↦ absurd (some none) | inr it ↦ at_thread it ]
    where
      at_thread : (t : ℕ) × (t ≢ f.thread) × (time clock t < time last t) × (time last t ≡ latest) → RacesWith history at (latest - 1) k f
      at_thread it =
          let size : time last it.0 ≡ latest = it.3 in
          let full : time last it.0 ≡ (latest - 1) + 1 = omega (arith, size, some) in
          let r : IsAccess history k at (not (is_write f.op)) it.0 (latest - 1) = m.last_are.real it.0 (latest - 1) full in
          let unordered : HappensBefore history (latest - 1) k → ⊥ = λ before.
          (let seen : latest - 1 < time clock r.entry.thread = (m.clock_is.tells (latest - 1) r.entry r.at_position).1 (inr before) in
          let seen_there : latest - 1 < time clock it.0 = subst (λ t. latest - 1 < time clock t) r.by seen in
          let unseen : time clock it.0 < time last it.0 = it.2 in omega (arith, seen_there, unseen, size)) in
          record {
            race = record {
              earlier = r.within;
              first = r.entry;
              second = f;
              at_first = r.at_position;
              at_second = m.at_f;
              unordered = unordered;
              conflicts = record { first = r.counts.0; second = m.place; threads = subst (λ t. t ≢ f.thread) (sym r.by) it.1; writes = either (is_write r.entry.op) (is_write f.op) r.counts.1 };
            };
            with_it = refl;
          }

within_more : (found : List Race) (k : ℕ) → All (λ r. r.second < k) found → All (λ r. r.second < k + 1) found
within_more found k all i d less = let w : (get_or found i d).second < k = all i d less in omega (arith, w)

-- the report one entry further, where nothing is added
pub report_stays : (history : List Entry) (k : ℕ) (found : List Race) → ((at : Place) (i : ℕ) → IsRace history at i k → HasRace found at) → IsReportBelow history k found → IsReportBelow history (k + 1) found
report_stays history k found none report = record {
  sound = report.sound;
  within = within_more found k report.within;
  complete = λ at i j below race. elim (cases_eq j k) [
    | inl same ↦ none at i (subst (λ n. IsRace history at i n) same race)
    | inr apart ↦ report.complete at i j (omega (arith, below, apart)) race
  ];
  ordered = report.ordered;
}

-- a race at a position is one of the place that the entry there accesses
pub race_place : (history : List Entry) (k : ℕ) (f : Entry) (at other : Place) (i : ℕ) → slice_get history k ≡ Some f → place_of f.op ≡ Some at → IsRace history other i k → other ≡ at
race_place history k f at other i at_f place race =
    let second : race.second ≡ f = one_entry history k race.second f race.at_second at_f in
    some_place other at (sym (subst (λ x. place_of x.op ≡ Some other) second race.conflicts.second) ∙ place)

pub meets : (history : List Entry) (k : ℕ) (at : Place) (f : Entry) (accesses writes last clock : Times) (latest : ℕ) (write : Bool) → slice_get history k ≡ Some f → place_of f.op ≡ Some at
    → write ≡ is_write f.op → last ≡ (if write then accesses else writes) → AreLast history k at false accesses → AreLast history k at true writes
    → IsClockOf history k clock → IsLatestUnknown last clock f.thread latest → All (λ e. e.thread < 64) history → Meets history k at f last clock latest
meets history k at f accesses writes last clock latest write at_f place is counted all only clock_is unknown threads = record {
  at_f = at_f;
  place = place;
  clock_is = clock_is;
  unknown = unknown;
  last_are = subst (λ b. AreLast history k at (not b) last) is (subst (λ x. AreLast history k at (not write) x) (sym counted) (counting_is history k at write accesses writes all only));
  threads = λ i e at_e. (let h : (i < length history) × (get_or history i e ≡ e) = held_at history i e at_e in subst (λ x. x.thread < 64) h.1 (threads i e h.0));
}

-- what is pushed is reported of its place
pub is_reported : (history : List Entry) (k : ℕ) (at : Place) (f : Entry) (last clock : Times) (latest : ℕ) → Meets history k at f last clock latest → (n : ℕ) (g : Entry) → n ≡ latest - 1
    → slice_get history (latest - 1) ≡ Some g → (latest ≡ 0 → ⊥) → ((i j : ℕ) → j < k → IsRace history at i j → ⊥)
    → IsReported history (record { place = at; first = n; first_thread = g.thread; second = k; second_thread = f.thread })
is_reported history k at f last clock latest m n g is at_g some none =
    subst (λ x. IsReported history (record { place = at; first = x; first_thread = g.thread; second = k; second_thread = f.thread })) (sym is) there
  where
    there : IsReported history (record { place = at; first = latest - 1; first_thread = g.thread; second = k; second_thread = f.thread })
    there =
        let r : RacesWith history at (latest - 1) k f = latest_races history k at f last clock latest m some in
        record {
          race = r.race;
          first_thread = ap (λ x. x.thread) (sym (one_entry history (latest - 1) r.race.first g r.race.at_first at_g));
          second_thread = ap (λ x. x.thread) (sym r.with_it);
          least_second = λ i j race. elim (cases_lt j k) [ inl less ↦ absurd (none i j less race) | inr more ↦ more ];
          greatest_first = λ i race. (let less : i < latest = races_below history k at f last clock latest m i race in omega (arith, less));
        }

pub report_grows : (history : List Entry) (k : ℕ) (found : List Race) (r : Race) (f : Entry) → slice_get history k ≡ Some f → place_of f.op ≡ Some r.place → r.second ≡ k → IsReported history r
    → IsReportBelow history k found → IsReportBelow history (k + 1) (found ++ r ∷ [])
report_grows history k found r f at_f place second reported report = record {
  sound = All-push (IsReported history) _ _ report.sound reported;
  within = (let at_r : r.second < k + 1 = omega (arith, second) in All-push (λ x. x.second < k + 1) _ _ (within_more found k report.within) at_r);
  complete = λ at i j below race. elim (cases_eq j k) [
    | inl same ↦ (r, Contains-push _ _, sym (race_place history k f r.place at i at_f place (subst (λ n. IsRace history at i n) same race)))
    | inr apart ↦ (let h : HasRace found at = report.complete at i j (omega (arith, below, apart)) race in (h.0, Contains-append_left _ _ _ h.1, h.2))
  ];
  ordered = all_pairs_push (λ x y. x.second < y.second) found r report.ordered (λ i d less. (let w : (get_or found i d).second < k = report.within i d less in omega (arith, w, second)));
}

-- where the place has its race already, or the entry makes none
pub stays_reported : (history : List Entry) (k : ℕ) (found : List Race) (f : Entry) (at : Place) → slice_get history k ≡ Some f → place_of f.op ≡ Some at → HasRace found at
    → IsReportBelow history k found → IsReportBelow history (k + 1) found
stays_reported history k found f at at_f place has report = report_stays history k found (λ other i race. subst (HasRace found) (sym (race_place history k f at other i at_f place race)) has) report

pub stays_without : (history : List Entry) (k : ℕ) (found : List Race) (f : Entry) (at : Place) (last clock : Times) (latest : ℕ) → Meets history k at f last clock latest → latest ≡ 0
    → IsReportBelow history k found → IsReportBelow history (k + 1) found
stays_without history k found f at last clock latest m none report = report_stays history k found (λ other i race.
    (let it : other ≡ at = race_place history k f at other i m.at_f m.place race in
    let less : i < latest = races_below history k at f last clock latest m i (subst (λ p. IsRace history p i k) it race) in
    let bad : ⊥ = omega (arith, less, none) in absurd bad)) report

pub stays_otherwise : (history : List Entry) (k : ℕ) (found : List Race) (f : Entry) → slice_get history k ≡ Some f → place_of f.op ≡ None
    → IsReportBelow history k found → IsReportBelow history (k + 1) found
stays_otherwise history k found f at_f none report = report_stays history k found (λ at i race.
    (let second : race.second ≡ f = one_entry history k race.second f race.at_second at_f in
    absurd (no_place at (sym (subst (λ x. place_of x.op ≡ Some at) second race.conflicts.second) ∙ none)))) report

-- the whole report
pub whole : (history : List Entry) (k : ℕ) (found : List Race) → length history ≤ k → IsReportBelow history k found → IsReport history found
whole history k found ends report = record {
  sound = report.sound;
  complete = λ at i j race. report.complete at i j (let h : (j < length history) × (get_or history j race.second ≡ race.second) = held_at history j race.second race.at_second in let less : j < length history = h.0 in omega (arith, less, ends)) race;
  ordered = report.ordered;
}

pub no_race : (history : List Entry) → IsReportBelow history 0 []
no_race history = record {
  sound = λ i d less. absurd (let bad : i < 0 = less in omega (arith, bad));
  within = λ i d less. absurd (let bad : i < 0 = less in omega (arith, bad));
  complete = λ at i j below race. absurd (omega (arith, below));
  ordered = λ i j d less within. absurd (let bad : j < 0 = within in omega (arith, bad));
}

same_race : (p q : Place) (a b t u i j v w : ℕ) → p ≡ q → a ≡ b → t ≡ u → i ≡ j → v ≡ w
    → ◌≡◌ {A = Race} (record { place = p; first = a; first_thread = t; second = i; second_thread = v }) (record { place = q; first = b; first_thread = u; second = j; second_thread = w })
same_race p q a b t u i j v w e1 e2 e3 e4 e5 = cc

-- a place is reported in one way
pub one_report : (history : List Entry) (r s : Race) → IsReported history r → IsReported history s → r.place ≡ s.place → r ≡ s
one_report history r s a b same = same_race r.place s.place r.first s.first r.first_thread s.first_thread r.second s.second r.second_thread s.second_thread same first_is first_thread_is second_is second_thread_is
  where
    least : r.second ≤ s.second
    least = a.least_second s.first s.second (subst (λ p. IsRace history p s.first s.second) (sym same) b.race)

    least_too : s.second ≤ r.second
    least_too = b.least_second r.first r.second (subst (λ p. IsRace history p r.first r.second) same a.race)

    second_is : r.second ≡ s.second
    second_is = omega (arith, least, least_too)

    greatest : s.first ≤ r.first
    greatest = a.greatest_first s.first (subst (λ j. IsRace history r.place s.first j) (sym second_is) (subst (λ p. IsRace history p s.first s.second) (sym same) b.race))

    greatest_too : r.first ≤ s.first
    greatest_too = b.greatest_first r.first (subst (λ j. IsRace history s.place r.first j) second_is (subst (λ p. IsRace history p r.first r.second) same a.race))

    first_is : r.first ≡ s.first
    first_is = omega (arith, greatest, greatest_too)

    first_thread_is : r.first_thread ≡ s.first_thread
    first_thread_is = a.first_thread ∙ ap (λ x. x.thread) (one_entry history s.first a.race.first b.race.first (subst (λ i. slice_get history i ≡ Some a.race.first) first_is a.race.at_first) b.race.at_first) ∙ sym b.first_thread

    second_thread_is : r.second_thread ≡ s.second_thread
    second_thread_is = a.second_thread ∙ ap (λ x. x.thread) (one_entry history s.second a.race.second b.race.second (subst (λ i. slice_get history i ≡ Some a.race.second) second_is a.race.at_second) b.race.at_second) ∙ sym b.second_thread
