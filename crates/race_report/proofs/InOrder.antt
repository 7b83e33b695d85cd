-- Lists in order of a number, and reports, which are such lists.
use Rattle.std.proofs.Common.{◌≡◌, ℕ, ◌<◌, ◌⊎◌, zero, suc, List, [], ◌∷◌, length, get_or, refl, sym, ◌∙◌, ap, arith, inl, inr, subst}
use Rattle.std.specs.Prelude.{All, AllPairs, Contains, Some, slice_get}
use Rattle.std.proofs.lemmas.List.Elements.{All-contains}
use Rattle.vm_model.specs.declared.op.Entry.{Entry}
use Rattle.race_report.specs.declared.place.Place.{Place}
use Rattle.race_report.specs.declared.race.Race.{Race}
use Rattle.race_report.specs.HappensBefore.{HappensBefore, Directly, Program}
use Rattle.race_report.specs.Races.{IsRace, IsReported, IsReport}
use Rattle.race_report.proofs.Giving.{held_at}
use Rattle.race_report.proofs.Racing.{one_report}

-- ---- lists

module _ {X : Type 0} where
  head_or_later : (y : X) (ys : List X) (x : X) → Contains (y ∷ ys) x → (y ≡ x) ⊎ Contains ys x
  head_or_later y ys x (zero, within, at) = inl at
  head_or_later y ys x (suc k, within, at) = inr (k, (let less : suc k < suc (length ys) = within in omega (arith, less)), at)

  at_head : (y : X) (ys : List X) → Contains (y ∷ ys) y
  at_head y ys = (0, omega arith, refl)

  later : (y : X) (ys : List X) (x : X) → Contains ys x → Contains (y ∷ ys) x
  later y ys x (k, within, at) = (suc k, (let less : k < length ys = within in omega (arith, less)), at)

  nothing_there : (x : X) → Contains [] x → ⊥
  nothing_there x (k, within, at) = let bad : k < 0 = within in omega (arith, bad)

  abbrev Rises : (X → ℕ) → List X → Type 0
  Rises number xs = AllPairs (λ x y. number x < number y) xs

  rest_rises : (number : X → ℕ) (x : X) (xs : List X) → Rises number (x ∷ xs) → Rises number xs
  rest_rises number x xs rises i j d below within = rises (suc i) (suc j) d (omega (arith, below)) (omega (arith, within))

  rises_above : (number : X → ℕ) (x : X) (xs : List X) → Rises number (x ∷ xs) → (y : X) → Contains xs y → number x < number y
  rises_above number x xs rises y (k, within, at) =
      let less : k < length xs = within in
      subst (λ z. number x < number z) at (rises 0 (suc k) y (omega arith) (omega (arith, less)))

  same_head : (number : X → ℕ) (x y : X) (xs ys : List X) → Rises number (x ∷ xs) → Rises number (y ∷ ys) → Contains (y ∷ ys) x → Contains (x ∷ xs) y → x ≡ y
  same_head number x y xs ys mine yours there here = elim (head_or_later y ys x there) [
    | inl same ↦ sym same
    | inr up ↦ elim (head_or_later x xs y here) [
      | inl same ↦ same
      | inr down ↦
          let a : number y < number x = rises_above number y ys yours x up in
          let b : number x < number y = rises_above number x xs mine y down in
          absurd (omega (arith, a, b))
    ]
  ]

  rest_there : (number : X → ℕ) (x y : X) (xs ys : List X) → Rises number (x ∷ xs) → x ≡ y → ((z : X) → Contains (x ∷ xs) z → Contains (y ∷ ys) z) → (z : X) → Contains xs z → Contains ys z
  rest_there number x y xs ys rises same there z held = elim (head_or_later y ys z (there z (later x xs z held))) [
    | inr more ↦ more
    | inl at ↦
        let above : number x < number z = rises_above number x xs rises z held in
        let it : number x ≡ number z = ap number (same ∙ at) in
        absurd (omega (arith, above, it))
  ]

  -- two lists in strict order of a number that have the same members are equal
  pub alike_in_order : (number : X → ℕ) (xs ys : List X) → Rises number xs → Rises number ys → ((z : X) → Contains xs z → Contains ys z) → ((z : X) → Contains ys z → Contains xs z) → xs ≡ ys
  alike_in_order number [] [] mine yours there here = refl
  alike_in_order number [] (y ∷ ys) mine yours there here = absurd (nothing_there y (here y (at_head y ys)))
  alike_in_order number (x ∷ xs) [] mine yours there here = absurd (nothing_there x (there x (at_head x xs)))
  alike_in_order number (x ∷ xs) (y ∷ ys) mine yours there here =
      let same : x ≡ y = same_head number x y xs ys mine yours (there x (at_head x xs)) (here y (at_head y ys)) in
      let rest : xs ≡ ys = alike_in_order number xs ys (rest_rises number x xs mine) (rest_rises number y ys yours) (rest_there number x y xs ys mine same there) (rest_there number y x ys xs yours (sym same) here) in
      rw (same, rest) refl

-- ---- reports

reported_there : (history : List Entry) (found other : List Race) → IsReport history found → IsReport history other → (r : Race) → Contains found r → Contains other r
reported_there history found other a b r held =
    let reported : IsReported history r = All-contains (IsReported history) found r a.sound held in
    let there : (s : Race) × Contains other s × (s.place ≡ r.place) = b.complete r.place r.first r.second reported.race in
    let it : there.0 ≡ r = one_report history there.0 r (All-contains (IsReported history) other there.0 b.sound there.1) reported there.2 in
    subst (Contains other) it there.1

pub whole_report_is_one : (history : List Entry) (found other : List Race) → IsReport history found → IsReport history other → found ≡ other
whole_report_is_one history found other a b =
    alike_in_order (λ (r : Race). r.second) found other a.ordered b.ordered (reported_there history found other a b) (reported_there history other found b a)

-- ---- one thread

pub thread_in_order : (history : List Entry) (i j : ℕ) (e f : Entry) → slice_get history i ≡ Some e → slice_get history j ≡ Some f → e.thread ≡ f.thread → i < j → HappensBefore history i j
thread_in_order history i j e f at_i at_j same less = Directly j (record { earlier = less; first = e; second = f; at_first = at_i; at_second = at_j; ordered = Program same })

pub no_race_in_one : (history : List Entry) (thread : ℕ) → All (λ e. e.thread ≡ thread) history → (at : Place) (i j : ℕ) → IsRace history at i j → ⊥
no_race_in_one history thread all at i j race = race.conflicts.threads (of_thread i race.first race.at_first ∙ sym (of_thread j race.second race.at_second))
  where
    of_thread : (k : ℕ) (e : Entry) → slice_get history k ≡ Some e → e.thread ≡ thread
    of_thread k e at_k = let h : (k < length history) × (get_or history k e ≡ e) = held_at history k e at_k in subst (λ (x : Entry). x.thread ≡ thread) h.1 (all k e h.0)
