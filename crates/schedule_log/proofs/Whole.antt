-- The whole log: what is read is lawful, and spelled so.
use Rattle.std.proofs.Common.{◌≡◌, ℕ, ◌+◌, ◌-◌, ◌<◌, ◌≤◌, false, eqb, ◌&&◌, List, [], ◌∷◌, ◌++◌, length, Ok, refl, sym, ap, subst, ◌∙◌, inl, inr, arith}
use Rattle.std.specs.List.{AllByRecursion, flat_map}
use Rattle.std.proofs.lemmas.Bool.{eqb-true, cases_lt}
use Rattle.std.proofs.lemmas.List.{drop_more}
use Rattle.std.proofs.Common.{drop, get_or}
use Rattle.vm_model.specs.declared.ends.EndKind.{EndKind}
use Rattle.vm_model.specs.declared.ends.EndKind.TheVariants as ends
use Rattle.schedule_log.specs.declared.interval.Interval.{Interval}
use Rattle.schedule_log.specs.declared.fault.LogKind.{LogKind}
use Rattle.schedule_log.specs.declared.fault.LogKind.TheVariants.{Magic, Version}
use Rattle.schedule_log.specs.declared.fault.Refusal.{Refusal}
use Rattle.schedule_log.specs.Intervals.{numbers, clock_count, MaximalFrom}
use Rattle.schedule_log.specs.Ordered.{reach, ApartFrom}
use Rattle.schedule_log.specs.Foldings.{PlainFolding}
use Rattle.schedule_log.specs.Logs.{PlainLog, IsLawful, put, put_all}
use Rattle.schedule_log.specs.Ordered.{ContiguousFrom}
use Rattle.schedule_log.specs.Spelling.{leb128, part, thread_spelling, thread_count, end_mark, head, spelling}
use Rattle.schedule_log.specs.Reading.{refuse, byte_at, head_at, number_at, threads_at, has_gap, gapless_at, end_at, nothing_at, tail_at, log_at}
use Rattle.schedule_log.proofs.Fields.{IsBytes, IsBytes-rest, bind_ok, chosen, passed, done, ok_is, Takes, Takes-then, number_takes}
use Rattle.schedule_log.proofs.Placed.{all_weaken, neighbours_differ, thread_in_count, reach_bound, and_true, part_cons_no}
use Rattle.schedule_log.proofs.Orders.{thread_count_below}
use Rattle.schedule_log.proofs.Taken.{IsPlaced, threads_take}
use Rattle.schedule_log.proofs.Tiling.{counted_all}
use Rattle.schedule_log.proofs.Lawful.{lawful_of}
use Rattle.schedule_log.proofs.Gaps.{contiguous_from_gapless}

-- ---- the head

byte_takes : (kind : LogKind) (wanted : ℕ) (bytes rest : List ℕ) → IsBytes bytes → byte_at kind wanted bytes ≡ Ok rest → Takes bytes (wanted ∷ []) rest
byte_takes kind wanted [] rest fits e = absurd cc
byte_takes kind wanted (b ∷ bytes) rest fits e =
    elim (chosen (eqb b wanted) (Ok bytes) (refuse kind (b ∷ bytes)) (Ok rest) e) [
      | inl h ↦ subst (λ (r : List ℕ). Takes (b ∷ bytes) (wanted ∷ []) r) (ok_is {E = Refusal} bytes rest h.1) (record { parts = ap (λ (k : ℕ). k ∷ bytes) (eqb-true _ _ h.0); rest_fits = IsBytes-rest b bytes fits })
      | inr h ↦ absurd (let no = h.1 in cc)
    ]

pub head_takes : (bytes rest : List ℕ) → IsBytes bytes → head_at bytes ≡ Ok rest → Takes bytes head rest
unfolding head_at
head_takes bytes rest fits e =
    let a = bind_ok (byte_at Magic 0x44 bytes) _ rest e in
    let b = bind_ok (byte_at Magic 0x4A a.0) _ rest a.2 in
    let c = bind_ok (byte_at Magic 0x56 b.0) _ rest b.2 in
    let d = bind_ok (byte_at Magic 0x4C c.0) _ rest c.2 in
    let ta = byte_takes Magic 0x44 bytes a.0 fits a.1 in
    let tb = byte_takes Magic 0x4A a.0 b.0 ta.rest_fits b.1 in
    let tc = byte_takes Magic 0x56 b.0 c.0 tb.rest_fits c.1 in
    let td = byte_takes Magic 0x4C c.0 d.0 tc.rest_fits d.1 in
    let te = byte_takes Version 1 d.0 rest td.rest_fits d.2 in
    Takes-then bytes (0x44 ∷ []) a.0 (0x4A ∷ 0x56 ∷ 0x4C ∷ 1 ∷ []) rest ta (Takes-then a.0 (0x4A ∷ []) b.0 (0x56 ∷ 0x4C ∷ 1 ∷ []) rest tb (Takes-then b.0 (0x56 ∷ []) c.0 (0x4C ∷ 1 ∷ []) rest tc (Takes-then c.0 (0x4C ∷ []) d.0 (1 ∷ []) rest td te)))

-- ---- the end

pub record TakesEnd (budget events : ℕ) (bytes : List ℕ) (end : EndKind) (rest : List ℕ) : Type 0 where
  pub text : bytes ≡ end_mark end ∷ rest
  pub spent : end ≡ ends.Spent → events ≡ budget

end_takes : (budget events : ℕ) (bytes : List ℕ) (x : EndKind × List ℕ) → end_at budget events bytes ≡ Ok x → TakesEnd budget events bytes x.0 x.1
unfolding end_at
end_takes budget events [] x e = absurd cc
end_takes budget events (b ∷ bytes) x e =
    let into : (k : EndKind) → b ≡ end_mark k → (k ≡ ends.Spent → events ≡ budget) → done {E = Refusal} (k, bytes) ≡ Ok x → TakesEnd budget events (b ∷ bytes) x.0 x.1 =
    λ k is spent h. subst (λ (y : EndKind × List ℕ). TakesEnd budget events (b ∷ bytes) y.0 y.1) (ok_is {E = Refusal} (k, bytes) x h) (record { text = ap (λ (n : ℕ). n ∷ bytes) is; spent = spent }) in
    elim (chosen (eqb b 0xF0) _ _ (Ok x) e) [
      | inl h ↦ into ends.Done (eqb-true _ _ h.0) (λ k. absurd cc) h.1
      | inr h ↦
          elim (chosen (eqb b 0xF1) _ _ (Ok x) h.1) [
            | inl h1 ↦ into ends.Fault (eqb-true _ _ h1.0) (λ k. absurd cc) h1.1
            | inr h1 ↦
                elim (chosen (eqb b 0xF2) _ _ (Ok x) h1.1) [
                  | inl h2 ↦ into ends.Stuck (eqb-true _ _ h2.0) (λ k. absurd cc) h2.1
                  | inr h2 ↦
                      elim (chosen (eqb b 0xF3 && eqb events budget) _ _ (Ok x) h2.1) [
                        | inl h3 ↦ let both = and_true _ _ h3.0 in into ends.Spent (eqb-true _ _ both.0) (λ k. eqb-true _ _ both.1) h3.1
                        | inr h3 ↦ absurd (let no = h3.1 in cc)
                      ]
                ]
          ]
    ]

gapless_takes : (placed : List Interval) (bytes rest : List ℕ) → gapless_at placed bytes ≡ Ok rest → (has_gap placed ≡ false) × (bytes ≡ rest)
unfolding gapless_at
gapless_takes placed bytes rest e =
    let p = passed (has_gap placed) _ (Ok bytes) rest e in
    (p.0, ok_is {E = Refusal} bytes rest p.1)

nothing_takes : (x : PlainLog) (bytes : List ℕ) (y : PlainLog) → nothing_at x bytes ≡ Ok y → (bytes ≡ []) × (x ≡ y)
unfolding nothing_at
nothing_takes x [] y e = (refl, ok_is {E = Refusal} x y e)
nothing_takes x (b ∷ bytes) y e = absurd cc

pub record TakesTail (budget : ℕ) (placed : List Interval) (bytes : List ℕ) (l : PlainLog) : Type 0 where
  pub is : l ≡ record { budget = budget; intervals = placed; end = l.end }
  pub text : bytes ≡ end_mark l.end ∷ []
  pub gapless : has_gap placed ≡ false
  pub spent : l.end ≡ ends.Spent → clock_count placed ≡ budget

pub tail_takes : (budget : ℕ) (placed : List Interval) (bytes : List ℕ) (l : PlainLog) → tail_at budget placed bytes ≡ Ok l → TakesTail budget placed bytes l
unfolding tail_at
tail_takes budget placed bytes l e =
    let g = bind_ok (gapless_at placed bytes) _ l e in
    let gap = gapless_takes placed bytes g.0 g.1 in
    let a = bind_ok (end_at budget (clock_count placed) g.0) _ l g.2 in
    let t = end_takes budget (clock_count placed) g.0 a.0 a.1 in
    let made : PlainLog = record { budget = budget; intervals = placed; end = a.0.0 } in
    let n = nothing_takes made a.0.1 l a.2 in
    subst (λ (m : PlainLog). TakesTail budget placed bytes m) n.1 (record { is = refl; text = gap.1 ∙ t.text ∙ ap (λ (r : List ℕ). end_mark a.0.0 ∷ r) n.0; gapless = gap.0; spent = t.spent })

-- ---- the log

pub record IsPlacedBelow (placed : List Interval) : Type 0 where
  pub apart : ApartFrom 0 placed
  pub low : AllByRecursion (λ i. i.last < 1048576) placed

pub placed_below : (bytes r : List ℕ) (b c : ℕ × List ℕ) (x : List Interval × List ℕ) → IsBytes bytes → head_at bytes ≡ Ok r → number_at 1 1048576 r ≡ Ok b → number_at 1 64 b.1 ≡ Ok c → threads_at c.0 b.0 0 [] c.1 ≡ Ok x → IsPlacedBelow x.0
placed_below bytes r b c x fits e0 e1 e2 e3 =
    let t0 = head_takes bytes r fits e0 in
    let t1 = number_takes 1 1048576 r b t0.rest_fits e1 in
    let t2 = number_takes 1 64 b.1 c t1.0.rest_fits e2 in
    let t3 = threads_take c.0 b.0 0 [] c.1 x t2.0.rest_fits tt tt (λ u lt. absurd (omega (arith, lt))) e3 in
    record {
      apart = t3.apart;
      low = all_weaken (IsPlaced b.0 (0 + c.0)) (λ i. i.last < 1048576) x.0 (λ i h. let k = h.0 in omega (arith, k, t1.2)) t3.all;
    }

-- after any number of intervals the reach is at least 1 where it is so before them
at_least : (from : ℕ) (is : List Interval) → 1 ≤ from → 1 ≤ reach from is
at_least from [] le = le
at_least from (i ∷ is) le = at_least (i.last + 1) is (omega arith)

some_reach : (from t : ℕ) (is : List Interval) → 0 < length (part t is) → 1 ≤ reach from is
some_reach from t [] lt = absurd (omega arith)
some_reach from t (i ∷ is) lt = at_least (i.last + 1) is (omega arith)

-- a thread without intervals is spaced too
no_thread : (u n : ℕ) (is : List Interval) → n ≤ u → AllByRecursion (λ j. j.thread < n) is → part u is ≡ []
no_thread u n [] le below = refl
no_thread u n (j ∷ is) le below = part_cons_no u j is (λ e. let b = below.0 in omega (arith, b, e)) ∙ no_thread u n is le below.1

maximal_at : (u n : ℕ) (is : List Interval) → AllByRecursion (λ j. j.thread < n) is → ((u : ℕ) → u < 0 + n → MaximalFrom u 0 (part u is)) → MaximalFrom u 0 (part u is)
maximal_at u n is below maximal =
    elim (cases_lt u n) [
      | inl lt ↦ maximal u (omega (arith, lt))
      | inr ge ↦ subst (MaximalFrom u 0) (sym (no_thread u n is ge below)) tt
    ]

pub log_takes : (bytes : List ℕ) (l : PlainLog) → IsBytes bytes → log_at bytes ≡ Ok l → IsLawful l × (bytes ≡ spelling l)
unfolding log_at
log_takes bytes l fits e =
    let a = bind_ok (head_at bytes) _ l e in
    let b = bind_ok (number_at 1 1048576 a.0) _ l a.2 in
    let c = bind_ok (number_at 1 64 b.0.1) _ l b.2 in
    let d = bind_ok (threads_at c.0.0 b.0.0 0 [] c.0.1) _ l c.2 in
    let t0 = head_takes bytes a.0 fits a.1 in
    let t1 = number_takes 1 1048576 a.0 b.0 t0.rest_fits b.1 in
    let t2 = number_takes 1 64 b.0.1 c.0 t1.0.rest_fits c.1 in
    let t3 = threads_take c.0.0 b.0.0 0 [] c.0.1 d.0 t2.0.rest_fits tt tt (λ u lt. absurd (omega (arith, lt))) d.1 in
    let t4 = tail_takes b.0.0 d.0.0 d.0.1 l d.2 in
    let is = d.0.0 in
    let n = c.0.0 in
    let contiguous : ContiguousFrom 0 is = contiguous_from_gapless is t3.apart t4.gapless in
    let below : AllByRecursion (λ j. j.thread < n) is = all_weaken (IsPlaced b.0.0 (0 + n)) (λ j. j.thread < n) is (λ j h. let k = h.1 in omega (arith, k)) t3.all in
    let some : 0 < length (part (0 + (n - 1)) is) = t3.last (n - 1) (omega (arith, t2.1)) in
    let count : thread_count is ≡ n = omega (arith, thread_count_below n is below, thread_in_count (0 + (n - 1)) is some, t2.1) in
    let lawful : IsLawful (record { budget = b.0.0; intervals = is; end = l.end }) = lawful_of (record { budget = b.0.0; intervals = is; end = l.end }) (record {
      budget_low = t1.1;
      budget_high = t1.2;
      threads = all_weaken (λ j. j.thread < n) (λ j. j.thread < 64) is (λ j h. omega (arith, h, t2.2)) below;
      contiguous = contiguous;
      neighbours = neighbours_differ 0 is contiguous (λ u. (0, maximal_at u n is below t3.maximal));
      some_event = some_reach 0 (0 + (n - 1)) is some;
      within_budget = reach_bound 0 b.0.0 is (omega arith) (all_weaken (IsPlaced b.0.0 (0 + n)) (λ j. j.last < b.0.0) is (λ j h. h.0) t3.all);
      spent = λ e. sym (counted_all is contiguous) ∙ t4.spent e;
    }) in
    let text : bytes ≡ head ++ (leb128 b.0.0 ++ (leb128 n ++ (flat_map (thread_spelling is) (numbers 0 n) ++ end_mark l.end ∷ []))) =
    t0.parts ∙ ap (λ (r : List ℕ). head ++ r) (t1.0.parts ∙ ap (λ (r : List ℕ). leb128 b.0.0 ++ r) (t2.0.parts ∙ ap (λ (r : List ℕ). leb128 n ++ r) (t3.text.parts ∙ ap (λ (r : List ℕ). flat_map (thread_spelling is) (numbers 0 n) ++ r) t4.text))) in
    let spelled : bytes ≡ spelling (record { budget = b.0.0; intervals = is; end = l.end }) = text ∙ ap (λ (k : ℕ). head ++ (leb128 b.0.0 ++ (leb128 k ++ (flat_map (thread_spelling is) (numbers 0 k) ++ end_mark l.end ∷ [])))) (sym count) in
    subst (λ (m : PlainLog). IsLawful m × (bytes ≡ spelling m)) (sym t4.is) (lawful, spelled)

-- ---- the parts of all threads

pub put_all-append : (placed xs ys : List Interval) → put_all placed (xs ++ ys) ≡ put_all (put_all placed xs) ys
put_all-append placed [] ys = refl
put_all-append placed (x ∷ xs) ys = put_all-append (put x placed) xs ys

pub parts_go_on : (k : ℕ) (placed whole : List Interval) (parts : List PlainFolding) (f : PlainFolding) → k < length parts → f ≡ get_or parts k f → put_all placed (flat_map (λ (f : PlainFolding). f.intervals) (drop k parts)) ≡ whole → put_all (put_all placed f.intervals) (flat_map (λ (f : PlainFolding). f.intervals) (drop (k + 1) parts)) ≡ whole
parts_go_on k placed whole parts f lt e so_far =
    let flat : List PlainFolding → List Interval = flat_map (λ (f : PlainFolding). f.intervals) in
    sym (put_all-append placed f.intervals (flat (drop (k + 1) parts))) ∙ ap (λ (g : PlainFolding). put_all placed (g.intervals ++ flat (drop (k + 1) parts))) e ∙ ap (λ (ps : List PlainFolding). put_all placed (flat ps)) (sym (drop_more parts k f lt)) ∙ so_far
