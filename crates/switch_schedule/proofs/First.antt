-- Bytes spell at most one list of times, and have at most one first fault.
use Rattle.std.proofs.Common.{◌≡◌, ℕ, ◌+◌, ◌≤◌, ◌<◌, Bool, true, false, ◌||◌, nat_eq, List, [], ◌∷◌, ◌++◌, ◌⊎◌, inl, inr, length, refl, sym, ap, subst, ◌∙◌, arith, decimal, append_assoc}
use Rattle.std.specs.Prelude.{All}
use Rattle.std.proofs.lemmas.Fmt.{decimal_injective}
use Rattle.std.proofs.lemmas.List.{append-nil}
use Rattle.std.proofs.lemmas.List.Elements.{All-head, All-tail}
use Rattle.switch_schedule.specs.declared.fault.ScheduleKind.{ScheduleKind}
use Rattle.switch_schedule.specs.declared.fault.ScheduleKind.TheVariants as kind
use Rattle.switch_schedule.specs.Texts.{AreTimes, BeginsWithLine, FaultsAt, has_line_feed, IsWrongLine, schedule_text, SpellsSchedule, time_line}
use Rattle.switch_schedule.proofs.Numbers.{decimal-no_feed}
use Rattle.switch_schedule.proofs.Texts.{line-feed}

-- ---- the first line is one

same_head : (a b : ℕ) (xs ys : List ℕ) → a ∷ xs ≡ b ∷ ys → a ≡ b
same_head a b xs ys e = cc

same_tail : (a b : ℕ) (xs ys : List ℕ) → a ∷ xs ≡ b ∷ ys → xs ≡ ys
same_tail a b xs ys e = cc

or_second : (a b : Bool) → (a || b) ≡ false → b ≡ false
or_second true b e = cc
or_second false b e = e

fed : (b : ℕ) (bs : List ℕ) → b ≡ 10 → has_line_feed (b ∷ bs) ≡ false → ⊥
fed b bs e h = let clash : has_line_feed (10 ∷ bs) ≡ false = ap (λ (x : ℕ). has_line_feed (x ∷ bs)) (sym e) ∙ h in cc

pub one_line : (a b x y : List ℕ) → has_line_feed a ≡ false → has_line_feed b ≡ false → a ++ 10 ∷ x ≡ b ++ 10 ∷ y → (a ≡ b) × (x ≡ y)
one_line [] [] x y p q e = (refl, same_tail 10 10 x y e)
one_line [] (b ∷ bs) x y p q e = absurd (fed b bs (sym (same_head 10 b x (bs ++ 10 ∷ y) e)) q)
one_line (a ∷ cs) [] x y p q e = absurd (fed a cs (same_head a 10 (cs ++ 10 ∷ x) y e) p)
one_line (a ∷ cs) (b ∷ bs) x y p q e =
    let rest = one_line cs bs x y (or_second (nat_eq a 10) (has_line_feed cs) p) (or_second (nat_eq b 10) (has_line_feed bs) q) (same_tail a b (cs ++ 10 ∷ x) (bs ++ 10 ∷ y) e) in
    (ap (λ (h : ℕ). h ∷ cs) (same_head a b (cs ++ 10 ∷ x) (bs ++ 10 ∷ y) e) ∙ ap (λ (t : List ℕ). b ∷ t) rest.0, rest.1)

same_line : (line after other others bytes : List ℕ) → BeginsWithLine line after bytes → BeginsWithLine other others bytes → line ≡ other
same_line line after other others bytes h k = (one_line line other after others h.unbroken k.unbroken (sym h.parted ∙ k.parted)).0

-- the line of a time
time_begins : (time : ℕ) (after : List ℕ) → time ≤ 9999999 → BeginsWithLine (decimal time) after (time_line time ++ after)
time_begins time after h = record { parted = append_assoc (decimal time) (10 ∷ []) after; unbroken = decimal-no_feed time h }

-- ---- where the times end

-- the bytes are used up, or a line that is wrong begins
abbrev Stops : ℕ → ℕ → List ℕ → Type 0
Stops events lines rest = (rest ≡ []) ⊎ ((found : ScheduleKind) × IsWrongLine found events lines rest)

clash : (bytes : List ℕ) → has_line_feed bytes ≡ true → has_line_feed bytes ≡ false → ⊥
clash bytes h k = cc

goes_on : (events lines time : ℕ) (after bytes : List ℕ) → time ≤ 9999999 → time ≤ events → lines < 16384 → bytes ≡ time_line time ++ after → Stops events lines bytes → ⊥
goes_on events lines time after bytes short within few e stops = by_stop stops
  where
    begins : BeginsWithLine (decimal time) after bytes
    begins = subst (BeginsWithLine (decimal time) after) (sym e) (time_begins time after short)

    by_kind : (found : ScheduleKind) → IsWrongLine found events lines bytes → ⊥
    by_kind kind.Trailing w = clash bytes (line-feed (decimal time) after bytes begins) w.1
    by_kind kind.TooManySwitches w = omega (arith, w.0, few)
    by_kind kind.BadNumber w = w.1.3 time (short, sym (same_line (decimal time) after w.1.0 w.1.1 bytes begins w.1.2))
    by_kind kind.PastBudget w =
        let n = w.1.2 in
        let same : n ≡ time = decimal_injective n time (omega (arith, w.1.4.0)) (omega (arith, short)) (sym w.1.4.1 ∙ sym (same_line (decimal time) after w.1.0 w.1.1 bytes begins w.1.3)) in
        omega (arith, w.1.5, same, within)

    by_stop : Stops events lines bytes → ⊥
    by_stop (inl none) = clash bytes (line-feed (decimal time) after bytes begins) (ap has_line_feed none)
    by_stop (inr w) = by_kind w.0 w.1

-- ---- two ways to part the bytes

pub record Same (xs ys r s : List ℕ) : Type 0 where
  pub times : xs ≡ ys
  pub rest : r ≡ s

record Good (events lines : ℕ) (xs : List ℕ) : Type 0 where
  few : lines + length xs ≤ 16384
  short : All (λ time. time ≤ 9999999) xs
  within : All (λ time. time ≤ events) xs

good_tail : (events lines x : ℕ) (xs : List ℕ) → Good events lines (x ∷ xs) → Good events (lines + 1) xs
good_tail events lines x xs g = record { few = omega (arith, g.few); short = All-tail (λ time. time ≤ 9999999) x xs g.short; within = All-tail (λ time. time ≤ events) x xs g.within }

stops_at : (events m n : ℕ) (rest : List ℕ) → m ≡ n → Stops events m rest → Stops events n rest
stops_at events m n rest e s = let P : ℕ → Type 0 = λ k. Stops events k rest in subst P e s

same_parts : (events lines : ℕ) (xs ys r s : List ℕ) → Good events lines xs → Good events lines ys → Stops events (lines + length xs) r → Stops events (lines + length ys) s → schedule_text xs ++ r ≡ schedule_text ys ++ s → Same xs ys r s
same_parts events lines [] [] r s gx gy sx sy e = record { times = refl; rest = e }
same_parts events lines [] (y ∷ ys) r s gx gy sx sy e =
    absurd (goes_on events lines y (schedule_text ys ++ s) r (All-head (λ time. time ≤ 9999999) y ys gy.short) (All-head (λ time. time ≤ events) y ys gy.within) (omega (arith, gy.few)) (e ∙ append_assoc (time_line y) (schedule_text ys) s) (stops_at events (lines + 0) lines r (omega arith) sx))
same_parts events lines (x ∷ xs) [] r s gx gy sx sy e =
    absurd (goes_on events lines x (schedule_text xs ++ r) s (All-head (λ time. time ≤ 9999999) x xs gx.short) (All-head (λ time. time ≤ events) x xs gx.within) (omega (arith, gx.few)) (sym e ∙ append_assoc (time_line x) (schedule_text xs) r) (stops_at events (lines + 0) lines s (omega arith) sy))
same_parts events lines (x ∷ xs) (y ∷ ys) r s gx gy sx sy e =
    let low_x = All-head (λ time. time ≤ 9999999) x xs gx.short in
    let low_y = All-head (λ time. time ≤ 9999999) y ys gy.short in
    let whole : time_line x ++ (schedule_text xs ++ r) ≡ time_line y ++ (schedule_text ys ++ s) = sym (append_assoc (time_line x) (schedule_text xs) r) ∙ e ∙ append_assoc (time_line y) (schedule_text ys) s in
    let lines_same = one_line (decimal x) (decimal y) (schedule_text xs ++ r) (schedule_text ys ++ s) (decimal-no_feed x low_x) (decimal-no_feed y low_y) (sym (append_assoc (decimal x) (10 ∷ []) (schedule_text xs ++ r)) ∙ whole ∙ append_assoc (decimal y) (10 ∷ []) (schedule_text ys ++ s)) in
    let time : x ≡ y = decimal_injective x y (omega (arith, low_x)) (omega (arith, low_y)) lines_same.0 in
    let more = same_parts events (lines + 1) xs ys r s (good_tail events lines x xs gx) (good_tail events lines y ys gy) (stops_at events (lines + length (x ∷ xs)) (lines + 1 + length xs) r (omega arith) sx) (stops_at events (lines + length (y ∷ ys)) (lines + 1 + length ys) s (omega arith) sy) lines_same.1 in
    record { times = ap (λ (t : ℕ). t ∷ xs) time ∙ ap (λ (l : List ℕ). y ∷ l) more.times; rest = more.rest }

good : (events : ℕ) (xs : List ℕ) → AreTimes events xs → Good events 0 xs
good events xs h = record { few = omega (arith, h.few); short = h.short; within = h.within }

ended : (events n : ℕ) → Stops events n []
ended events n = inl refl

whole : (events : ℕ) (times bytes : List ℕ) → SpellsSchedule events times bytes → bytes ≡ schedule_text times ++ []
whole events times bytes h = h.text ∙ sym (append-nil (schedule_text times))

faulty : (events offset : ℕ) (bytes : List ℕ) (found : ScheduleKind) (f : FaultsAt found offset events bytes) → Stops events (0 + length f.before) f.rest
faulty events offset bytes found f = stops_at events (length f.before) (0 + length f.before) f.rest (omega arith) (inr (found, f.wrong))

-- ---- the laws

pub one-schedule : (events : ℕ) (times others bytes : List ℕ) → SpellsSchedule events times bytes → SpellsSchedule events others bytes → times ≡ others
one-schedule events times others bytes h k =
    (same_parts events 0 times others [] [] (good events times h.times_allowed) (good events others k.times_allowed) (ended events (0 + length times)) (ended events (0 + length others)) (sym (whole events times bytes h) ∙ whole events others bytes k)).times

nothing_wrong : (events lines : ℕ) (rest : List ℕ) (found : ScheduleKind) → rest ≡ [] → IsWrongLine found events lines rest → ⊥
nothing_wrong events lines rest kind.Trailing e w = w.0 e
nothing_wrong events lines rest kind.TooManySwitches e w = clash rest w.1 (ap has_line_feed e)
nothing_wrong events lines rest kind.BadNumber e w = clash rest (line-feed w.1.0 w.1.1 rest w.1.2) (ap has_line_feed e)
nothing_wrong events lines rest kind.PastBudget e w = clash rest (line-feed w.1.0 w.1.1 rest w.1.3) (ap has_line_feed e)

pub spelled-faultless : (events offset : ℕ) (times bytes : List ℕ) (found : ScheduleKind) → SpellsSchedule events times bytes → FaultsAt found offset events bytes → ⊥
spelled-faultless events offset times bytes found h f =
    let same = same_parts events 0 times f.before [] f.rest (good events times h.times_allowed) (good events f.before f.right) (ended events (0 + length times)) (faulty events offset bytes found f) (sym (whole events times bytes h) ∙ f.parted) in
    nothing_wrong events (length f.before) f.rest found (sym same.rest) f.wrong

module _ (events lines : ℕ) (rest : List ℕ) where
  bad_or_past : IsWrongLine kind.BadNumber events lines rest → IsWrongLine kind.PastBudget events lines rest → ⊥
  bad_or_past b p = b.1.3 p.1.2 (p.1.4.0, same_line b.1.0 b.1.1 p.1.0 p.1.1 rest b.1.2 p.1.3 ∙ p.1.4.1)

  fed_bad : IsWrongLine kind.BadNumber events lines rest → has_line_feed rest ≡ true
  fed_bad w = line-feed w.1.0 w.1.1 rest w.1.2

  fed_past : IsWrongLine kind.PastBudget events lines rest → has_line_feed rest ≡ true
  fed_past w = line-feed w.1.0 w.1.1 rest w.1.3

  one_kind : (k l : ScheduleKind) → IsWrongLine k events lines rest → IsWrongLine l events lines rest → k ≡ l
  one_kind kind.Trailing kind.Trailing w v = refl
  one_kind kind.Trailing kind.TooManySwitches w v = absurd (clash rest v.1 w.1)
  one_kind kind.Trailing kind.BadNumber w v = absurd (clash rest (fed_bad v) w.1)
  one_kind kind.Trailing kind.PastBudget w v = absurd (clash rest (fed_past v) w.1)
  one_kind kind.TooManySwitches kind.Trailing w v = absurd (clash rest w.1 v.1)
  one_kind kind.TooManySwitches kind.TooManySwitches w v = refl
  one_kind kind.TooManySwitches kind.BadNumber w v = absurd (omega (arith, w.0, v.0))
  one_kind kind.TooManySwitches kind.PastBudget w v = absurd (omega (arith, w.0, v.0))
  one_kind kind.BadNumber kind.Trailing w v = absurd (clash rest (fed_bad w) v.1)
  one_kind kind.BadNumber kind.TooManySwitches w v = absurd (omega (arith, w.0, v.0))
  one_kind kind.BadNumber kind.BadNumber w v = refl
  one_kind kind.BadNumber kind.PastBudget w v = absurd (bad_or_past w v)
  one_kind kind.PastBudget kind.Trailing w v = absurd (clash rest (fed_past w) v.1)
  one_kind kind.PastBudget kind.TooManySwitches w v = absurd (omega (arith, w.0, v.0))
  one_kind kind.PastBudget kind.BadNumber w v = absurd (bad_or_past v w)
  one_kind kind.PastBudget kind.PastBudget w v = refl

moved : (events m n : ℕ) (r s : List ℕ) (k : ScheduleKind) → m ≡ n → r ≡ s → IsWrongLine k events m r → IsWrongLine k events n s
moved events m n r s k e f w = let P : ℕ → Type 0 = λ i. IsWrongLine k events i r in subst (λ (l : List ℕ). IsWrongLine k events n l) f (subst P e w)

pub first-fault : (events offset other : ℕ) (bytes : List ℕ) (k l : ScheduleKind) → FaultsAt k offset events bytes → FaultsAt l other events bytes → (k ≡ l) × (offset ≡ other)
first-fault events offset other bytes k l f g =
    let same = same_parts events 0 f.before g.before f.rest g.rest (good events f.before f.right) (good events g.before g.right) (faulty events offset bytes k f) (faulty events other bytes l g) (sym f.parted ∙ g.parted) in (
      one_kind events (length g.before) g.rest k l (moved events (length f.before) (length g.before) f.rest g.rest k (ap length same.times) same.rest f.wrong) g.wrong,
      f.place ∙ ap (λ (ts : List ℕ). length (schedule_text ts)) same.times ∙ sym g.place,
    )
