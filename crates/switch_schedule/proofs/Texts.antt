-- Lines of a schedule file.
use Rattle.std.proofs.Common.{◌≡◌, ◌≢◌, ℕ, subst, suc, zero, ◌+◌, ◌-◌, ◌≤◌, ◌<◌, Bool, true, false, ◌||◌, cond, nat_eq, nat_lt, List, [], ◌∷◌, ◌++◌, length, get_or, take, drop, Option, Some, None, refl, sym, ap, ◌∙◌, arith, position, append_assoc}
use Rattle.std.specs.List.{position_or_len}
use Rattle.std.proofs.lemmas.Bool.Decides.{nat_tests}
use Rattle.std.proofs.lemmas.Grind.{flat_map-append}
use Rattle.std.proofs.lemmas.List.{append-nil, length-append}
use Rattle.std.proofs.lemmas.List.Elements.{All-push, All-nil}
use Rattle.std.proofs.lemmas.List.Quantifiers.{position-Some}
use Rattle.switch_schedule.specs.Lines.{IsLine}
use Rattle.switch_schedule.specs.declared.fault.ScheduleKind.{ScheduleKind}
use Rattle.switch_schedule.specs.Texts.{AreTimes, BeginsWithLine, FaultsAt, has_line_feed, IsWrongLine, IsNumber, schedule_text, time_line}

pub text-push : (times : List ℕ) (time : ℕ) → schedule_text (times ++ time ∷ []) ≡ schedule_text times ++ time_line time
text-push times time = flat_map-append time_line times (time ∷ []) ∙ ap (λ (l : List ℕ). schedule_text times ++ l) (append-nil (time_line time))

pub none-times : (events : ℕ) → AreTimes events []
none-times events = record { few = omega arith; short = All-nil (λ time. time ≤ 9999999); within = All-nil (λ time. time ≤ events) }

pub times-push : (events time : ℕ) (times after rest : List ℕ) → AreTimes events times → IsLine time events (length times) after rest → AreTimes events (times ++ time ∷ [])
times-push events time times after rest h l =
    record {
      few = omega (arith, length-append times (time ∷ []), l.few);
      short = All-push (λ t. t ≤ 9999999) times time h.short l.short;
      within = All-push (λ t. t ≤ events) times time h.within l.within;
    }

pub parted-push : (time events lines : ℕ) (times after rest bytes : List ℕ) → bytes ≡ schedule_text times ++ rest → IsLine time events lines after rest → bytes ≡ schedule_text (times ++ time ∷ []) ++ after
parted-push time events lines times after rest bytes e l =
    e ∙ ap (λ (r : List ℕ). schedule_text times ++ r) l.parted ∙ sym (append_assoc (schedule_text times) (time_line time) after) ∙ ap (λ (t : List ℕ). t ++ after) (sym (text-push times time))

-- ---- the first line feed

abbrev is_feed : ℕ → Bool
is_feed b = nat_eq b 10

feed : (b : ℕ) → is_feed b ≡ true → b ≡ 10
feed b e = grind (arith, nat_tests)

parted_at : (xs : List ℕ) (k : ℕ) → k < length xs → is_feed (get_or xs k 0) ≡ true → ((j : ℕ) → j < k → is_feed (get_or xs j 0) ≡ false) → BeginsWithLine (take k xs) (drop (suc k) xs) xs
parted_at [] k h e before = absurd (omega arith)
parted_at (x ∷ xs) zero h e before = record { parted = ap (λ (b : ℕ). b ∷ xs) (feed x e); unbroken = refl }
parted_at (x ∷ xs) (suc k) h e before =
    let r = parted_at xs k (omega (arith, h)) e (λ j lt. before (suc j) (omega (arith, lt))) in
    record { parted = ap (λ (l : List ℕ). x ∷ l) r.parted; unbroken = rw (before 0 (omega arith)) r.unbroken }

pub line_at : (xs : List ℕ) (k : ℕ) → position is_feed xs ≡ Some k → BeginsWithLine (take k xs) (drop (k + 1) xs) xs
line_at xs k e =
    let at = position-Some is_feed xs k 0 e in
    let same : suc k ≡ k + 1 = omega arith in
    let P : ℕ → Type 0 = λ n. BeginsWithLine (take k xs) (drop n xs) xs in
    subst P same (parted_at xs k at.0 at.1 at.2)

chosen : (c : Bool) (n : ℕ) → cond {A = Option ℕ} c (Some n) None ≡ None → c ≡ false
chosen true n e = cc
chosen false n e = refl

not_below : (n m : ℕ) → nat_lt n m ≡ false → m ≤ n
not_below n m e = grind (arith, nat_tests)

passed_all : (xs : List ℕ) → length xs ≤ position_or_len is_feed xs → has_line_feed xs ≡ false
passed_all [] h = refl
passed_all (x ∷ xs) h = by_test (is_feed x) refl (passed_all xs)
  where
    by_test : (b : Bool) → is_feed x ≡ b → (length xs ≤ position_or_len is_feed xs → has_line_feed xs ≡ false) → has_line_feed (x ∷ xs) ≡ false
    by_test true e more = let first : position_or_len is_feed (x ∷ xs) ≡ 0 = rw e refl in absurd (omega (arith, h, first))
    by_test false e more = let later : position_or_len is_feed (x ∷ xs) ≡ 1 + position_or_len is_feed xs = rw e refl in rw e (more (omega (arith, h, later)))

pub no_feed : (xs : List ℕ) → position is_feed xs ≡ None → has_line_feed xs ≡ false
no_feed xs e = passed_all xs (not_below (position_or_len is_feed xs) (length xs) (chosen (nat_lt (position_or_len is_feed xs) (length xs)) (position_or_len is_feed xs) e))

or_true : (b : Bool) → (b || true) ≡ true
or_true true = refl
or_true false = refl

feed_after : (line after : List ℕ) → has_line_feed (line ++ 10 ∷ after) ≡ true
feed_after [] after = refl
feed_after (b ∷ line) after = ap (λ (c : Bool). is_feed b || c) (feed_after line after) ∙ or_true (is_feed b)

pub line-feed : (line after bytes : List ℕ) → BeginsWithLine line after bytes → has_line_feed bytes ≡ true
line-feed line after bytes h = ap has_line_feed h.parted ∙ feed_after line after

pub some_bytes : (xs : List ℕ) → 1 ≤ length xs → xs ≢ []
some_bytes [] h e = absurd (omega (arith, h))
some_bytes (x ∷ xs) h e = cc

-- the line that was read
pub line_here : (time events lines : ℕ) (line after bytes : List ℕ) → BeginsWithLine line after bytes → IsNumber time line → time ≤ events → lines < 16384 → IsLine time events lines after bytes
line_here time events lines line after bytes parts is within few =
    record {
      parted = parts.parted ∙ sym (append_assoc line (10 ∷ []) after) ∙ ap (λ (l : List ℕ). (l ++ 10 ∷ []) ++ after) is.1;
      short = is.0;
      within = within;
      few = few;
    }

-- the first line that is wrong, after the lines of these times
pub faults_here : (found : ScheduleKind) (events lines : ℕ) (times rest bytes : List ℕ) → bytes ≡ schedule_text times ++ rest → AreTimes events times → lines ≡ length times → IsWrongLine found events lines rest → FaultsAt found (length bytes - length rest) events bytes
faults_here found events lines times rest bytes e right same wrong =
    let size : length bytes ≡ length (schedule_text times) + length rest = ap length e ∙ length-append (schedule_text times) rest in
    let P : ℕ → Type 0 = λ n. IsWrongLine found events n rest in
    record { before = times; rest = rest; parted = e; right = right; place = omega (arith, size); wrong = subst P same wrong }
