-- A memo as contracts see it.
use Rattle.std.specs.Prelude.{◌≤◌, ℕ, length, map, Vec}
use Rattle.indexmap.specs.IndexMap.{IndexMap}
use Rattle.schedule_model.specs.declared.outcome.Outcome.{Outcome}
use Rattle.outcome_test.specs.Memos.{Rows, times_in}
use Rattle.outcome_test.specs.declared.memo.Memo.TheInside.{Inside}
use Rattle.outcome_test.specs.declared.memo.TheConstants.{MOST_KEPT_TESTS, MOST_KEPT_TIMES}

abbrev pub rows_of : {A S : Type 0} → IndexMap (Vec ℕ A) Outcome S → Rows
rows_of m = map (λ row. (row.0.items, row.1)) m.entries

abbrev pub view_of : Inside → Rows
view_of s = rows_of s.outcomes

-- no more than 4,096 tests of 4,194,304 times in all
pub record IsKept (s : Inside) : Type 0 where
  pub few : length (rows_of s.outcomes) ≤ MOST_KEPT_TESTS
  pub counted : times_in (rows_of s.outcomes) ≤ s.times
  pub small : s.times ≤ MOST_KEPT_TIMES
